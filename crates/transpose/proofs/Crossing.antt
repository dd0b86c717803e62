-- The bits of two words that changed places at a stage's columns. Assumes nothing.
use Prim.Native.Nat.{ℕ, ◌+◌, ◌-◌, ◌*◌, ◌/◌, ◌%◌, ◌^◌, ◌≤◌, ◌<◌, min}
use native.Mathlib.Omega.{arith}
use mathlib.Core.Path.{◌≡◌, sym, ap, ◌∙◌}
use mathlib.Core.Logic.{◌⊎◌, inl, inr}
use lib.Bits.{bit_and, bit_xor, and_step, and_shr, xor_shr}
use Rattle.lists.proofs.Tests.{le_or_lt}
use Rattle.vectors.specs.Bits.{bit}
use Rattle.vectors.proofs.Bits.Laws.{xor_low, bit_shr, bit_word, bit_shl, bit_below}
use Rattle.transpose.specs.Stage.{Distance, crossing, low_word, high_word}
use Rattle.transpose.proofs.Places.{past, next}

-- ---- bits of XOR and AND

bit_xor_lem : (a b c : ℕ) → bit (bit_xor a b) c ≡ (bit a c + bit b c) % 2
bit_xor_lem a b c = ap (λ (n : ℕ). n % 2) (xor_shr a b c) ∙ xor_low (a / 2 ^ c) (b / 2 ^ c) ∙ sums (a / 2 ^ c) (b / 2 ^ c)
  where
    sums : (a b : ℕ) → (a + b) % 2 ≡ (a % 2 + b % 2) % 2
    sums a b = omega arith

bit_and_lem : (a b c : ℕ) → bit (bit_and a b) c ≡ min (bit a c) (bit b c)
bit_and_lem a b c = ap (λ (n : ℕ). n % 2) (and_shr a b c ∙ and_step (a / 2 ^ c) (b / 2 ^ c)) ∙ last (bit_and (a / 2 ^ c / 2) (b / 2 ^ c / 2)) (a / 2 ^ c) (b / 2 ^ c)
  where
    last : (n a b : ℕ) → (n * 2 + min (a % 2) (b % 2)) % 2 ≡ min (a % 2) (b % 2)
    last n a b = omega arith

-- ---- digits

none : (x : ℕ) → (x % 2 + 0) % 2 ≡ x % 2
none x = omega arith

-- x ⊕ (x ⊕ y) is y, and so is x ⊕ (y ⊕ x)
first : (x y : ℕ) → (x % 2 + (x % 2 + y % 2) % 2) % 2 ≡ y % 2
first x y = omega arith

second : (x y : ℕ) → (x % 2 + (y % 2 + x % 2) % 2) % 2 ≡ y % 2
second x y = omega arith

module _ (j mask : ℕ) (d : Distance j mask) (a b : ℕ) where
  crossing_in : (c : ℕ) → c < 64 → c / j % 2 ≡ 0 → bit (crossing j mask a b) c ≡ (bit a (j + c) + bit b c) % 2
  crossing_in c h e =
      let m : bit mask c ≡ 1 = omega (arith, d.picks c h) in
      bit_and_lem (bit_xor (a / 2 ^ j) b) mask c ∙ ap (min (bit (bit_xor (a / 2 ^ j) b) c)) m ∙ low (bit_xor (a / 2 ^ j) b / 2 ^ c) ∙ bit_xor_lem (a / 2 ^ j) b c
      ∙ ap (λ (n : ℕ). (n + bit b c) % 2) (bit_shr a j c)
    where
      low : (n : ℕ) → min (n % 2) 1 ≡ n % 2
      low n = omega arith

  crossing_out : (c : ℕ) → c < 64 → c / j % 2 ≡ 1 → bit (crossing j mask a b) c ≡ 0
  crossing_out c h e =
      let m : bit mask c ≡ 0 = omega (arith, d.picks c h) in
      bit_and_lem (bit_xor (a / 2 ^ j) b) mask c ∙ ap (min (bit (bit_xor (a / 2 ^ j) b) c)) m ∙ low (bit_xor (a / 2 ^ j) b / 2 ^ c)
    where
      low : (n : ℕ) → min (n % 2) 0 ≡ 0
      low n = omega arith

  pub high_even : (c : ℕ) → c < 64 → c / j % 2 ≡ 0 → bit (high_word j mask a b) c ≡ bit a (c + j)
  high_even c h e =
      let s : j + c ≡ c + j = omega arith in
      bit_xor_lem b (crossing j mask a b) c ∙ ap (λ (n : ℕ). (bit b c + n) % 2) (crossing_in c h e) ∙ second (b / 2 ^ c) (a / 2 ^ (j + c)) ∙ ap (bit a) s

  pub high_odd : (c : ℕ) → c < 64 → c / j % 2 ≡ 1 → bit (high_word j mask a b) c ≡ bit b c
  high_odd c h e = bit_xor_lem b (crossing j mask a b) c ∙ ap (λ (n : ℕ). (bit b c + n) % 2) (crossing_out c h e) ∙ none (b / 2 ^ c)

  -- what the word a takes
  taken : ℕ
  taken = crossing j mask a b * 2 ^ j

  low_bit : (c n : ℕ) → c < 64 → bit taken c ≡ n → bit (low_word j mask a b) c ≡ (bit a c + n) % 2
  unfolding taken
  low_bit c n h e = bit_xor_lem a (taken % 2 ^ 64) c ∙ ap (λ (n : ℕ). (bit a c + n) % 2) (bit_word 64 taken c h ∙ e)

  pub low_even : (c : ℕ) → c < 64 → c / j % 2 ≡ 0 → bit (low_word j mask a b) c ≡ bit a c
  unfolding taken
  low_even c h e = low_bit c 0 h (go (le_or_lt j c)) ∙ none (a / 2 ^ c)
    where
      go : (j ≤ c) ⊎ (c < j) → bit taken c ≡ 0
      go (inl l) =
          let s : j + (c - j) ≡ c = omega arith in
          let o : (c - j) / j % 2 ≡ 1 = odd (c / j) ((c - j) / j) (ap (λ (n : ℕ). n / j) (sym s) ∙ next j d.pos (c - j)) e in
          ap (bit taken) (sym s) ∙ bit_shl (crossing j mask a b) j (c - j) ∙ crossing_out (c - j) (omega arith) o
        where
          odd : (p q : ℕ) → p ≡ q + 1 → p % 2 ≡ 0 → q % 2 ≡ 1
          odd p q e z = omega arith
      go (inr l) = bit_below (crossing j mask a b) j c l

  pub low_odd : (c : ℕ) → c < 64 → c / j % 2 ≡ 1 → bit (low_word j mask a b) c ≡ bit b (c - j)
  unfolding taken
  low_odd c h e = low_bit c _ h go ∙ first (a / 2 ^ c) (b / 2 ^ (c - j))
    where
      even : (p q : ℕ) → p ≡ q + 1 → p % 2 ≡ 1 → q % 2 ≡ 0
      even p q e z = omega arith

      go : bit taken c ≡ (bit a c + bit b (c - j)) % 2
      go =
          let l : j ≤ c = past j d.pos c e in
          let s : j + (c - j) ≡ c = omega arith in
          let o : (c - j) / j % 2 ≡ 0 = even (c / j) ((c - j) / j) (ap (λ (n : ℕ). n / j) (sym s) ∙ next j d.pos (c - j)) e in
          ap (bit taken) (sym s) ∙ bit_shl (crossing j mask a b) j (c - j) ∙ crossing_in (c - j) (omega arith) o
          ∙ ap (λ (t : ℕ). (bit a t + bit b (c - j)) % 2) s
