-- Bits of a word of 64: a window over two words, one bit set, the first 0. Assumes nothing.
use Prim.Native.Nat.{ℕ, zero, suc, ◌+◌, ◌-◌, ◌*◌, ◌/◌, ◌%◌, ◌^◌, max, ◌≤◌, ◌<◌}
use native.Mathlib.Nat.{pow-suc}
use native.Mathlib.Omega.{arith}
use mathlib.Core.Path.{◌≡◌, refl, ap, ap₂, ◌∙◌}
use mathlib.Core.Logic.{◌⊎◌, inl, inr}
use lib.Bits.{bit_or}
use lib.Count.{count_trailing_zeros, under, trailing_of_zero}
use Rattle.lists.proofs.Tests.{le_or_lt}
use Rattle.vectors.specs.Bits.{bit}
use Rattle.vectors.proofs.Bits.Sets.{bit_or_lem, max_none, bit_past, bit_from, bit_other}
use Rattle.vectors.proofs.Bits.Laws.{digit, half_lt, bit_suc, bit_shr, bit_word, bit_below}

none_max : (n : ℕ) → max 0 n ≡ n
none_max n = omega arith

-- ---- a window that starts at bit s of the word a, and goes on in the word b

module _ (a b s : ℕ) (s< : s < 64) where
  above : ℕ → ℕ
  above t = bit (b * 2 ^ 1 % 2 ^ 64 * 2 ^ (63 - s) % 2 ^ 64) t

  above_none : (t : ℕ) → s + t < 64 → above t ≡ 0
  unfolding above
  above_none t l = bit_word 64 (b * 2 ^ 1 % 2 ^ 64 * 2 ^ (63 - s)) t (omega arith) ∙ go (le_or_lt (63 - s) t)
    where
      go : (63 - s ≤ t) ⊎ (t < 63 - s) → bit (b * 2 ^ 1 % 2 ^ 64 * 2 ^ (63 - s)) t ≡ 0
      go (inr m) = bit_below (b * 2 ^ 1 % 2 ^ 64) (63 - s) t m
      go (inl m) =
          let e : t - (63 - s) ≡ 0 = omega arith in
          bit_from (b * 2 ^ 1 % 2 ^ 64) (63 - s) t m ∙ ap (bit (b * 2 ^ 1 % 2 ^ 64)) e ∙ bit_word 64 (b * 2 ^ 1) 0 (omega arith) ∙ bit_below b 1 0 (omega arith)

  above_some : (t : ℕ) → t < 64 → 64 ≤ s + t → above t ≡ bit b (s + t - 64)
  unfolding above
  above_some t h l =
      let e : t - (63 - s) - 1 ≡ s + t - 64 = omega arith in
      bit_word 64 (b * 2 ^ 1 % 2 ^ 64 * 2 ^ (63 - s)) t h ∙ bit_from (b * 2 ^ 1 % 2 ^ 64) (63 - s) t (omega arith)
      ∙ bit_word 64 (b * 2 ^ 1) (t - (63 - s)) (omega arith) ∙ bit_from b 1 (t - (63 - s)) (omega arith) ∙ ap (bit b) e

  pub window_low : (t : ℕ) → s + t < 64 → bit (bit_or (a / 2 ^ s) (b * 2 ^ 1 % 2 ^ 64 * 2 ^ (63 - s) % 2 ^ 64)) t ≡ bit a (s + t)
  unfolding above
  window_low t l = bit_or_lem (a / 2 ^ s) (b * 2 ^ 1 % 2 ^ 64 * 2 ^ (63 - s) % 2 ^ 64) t ∙ ap₂ max (bit_shr a s t) (above_none t l) ∙ max_none (bit a (s + t))

  pub window_high : a < 2 ^ 64 → (t : ℕ) → t < 64 → 64 ≤ s + t → bit (bit_or (a / 2 ^ s) (b * 2 ^ 1 % 2 ^ 64 * 2 ^ (63 - s) % 2 ^ 64)) t ≡ bit b (s + t - 64)
  unfolding above
  window_high a< t h l =
      bit_or_lem (a / 2 ^ s) (b * 2 ^ 1 % 2 ^ 64 * 2 ^ (63 - s) % 2 ^ 64) t ∙ ap₂ max (bit_shr a s t ∙ bit_past 64 a (s + t) a< l) (above_some t h l)
      ∙ none_max (bit b (s + t - 64))

-- ---- one bit set

module _ (x k : ℕ) (k< : k < 64) where
  pub set_here : bit (bit_or x (1 * 2 ^ k % 2 ^ 64)) k ≡ 1
  set_here =
      let e : k - k ≡ 0 = omega arith in
      bit_or_lem x (1 * 2 ^ k % 2 ^ 64) k ∙ ap (max (bit x k)) (bit_word 64 (1 * 2 ^ k) k k< ∙ bit_from 1 k k (omega arith) ∙ ap (bit 1) e) ∙ most (x / 2 ^ k)
    where
      most : (n : ℕ) → max (n % 2) 1 ≡ 1
      most n = omega arith

  pub set_there : (i : ℕ) → i < 64 → (i ≡ k → ⊥) → bit (bit_or x (1 * 2 ^ k % 2 ^ 64)) i ≡ bit x i
  set_there i i< n = bit_or_lem x (1 * 2 ^ k % 2 ^ 64) i ∙ ap (max (bit x i)) (bit_word 64 (1 * 2 ^ k) i i< ∙ bit_other k i n) ∙ max_none (bit x i)

-- ---- the first 0 of a word of k bits, which is the first 1 of its complement

-- the complement, halved
not_half : (p m : ℕ) → m < p * 2 → (p * 2 - 1 - m) / 2 ≡ p - 1 - m / 2
not_half p m h = omega arith

not_low : (p m r : ℕ) → m < p * 2 → m % 2 ≡ r → (p * 2 - 1 - m) % 2 ≡ 1 - r
not_low p m r h e = omega arith

-- n, of k bits at the most, is where the first 0 of x stands
pub record FirstOpen (k x n : ℕ) : Type 0 where
  pub before : (t : ℕ) → t < n → bit x t ≡ 1
  pub here : n < k → bit x n ≡ 0
  pub found : 0 < 2 ^ k - 1 - x → n < k

open_none : (k x : ℕ) → x % 2 ≡ 0 → FirstOpen (suc k) x 0
open_none k x z = record { before = λ t l. absurd (omega arith); here = λ l. omega arith; found = λ l. omega arith }

open_one : (k x n : ℕ) → x < 2 ^ suc k → x % 2 ≡ 1 → FirstOpen k (x / 2) n → FirstOpen (suc k) x (suc n)
open_one k x n h z f =
    record {
      before = λ t. go t;
      here = λ l. bit_suc x n ∙ f.here (omega arith);
      found = λ l.
          let q : x < 2 ^ k * 2 = rw pow-suc at h in
          let p : 0 < 2 ^ k * 2 - 1 - x = rw pow-suc at l in
          omega (arith, f.found (omega (arith, not_half (2 ^ k) x q, not_low (2 ^ k) x 1 q z)));
    }
  where
    go : (t : ℕ) → t < suc n → bit x t ≡ 1
    go zero l = omega arith
    go (suc t) l = bit_suc x t ∙ f.before t (omega arith)

first_in : (k x : ℕ) → x < 2 ^ k → FirstOpen k x (count_trailing_zeros k (2 ^ k - 1 - x))
unfolding count_trailing_zeros
first_in zero x h = record { before = λ t l. absurd (omega arith); here = λ l. absurd (omega arith); found = λ l. absurd (omega arith) }
first_in (suc k) x h =
    let g : x < 2 ^ k * 2 = rw pow-suc at h in
    let e : 2 ^ suc k ≡ 2 ^ k * 2 = pow-suc 2 k in
    rw (ap (λ (p : ℕ). p - 1 - x) e, not_half (2 ^ k) x g)
    (digit (λ r. x % 2 ≡ r → FirstOpen (suc k) x (under ((2 ^ k * 2 - 1 - x) % 2) (count_trailing_zeros k (2 ^ k - 1 - x / 2))))
    (λ z. rw (not_low (2 ^ k) x 0 g z) (open_none k x z))
    (λ z. rw (not_low (2 ^ k) x 1 g z) (open_one k x _ h z (first_in k (x / 2) (half_lt k h))))
    x refl)

pub first_open : (x : ℕ) → x < 2 ^ 64 → FirstOpen 64 x (count_trailing_zeros 64 (2 ^ 64 - 1 - x))
first_open x h = first_in 64 x h

-- a word with no 0
pub all_shut : (x t : ℕ) → x < 2 ^ 64 → 2 ^ 64 - 1 - x ≡ 0 → t < 64 → bit x t ≡ 1
all_shut x t h e l = (first_open x h).before t (omega (arith, ap (count_trailing_zeros 64) e ∙ trailing_of_zero 64))

pub ones_bit : (t : ℕ) → t < 64 → bit (2 ^ 64 - 1) t ≡ 1
ones_bit t l = all_shut (2 ^ 64 - 1) t (omega arith) refl l
