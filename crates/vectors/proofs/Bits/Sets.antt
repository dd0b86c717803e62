-- Bits of OR, and one bit or one input set in a word. Assumes nothing.
use Rattle.std.proofs.Common.{◌≡◌, ℕ, zero, suc, ◌+◌, ◌-◌, ◌*◌, ◌/◌, ◌%◌, ◌^◌, ◌<◌, ◌≤◌, max, ◌⊎◌, sym, refl, ap, ◌∙◌, inl, inr, lt_of_lt_of_le, one-mul, arith, pow_mono}
use native.Mathlib.Nat.{div-eq_of_lt}
use lib.Bits.{bit_or, or_shr, or_step}
use Rattle.lists.proofs.Tests.{le_or_lt}
use Rattle.vectors.specs.Bits.{bit, input, place_of}
use Rattle.vectors.proofs.Bits.Laws.{bit_shl, bit_below, place_in}

pub bit_or_lem : (a b c : ℕ) → bit (bit_or a b) c ≡ max (bit a c) (bit b c)
bit_or_lem a b c = ap (λ (n : ℕ). n % 2) (or_shr a b c ∙ or_step (a / 2 ^ c) (b / 2 ^ c)) ∙ last (bit_or (a / 2 ^ c / 2) (b / 2 ^ c / 2)) (a / 2 ^ c) (b / 2 ^ c)
  where
    last : (n a b : ℕ) → (n * 2 + max (a % 2) (b % 2)) % 2 ≡ max (a % 2) (b % 2)
    last n a b = omega arith

pub max_none : (n : ℕ) → max n 0 ≡ n
max_none n = omega arith

-- a word of w bits has none from w up
pub bit_past : (w x c : ℕ) → x < 2 ^ w → w ≤ c → bit x c ≡ 0
bit_past w x c h l = ap (λ (n : ℕ). n % 2) (div-eq_of_lt (lt_of_lt_of_le h (pow_mono {i = w} {j = c} l)))

-- from j up, by the place itself
pub bit_from : (a j c : ℕ) → j ≤ c → bit (a * 2 ^ j) c ≡ bit a (c - j)
bit_from a j c l = let e : c ≡ j + (c - j) = omega arith in ap (bit (a * 2 ^ j)) e ∙ bit_shl a j (c - j)

-- a bit alone
pub bit_other : (k i : ℕ) → (i ≡ k → ⊥) → bit (1 * 2 ^ k) i ≡ 0
bit_other k i n = go (le_or_lt k i)
  where
    go : (k ≤ i) ⊎ (i < k) → bit (1 * 2 ^ k) i ≡ 0
    go (inr m) = bit_below 1 k i m
    go (inl m) = bit_from 1 k i m ∙ bit_past 1 1 (i - k) (omega arith) (omega (arith, n))

-- an input set in a word of w bits leaves the others as they are
pub input_set : (w x s j : ℕ) → 0 < s → s ≤ w → (j ≡ s → ⊥) → input (bit_or x (place_of s % 2 ^ w)) j ≡ input x j
input_set w x s zero p h n = refl
input_set w x s (suc c) p h n =
    bit_or_lem x (place_of s % 2 ^ w) c
    ∙ ap (max (bit x c)) (ap (λ (m : ℕ). bit m c) (place_in w s p h ∙ sym (one-mul (2 ^ (s - 1)))) ∙ bit_other (s - 1) c (λ e. n (omega arith)))
    ∙ max_none (bit x c)
