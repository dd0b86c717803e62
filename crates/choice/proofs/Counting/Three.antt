-- The ones of three words by two counts: of the places that an odd number of them has, and of those that two or three have. Assumes nothing.
use Prim.Native.Nat.{ℕ, zero, suc, ◌+◌, ◌*◌, ◌/◌, ◌%◌, ◌^◌, ◌<◌}
use native.Mathlib.Omega.{arith}
use mathlib.Core.Path.{◌≡◌, refl, ap, ap₂, ◌∙◌}
use lib.Arith.{lt-one}
use lib.Bits.{bit_and, bit_or, bit_xor, and_shr, or_shr, xor_shr, and_mod, or_mod, xor_mod}
use lib.Count.{ones, ones_step}
use Rattle.vectors.proofs.Bits.Laws.{digit, half_lt}

abbrev odd : ℕ → ℕ → ℕ → ℕ
odd x y z = bit_xor (bit_xor x y) z

abbrev majority : ℕ → ℕ → ℕ → ℕ
majority x y z = bit_or (bit_and x y) (bit_and (bit_xor x y) z)

-- the sum of three digits
abbrev Sum : ℕ → ℕ → ℕ → Type 0
Sum a b c = a + b + c ≡ odd a b c + 2 * majority a b c

module _ (x y z : ℕ) where
  digits : Sum (x % 2) (y % 2) (z % 2)
  digits =
      digit (λ a. Sum a (y % 2) (z % 2)) (digit (λ b. Sum 0 b (z % 2)) (digit (Sum 0 0) refl refl z) (digit (Sum 0 1) refl refl z) y)
      (digit (λ b. Sum 1 b (z % 2)) (digit (Sum 1 0) refl refl z) (digit (Sum 1 1) refl refl z) y) x

  odd_low : odd x y z % 2 ≡ odd (x % 2) (y % 2) (z % 2)
  odd_low = xor_mod (bit_xor x y) z 1 ∙ ap (λ (a : ℕ). bit_xor a (z % 2)) (xor_mod x y 1)

  odd_half : odd x y z / 2 ≡ odd (x / 2) (y / 2) (z / 2)
  odd_half = xor_shr (bit_xor x y) z 1 ∙ ap (λ (a : ℕ). bit_xor a (z / 2)) (xor_shr x y 1)

  majority_low : majority x y z % 2 ≡ majority (x % 2) (y % 2) (z % 2)
  majority_low =
      or_mod (bit_and x y) (bit_and (bit_xor x y) z) 1 ∙ ap₂ bit_or (and_mod x y 1) (and_mod (bit_xor x y) z 1 ∙ ap (λ (a : ℕ). bit_and a (z % 2)) (xor_mod x y 1))

  majority_half : majority x y z / 2 ≡ majority (x / 2) (y / 2) (z / 2)
  majority_half =
      or_shr (bit_and x y) (bit_and (bit_xor x y) z) 1 ∙ ap₂ bit_or (and_shr x y 1) (and_shr (bit_xor x y) z 1 ∙ ap (λ (a : ℕ). bit_and a (z / 2)) (xor_shr x y 1))

pub three : (k x y z : ℕ) → x < 2 ^ k → y < 2 ^ k → z < 2 ^ k
    → ones x + ones y + ones z ≡ ones (bit_xor (bit_xor x y) z) + 2 * ones (bit_or (bit_and x y) (bit_and (bit_xor x y) z))
unfolding ones
three zero x y z p q r = rw (lt-one p, lt-one q, lt-one r)
three (suc k) x y z p q r =
    let rest = three k (x / 2) (y / 2) (z / 2) (half_lt k p) (half_lt k q) (half_lt k r) in
    let a : ones (odd x y z) ≡ odd (x % 2) (y % 2) (z % 2) + ones (odd (x / 2) (y / 2) (z / 2)) =
    ones_step (odd x y z) ∙ ap₂ (λ (m n : ℕ). m + ones n) (odd_low x y z) (odd_half x y z) in
    let b : ones (majority x y z) ≡ majority (x % 2) (y % 2) (z % 2) + ones (majority (x / 2) (y / 2) (z / 2)) =
    ones_step (majority x y z) ∙ ap₂ (λ (m n : ℕ). m + ones n) (majority_low x y z) (majority_half x y z) in
    omega (arith, ones_step x, ones_step y, ones_step z, digits x y z)
