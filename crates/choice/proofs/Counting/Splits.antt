-- The pairs that a candidate tells apart in a group: by its pairs' XORs, and by the members with 1 and with 0. Assumes nothing.
use Prim.Native.Nat.{ℕ, zero, suc, ◌+◌, ◌-◌, ◌*◌, ◌/◌, ◌≤◌, ◌<◌}
use native.Mathlib.Nat.{zero-add, zero-mul, mul-zero, suc-mul, mul-suc, mul-le-mul}
use native.Mathlib.Numerals.{one-add}
use native.Mathlib.Omega.{arith}
use mathlib.Core.Path.{◌≡◌, refl, subst, ◌∙◌}
use mathlib.Core.List.{List, [], ◌∷◌, map}
use lib.Bits.{bit_xor}
use lib.ListN.{length}
use Rattle.choice.specs.Inner.Split.{members, tally}
use Rattle.choice.proofs.Choice.Squares.{tally_le, tally_append}
use Rattle.vectors.proofs.Bits.Xor.{Linear}
use Rattle.choice.specs.Inner.Layout.{pairs_of}
use Rattle.choice.specs.Inner.Gain.{splits, gains}

-- one member with 0 more, or with 1
splits_zero : (a n : ℕ) → a ≤ n → a + splits a n ≡ splits a (suc n)
splits_zero a n h = let e : suc n - a ≡ suc (n - a) = omega arith in rw e (omega arith)

splits_one : (a b n : ℕ) → a + b ≡ n → b + splits a n ≡ splits (suc a) (suc n)
splits_one a b n h =
    let e : n - a ≡ b = omega arith in
    let d : suc n - suc a ≡ b = omega arith in
    rw (e, d) (omega arith)

pub splits_le : (a n : ℕ) → a ≤ n → splits a n ≤ n * n
splits_le a n h = mul-le-mul h (omega arith)

-- a product is at most the square of the half sum
four_mul : (a b : ℕ) → 4 * (a * b) ≤ (a + b) * (a + b)
four_mul zero b = rw (zero-mul b) (omega arith)
four_mul (suc a) zero = rw (mul-zero (suc a)) (omega arith)
four_mul (suc a) (suc b) =
    let e : suc a * suc b ≡ a * b + a + b + 1 = omega (arith, suc-mul a (suc b), mul-suc a b) in
    let s : suc a + suc b ≡ suc (suc (a + b)) = omega arith in
    let q : suc (suc (a + b)) * suc (suc (a + b)) ≡ (a + b) * (a + b) + 4 * (a + b) + 4 =
    omega (arith, suc-mul (suc (a + b)) (suc (suc (a + b))), mul-suc (suc (a + b)) (suc (a + b)), suc-mul (a + b) (suc (a + b)), mul-suc (a + b) (a + b)) in
    rw s (omega (arith, e, q, four_mul a b))

-- halves tell the most apart
pub splits_half : (a n : ℕ) → a ≤ n → splits a n ≤ n * n / 4
splits_half a n h =
    let e : a + (n - a) ≡ n = omega arith in
    let q : 4 * (a * (n - a)) ≤ n * n = subst (λ (m : ℕ). 4 * (a * (n - a)) ≤ m * m) e (four_mul a (n - a)) in
    omega arith

module _ (f : ℕ → ℕ) (l : Linear f) where
  -- a member with 0 leaves the others' values as they are, and one with 1 turns them
  row_same : (x : ℕ) → f x ≡ 0 → (g : List ℕ) → tally f (map (bit_xor x) g) ≡ tally f g
  unfolding tally
  row_same x e [] = refl
  row_same x e (y ∷ g) = omega (arith, l.xor x y, l.low y, row_same x e g)

  row_turned : (x : ℕ) → f x ≡ 1 → (g : List ℕ) → tally f g + tally f (map (bit_xor x) g) ≡ length g
  unfolding tally
  row_turned x e [] = refl
  row_turned x e (y ∷ g) = omega (arith, l.xor x y, l.low y, row_turned x e g)

  -- each two members of different value are a pair with value 1
  pub pairs_splits : (g : List ℕ) → tally f (pairs_of g) ≡ splits (tally f g) (length g)
  unfolding pairs_of tally
  pairs_splits [] = refl
  pairs_splits (x ∷ g) = tally_append f (map (bit_xor x) g) (pairs_of g) ∙ go (f x) refl (l.low x) (pairs_splits g)
    where
      go : (v : ℕ) → f x ≡ v → v < 2 → tally f (pairs_of g) ≡ splits (tally f g) (length g)
          → tally f (map (bit_xor x) g) + tally f (pairs_of g) ≡ splits (v + tally f g) (suc (length g))
      go zero e h r = rw (zero-add, row_same x e g, r) (splits_zero (tally f g) (length g) (tally_le f l.low g))
      go (suc zero) e h r = rw (one-add, r) (splits_one (tally f g) (tally f (map (bit_xor x) g)) (length g) (row_turned x e g))
      go (suc (suc v)) e h r = absurd (omega arith)

  -- no more pairs than the members' square
  pub gains_le : (gs : List (List ℕ)) → gains f gs ≤ members gs * members gs
  unfolding gains members
  gains_le [] = omega arith
  gains_le (g ∷ gs) = omega (arith, splits_le (tally f g) (length g) (tally_le f l.low g), gains_le gs)
