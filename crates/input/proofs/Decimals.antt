-- How the digits of a field are read. Assumes nothing.
use Prim.Native.Nat.{ℕ, ◌+◌, ◌-◌, ◌*◌, ◌≤◌}
use native.Mathlib.Omega.{arith}
use mathlib.Core.Path.{◌≡◌, refl}
use mathlib.Core.Bool.{Bool, true, false, ◌&&◌}
use mathlib.Core.List.{List, [], ◌∷◌}
use lib.ListN.{length}
use Rattle.std.specs.Prelude.{Some, None}
use Rattle.input.specs.Decimal.{value_from, value_of, good_field}
use Rattle.input.specs.Inner.{value_in}

pub none_and : (a b : Bool) → (a && false && b) ≡ false
none_and true b = refl
none_and false b = refl

pub and_none : (a b : Bool) → (a && b && false) ≡ false
and_none true true = refl
and_none true false = refl
and_none false b = refl

pub value_grows : (v : ℕ) (f : List ℕ) → v ≤ value_from v f
unfolding value_from
value_grows v [] = omega arith
value_grows v (b ∷ f) = omega (arith, value_grows (10 * v + (b - 48)) f)

module _ (f : List ℕ) where
  pub value_good : good_field f ≡ true → value_in f ≡ Some (value_of f)
  unfolding value_in
  value_good g = rw (g, value_in)

  pub value_bad : good_field f ≡ false → value_in f ≡ None
  unfolding value_in
  value_bad g = rw (g, value_in)

  pub value_empty : length f ≡ 0 → value_in f ≡ None
  unfolding good_field
  value_empty e = value_bad (rw e)

-- what the answer says of the field
pub value_some : (f : List ℕ) (x : ℕ) → value_in f ≡ Some x → (good_field f ≡ true) × (x ≡ value_of f)
value_some f x e = go (good_field f) refl
  where
    go : (t : Bool) → good_field f ≡ t → (good_field f ≡ true) × (x ≡ value_of f)
    go true g = let q = value_good f g in (g, cc)
    go false g = let q = value_bad f g in cc

pub value_none : (f : List ℕ) → value_in f ≡ None → good_field f ≡ false
value_none f e = go (good_field f) refl
  where
    go : (t : Bool) → good_field f ≡ t → good_field f ≡ false
    go true g = let q = value_good f g in cc
    go false g = g
