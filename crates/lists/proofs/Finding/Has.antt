-- Whether a number is in a list. Assumes nothing.
use Prim.Native.Nat.{ℕ}
use mathlib.Core.Path.{◌≡◌, refl}
use mathlib.Core.Bool.{true, false, false≢true}
use mathlib.Core.List.{List, [], ◌∷◌}
use mathlib.Core.Logic.{◌⊎◌, inl, inr, ⊎_elim}
use lib.Dec.{eqb}
use borrow.Author.Tests.{eqb-true, eqb-false, eq-eqb, ne_eqb}
use Rattle.std.proofs.lemmas.Bool.{or_cases, or_parts, or_right}
use Rattle.lists.specs.First.{has}
use Rattle.lists.specs.Members.{In}

pub has_other : (x y : ℕ) (l : List ℕ) → (x ≡ y → ⊥) → has x (y ∷ l) ≡ has x l
unfolding has
has_other x y l n = rw (ne_eqb x y n)

pub has_self : (x : ℕ) (l : List ℕ) → has x (x ∷ l) ≡ true
unfolding has
has_self x l = rw (eq-eqb x x refl)

pub has_in : (x : ℕ) (l : List ℕ) → has x l ≡ true → In x l
unfolding has
has_in x [] h = absurd (false≢true h)
has_in x (y ∷ l) h = ⊎_elim (λ e. inl (eqb-true x y e)) (λ e. inr (has_in x l e)) (or_cases (eqb x y) (has x l) h)

pub in_has : (x : ℕ) (l : List ℕ) → In x l → has x l ≡ true
unfolding has
in_has x [] m = absurd m
in_has x (y ∷ l) (inl e) = rw (eq-eqb x y e)
in_has x (y ∷ l) (inr m) = or_right (eqb x y) (has x l) (in_has x l m)

-- who is in a list with one more
pub has_cons : (x y : ℕ) (l : List ℕ) → has x (y ∷ l) ≡ true → (x ≡ y) ⊎ (has x l ≡ true)
unfolding has
has_cons x y l h = ⊎_elim (λ e. inl (eqb-true x y e)) (λ e. inr e) (or_cases (eqb x y) (has x l) h)

-- who is not
pub not_cons : (x y : ℕ) (l : List ℕ) → has x (y ∷ l) ≡ false → (x ≡ y → ⊥) × (has x l ≡ false)
unfolding has
not_cons x y l h = let o = or_parts (eqb x y) (has x l) h in (eqb-false x y o.0, o.1)
