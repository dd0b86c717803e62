-- When two lists of bytes are the same. Assumes nothing.
use mathlib.Core.Path.{◌≡◌, refl, ap, ap₂, ◌∙◌}
use mathlib.Core.Bool.{Bool, true, false, ◌&&◌, false≢true}
use mathlib.Core.List.{List, [], ◌∷◌, ◌++◌}
use Prim.Native.Nat.{ℕ}
use native.Mathlib.Omega.{arith}
use lib.Dec.{eqb}
use lib.ListN.{length}
use lib.Pointwise.{pointwise}
use borrow.Author.Tests.{eqb-true, eq-eqb}
use Rattle.lists.proofs.Tests.{and_true, and_assoc}
use Rattle.block.specs.Block.{same}

pub same_self : (a : List ℕ) → same a a ≡ true
unfolding same
same_self [] = refl
same_self (x ∷ a) = rw (eq-eqb x x refl) (same_self a)

pub same_true : (a b : List ℕ) → same a b ≡ true → a ≡ b
unfolding same
same_true [] [] h = refl
same_true [] (y ∷ b) h = absurd (false≢true h)
same_true (x ∷ a) [] h = absurd (false≢true h)
same_true (x ∷ a) (y ∷ b) h =
    let t = and_true (eqb x y) (same a b) h in
    ap₂ (λ (z : ℕ) (l : List ℕ). z ∷ l) (eqb-true x y t.0) (same_true a b t.1)

pub same_is : (a b : List ℕ) → a ≡ b → same a b ≡ true
same_is a b e = rw e (same_self b)

-- lists of another length are not
pub same_other : (a b : List ℕ) → (length a ≡ length b → ⊥) → same a b ≡ false
same_other a b h = go (same a b) refl
  where
    go : (t : Bool) → same a b ≡ t → t ≡ false
    go true e = absurd (h (ap length (same_true a b e)))
    go false e = refl

-- part by part
pub same_append : (a b c d : List ℕ) → length a ≡ length c → same (a ++ b) (c ++ d) ≡ (same a c && same b d)
unfolding same
same_append [] b [] d e = refl
same_append [] b (z ∷ c) d e = absurd (omega arith)
same_append (x ∷ a) b [] d e = absurd (omega arith)
same_append (x ∷ a) b (z ∷ c) d e =
    ap (λ (t : Bool). eqb x z && t) (same_append a b c d (omega arith)) ∙ and_assoc (eqb x z) (same a c) (same b d)

-- the test that `==` of bytes makes
pub same_pointwise : (a b : List ℕ) → pointwise eqb a b ≡ same a b
unfolding same
same_pointwise [] [] = refl
same_pointwise [] (y ∷ b) = refl
same_pointwise (x ∷ a) [] = refl
same_pointwise (x ∷ a) (y ∷ b) = ap (λ (t : Bool). eqb x y && t) (same_pointwise a b)
