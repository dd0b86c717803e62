-- The fields of a text and of its rest past the first byte. Assumes nothing.
use Prim.Native.Nat.{ℕ, suc, ◌-◌}
use native.Mathlib.Omega.{arith}
use mathlib.Core.Path.{◌≡◌, refl, ap}
use mathlib.Core.Bool.{Bool, true, false, cond}
use mathlib.Core.List.{List, [], ◌∷◌}
use borrow.Author.Tests.{ne_eqb}
use lib.Dec.{eqb}
use lib.ListN.{length, get_or, take}
use Rattle.input.specs.Fields.{separator, onto, fields}
use Rattle.input.specs.Input.{body}
use Rattle.fault.specs.Fault.{newline}

-- a byte that is not a final newline is kept
pub body_cons : (b : ℕ) (bs : List ℕ) → (bs ≡ [] → b ≡ newline → ⊥) → body (b ∷ bs) ≡ b ∷ body bs
body_cons b [] n = rw (ne_eqb b newline (n refl))
body_cons b (c ∷ cs) n =
    let p : suc (suc (length cs)) - 1 ≡ suc (length cs) = omega arith in
    let q : suc (length cs) - 1 ≡ length cs = omega arith in
    rw (p, q) (go (eqb (get_or (c ∷ cs) (length cs) 0) newline))
  where
    go : (t : Bool) → take (cond t (suc (length cs)) (suc (suc (length cs)))) (b ∷ c ∷ cs) ≡ b ∷ take (cond t (length cs) (suc (length cs))) (c ∷ cs)
    go true = refl
    go false = refl

module _ (b : ℕ) (bs : List ℕ) where
  pub fields_parted : separator b ≡ true → fields (b ∷ bs) ≡ [] ∷ fields bs
  unfolding fields
  fields_parted y = rw (y, fields)

  pub fields_grown : (f : List ℕ) (fs : List (List ℕ)) → separator b ≡ false → fields bs ≡ f ∷ fs → fields (b ∷ bs) ≡ (b ∷ f) ∷ fs
  unfolding fields onto
  fields_grown f fs n e = rw (n, fields) (ap (onto b) e)

-- there is a first field
pub record Split (bs : List ℕ) : Type 0 where
  pub first : List ℕ
  pub others : List (List ℕ)
  pub is : fields bs ≡ first ∷ others

pub split : (bs : List ℕ) → Split bs
unfolding fields
split [] = record { first = []; others = []; is = refl }
split (b ∷ bs) = go (separator b) refl (split bs)
  where
    go : (t : Bool) → separator b ≡ t → Split bs → Split (b ∷ bs)
    go true y s = record { first = []; others = fields bs; is = fields_parted b bs y }
    go false n s = record { first = b ∷ s.first; others = s.others; is = fields_grown b bs s.first s.others n s.is }
