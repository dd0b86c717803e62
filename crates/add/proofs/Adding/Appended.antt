-- A list with one vector more at its end: its entries, and its row. Assumes nothing.
use Prim.Native.Nat.{ℕ, zero, suc, ◌+◌, ◌<◌}
use native.Mathlib.Nat.{add-zero}
use native.Mathlib.Omega.{arith}
use mathlib.Core.Path.{◌≡◌, sym, ap}
use mathlib.Core.Bool.{Bool, true, false}
use mathlib.Core.List.{List, [], ◌∷◌, ◌++◌}
use lib.Dec.{eqb}
use lib.ListN.{length, get_or}
use borrow.Author.Tests.{eq-eqb}
use Rattle.vectors.specs.declared.Kind.{Kind}
use Rattle.rows.specs.Care.{Care, cares_by, in_row, keep}
use Rattle.build.specs.Build.{cares_from}
use Rattle.build.proofs.Holding.Cares.{care_of}

-- what holds of each entry, and of one more
pub each_appended : (P : ℕ → ℕ → Type 0) (vs : List ℕ) (x : ℕ) → ((i : ℕ) → i < length vs → P i (get_or vs i 0)) → P (length vs) x
    → (i : ℕ) → i < length (vs ++ (x ∷ [])) → P i (get_or (vs ++ (x ∷ [])) i 0)
each_appended P [] x f q zero h = q
each_appended P [] x f q (suc i) h = absurd (omega arith)
each_appended P (v ∷ vs) x f q zero h = f 0 (omega arith)
each_appended P (v ∷ vs) x f q (suc i) h = each_appended (λ j. P (suc j)) vs x (λ j k. f (suc j) (omega arith)) q i (omega arith)

pub cares_appended : (n1 : ℕ) (ks : List Kind) (i : ℕ) (vs : List ℕ) (x : ℕ)
    → cares_from i n1 ks (vs ++ (x ∷ [])) ≡ cares_from i n1 ks vs ++ (care_of n1 ks (i + length vs) x ∷ [])
unfolding cares_from cares_by
cares_appended n1 ks i [] x = ap (λ (j : ℕ). care_of n1 ks j x ∷ []) (sym (add-zero i))
cares_appended n1 ks i (v ∷ vs) x =
    let e : suc i + length vs ≡ i + suc (length vs) = omega arith in
    ap (λ (cs : List Care). care_of n1 ks i v ∷ cs) (rw e at (cares_appended n1 ks (suc i) vs x))

-- the row of the last
pub row_appended : (r : ℕ) (cs : List Care) (c : Care) → c.row ≡ r → in_row r (cs ++ (c ∷ [])) ≡ in_row r cs ++ (c ∷ [])
unfolding in_row
row_appended r [] c e = rw (eq-eqb c.row r e)
row_appended r (d ∷ cs) c e = go (eqb d.row r) (row_appended r cs c e)
  where
    go : (b : Bool) → in_row r (cs ++ (c ∷ [])) ≡ in_row r cs ++ (c ∷ []) → keep b d (in_row r (cs ++ (c ∷ []))) ≡ keep b d (in_row r cs) ++ (c ∷ [])
    go true q = ap (λ (l : List Care). d ∷ l) q
    go false q = q
