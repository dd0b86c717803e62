-- The vectors with their rows and columns, as the placing gets them. Assumes nothing.
use Prim.Native.Nat.{ℕ, zero, suc, ◌+◌, ◌-◌, ◌^◌, ◌<◌}
use native.Mathlib.Omega.{arith}
use native.Mathlib.Nat.{add-zero}
use mathlib.Core.Path.{◌≡◌, sym, ap, ◌∙◌}
use mathlib.Core.List.{List, [], ◌∷◌}
use mathlib.Core.Logic.{inl, inr}
use lib.ListN.{length, get_or}
use Rattle.lists.specs.Members.{In}
use Rattle.vectors.specs.declared.Kind.{Kind}
use Rattle.vectors.specs.Variable.{row_of, column_of}
use Rattle.vectors.proofs.Variables.Numbers.{column_lt}
use Rattle.rows.specs.Care.{Care, cares_by}
use Rattle.rows.specs.Demand.{Columns}
use Rattle.build.specs.Build.{cares_from}
use Rattle.rows.proofs.Fits.Cells.{Distinct}

module _ (n1 : ℕ) (ks : List Kind) where
  -- the vector v with the number i
  abbrev pub care_of : ℕ → ℕ → Care
  care_of i v = record { index = i; row = row_of n1 ks v; column = column_of n1 ks v }

  -- each column is one of the columns
  pub cares_columns : (i : ℕ) (vs : List ℕ) → Columns (2 ^ (length ks - n1)) (cares_from i n1 ks vs)
  unfolding cares_from cares_by
  cares_columns i [] = tt
  cares_columns i (v ∷ vs) = (column_lt n1 ks v, cares_columns (suc i) vs)

  -- entry j has the number i + j
  pub cares_in : (i : ℕ) (vs : List ℕ) (j : ℕ) → j < length vs → In (care_of (i + j) (get_or vs j 0)) (cares_from i n1 ks vs)
  unfolding cares_from cares_by
  cares_in i [] j h = absurd (omega arith)
  cares_in i (v ∷ vs) zero h = inl (ap (λ (k : ℕ). care_of k v) (add-zero i))
  cares_in i (v ∷ vs) (suc j) h =
      let e : suc i + j ≡ i + suc j = omega arith in
      inr (rw e at (cares_in (suc i) vs j (omega arith)))

  -- and there is no other
  pub record Entry (i : ℕ) (vs : List ℕ) (c : Care) : Type 0 where
    pub at : ℕ
    pub below : at < length vs
    pub is : c ≡ care_of (i + at) (get_or vs at 0)

  pub cares_entry : (i : ℕ) (vs : List ℕ) (c : Care) → In c (cares_from i n1 ks vs) → Entry i vs c
  unfolding cares_from cares_by
  cares_entry i [] c m = absurd m
  cares_entry i (v ∷ vs) c (inl e) = record { at = 0; below = omega arith; is = e ∙ ap (λ (k : ℕ). care_of k v) (sym (add-zero i)) }
  cares_entry i (v ∷ vs) c (inr m) =
      let r = cares_entry (suc i) vs c m in
      let e : suc i + r.at ≡ i + suc r.at = omega arith in
      record { at = suc r.at; below = omega (arith, r.below); is = r.is ∙ ap (λ (k : ℕ). care_of k (get_or vs r.at 0)) e }

  -- where no two vectors have one row and one column
  pub cares_distinct : (i : ℕ) (vs : List ℕ)
      → ((a b : ℕ) → a < b → b < length vs → row_of n1 ks (get_or vs a 0) ≡ row_of n1 ks (get_or vs b 0) → column_of n1 ks (get_or vs a 0) ≡ column_of n1 ks (get_or vs b 0) → ⊥)
      → Distinct (cares_from i n1 ks vs)
  unfolding cares_from cares_by
  cares_distinct i [] n = tt
  cares_distinct i (v ∷ vs) n = (
    (λ x m p q. let r = cares_entry (suc i) vs x m in n 0 (suc r.at) (omega arith) (omega (arith, r.below)) (p ∙ ap (λ (c : Care). c.row) r.is) (q ∙ ap (λ (c : Care). c.column) r.is)),
    cares_distinct (suc i) vs (λ a b h l. n (suc a) (suc b) (omega arith) (omega arith)),
  )
