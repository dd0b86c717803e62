-- The vectors of a row, number by number. Assumes nothing.
use Prim.Native.Nat.{ℕ, suc, ◌+◌, ◌-◌, ◌≤◌, ◌<◌}
use native.Mathlib.Numerals.{add-one}
use native.Mathlib.Omega.{arith}
use mathlib.Core.Path.{◌≡◌, ap, ◌∙◌}
use mathlib.Core.Bool.{Bool}
use mathlib.Core.List.{List, [], ◌∷◌}
use borrow.Author.Tests.{eq-eqb, ne_eqb}
use lib.Dec.{eqb}
use lib.ListN.{length}
use Rattle.rows.specs.Care.{keep}
use Rattle.add.specs.declared.Seat.{Seat}
use Rattle.add.specs.Inner.Mates.{row_in, mate_at, mates_from, mates_past}

module _ (s : Seat) (aux firsts : List ℕ) (i : ℕ) where
  past_step : i < length aux → mates_past s aux firsts i ≡ keep (eqb (row_in s aux i) s.row) (mate_at s firsts i) (mates_past s aux firsts (i + 1))
  unfolding mates_from
  past_step h =
      let e : length aux - i ≡ suc (length aux - suc i) = omega arith in
      ap (mates_from s aux firsts i) e ∙ rw (add-one i)

  -- the number is in the row
  pub past_in : i < length aux → row_in s aux i ≡ s.row → mates_past s aux firsts i ≡ mate_at s firsts i ∷ mates_past s aux firsts (i + 1)
  past_in h e = past_step h ∙ ap (λ (b : Bool). keep b (mate_at s firsts i) (mates_past s aux firsts (i + 1))) (eq-eqb _ _ e)

  -- it is in another
  pub past_out : i < length aux → (row_in s aux i ≡ s.row → ⊥) → mates_past s aux firsts i ≡ mates_past s aux firsts (i + 1)
  past_out h e = past_step h ∙ ap (λ (b : Bool). keep b (mate_at s firsts i) (mates_past s aux firsts (i + 1))) (ne_eqb _ _ e)

  pub past_end : length aux ≤ i → mates_past s aux firsts i ≡ []
  unfolding mates_from
  past_end h = let e : length aux - i ≡ 0 = omega arith in ap (mates_from s aux firsts i) e
