-- One row alone: its vectors are one chain. Assumes nothing.
use Prim.Native.Nat.{ℕ, suc, ◌-◌, ◌/◌, ◌%◌, ◌≤◌, ◌<◌}
use native.Mathlib.Omega.{arith}
use mathlib.Core.Path.{◌≡◌, refl, sym, ap, ap₂, ◌∙◌}
use mathlib.Core.Bool.{true, false}
use mathlib.Core.List.{List, [], ◌∷◌, map}
use lib.ListN.{length, get_or, length-map}
use borrow.Author.Tests.{eq-eqb}
use Rattle.lists.specs.Members.{All}
use Rattle.vectors.specs.Bounds.{max_cells, max_words, max_rows}
use Rattle.rows.specs.Care.{Care, cares_by, keep, in_row}
use Rattle.rows.specs.Fit.{first_fit, At, None}
use Rattle.rows.specs.Answer.{cares_from, cares_in, astray, unfit}
use Rattle.rows.specs.Single.{column_word, single_fit}
use Rattle.rows.specs.Inner.Chains.{Mark, mark_bit, chain, LinkedIs}
use Rattle.rows.proofs.Fits.First.{first_empty}
use Rattle.rows.proofs.Fits.Columns.{same_fit}
use Rattle.rows.proofs.Answers.Unfit.{astray_none, astray_more, fit_is}

-- ---- the answer by the tests

module _ (words g : List ℕ) where
  pub single_unfit : unfit words 1 (length g) 0 ≡ true → None 0 0 ≡ single_fit words g
  unfolding single_fit
  single_unfit e = rw (e, single_fit)

  pub single_fit_lem : unfit words 1 (length g) 0 ≡ false → first_fit g (cares_in words) ≡ single_fit words g
  unfolding single_fit
  single_fit_lem e = rw (e, single_fit)

-- a row with no vector fits at once
pub single_empty : (words g : List ℕ) → unfit words 1 (length g) 0 ≡ false → cares_in words ≡ [] → At 0 ≡ single_fit words g
single_empty words g e n = sym (first_empty g) ∙ ap (first_fit g) (sym n) ∙ single_fit_lem words g e

-- ---- the chain

one_row : (cs : List Care) → All (λ c. c.row < 1) cs → in_row 0 cs ≡ cs
unfolding in_row
one_row [] a = refl
one_row (c ∷ cs) a =
    let z : c.row ≡ 0 = omega (arith, a.0) in
    ap₂ (λ b l. keep b c l) (eq-eqb c.row 0 z) (one_row cs a.1)

module _ (words ws h : List ℕ) (s : length h ≡ 1) (a : All (λ c. c.row < 1) (cares_in words)) (k : LinkedIs words ws h) where
  row_is : in_row 0 (cares_in ws) ≡ cares_in words
  row_is = ap (in_row 0) k.cares ∙ one_row (cares_in words) a

  -- the row has a mark, and the chain from its first vector on is the row
  pub single_chain : (first : ℕ) → mark_bit < get_or h 0 0 → first ≡ get_or h 0 0 - mark_bit → chain ws first ≡ cares_in words
  single_chain first l e = go (k.marked 0 (omega arith))
    where
      go : Mark 0 ws (in_row 0 (cares_in ws)) (get_or h 0 0) → chain ws first ≡ cares_in words
      go (Mark.empty z n) = absurd (omega arith)
      go (Mark.start b t c) = ap (chain ws) e ∙ c ∙ row_is

  -- it has none
  pub single_none : get_or h 0 0 ≤ mark_bit → cares_in words ≡ []
  single_none l = go (k.marked 0 (omega arith))
    where
      go : Mark 0 ws (in_row 0 (cares_in ws)) (get_or h 0 0) → cares_in words ≡ []
      go (Mark.empty z n) = sym row_is ∙ n
      go (Mark.start b t c) = absurd (omega arith)

-- ---- vectors by their columns

-- a vector with nothing but its column
abbrev bare : Care → Care
bare c = record { index = 0; row = 0; column = c.column }

words_columns : (i : ℕ) (cs : List Care) → All (λ c. c.column < max_rows) cs → map bare (cares_from i (map column_word cs)) ≡ map bare cs
unfolding cares_by
words_columns i [] a = refl
words_columns i (c ∷ cs) a =
    let e : column_word c / max_rows % max_rows ≡ c.column = omega (arith, a.0) in
    ap₂ (λ (n : ℕ) (l : List Care). record { index = 0; row = 0; column = n } ∷ l) e (words_columns (suc i) cs a.1)

words_fit : (cs : List Care) → All (λ c. c.column < max_rows) cs → astray 1 (map column_word cs) ≡ false
words_fit [] a = astray_none 1
words_fit (c ∷ cs) a = astray_more 1 _ _ (omega (arith, a.0)) (omega (arith, a.0)) (words_fit cs a.1)

-- the answer is the first fit of vectors with these columns
pub single_columns : (w : ℕ) (cs : List Care) (g : List ℕ) → length cs < max_words → length g ≤ max_cells → All (λ c. c.column < max_rows) cs
    → single_fit (w ∷ map column_word cs) g ≡ first_fit g cs
unfolding cares_in
single_columns w cs g l m a =
    let ws = w ∷ map column_word cs in
    let n : length ws ≤ max_words = omega (arith, length-map cs column_word) in
    sym (single_fit_lem ws g (fit_is ws 1 (length g) 0 (omega arith) n (omega arith) m refl (words_fit cs a)))
    ∙ sym (same_fit bare (λ c. refl) g (cares_from 1 (map column_word cs)))
    ∙ ap (first_fit g) (words_columns 1 cs a)
    ∙ same_fit bare (λ c. refl) g cs
