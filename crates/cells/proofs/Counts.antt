-- What is written, from what is read, built and counted. Assumes nothing.
use Prim.Native.Nat.{ℕ, ◌+◌, ◌≤◌, ◌<◌}
use native.Mathlib.Omega.{arith}
use mathlib.Core.Path.{◌≡◌, sym, ap, ◌∙◌}
use mathlib.Core.Bool.{true, false}
use mathlib.Core.List.{List, [], ◌∷◌}
use mathlib.Core.Logic.{⊎_elim}
use borrow.Author.Tests.{eq-eqb, ne_eqb}
use lib.ListN.{length, get_or, drop}
use Rattle.lists.proofs.Tests.{le_or_lt}
use Rattle.vectors.specs.Bounds.{max_cells}
use Rattle.build.specs.Built.{Built}
use Rattle.build.specs.Build.{Outcome, after, build_chosen}
use Rattle.build.specs.Cells.{used}
use Rattle.build.proofs.Cells.Placings.{used_past, used_least}
use Rattle.rows.proofs.Fits.Needed.{past_free}
use Rattle.input.specs.Input.{Input}
use Rattle.input.specs.Input.{max_listed, numbers_in, input_from, input_of}
use Rattle.print.specs.Print.{fitted, refused_text}
use Rattle.print.specs.Sentence.{sentence_of}
use Rattle.print.proofs.Sentences.{sentence_few}
use Rattle.answer.specs.Make.{roomy, program_allowance}
use Rattle.answer.specs.Answer.{input_text}
use Rattle.answer.proofs.Makes.{read_is, from_numbers}
use Rattle.cells.specs.Cells.{cells_form, fewest, wide_build, cells_by, cells_of}

-- ---- the last cell that is taken, and none

module _ (g : List ℕ) where
  pub used_last : (last : ℕ) → last < length g → (get_or g last 0 ≡ 0 → ⊥) → ((c : ℕ) → last + 1 ≤ c → c < length g → get_or g c 0 ≡ 0) → last + 1 ≡ used g
  used_last last h t f =
      let free : (c : ℕ) → last + 1 ≤ c → get_or g c 0 ≡ 0 = λ c l. ⊎_elim (λ k. past_free g c k) (λ k. f c l k) (le_or_lt (length g) c) in
      let l = used_least g (last + 1) free in
      ⊎_elim (λ k. omega arith) (λ k. absurd (t (used_past g last (omega arith)))) (le_or_lt (last + 1) (used g))

  pub used_none : ((c : ℕ) → c < length g → get_or g c 0 ≡ 0) → 0 ≡ used g
  used_none f =
      let e = used_least g 0 (λ c _. ⊎_elim (λ k. past_free g c k) (λ k. f c k) (le_or_lt (length g) c)) in omega arith

-- ---- what is written

module _ (b : Built) (g out : List ℕ) where
  pub fewest_accepted : (n : ℕ) → n ≡ used g → b.refusal ≡ 0 → sentence_of cells_form (n ∷ []) out ≡ fitted (fewest b g) out
  unfolding fewest
  fewest_accepted n c e =
      rw (eq-eqb b.refusal 0 e, fewest, c)
      (sym (sentence_few cells_form (used g ∷ []) out (omega arith)))

  pub fewest_refused : (b.refusal ≡ 0 → ⊥) → fitted (refused_text b.refusal b.place) out ≡ fitted (fewest b g) out
  unfolding fewest
  fewest_refused n = rw (ne_eqb b.refusal 0 n, fewest)

module _ (text : List ℕ) (i : Input) (e : i ≡ input_of text max_listed) where
  pub cells_bad : i.good ≡ false → input_text ≡ cells_of text
  unfolding cells_of cells_by
  cells_bad b = rw (read_is text i e b, cells_by)

  pub cells_good : i.good ≡ true → (b : Built) (vs h g aux : List ℕ) → vs ≡ drop 3 (numbers_in text)
      → after b h g aux ≡ build_chosen i.n i.degree max_cells program_allowance vs roomy → fewest b g ≡ cells_of text
  unfolding cells_of cells_by wide_build input_from
  cells_good y b vs h g aux v o =
      ap (λ (x : Outcome). fewest x.built x.tables.g)
      (o ∙ ap (λ (j : Input). build_chosen j.n j.degree max_cells program_allowance vs roomy) (from_numbers text i e y)
      ∙ ap (λ (l : List ℕ). build_chosen (get_or (numbers_in text) 0 0) (get_or (numbers_in text) 1 0) max_cells program_allowance l roomy) v)
      ∙ rw (read_is text i e y, cells_by)
