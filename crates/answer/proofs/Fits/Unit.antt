-- The text of an accepted unit is no longer than the page. Assumes nothing.
use Prim.Native.Nat.{ℕ, suc, ◌-◌, ◌^◌, ◌≤◌, ◌<◌}
use native.Mathlib.Omega.{arith}
use native.Mathlib.Nat.{lt_of_lt_of_le}
use mathlib.Core.Path.{◌≡◌, ap}
use mathlib.Core.List.{List, [], ◌∷◌, map}
use lib.IntN.{ℤ}
use lib.ListN.{length, drop, length-map, length-replicate}
use lib.Pow.{pow_mono}
use lib.Seq.{take_at}
use Rattle.lists.specs.Members.{All}
use Rattle.lists.proofs.Entries.Members.{all_map}
use Rattle.lists.proofs.Entries.Alls as alls
use Rattle.vectors.specs.declared.Kind.{Kind}
use Rattle.vectors.specs.Bounds.{max_inputs, max_side, max_rows}
use Rattle.vectors.specs.Variable.{mask_of, row_of, column_of}
use Rattle.vectors.specs.Word.{word_of}
use Rattle.vectors.proofs.Words.Laws.{word_lt}
use Rattle.span.specs.Span.{kept}
use Rattle.span.proofs.Spans.{kept_lt}
use Rattle.rows.specs.Place.{Placing}
use Rattle.record.specs.Record.{record_of, excess_of}
use Rattle.record.specs.Tables.{Tables}
use Rattle.record.proofs.Excesses.{excess_fits}
use Rattle.record.proofs.Marks.{kinds_in_lem}
use Rattle.build.specs.Built.{Refusal}
use Rattle.build.specs.Build.{cares_from, placing_of, aux_of}
use Rattle.build.proofs.Writing.Written.{kept_room}
use Rattle.build.proofs.Holding.Passed.{Passed}
use Rattle.build.proofs.Holding.Ends.{placing_rows, placing_cells, accepted_outcome}
use Rattle.print.specs.Print.{page_of, text_of}
use Rattle.print.proofs.Pages.Sizes.{page_low}
use Rattle.print.proofs.Pages.Formed.{masks_low}
use Rattle.answer.specs.Answer.{page_size}
use Rattle.answer.proofs.Fits.Placed.{Placed, cares_low, placed_low}

page_same : (numbers : List ℕ) (excess : ℤ) (kept : ℕ) {m m' h h' g g' a a' : List ℕ} → m ≡ m' → h ≡ h' → g ≡ g' → a ≡ a'
    → page_of numbers excess m kept h g a ≡ page_of numbers excess m' kept h' g' a'
page_same numbers excess kept p q r s = rw (p, q, r, s)

module _ (n n1 : ℕ) (second : Refusal) (ks : List Kind) (cells : ℕ) (vs : List ℕ) (t : Tables) (R : Passed n n1 second ks cells vs t) where
  abbrev P : Placing
  P = placing_of n1 ks cells vs

  -- the numbers of the first line
  abbrev numbers : List ℕ
  numbers = n ∷ length ks ∷ n1 ∷ (length ks - n1) ∷ length vs ∷ cells ∷ P.state.tries ∷ []

  abbrev excess : ℤ
  excess = excess_of (length ks) (length vs)

  placed : Placed P.state (2 ^ n1)
  unfolding placing_of cares_from
  placed =
      placed_low (cares_from 1 n1 ks vs) (2 ^ n1) cells (cares_low (row_of n1 ks) (column_of n1 ks) 1 vs (omega (arith, R.list.listed.few))) R.list.few_cells
      (length-replicate (2 ^ n1) 0) (length-replicate cells 0)

  rows_low : 2 ^ n1 ≤ max_rows
  rows_low = pow_mono {i = n1} {j = max_side} R.split.rows_few

  numbers_low : All (λ x. x < 2 ^ 64) numbers
  numbers_low =
      let s = R.split in
      let l = R.list in (
        omega (arith, l.listed.inputs),
        (
          omega (arith, s.few),
          (
            omega (arith, s.rows_few),
            (
              omega (arith, s.few),
              (omega (arith, l.listed.few), (omega (arith, l.few_cells), (omega (arith, placed.tries, rows_low), tt))),
            ),
          ),
        ),
      )

  kept_low : kept n ks < 2 ^ 64
  kept_low = lt_of_lt_of_le (kept_lt n ks) (pow_mono {i = n} {j = max_inputs} R.list.listed.inputs)

  words_low : All (λ x. x < 2 ^ 64) (aux_of n n1 ks vs)
  words_low = (
    omega arith,
    alls.all_map (λ (x : ℕ). x < 2 ^ 64) (word_of n n1 ks (kept n ks)) vs
        (all_map _ _ (λ v h. word_lt n n1 ks (kept n ks) v R.split.rows_in max_inputs (kept_lt n ks) (kept_room R.list.listed R.split)) vs R.list.listed.within),
  )

  words_length : length (aux_of n n1 ks vs) ≡ suc (length vs)
  words_length = ap suc (length-map vs (word_of n n1 ks (kept n ks)))

  text_is : text_of (accepted_outcome n n1 ks cells vs t).built.unit (accepted_outcome n n1 ks cells vs t).tables
      ≡ page_of numbers excess (map mask_of ks) (kept n ks) P.state.h P.state.g (aux_of n n1 ks vs)
  unfolding text_of record_of
  text_is =
      page_same numbers excess (kept n ks)
      (ap (map mask_of) (kinds_in_lem n1 ks))
      (take_at P.state.h (drop (length P.state.h) t.h) (2 ^ n1) (placing_rows n1 ks cells vs))
      (take_at P.state.g (drop (length P.state.g) t.g) cells (placing_cells n1 ks cells vs))
      (take_at (aux_of n n1 ks vs) (drop (length (aux_of n n1 ks vs)) t.aux) (suc (length vs)) words_length)

  pub unit_low : length (text_of (accepted_outcome n n1 ks cells vs t).built.unit (accepted_outcome n n1 ks cells vs t).tables) ≤ page_size
  unit_low =
      rw text_is
      (omega (
        arith,
        page_low numbers excess (map mask_of ks) (kept n ks) P.state.h P.state.g (aux_of n n1 ks vs) numbers_low
            (excess_fits (length ks) (length vs) (omega (arith, R.split.few)) (omega (arith, R.list.listed.few))) (masks_low n R.list.listed.inputs ks R.split.right) kept_low placed.displacements placed.words words_low,
        length-map ks mask_of,
        R.split.few,
        placing_rows n1 ks cells vs,
        rows_low,
        placing_cells n1 ks cells vs,
        R.list.few_cells,
        words_length,
        R.list.listed.few,
      ))
