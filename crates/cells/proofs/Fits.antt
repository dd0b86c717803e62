-- Everything written is short, so that a target of a page gets it whole. Assumes nothing.
use Prim.Native.Nat.{ℕ, zero, suc, ◌^◌, ◌≤◌, ◌<◌}
use native.Mathlib.Omega.{arith}
use mathlib.Core.Path.{◌≡◌, refl}
use mathlib.Core.Bool.{Bool, true, false}
use mathlib.Core.List.{List, [], ◌∷◌}
use borrow.Author.Tests.{eqb-true}
use lib.Dec.{eqb}
use lib.ListN.{length, get_or, drop}
use Rattle.vectors.specs.Bounds.{max_cells}
use Rattle.build.specs.Build.{Outcome}
use Rattle.build.specs.Cells.{used}
use Rattle.build.proofs.Places.{chosen_place}
use Rattle.build.proofs.Cells.Placings.{used_le}
use Rattle.input.specs.Input.{max_listed, good_text, numbers_in}
use Rattle.print.specs.Sentence.{sentence}
use Rattle.print.proofs.Sentences.{widest, sentence_low}
use Rattle.print.proofs.Pages.Sizes.{refused_low}
use Rattle.answer.specs.Make.{roomy, program_allowance}
use Rattle.answer.proofs.Fits.Refused.{chosen_number}
use Rattle.cells.proofs.Least.{wide_length}
use Rattle.cells.specs.Cells.{line_size, cells_form, fewest, wide_build, cells_by, cells_of}

number_low : (n : ℕ) → n < 2 ^ 64 → (i : ℕ) → get_or (n ∷ []) i 0 < 2 ^ 64
number_low n l zero = l
number_low n l (suc i) = omega arith

count_low : (n : ℕ) → n < 2 ^ 64 → length (sentence (n ∷ []) cells_form) ≤ line_size
unfolding widest
count_low n l = omega (arith, sentence_low (n ∷ []) (number_low n l) cells_form)

built_low : (ns : List ℕ) → length (fewest (wide_build ns).built (wide_build ns).tables.g) ≤ line_size
unfolding fewest wide_build
built_low ns = go (eqb o.built.refusal 0) refl
  where
    o : Outcome
    o = wide_build ns

    go : (q : Bool) → eqb o.built.refusal 0 ≡ q → length (fewest o.built o.tables.g) ≤ line_size
    go true q =
        let g = o.tables.g in
        rw (q, fewest) (count_low (used g) (omega (arith, used_le g, wide_length ns (eqb-true o.built.refusal 0 q))))
    go false q =
        let n = get_or ns 0 0 in
        let d = get_or ns 1 0 in
        let vs = drop 3 ns in
        rw (q, fewest)
        (omega (arith, refused_low o.built.refusal o.built.place (omega (arith, chosen_number n d max_cells vs roomy)) (omega (arith, chosen_place n d max_cells program_allowance vs roomy))))

-- of every text
pub cells_fits : (text : List ℕ) → length (cells_of text) ≤ line_size
unfolding cells_of cells_by
cells_fits text = go (good_text text max_listed) refl
  where
    go : (b : Bool) → good_text text max_listed ≡ b → length (cells_by b (numbers_in text)) ≤ line_size
    go true q = built_low (numbers_in text)
    go false q = omega arith
