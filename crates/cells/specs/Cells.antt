-- The least L of a list: what is written for a text (SCOPE 14.19, 16.8).
use Rattle.std.specs.Prelude.{ℕ, Bool, true, false, List, [], ◌∷◌, eqb, get_or, drop}
use Rattle.vectors.specs.Bounds.{max_cells}
use Rattle.build.specs.Built.{Built}
use Rattle.build.specs.Build.{Outcome, build_chosen}
use Rattle.build.specs.Cells.{used}
use Rattle.input.specs.Input.{max_listed, good_text, numbers_in}
use Rattle.print.specs.Ascii.{ascii}
use Rattle.print.specs.Line.{line}
use Rattle.print.specs.Print.{refused_text}
use Rattle.print.specs.Sentence.{sentence}
use Rattle.answer.specs.Make.{roomy, program_allowance}
use Rattle.answer.specs.Answer.{input_text}

-- bytes that everything written fits into
abbrev pub line_size : ℕ
line_size = 64

-- A: the least L
abbrev pub cells_form : List ℕ
cells_form = ascii "cells A\n"

-- what a build with all cells left: how many it takes of them, or the refusal
unfoldable pub fewest : Built → List ℕ → List ℕ
unfolding used sentence line
fewest b g = elim (eqb b.refusal 0) [ true ↦ sentence (used g ∷ []) cells_form | false ↦ refused_text b.refusal b.place ]

-- the build of the numbers of a list, whatever its L
unfoldable pub wide_build : List ℕ → Outcome
unfolding build_chosen
wide_build ns = build_chosen (get_or ns 0 0) (get_or ns 1 0) max_cells program_allowance (drop 3 ns) roomy

unfoldable pub cells_by : Bool → List ℕ → List ℕ
unfolding fewest wide_build
cells_by good ns = elim good [ true ↦ let o = wide_build ns in fewest o.built o.tables.g | false ↦ input_text ]

unfoldable pub cells_of : List ℕ → List ℕ
unfolding cells_by good_text numbers_in
cells_of text = cells_by (good_text text max_listed) (numbers_in text)
