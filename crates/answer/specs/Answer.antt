-- The program: what it writes for what it reads (SCOPE 14.3, 14.4).
use Rattle.std.specs.Prelude.{ℕ, true, false, List, eqb}
use Rattle.build.specs.Build.{Outcome}
use Rattle.print.specs.Ascii.{ascii}
use Rattle.print.specs.Print.{text_of, refused_text}
use Rattle.answer.specs.Make.{Making, roomy, make_of}

-- bytes that every answer fits into
abbrev pub page_size : ℕ
page_size = 131072

-- for what is no list
abbrev pub input_text : List ℕ
input_text = ascii "input\n"

-- what a build left: the unit, or the refusal
unfoldable pub built_text : Outcome → List ℕ
unfolding text_of
built_text o =
    elim (eqb o.built.refusal 0) [
      | true ↦ text_of o.built.unit o.tables
      | false ↦ refused_text o.built.refusal o.built.place
    ]

-- what is written for what a text left
unfoldable pub made_text : Making → List ℕ
unfolding built_text
made_text m = elim m.good [ true ↦ built_text m.outcome | false ↦ input_text ]

-- what the program writes for a text
unfoldable pub answer_of : List ℕ → List ℕ
unfolding made_text make_of
answer_of text = made_text (make_of text roomy)
