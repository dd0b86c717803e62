-- A list packed: what is written for a text (SCOPE 14.15).
use Rattle.std.specs.Prelude.{ℕ, true, false, List, eqb}
use Rattle.record.specs.Tables.{Tables}
use Rattle.build.specs.Built.{Built}
use Rattle.build.specs.Build.{Outcome}
use Rattle.print.specs.Line.{line}
use Rattle.print.specs.Print.{Printed, printed, fitted, refused_text}
use Rattle.file.specs.File.{file_of}
use Rattle.file.specs.Write as write
use Rattle.file.specs.Write.{write_of}
use Rattle.answer.specs.Make.{Making, roomy, make_of}
use Rattle.answer.specs.Answer.{input_text}

-- bytes that everything written fits into
abbrev pub page_size : ℕ
page_size = 65536

-- what a build left: the unit's file, or the refusal
unfoldable pub packed : Outcome → List ℕ
unfolding file_of line
packed o =
    elim (eqb o.built.refusal 0) [
      | true ↦ file_of o.built.unit o.tables
      | false ↦ refused_text o.built.refusal o.built.place
    ]

-- ---- what a call leaves that writes the file of what a build left

-- as many bytes as the file has, and the target
abbrev pub filed : write.Outcome → Printed
filed o = printed o.written.length o.target

unfoldable pub pack_built : Built → Tables → List ℕ → Printed
unfolding write_of fitted
pack_built b t out =
    elim (eqb b.refusal 0) [ true ↦ filed (write_of b.unit t out) | false ↦ fitted (refused_text b.refusal b.place) out ]

-- ---- the whole

-- what is written for what a text left
unfoldable pub packed_or : Making → List ℕ
unfolding packed
packed_or m = elim m.good [ true ↦ packed m.outcome | false ↦ input_text ]

unfoldable pub pack_of : List ℕ → List ℕ
unfolding packed_or make_of
pack_of text = packed_or (make_of text roomy)
