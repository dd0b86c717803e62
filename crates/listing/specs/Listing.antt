-- The list that a unit holds, as the program writes it (SCOPE 14.17).
use Rattle.std.specs.Prelude.{ℕ, true, false, List, ◌∷◌}
use Rattle.record.specs.declared.Record.{Record}
use Rattle.record.specs.Tables.{Tables}
use Rattle.recover.specs.Every.{listed, list_in}
use Rattle.print.specs.Line.{line, lines}
use Rattle.print.specs.Print.{refused_text}

-- n and then the vectors, a line each; or the one line of refusal 14
unfoldable pub list_text : Record → Tables → List ℕ
unfolding listed list_in line lines
list_text u t = elim (listed u t) [ true ↦ lines (u.n ∷ list_in u t) | false ↦ refused_text 14 0 ]
