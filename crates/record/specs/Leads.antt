-- Where a key leads: its cell, and the word that AUX would hold for it.
use Rattle.std.specs.Prelude.{ℕ, ◌+◌, get_or}
use Rattle.vectors.specs.Variable.{row_of, column_of}
use Rattle.vectors.specs.Word.{word_of}
use Rattle.record.specs.declared.Record.{Record}
use Rattle.record.specs.Record.{kinds_in}
use Rattle.record.specs.Tables.{Tables}

-- SCOPE 6.3: the comparison word of x
abbrev pub word_in : Record → ℕ → ℕ
word_in u x = word_of u.n u.n1 (kinds_in u) u.kept x

-- SCOPE 9.2: the displacement of the row of x and the column of x, added
abbrev pub cell_in : Record → Tables → ℕ → ℕ
cell_in u t x = get_or t.h (row_of u.n1 (kinds_in u) x) 0 + column_of u.n1 (kinds_in u) x
