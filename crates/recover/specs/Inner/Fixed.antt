-- The vector that a word and a column fix, as an answer.
use Rattle.std.specs.Prelude.{ℕ, ◌+◌, ◌-◌, ◌^◌, Option, None, Some, true, false, ◌&&◌, ltb}
use Rattle.span.specs.Span.{sound_of}
use Rattle.span.specs.Fixed.{vector_of}
use Rattle.record.specs.declared.Record.{Record}
use Rattle.recover.specs.Recover.{Recovered}
use Rattle.record.specs.Record.{kinds_in}
use Rattle.recover.specs.Recover.{recovered, not_recovered}

-- the answer with what is found
abbrev pub answered : Option ℕ → Recovered
answered (Some x) = recovered x
answered None = not_recovered 14

-- the vector that the word and the column fix
unfoldable pub vector_in : Record → ℕ → ℕ → Recovered
unfolding sound_of vector_of
vector_in u word column =
    elim (ltb column (2 ^ (u.p - u.n1)) && ltb word (2 ^ (u.n1 + u.n - u.p)) && sound_of u.n (kinds_in u) u.kept) [
      | false ↦ not_recovered 14
      | true ↦ recovered (vector_of u.n u.n1 (kinds_in u) u.kept word column)
    ]
