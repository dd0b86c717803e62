-- The vector that a comparison word and a column fix.
use Rattle.std.specs.Prelude.{ℕ, ◌+◌, ◌-◌, ◌^◌, Option, None, Some, Bool, true, false, ◌&&◌, List, eqb, leb, ltb, length}
use Rattle.lists.specs.First.{first_from}
use Rattle.vectors.specs.declared.Kind.{Kind}
use Rattle.vectors.specs.Variable.{column_of}
use Rattle.vectors.specs.Word.{word_of}
use Rattle.span.specs.Span.{sound_of}

-- SCOPE 10.2: the vector with that row, column and kept inputs: the first of n bits that has the word and the column
unfoldable pub vector_of : ℕ → ℕ → List Kind → ℕ → ℕ → ℕ → ℕ
unfolding first_from word_of
vector_of n n1 ks mask word column = first_from (2 ^ n) (λ x. eqb (word_of n n1 ks mask x) word && eqb (column_of n1 ks x) column) 0

-- SCOPE 10.3, 13.2: variables and mask are sound, the column is below 2^n2, and the word is below 2^(n1 + n - p)
abbrev pub fixes : ℕ → ℕ → List Kind → ℕ → ℕ → ℕ → Bool
fixes n n1 ks mask word column =
    leb n1 (length ks) && ltb column (2 ^ (length ks - n1)) && sound_of n ks mask && ltb word (2 ^ (n1 + n - length ks))

unfoldable pub found_by : ℕ → ℕ → List Kind → ℕ → ℕ → ℕ → Option ℕ
unfolding vector_of sound_of
found_by n n1 ks mask word column =
    elim (fixes n n1 ks mask word column) [
      | true ↦ Some (vector_of n n1 ks mask word column)
      | false ↦ None
    ]
