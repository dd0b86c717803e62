-- The program's input: a text of decimal numbers, which are n, degree and L, then the vectors (SCOPE 14.1 to 14.3).
use Rattle.std.specs.Prelude.{ℕ, ◌-◌, Bool, true, false, cond, ◌&&◌, List, ◌++◌, map, eqb, leb, length, get_or, take, drop, Option, Some, None}
use Rattle.input.specs.declared.Input as code
use Rattle.input.specs.Fields.{fields}
use Rattle.lists.specs.Members.{every}
use Rattle.input.specs.Decimal.{good_field, value_of}

-- what a text says; of a text that is not good every number is 0
pub record Input : Type 0 where
  pub good : Bool
  pub n : ℕ
  pub degree : ℕ
  pub cells : ℕ
  pub count : ℕ

-- SCOPE 14.3 h: the bytes of the longest text, 64 KiB
abbrev pub max_text : ℕ
max_text = 65536

-- SCOPE 14.3 g: the vectors of the longest list that is read
abbrev pub max_listed : ℕ
max_listed = 1024

-- how long the text is without one final newline
abbrev pub body_length : List ℕ → ℕ
body_length text = cond (eqb (get_or text (length text - 1) 0) 10) (length text - 1) (length text)

abbrev pub body : List ℕ → List ℕ
body text = take (body_length text) text

-- how many numbers stand after the first three
abbrev pub listed : List ℕ → ℕ
listed text = length (fields (body text)) - 3

-- SCOPE 14.3: a text that may be read into a slice of so many words: not too long, each field a number, three numbers at least, and no more vectors than allowed or than words
unfoldable pub good_text : List ℕ → ℕ → Bool
unfolding every good_field fields
good_text text room =
    leb (length text) max_text
    && every good_field (fields (body text))
    && leb 3 (length (fields (body text)))
    && leb (listed text) max_listed
    && leb (listed text) room

abbrev pub no_input : Input
no_input = record { good = false; n = 0; degree = 0; cells = 0; count = 0 }

-- what was read
abbrev pub told : Option code.Input → Input
told (Some i) = record { good = true; n = i.n; degree = i.degree; cells = i.cells; count = i.count }
told None = no_input

-- SCOPE 14.2: the first three numbers, and how many vectors follow
unfoldable pub input_from : List ℕ → Input
input_from ns = record { good = true; n = get_or ns 0 0; degree = get_or ns 1 0; cells = get_or ns 2 0; count = length ns - 3 }

-- the numbers of a text
unfoldable pub numbers_in : List ℕ → List ℕ
unfolding fields value_of
numbers_in text = map value_of (fields (body text))

-- what the text says, with room for so many vectors
unfoldable pub input_of : List ℕ → ℕ → Input
unfolding good_text input_from numbers_in
input_of text room = elim (good_text text room) [ true ↦ input_from (numbers_in text) | false ↦ no_input ]

-- the lent words afterwards: the vectors, then the words past them as they were; of a text that is not good, all as they were
unfoldable pub vectors_of : List ℕ → List ℕ → List ℕ
unfolding good_text numbers_in
vectors_of text words =
    elim (good_text text (length words)) [ true ↦ drop 3 (numbers_in text) ++ drop (listed text) words | false ↦ words ]
