-- A list of profile keys packed: what is written for lines of five numbers (SCOPE 21.10, 21.11).
use Rattle.std.specs.Prelude.{ℕ, zero, suc, ◌*◌, Bool, true, false, ◌&&◌, List, [], ◌∷◌, ◌++◌, map, eqb, leb, ltb, length, drop, Option, Some, None}
use Rattle.lists.specs.Members.{every}
use Rattle.input.specs.Opens.{opens}
use Rattle.input.specs.Input.{max_text, max_listed, input_of}
use Rattle.print.specs.Ascii.{ascii}
use Rattle.print.specs.Line.{newline}
use Rattle.answer.specs.Make.{roomy, program_allowance}
use Rattle.answer.specs.Answer.{input_text}
use Rattle.pack.specs.Pack.{packed}
use Rattle.profiles.specs.Keys.{build_keys}
use Rattle.dated.specs.Dated.{good_line, key_in}
use Rattle.keys.specs.declared.Asked as code

-- the line that may stand first
abbrev pub header : List ℕ
header = ascii "press,ink,substrate,screen,day\n"

unfoldable pub body : List ℕ → List ℕ
unfolding opens
body text = elim (opens header text) [ true ↦ drop (length header) text | false ↦ text ]

-- the lines of a text, the bytes of the one in hand given apart; the last may have no newline
unfoldable pub lines_from : List ℕ → List ℕ → List (List ℕ)
lines_from word [] = elim (eqb (length word) 0) [ true ↦ [] | false ↦ word ∷ [] ]
lines_from word (b ∷ bs) = elim (eqb b newline) [ true ↦ word ∷ lines_from [] bs | false ↦ lines_from (word ++ (b ∷ [])) bs ]

abbrev pub lines_in : List ℕ → List (List ℕ)
lines_in bytes = lines_from [] bytes

-- each line a key, and no more of them than a list may have vectors
unfoldable pub good_lines : List ℕ → Bool
unfolding lines_from every good_line
good_lines bytes = every good_line (lines_in bytes) && leb (length (lines_in bytes)) max_listed

-- the least power of two from p on that is at least m, d of them looked at
unfoldable pub power_from : ℕ → ℕ → ℕ → ℕ
power_from zero p m = p
power_from (suc d) p m = elim (ltb p m) [ true ↦ power_from d (2 * p) m | false ↦ p ]

-- so many doublings of 1 are enough for twice the longest list
abbrev pub doublings : ℕ
doublings = 12

-- the cells for so many keys: the least power of two that is at least twice as many
unfoldable pub cells_for : ℕ → ℕ
unfolding power_from
cells_for k = power_from doublings 1 (2 * k)

-- the cells that are asked for, or those for so many keys where none are
unfoldable pub cells_by : ℕ → ℕ → ℕ
unfolding cells_for
cells_by zero k = cells_for k
cells_by (suc cells) k = suc cells

-- the file of the unit of the keys, or the refusal; `input` where a line is no key
unfoldable pub lines_text : ℕ → ℕ → List ℕ → List ℕ
unfolding good_lines lines_from key_in cells_by build_keys packed
lines_text degree cells bytes =
    elim (good_lines bytes) [
      | true ↦ packed (build_keys degree (cells_by cells (length (lines_in bytes))) program_allowance (map key_in (lines_in bytes)) roomy)
      | false ↦ input_text
    ]

-- `input` where the text is too long, too
unfoldable pub keys_text : ℕ → ℕ → List ℕ → List ℕ
unfolding lines_text body
keys_text degree cells text = elim (leb (length text) max_text) [ true ↦ lines_text degree cells (body text) | false ↦ input_text ]

-- ---- the words of the call

-- the bytes of the longest words
abbrev pub max_asked : ℕ
max_asked = 62

-- degree and cells as the words ask for them; both 0 where they are not good
pub record Asked : Type 0 where
  pub good : Bool
  pub degree : ℕ
  pub cells : ℕ

-- what was read of the words
abbrev pub told : Option code.Asked → Asked
told (Some a) = record { good = true; degree = a.degree; cells = a.cells }
told None = record { good = false; degree = 0; cells = 0 }

-- degree and cells, read as those of a list whose n is 0
unfoldable pub asked_as : List ℕ → Asked
unfolding input_of
asked_as words = let i = input_of (48 ∷ newline ∷ words) 0 in record { good = i.good; degree = i.degree; cells = i.cells }

-- with no words degree 2, and cells by the number of keys
unfoldable pub asked_of : List ℕ → Asked
unfolding asked_as
asked_of words =
    elim (eqb (length words) 0) [
      | true ↦ record { good = true; degree = 2; cells = 0 }
      | false ↦ elim (leb (length words) max_asked) [ true ↦ asked_as words | false ↦ record { good = false; degree = 0; cells = 0 } ]
    ]

-- `input` where the words are not degree and cells
unfoldable pub keys_of : List ℕ → List ℕ → List ℕ
unfolding asked_of keys_text
keys_of words text = elim (asked_of words).good [ true ↦ keys_text (asked_of words).degree (asked_of words).cells text | false ↦ input_text ]
