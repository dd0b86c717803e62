-- A unit printed: its text, and what a call leaves (SCOPE 14.6 to 14.8).
use Rattle.std.specs.Prelude.{ℕ, suc, ◌-◌, ◌^◌, true, false, List, [], ◌∷◌, ◌++◌, map, leb, ℤ, length, take, drop}
use Rattle.vectors.specs.Variable.{mask_of}
use Rattle.record.specs.declared.Record.{Record}
use Rattle.record.specs.Record.{kinds_in}
use Rattle.record.specs.Tables.{Tables}
use Rattle.record.specs.Formed.{well_formed}
use Rattle.print.specs.Ascii.{ascii}
use Rattle.print.specs.Decimal.{signed}
use Rattle.print.specs.Line.{space, newline, fields, line, lines, beside}

-- the names that the lines open with: the six of a unit, and that of a refusal
abbrev pub unit_name : List ℕ
unit_name = ascii "unit"

abbrev pub vars_name : List ℕ
vars_name = ascii "vars"

abbrev pub rest_name : List ℕ
rest_name = ascii "rest"

abbrev pub h_name : List ℕ
h_name = ascii "h"

abbrev pub g_name : List ℕ
g_name = ascii "g"

abbrev pub aux_name : List ℕ
aux_name = ascii "aux"

abbrev pub refused_name : List ℕ
refused_name = ascii "refused"

-- line one, with its last number signed
unfoldable pub head_line : List ℕ → ℤ → List ℕ
unfolding fields signed
head_line numbers excess = unit_name ++ fields numbers ++ (space ∷ signed excess) ++ (newline ∷ [])

-- SCOPE 14.6: six lines, the first, the masks of the variables, the mask of the kept inputs, and the three tables
unfoldable pub page_of : List ℕ → ℤ → List ℕ → ℕ → List ℕ → List ℕ → List ℕ → List ℕ
unfolding head_line line
page_of numbers excess masks kept h g aux =
    head_line numbers excess
    ++ line vars_name masks
    ++ line rest_name (kept ∷ [])
    ++ line h_name h
    ++ line g_name g
    ++ line aux_name aux

-- the numbers of the first line, with that of the column variables in fourth place, and without the excess
abbrev pub numbers_of : Record → List ℕ
numbers_of u = u.n ∷ u.p ∷ u.n1 ∷ (u.p - u.n1) ∷ u.k ∷ u.cells ∷ u.tries ∷ []

-- the page of a unit: of each table the words that the unit has
unfoldable pub text_of : Record → Tables → List ℕ
unfolding page_of
text_of u t =
    page_of (numbers_of u) u.excess (map mask_of (kinds_in u)) u.kept (take (2 ^ u.n1) t.h) (take u.cells t.g) (take (suc u.k) t.aux)

-- SCOPE 14.8: number and place of a refusal
abbrev pub refused_text : ℕ → ℕ → List ℕ
refused_text number place = line refused_name (number ∷ place ∷ [])

-- ---- what a call leaves: how many bytes it wrote, and the bytes of the target after it

pub record Printed : Type 0 where
  pub count : ℕ
  pub out : List ℕ

abbrev pub printed : ℕ → List ℕ → Printed
printed count out = record { count = count; out = out }

-- the text in front, and the bytes past it as they were; nothing where the target is shorter than the text
unfoldable pub fitted : List ℕ → List ℕ → Printed
fitted text out = elim (leb (length text) (length out)) [ true ↦ printed (length text) (text ++ drop (length text) out) | false ↦ printed 0 out ]

-- nothing where the unit is not well formed for the tables
unfoldable pub print_of : Record → Tables → List ℕ → Printed
unfolding well_formed text_of fitted
print_of u t out = elim (well_formed u t) [ true ↦ fitted (text_of u t) out | false ↦ printed 0 out ]

-- more numbers than anything printed has
abbrev pub max_fields : ℕ
max_fields = 8192

-- numbers, a line each; nothing where they are too many
unfoldable pub lines_of : List ℕ → List ℕ → Printed
unfolding lines fitted
lines_of xs out = elim (leb (length xs) max_fields) [ true ↦ fitted (lines xs) out | false ↦ printed 0 out ]

-- more bytes than any text has whose lines get numbers
abbrev pub max_bytes : ℕ
max_bytes = 65536

-- a text's lines with their numbers; nothing where the text is too long
unfoldable pub beside_of : List ℕ → List ℕ → List ℕ → Printed
unfolding beside fitted
beside_of bytes ns out = elim (leb (length bytes) max_bytes) [ true ↦ fitted (beside bytes ns) out | false ↦ printed 0 out ]
