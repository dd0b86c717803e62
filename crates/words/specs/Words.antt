-- The program with words: what it writes for the words of its call and what it reads. Each word is a line (SCOPE 14.14 to 14.18).
use Rattle.std.specs.Prelude.{ℕ, Bool, true, false, ◌&&◌, ◌||◌, List, eqb, length, drop}
use Rattle.record.specs.declared.Record.{Record}
use Rattle.record.specs.Tables.{Tables}
use Rattle.input.specs.Opens.{opens}
use Rattle.print.specs.Ascii.{ascii}
use Rattle.print.specs.Line.{line}
use Rattle.print.specs.Print.{text_of, refused_text}
use Rattle.file.specs.Read.{Reading, read_of}
use Rattle.answer.specs.Make.{roomy}
use Rattle.answer.specs.Answer.{input_text, answer_of}
use Rattle.pack.specs.Pack.{pack_of}
use Rattle.listing.specs.Listing.{list_text}
use Rattle.find.specs.Find.{find_text}
use Rattle.why.specs.Why.{why_of}
use Rattle.amend.specs.Amend.{amend_text}
use Rattle.keys.specs.Keys.{keys_of}
use Rattle.cells.specs.Cells.{cells_of}

-- bytes that everything written fits into
abbrev pub page_size : ℕ
page_size = 131072

-- whether the bytes are the word
abbrev pub says : List ℕ → List ℕ → Bool
says word bytes = eqb (length bytes) (length word) && opens word bytes

abbrev pub pack_word : List ℕ
pack_word = ascii "pack\n"

abbrev pub why_word : List ℕ
why_word = ascii "why\n"

abbrev pub keys_word : List ℕ
keys_word = ascii "keys\n"

abbrev pub cells_word : List ℕ
cells_word = ascii "cells\n"

abbrev pub show_word : List ℕ
show_word = ascii "show\n"

abbrev pub list_word : List ℕ
list_word = ascii "list\n"

abbrev pub find_word : List ℕ
find_word = ascii "find\n"

abbrev pub add_word : List ℕ
add_word = ascii "add\n"

-- ---- words for the file of a unit

-- `show` and `list` alone, `find` and `add` with keys behind them
unfoldable pub asks_file : List ℕ → Bool
unfolding opens
asks_file given = says show_word given || (says list_word given || (opens find_word given || opens add_word given))

-- what is printed of a unit: its six lines, its list, or the keys with their numbers
unfoldable pub printed_of : List ℕ → Record → Tables → List ℕ
unfolding opens text_of list_text find_text
printed_of given u t =
    elim (says show_word given) [
      | true ↦ text_of u t
      | false ↦ elim (says list_word given) [ true ↦ list_text u t | false ↦ find_text (drop (length find_word) given) u t ]
    ]

-- what is written for a unit: its file with the keys added, or what is printed of it
unfoldable pub of_unit : List ℕ → Record → Tables → List ℕ
unfolding opens amend_text printed_of
of_unit given u t = elim (opens add_word given) [ true ↦ amend_text (drop (length add_word) given) u t | false ↦ printed_of given u t ]

-- what is written for what reading a file leaves; a refusal is one line
unfoldable pub of_reading : List ℕ → Reading → List ℕ
unfolding of_unit line
of_reading given r = elim (eqb r.refusal 0) [ true ↦ of_unit given r.unit r.tables | false ↦ refused_text r.refusal r.place ]

unfoldable pub of_file : List ℕ → List ℕ → List ℕ
unfolding of_reading read_of
of_file given file = of_reading given (read_of file roomy)

-- ---- all words

-- for words that are for no list: those for a file, and no others
unfoldable pub otherwise : List ℕ → List ℕ → List ℕ
unfolding asks_file of_file
otherwise given text = elim (asks_file given) [ true ↦ of_file given text | false ↦ input_text ]

-- no word: the unit of a list printed; `pack`: its file; `why`: what is wrong with it; `cells`: its least L; `keys`, with degree and L behind it
-- or alone: the file of the unit of a list of profile keys
unfoldable pub words_of : List ℕ → List ℕ → List ℕ
unfolding answer_of pack_of why_of cells_of keys_of opens otherwise
words_of given text =
    elim (eqb (length given) 0) [
      | true ↦ answer_of text
      | false ↦ elim (says pack_word given) [
        | true ↦ pack_of text
        | false ↦ elim (says why_word given) [
          | true ↦ why_of text
          | false ↦ elim (says cells_word given) [ true ↦ cells_of text | false ↦ elim (opens keys_word given) [ true ↦ keys_of (drop (length keys_word) given) text | false ↦ otherwise given text ] ]
        ]
      ]
    ]
