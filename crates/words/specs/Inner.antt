-- What the contracts of inner functions cite, and no public contract.
use Rattle.std.specs.Prelude.{ℕ, true, false, List, length, drop}
use Rattle.record.specs.declared.Record.{Record}
use Rattle.record.specs.Tables.{Tables}
use Rattle.print.specs.Print.{Printed, fitted, print_of}
use Rattle.listing.specs.Listing.{list_text}
use Rattle.find.specs.Find.{find_text}
use Rattle.input.specs.Opens.{opens}
use Rattle.words.specs.Words.{says, show_word, list_word, find_word}

-- what a call leaves that prints a unit, its list or its keys
unfoldable pub unit_printed : List ℕ → Record → Tables → List ℕ → Printed
unfolding opens print_of fitted list_text find_text
unit_printed given u t out =
    elim (says show_word given) [
      | true ↦ print_of u t out
      | false ↦ elim (says list_word given) [ true ↦ fitted (list_text u t) out | false ↦ fitted (find_text (drop (length find_word) given) u t) out ]
    ]
