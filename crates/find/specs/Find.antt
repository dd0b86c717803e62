-- Keys found in a unit: behind each key its number, 0 where it is not registered (SCOPE 14.18).
use Rattle.std.specs.Prelude.{ℕ, true, false, List, map, eqb}
use Rattle.record.specs.declared.Record.{Record}
use Rattle.record.specs.Tables.{Tables}
use Rattle.lookup.specs.Lookup.{lookup_of}
use Rattle.many.specs.Lookups.{Many}
use Rattle.many.specs.Lookups.{first_refused}
use Rattle.print.specs.Ascii.{ascii}
use Rattle.print.specs.Line.{line, beside}
use Rattle.print.specs.Print.{refused_text}
use Rattle.find.specs.Keys.{good_keys, values_in}

-- for words that are no keys
abbrev pub input_text : List ℕ
input_text = ascii "input\n"

-- the index of each key
unfoldable pub indices_of : Record → Tables → List ℕ → List ℕ
unfolding lookup_of
indices_of u t xs = map (λ (x : ℕ). (lookup_of u t x).index) xs

-- what a search says: a refusal, or each key's line with its index
unfoldable pub found_text : List ℕ → Record → Tables → Many → List ℕ
unfolding indices_of beside line
found_text text u t e =
    elim (eqb e.refusal 0) [ true ↦ beside text (indices_of u t (values_in text)) | false ↦ refused_text e.refusal e.place ]

unfoldable pub find_text : List ℕ → Record → Tables → List ℕ
unfolding good_keys found_text first_refused lookup_of
find_text text u t =
    elim (good_keys text) [ true ↦ found_text text u t (first_refused (lookup_of u t) 1 (values_in text)) | false ↦ input_text ]
