-- Vectors added to a unit one after another, and what is written of the unit then (SCOPE 22.9).
use Rattle.std.specs.Prelude.{ℕ, zero, suc, true, false, List, [], ◌∷◌}
use Rattle.record.specs.declared.Record.{Record}
use Rattle.record.specs.Tables.{Tables}
use Rattle.build.specs.Build.{Outcome, accepted}
use Rattle.add.specs.Add.{add_of}
use Rattle.pack.specs.Pack.{packed}
use Rattle.find.specs.Keys.{good_keys, values_in}
use Rattle.find.specs.Find.{input_text}

-- the vectors added in their order, until one is refused
unfoldable pub add_all : Record → Tables → List ℕ → Outcome
unfolding add_of
add_all u t [] = record { built = accepted u; tables = t }
add_all u t (x ∷ xs) =
    let o = add_of u t x in
    elim o.built.refusal [ zero ↦ add_all o.built.unit o.tables xs | suc m ↦ o ]

-- the file of the amended unit, or the first refusal
unfoldable pub amend_text : List ℕ → Record → Tables → List ℕ
unfolding good_keys packed add_all
amend_text text u t = elim (good_keys text) [ true ↦ packed (add_all u t (values_in text)) | false ↦ input_text ]

-- the tables, with the vectors added up to the first that is refused
unfoldable pub amend_tables : List ℕ → Record → Tables → Tables
unfolding good_keys add_all
amend_tables text u t = elim (good_keys text) [ true ↦ (add_all u t (values_in text)).tables | false ↦ t ]
