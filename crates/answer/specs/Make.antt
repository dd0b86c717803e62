-- What a text leaves: whether it is a list, and if so what the build of its unit leaves (SCOPE 14.1 to 14.4).
use Rattle.std.specs.Prelude.{ℕ, suc, ◌-◌, ◌^◌, Bool, true, false, Option, Some, None, Result, List, drop, replicate}
use Rattle.vectors.specs.Bounds.{max_cells, max_rows}
use Rattle.record.specs.Record.{blank_record}
use Rattle.record.specs.Tables.{Tables, lent}
use Rattle.refusal.specs.declared.Refused.{Refused}
use Rattle.record.specs.declared.Record.{Record}
use Rattle.build.specs.Built.{Built, told}
use Rattle.build.specs.Build.{Outcome, after, build_chosen}
use Rattle.input.specs.Input.{max_listed, good_text, numbers_in, input_of}

-- tables as long as any unit needs, so that refusals 5 and 12 never come
abbrev pub roomy : Tables
roomy = lent (replicate max_rows 0) (replicate max_cells 0) (replicate (suc max_listed) 0)

-- SCOPE 14.20: the tries that the program allows
abbrev pub program_allowance : ℕ
program_allowance = 2 ^ 32 - 1

pub record Making : Type 0 where
  pub good : Bool
  pub outcome : Outcome

-- beside a text that is no list
abbrev pub no_build : Built
no_build = record { refusal = 0; place = 0; needed = 0; unit = blank_record }

-- what the code's answer says, and the tables after the call
abbrev pub making : Option (Result Record Refused) → List ℕ → List ℕ → List ℕ → Making
making (Some r) h g aux = record { good = true; outcome = after (told r) h g aux }
making None h g aux = record { good = false; outcome = after no_build h g aux }

-- what a text leaves in the tables t; one that is no list, nothing
unfoldable pub make_of : List ℕ → Tables → Making
unfolding good_text build_chosen input_of numbers_in
make_of text t =
    elim (good_text text max_listed) [
      | true ↦ let i = input_of text max_listed in record { good = true; outcome = build_chosen i.n i.degree i.cells program_allowance (drop 3 (numbers_in text)) t }
      | false ↦ record { good = false; outcome = record { built = no_build; tables = t } }
    ]
