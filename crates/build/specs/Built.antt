-- The answers of the builds: in numbers, as SCOPE has them, and as the code gives them.
use Rattle.std.specs.Prelude.{ℕ, Result, Ok, Err}
use Rattle.refusal.specs.declared.Refused.{Refused}
use Rattle.refusal.specs.Refusal.{number_of, needed_of}
use Rattle.record.specs.declared.Record.{Record}
use Rattle.record.specs.Record.{blank_record}

-- a refusal with its place; 0 and 0 for none
pub record Refusal : Type 0 where
  pub number : ℕ
  pub place : ℕ

-- the refusal's number and its place, 0 and 0 where the call is accepted; beside 13 the least number of cells with which its row would have a place, else 0; the record, blank beside a refusal
pub record Built : Type 0 where
  pub refusal : ℕ
  pub place : ℕ
  pub needed : ℕ
  pub unit : Record

-- what the code's answer says
abbrev pub told : Result Record Refused → Built
told (Ok u) = record { refusal = 0; place = 0; needed = 0; unit = u }
told (Err r) = record { refusal = number_of r.refusal; place = r.place; needed = needed_of r.refusal; unit = blank_record }

-- a refusal as an answer: nothing is needed, and the record is blank
abbrev pub refused_as : Refusal → Built
refused_as r = record { refusal = r.number; place = r.place; needed = 0; unit = blank_record }

-- what the checks say: no number and no place where they pass
abbrev pub checked : Result Unit Refused → Built
checked (Ok _) = record { refusal = 0; place = 0; needed = 0; unit = blank_record }
checked (Err r) = told (Err r)
