-- What a call of `read` leaves, put together.
use Rattle.std.specs.Prelude.{ℕ, Result, Ok, Err}
use Rattle.refusal.specs.declared.Refusal.{Refusal}
use Rattle.refusal.specs.Refusal.{number_of}
use Rattle.record.specs.declared.Record.{Record}
use Rattle.record.specs.Record.{blank_record}
use Rattle.record.specs.Tables.{Tables}
use Rattle.file.specs.Read.{Reading}

-- the refusal's number and its place, 0 and 0 where the call is accepted; the unit, blank beside a refusal
pub record Loaded : Type 0 where
  pub refusal : ℕ
  pub place : ℕ
  pub unit : Record

-- a unit, or a refusal by name
abbrev pub told : Result Record Refusal → Loaded
told (Ok u) = record { refusal = 0; place = 0; unit = u }
told (Err refused) = record { refusal = number_of refused; place = 0; unit = blank_record }

-- the answer, and the tables after the call
abbrev pub after : Loaded → Tables → Reading
after r t = record { refusal = r.refusal; place = r.place; unit = r.unit; tables = t }
