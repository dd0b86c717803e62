-- What a call of `write` leaves (SCOPE 20.9).
use Rattle.std.specs.Prelude.{ℕ, true, false, Result, Ok, Err, List, ltb, length}
use Rattle.refusal.specs.declared.Refusal.{Refusal}
use Rattle.refusal.specs.Refusal.{number_of}
use Rattle.record.specs.declared.Record.{Record}
use Rattle.record.specs.Tables.{Tables, over}
use Rattle.record.specs.Formed.{sound}
use Rattle.file.specs.File.{file_of}

-- the refusal's number and its place, 0 and 0 where the call is accepted; the file's length, 0 beside a refusal
pub record Written : Type 0 where
  pub refusal : ℕ
  pub place : ℕ
  pub length : ℕ

-- a length, or a refusal by name
abbrev pub told : Result ℕ Refusal → Written
told (Ok n) = record { refusal = 0; place = 0; length = n }
told (Err refused) = record { refusal = number_of refused; place = 0; length = 0 }

-- the answer, and the target's bytes after the call
pub record Outcome : Type 0 where
  pub written : Written
  pub target : List ℕ

abbrev pub after : Written → List ℕ → Outcome
after w target = record { written = w; target = target }

-- a refusal writes nothing
abbrev pub refused : ℕ → List ℕ → Outcome
refused number target = after (record { refusal = number; place = 0; length = 0 }) target

-- SCOPE 20.9: 20 where the target is shorter than the file; else the file, and the bytes past it as they were
abbrev pub filled : List ℕ → List ℕ → Outcome
filled file target =
    elim (ltb (length target) (length file)) [
      | true ↦ refused 20 target
      | false ↦ after (record { refusal = 0; place = 0; length = length file }) (over file target)
    ]

-- SCOPE 20.9: before that, 14 where the unit is not sound
unfoldable pub write_of : Record → Tables → List ℕ → Outcome
unfolding sound file_of
write_of u t target = elim (sound u t) [ true ↦ filled (file_of u t) target | false ↦ refused 14 target ]
