use mathlib.Core.Path.{◌≡◌, refl, ap, ◌∙◌}
use Rattle.std.proofs.Common.{Result, Ok, Err}
use Rattle.std.specs.Result.{result_unwrap_or}
use Rattle.record.specs.declared.Record.{Record}
use Rattle.refusal.specs.declared.Refusal.{Refusal}
use Rattle.load.specs.Load as load
use Rattle.flat.specs.Flat.{flat_of}
use Rattle.bridge.proofs.Answers.{read_left}
use Rattle.bridge.proofs.igu_read.Goals as goal

-- the unit of what was read, or a blank one
kept : (read is : Result Record Refusal) (blank : Record) → read ≡ is → result_unwrap_or read blank ≡ result_unwrap_or is blank
kept read is blank e = ap (λ (r : Result Record Refusal). result_unwrap_or r blank) e

pub returns-in-Ok : goal.returns-in-Ok
returns-in-Ok c =
    read_left (load.told (Ok c.in-Ok.field-0)) _ _ _ _ _ _ _ c.in-Ok.ensures
    (c.words.ensures ∙ ap flat_of (c.unwrap_or.ensures ∙ kept _ (Ok c.in-Ok.field-0) _ c.in-Ok.is)) refl

pub returns-in-Err : goal.returns-in-Err
returns-in-Err c =
    read_left (load.told (Err c.in-Err.refusal)) _ _ _ _ _ _ _ c.in-Err.ensures
    (c.words.ensures ∙ ap flat_of (c.unwrap_or.ensures ∙ kept _ (Err c.in-Err.refusal) _ c.in-Err.is ∙ c.blank.ensures)) (c.from.ensures ∙ c.number.ensures)
