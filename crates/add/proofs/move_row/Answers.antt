use Prim.Native.Nat.{◌+◌}
use native.Mathlib.Omega.{arith}
use mathlib.Core.Path.{sym, ap, ◌∙◌}
use lib.Seq.{length-take-le}
use Rattle.std.proofs.Common.{Err}
use Rattle.refusal.specs.declared.Refused.{Refused}
use Rattle.rows.specs.Told.{fit_told}
use Rattle.build.specs.Built.{told}
use Rattle.build.specs.Build.{accepted}
use Rattle.add.specs.Inner.Mates.{refitted}
use Rattle.add.proofs.Moving.Outcomes.{moved_low, moved_at, moved_none}
use Rattle.add.proofs.move_row.Goals as goal

pub slice_bounds-words-end : goal.slice_bounds-words-end
slice_bounds-words-end c = omega (arith, c.requires.words)

pub invariant_of-row : goal.invariant_of-row
invariant_of-row c =
    let a = length-take-le (c.args.unit.k + 1) c.args.aux.now (omega (arith, c.requires.words)) in
    record { words = (omega (arith, a), omega (arith, a, c.requires.few)); cells = omega (arith, a, c.requires.firsts_held); column = c.requires.column }

pub refit-fit-requires : goal.refit-fit-requires
refit-fit-requires c =
    let g = length-take-le c.args.unit.cells c.args.g.now c.requires.cells in
    record { few = omega (arith, g, c.requires.cells_few); stands = c.requires.stands; held = c.requires.holds }

pub overflow_cast-h : goal.overflow_cast-h
overflow_cast-h c = omega (arith, moved_low _ _ _ _ _ _ c.requires _ (sym c.refit-fit.ensures.fit ∙ (ap fit_told c.in-Ok.is)))

pub returns-in-Ok : goal.returns-in-Ok
returns-in-Ok c =
    let f = c.refit-fit in
    moved_at _ _ _ _ _ _ c.requires _ _ _ _ (sym f.ensures.fit ∙ (ap fit_told c.in-Ok.is)) (ap accepted c.accept.ensures.value) (f.ensures.cells ∙ ap (refitted _ _ _ _) (ap fit_told c.in-Ok.is)) c.accept.ensures.aux_after

pub returns-in-Err : goal.returns-in-Err
returns-in-Err c =
    let f = c.refit-fit in
    moved_none _ _ _ _ _ _ c.requires _ _ _ _ (sym f.ensures.fit ∙ (ap fit_told c.in-Err.is)) (ap (λ (e : Refused). told (Err e)) c.at.ensures) (f.ensures.cells ∙ ap (refitted _ _ _ _) (ap fit_told c.in-Err.is))
