use Prim.Native.Nat.{ℕ}
use mathlib.Core.Path.{ap, ◌∙◌}
use lib.ListN.{length, replicate}
use Rattle.record.specs.Record.{mark_built, record_of}
use Rattle.build.specs.Build.{accepted}
use Rattle.build.specs.Inner.Charts.{kinds_by}
use Rattle.build.proofs.Writing.Parts.{end_placed, end_stopped}
use Rattle.build.proofs.finish.finish.Goals as goal

pub accept-requires : goal.accept-requires
accept-requires c = c.place_all.auto.aux ∙ c.requires.0

pub returns-in-Ok : goal.returns-in-Ok
returns-in-Ok c =
    let t = c.args.chart in
    end_placed t.n t.n1 (kinds_by t) c.args.allowance t.vectors.now c.args.h.now c.args.g.now c.args.aux.now c.requires.1 c.requires.0 _ _ _ _ c.in-Ok.tries c.in-Ok.ensures
    (ap accepted c.accept.ensures.value ∙ ap (λ (d : ℕ). accepted (record_of mark_built t.n t.n1 (length t.vectors.now) (kinds_by t) d c.in-Ok.tries)) c.place_all.auto.g)
    c.accept.ensures.aux_after

pub returns-in-Err : goal.returns-in-Err
returns-in-Err c =
    let t = c.args.chart in
    end_stopped t.n t.n1 (kinds_by t) c.args.allowance t.vectors.now c.args.h.now c.args.g.now c.args.aux.now c.requires.1 c.requires.0 _ _ _ _ c.in-Err.stop c.in-Err.ensures
    c.refused.ensures
    (c.fill.ensures.after (λ y e. e) ∙ ap (λ (d : ℕ). replicate d 0) c.place_all.auto.aux)
