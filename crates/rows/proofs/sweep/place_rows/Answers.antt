use Rattle.rows.proofs.Sweeps.Going.{swept_back, swept_all}
use Rattle.rows.proofs.sweep.place_rows.Goals as goal

pub undo-requires : goal.undo-requires
undo-requires c = record { some = c.requires.inside.0; within = (swept_back _ _ _ _ _ _ _ _ c.if-is_err.ensures.value c.place_levels-placed.ensures).way.within }

pub returns-then-is_err : goal.returns-then-is_err
returns-then-is_err c =
    let e = swept_back _ _ _ _ _ _ _ _ c.if-is_err.ensures.value c.place_levels-placed.ensures in
    rw (c.undo.ensures.h_after, c.undo.ensures.g_after, c.place_levels-placed.auto.h, e.way.back) e.ends

pub returns-else-is_err : goal.returns-else-is_err
returns-else-is_err c = swept_all _ _ _ _ _ _ _ _ c.if-is_err.ensures.value c.place_levels-placed.ensures
