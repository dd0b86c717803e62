use native.Mathlib.Numerals.{add-one}
use mathlib.Core.Path.{sym, ap, ◌∙◌}
use Rattle.build.specs.Build.{accepted}
use Rattle.add.proofs.Moving.Outcomes.{placed_here, placed_moved}
use Rattle.add.proofs.place_in.Goals as goal

pub returns-then-free : goal.returns-then-free
returns-then-free c = placed_here _ _ _ _ _ _ c.requires _ _ _ (sym c.free.ensures ∙ c.if-free.true) (ap accepted c.accept.ensures.value) (add-one _) c.accept.ensures.aux_after

pub returns : goal.returns
returns c = c.move_row.ensures ∙ placed_moved _ _ _ _ _ _ c.requires (sym c.free.ensures ∙ c.if-free.false)
