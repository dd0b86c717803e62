use mathlib.Core.Path.{◌≡◌, sym, ◌∙◌}
use mathlib.Core.Bool.{true, false}
use Rattle.vectors.specs.Bounds.{outside}
use Rattle.record.specs.Tables.{Tables, lent}
use Rattle.record.specs.Formed.{well_formed}
use Rattle.recover.proofs.Recovery.{recover_unformed, recover_outside, recover_from}
use Rattle.recover.proofs.recover.Goals as goal
use Rattle.recover.proofs.recover.Goals.{Else-not-well_formed, Else-outside, Start}

abbrev tables : Start → Tables
tables s = lent s.args.h.now s.args.g.now s.args.aux.now

formed : (c : Else-not-well_formed) → well_formed c.args.unit (tables c.before.before.before.before.before.before) ≡ true
formed c = sym c.well_formed-2.ensures ∙ c.if-not-well_formed.false

number_in : (c : Else-outside) → let a = c.args in outside 1 a.unit.k a.i ≡ false
number_in c = sym c.outside.ensures ∙ c.if-outside.false

pub returns-then-not-well_formed : goal.returns-then-not-well_formed
returns-then-not-well_formed c = recover_unformed _ _ _ (sym c.well_formed-2.ensures ∙ c.if-not-well_formed.true)

pub returns-then-outside : goal.returns-then-outside
returns-then-outside c =
    recover_outside _ _ _ (formed (goal.at.returns-then-outside c).Else-not-well_formed) (sym c.outside.ensures ∙ c.if-outside.true)

pub returns : goal.returns
returns c =
    c.numbered.ensures ∙ recover_from _ _ _ (formed (goal.at.returns c).Else-not-well_formed) (number_in (goal.at.returns c).Else-outside)
