use Rattle.std.proofs.Common.{◌<◌, length, arith, sym, ap, ◌∙◌}
use lib.Seq.{length-take-le}
use Rattle.record.specs.Tables.{lent}
use Rattle.record.specs.Inner.Formed.{WellFormed}
use Rattle.record.proofs.Formed.{well_formed_facts}
use Rattle.lists.specs.First.{place_number}
use Rattle.recover.proofs.Firsts.{holding_place}
use Rattle.recover.proofs.Recovery.{from_none, from_held}
use Rattle.recover.proofs.numbered.Goals as goal
use Rattle.recover.proofs.numbered.Goals.{Start}

facts : (s : Start) → WellFormed s.args.unit (lent s.args.h.now s.args.g.now s.args.aux.now)
facts s = well_formed_facts s.args.unit _ s.requires.formed

word_held : (s : Start) → s.args.i < length s.args.aux.now
word_held s = omega (arith, (facts s).words_held, s.requires.inside)

pub slice_bounds-first_cell-end : goal.slice_bounds-first_cell-end
slice_bounds-first_cell-end c =
    sym (length-take-le c.args.unit.cells c.args.g.now (facts (goal.at.slice_bounds-first_cell-end c).Start).cells_held)

pub returns-in_default : goal.returns-in_default
returns-in_default c = from_none _ _ _ _ (holding_place _ _ ∙ ap place_number (sym c.in_default.ensures))

pub offset_bounds-aux-i : goal.offset_bounds-aux-i
offset_bounds-aux-i c = omega (arith, word_held (goal.at.offset_bounds-aux-i c).Start, c.well_formed.1.1.1.0)

pub bounds-aux-i : goal.bounds-aux-i
bounds-aux-i c = word_held (goal.at.bounds-aux-i c).Start

pub from_cell-requires : goal.from_cell-requires
from_cell-requires c = let f = facts (goal.at.from_cell-requires c).Start in record { formed = (f.bounds, f.inputs, f.rows_held) }

pub returns : goal.returns
returns c =
    c.from_cell.ensures c.args.g.now c.args.aux.now c.requires.formed ∙ from_held _ _ _ _ _ (holding_place _ _ ∙ ap place_number (sym c.in-Some.ensures))
