use borrow.Author.Rules.{rules}
use native.Mathlib.Omega.{arith}
use mathlib.Core.Path.{refl, sym, ap, ◌∙◌}
use lib.ListN.{length}
use Rattle.choice.proofs.Counting.Halves.{halves_low}
use Rattle.choice.proofs.Searching.Answered.{rests_size, made_sheets, made_beaten, made_best}
use Rattle.choice.specs.Inner.Best.{Searched}
use Rattle.choice.proofs.best.best.Goals as goal
use Rattle.choice.proofs.best.best.Goals.{Start}

-- what the search is made for
searched : (c : Start) → Searched c.args.groups.now.sizes.now c.args.groups.now.words.now c.args.n
searched c = let g = c.args.groups.now.grouped in record { some = c.requires.inputs.0; inputs = c.requires.inputs.1; few = g.few; sum = g.sum }

pub most-most-requires : goal.most-most-requires
most-most-requires c =
    let g = c.args.groups.now.grouped in
    halves_low c.args.groups.now.sizes.now (omega (arith, g.sum, g.few))

pub lay-laid-requires : goal.lay-laid-requires
lay-laid-requires c = record { most = c.most-most.ensures; len = (c.requires.len, refl, search rules) }

pub slice_bounds-sheet-end : goal.slice_bounds-sheet-end
slice_bounds-sheet-end c = let o = c.lay-laid.ensures in o.whole_is ∙ sym (ap length o.ends_are)

pub slice_bounds-sheet-end-2 : goal.slice_bounds-sheet-end-2
slice_bounds-sheet-end-2 c = rests_size c.lay-laid.ensures

pub invariant_of-sheet : goal.invariant_of-sheet
invariant_of-sheet c =
    let s = searched (goal.at.invariant_of-sheet c).Start in
    record {
      inputs = s.inputs;
      judged = rw c.most-most.ensures (made_sheets _ _ _ _ _ _ _ _ s c.lay-laid.ensures c.draw.ensures);
      beaten = made_beaten _ _ _ _ _ _ _ _ s c.lay-laid.ensures c.draw.ensures _ c.requires.ties;
    }

pub best_of-requires : goal.best_of-requires
best_of-requires c = c.requires.inputs.0

pub returns : goal.returns
returns c = c.best_of.ensures ∙ made_best _ _ _ _ _ _ _ _ (searched (goal.at.returns c).Start) c.lay-laid.ensures c.draw.ensures _
