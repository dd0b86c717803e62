use Prim.Native.Nat.{ℕ, ◌+◌, ◌*◌, ◌≤◌}
use native.Mathlib.Omega.{arith}
use mathlib.Core.Path.{◌≡◌, sym, ap, ◌∙◌}
use mathlib.Core.List.{List}
use lib.ListN.{length, take, length-take}
use Rattle.lists.specs.Cut.{cut}
use Rattle.choice.specs.Inner.Layout.{ends_of}
use Rattle.choice.specs.Inner.Gain.{most_of, small_most}
use Rattle.choice.specs.Inner.Judged.{max_gain}
use Rattle.choice.proofs.Counting.Halves.{halves, halves_low}
use Rattle.choice.proofs.Laying.Laid.{whole_length}
use Rattle.choice.proofs.Laying.Room.{laid_out}
use Rattle.choice.proofs.lay.lay.Goals as goal
use Rattle.choice.proofs.lay.lay.Goals.{After-lay_whole-whole}

-- the halves of the large groups and of the small ones
parts : (c : After-lay_whole-whole)
    → let g = c.args.groups.now in
    most_of (ends_of (cut g.sizes.now g.words.now)) + small_most (cut g.sizes.now g.words.now) ≡ c.args.most
parts c = halves _ _ c.args.groups.now.grouped.sum ∙ sym c.requires.most

low : (c : After-lay_whole-whole) → c.args.most ≤ max_gain
low c =
    let p = c.args.groups.now.grouped in
    omega (arith, c.requires.most, halves_low c.args.groups.now.sizes.now (omega (arith, p.sum, p.few)))

-- what a list begins with is no longer than it
prefix : (r : ℕ) (l m : List ℕ) → take r l ≡ m → r ≡ length m → r ≤ length l
prefix r l m e q = omega (arith, ap length e, length-take r l)

pub slice_bounds-most-end : goal.slice_bounds-most-end
slice_bounds-most-end c = let w = c.lay_whole-whole.ensures in prefix _ _ _ w.ends_are w.whole_is

pub slice_bounds-most-end-2 : goal.slice_bounds-most-end-2
slice_bounds-most-end-2 c = let w = c.lay_whole-whole.ensures in w.whole_is ∙ sym (ap length w.ends_are)

pub most-requires : goal.most-requires
most-requires c =
    omega (arith, ap most_of c.lay_whole-whole.ensures.ends_are, parts (goal.at.most-requires c).After-lay_whole-whole, low (goal.at.most-requires c).After-lay_whole-whole)

pub overflow_sub-small : goal.overflow_sub-small
overflow_sub-small c =
    omega (arith, c.most.ensures, ap most_of c.lay_whole-whole.ensures.ends_are, parts (goal.at.overflow_sub-small c).After-lay_whole-whole)

pub lay_pairs-n-requires : goal.lay_pairs-n-requires
lay_pairs-n-requires c =
    let w = c.lay_whole-whole.ensures in
    record {
      len = (w.size, w.items_are, ap (λ k. 64 * k) w.whole_is ∙ sym (whole_length _));
      rests_len = (c.requires.len.2, omega (arith, c.most.ensures, ap most_of w.ends_are, parts (goal.at.lay_pairs-n-requires c).After-lay_whole-whole));
    }

pub returns : goal.returns
returns c =
    laid_out _ c.lay_whole-whole.ensures c.lay_pairs-n.ensures c.zero.ensures
