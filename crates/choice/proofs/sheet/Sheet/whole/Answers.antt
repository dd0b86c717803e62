use Prim.Native.Nat.{ℕ, ◌+◌, ◌-◌, ◌*◌, ◌/◌, ◌≤◌}
use native.Mathlib.Omega.{arith}
use mathlib.Core.Path.{◌≡◌, ap, ◌∙◌}
use mathlib.Core.List.{List}
use lib.Count.{ones}
use lib.ListN.{length, get_or}
use Rattle.choice.specs.Inner.Gain.{splits, most_of}
use Rattle.choice.specs.Inner.Judged.{max_gain, tally_at, Judgeable}
use Rattle.choice.proofs.Counting.Judging.{Hoping, hoping_start, hoping_on, hoping_end, hopeless, gain_whole, room_here, tallying_all, ends_high, ends_low}
use Rattle.choice.proofs.sheet.Sheet.whole.Goals as goal
use Rattle.choice.proofs.sheet.Sheet.whole.Goals.{After-ones-counted, Start, Then-size-ne0, then-size-ne0+else-gain-room, else-size-ne0}

-- the candidate can be judged
known : (c : Start) → Judgeable c.args.self.now.columns.now c.args.self.now.ends.now c.args.self.now.rests.now c.args.self.now.most c.args.i c.args.j
known c = c.args.self.now.judged c.args.i c.args.j c.requires.0 c.requires.1

pub loop-w-init : goal.loop-w-init
loop-w-init c = let s = known (goal.at.loop-w-init c).Start in hoping_start _ _ _ s.most_high s.most_low s.counts

pub crossed-requires : goal.crossed-requires
crossed-requires c =
    let s = known (goal.at.crossed-requires c).Start in
    (s.first_in, s.second_in, omega (arith, s.whole, s.fit, c.loop-w-test.true), s.size, s.second_some)

-- it is the block's tally
counts : (c : After-ones-counted) → c.ones-counted.result ≡ tally_at c.args.self.now.columns.now c.args.i c.args.j c.loop-w.w
counts c = c.ones-counted.ensures.0 ∙ ap ones c.crossed.ensures

pub overflow_add-counted : goal.overflow_add-counted
overflow_add-counted c = omega (arith, c.loop-w.invariant.tallying.few, c.ones-counted.ensures.1, (known (goal.at.overflow_add-counted c).Start).whole, (known (goal.at.overflow_add-counted c).Start).fit)

-- where a group ends
module _ (c : Then-size-ne0) where
  abbrev tallies : ℕ → ℕ
  tallies = tally_at c.args.self.now.columns.now c.args.i c.args.j

  abbrev ends : List ℕ
  ends = c.args.self.now.ends.now

  abbrev size : ℕ
  size = get_or ends c.loop-w.w 0

  judged : Judgeable c.args.self.now.columns.now ends c.args.self.now.rests.now c.args.self.now.most c.args.i c.args.j
  judged = c.args.self.now.judged c.args.i c.args.j c.requires.0 c.requires.1

  is : c.ones-counted.result ≡ tallies c.loop-w.w
  is = c.ones-counted.ensures.0 ∙ ap ones c.crossed.ensures

  -- its members are as many
  high : c.loop-w.counted + c.ones-counted.result ≤ size
  high = ends_high ends tallies c.loop-w.gain c.loop-w.counted c.loop-w.w c.ones-counted.result c.loop-w-test.true is c.loop-w.invariant.tallying c.if-size-ne0.true

  -- what is counted is low
  low : c.loop-w.gain + splits (c.loop-w.counted + c.ones-counted.result) size ≤ max_gain
  low =
      omega (
        arith,
        ends_low ends tallies c.loop-w.gain c.loop-w.counted c.loop-w.w c.ones-counted.result c.loop-w-test.true is c.loop-w.invariant.tallying c.if-size-ne0.true,
        judged.low,
        gain_whole c.args.self.now.columns.now c.args.self.now.ends.now (length c.args.self.now.rests.now) c.args.i c.args.j,
      )

  -- the groups left
  next : Hoping ends tallies (c.args.self.now.most - most_of ends) (c.loop-w.gain + splits (c.loop-w.counted + c.ones-counted.result) size) 0 (c.loop-w.room - size * size / 4) (c.loop-w.w + 1)
  next = hoping_end ends tallies (c.args.self.now.most - most_of ends) c.loop-w.gain c.loop-w.counted c.loop-w.room c.loop-w.w c.ones-counted.result c.loop-w-test.true is c.loop-w.invariant c.if-size-ne0.true

pub overflow_sub-gain : goal.overflow_sub-gain
overflow_sub-gain c = high c

pub overflow_mul-gain : goal.overflow_mul-gain
overflow_mul-gain c = omega (arith, low c)

pub overflow_add-gain : goal.overflow_add-gain
overflow_add-gain c = omega (arith, low c)

pub overflow_mul-room : goal.overflow_mul-room
overflow_mul-room c =
    let h : size c * size c / 4 ≤ c.loop-w.room = room_here _ _ _ _ _ _ _ _ c.loop-w-test.true (is c) c.loop-w.invariant in
    omega (arith, h, c.loop-w.invariant.low)

pub overflow_sub-room : goal.overflow_sub-room
overflow_sub-room c = room_here _ _ _ _ _ _ _ _ c.loop-w-test.true (is c) c.loop-w.invariant

pub overflow_add-gain-then-size-ne0 : goal.overflow_add-gain-then-size-ne0
overflow_add-gain-then-size-ne0 c = omega (arith, low c, (next c).low)

pub returns-then-gain-room : goal.returns-then-gain-room
returns-then-gain-room c =
    let t = (goal.at.returns-then-gain-room c).Then-size-ne0 in
    hopeless _ _ _ _ _ _ _ _ c.loop-w-test.true (is t) c.loop-w.invariant c.if-size-ne0.true _ c.if-gain-room.true

pub loop-w-preserved : goal.loop-w-preserved
loop-w-preserved c =
    elim c.if-size-ne0.branch [
      | then-size-ne0+else-gain-room w ↦
          rw (w.gain-is, w.counted-is, w.room-is) (hoping_end _ _ _ _ _ _ _ _ c.loop-w-test.true (counts (goal.at.loop-w-preserved c).After-ones-counted) c.loop-w.invariant w.if-size-ne0.true)
      | else-size-ne0 w ↦
          rw (w.gain-is, w.counted-is, w.room-is)
          (hoping_on _ _ _ _ _ _ _ _ c.loop-w-test.true (counts (goal.at.loop-w-preserved c).After-ones-counted) c.loop-w.invariant w.if-size-ne0.false c.ones-counted.ensures.1)
    ]

pub returns : goal.returns
returns c = tallying_all _ _ _ _ _ c.loop-w-test.false c.loop-w.invariant.tallying
