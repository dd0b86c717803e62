use Prim.Native.Nat.{◌-◌}
use Rattle.choice.specs.Inner.Gain.{most_of}
use Rattle.choice.specs.Inner.Judged.{tally_at}
use Rattle.choice.proofs.Counting.Judging.{Hoping}
use Rattle.choice.proofs.sheet.Sheet.whole.Given as goal

abbrev pub invariant-loop-w : goal.invariant-loop-w
invariant-loop-w l = Hoping l.self.ends.now (tally_at l.self.columns.now l.i l.j) (l.self.most - most_of l.self.ends.now) l.gain l.counted l.room l.w
