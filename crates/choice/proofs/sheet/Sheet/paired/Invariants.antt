use Prim.Native.Nat.{◌-◌}
use lib.ListN.{length}
use Rattle.choice.proofs.Counting.Judging.{Pairing}
use Rattle.choice.proofs.sheet.Sheet.paired.Given as goal

abbrev pub invariant-loop-w : goal.invariant-loop-w
invariant-loop-w l = Pairing l.self.columns.now l.self.rests.now l.i l.j (length l.self.ends.now) l.start l.gain l.w

abbrev pub decreases-loop-w : goal.decreases-loop-w
decreases-loop-w l = length l.self.rests.now - l.w

abbrev pub invariant-loop-w-2 : goal.invariant-loop-w-2
invariant-loop-w-2 l = Pairing l.self.columns.now l.self.rests.now l.i l.j (length l.self.ends.now) l.start l.gain l.w
