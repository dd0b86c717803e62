use Prim.Native.Nat.{◌-◌, ◌<◌}
use lib.ListN.{length}
use Rattle.rows.proofs.Chains.Linking.{Linking}
use Rattle.rows.proofs.links.link.Given as goal

abbrev pub invariant-loop-i : goal.invariant-loop-i
invariant-loop-i l = (0 < l.i) × Linking l.initial.aux (length l.initial.h) (l.i - 1) l.aux l.h
