use Prim.Native.Nat.{suc}
use mathlib.Core.Path.{◌≡◌}
use lib.ListN.{length, take, drop}
use Rattle.build.specs.Inner.Places.{place_by}
use Rattle.build.proofs.Writing.Filling.{Writing}
use Rattle.build.proofs.finish.write_places.Given as goal

abbrev pub invariant-loop-i : goal.invariant-loop-i
invariant-loop-i l = (length l.initial.aux ≡ suc (length l.vectors)) × Writing (place_by (take l.n1 l.masks) (drop l.n1 l.masks)) l.vectors l.initial.aux l.aux l.i
