use Prim.Native.Nat.{ℕ}
use mathlib.Core.Path.{◌≡◌}
use mathlib.Core.List.{List}
use lib.ListN.{length}
use Rattle.record.specs.declared.Record.{Record}
use Rattle.record.specs.Tables.{lent}
use Rattle.lookup.specs.Lookup.{lookup_of}
use Rattle.many.specs.Inner.Images.{Opened}
use Rattle.many.specs.Inner.Keys.{Done}
use Rattle.many.proofs.Keys.{Stage}
use Rattle.many.proofs.open.Open.along.Given as goal

abbrev pub invariant-loop-i : goal.invariant-loop-i
invariant-loop-i g l = (length l.indices ≡ length l.initial.indices)
    × ((u : Record) → Opened u (lent l.self.h.now l.self.g.now l.self.aux.now) l.self.frame l.self.images.now → (old : List ℕ) → Done (lookup_of u (lent l.self.h.now l.self.g.now l.self.aux.now)) l.keys old l.initial.indices l.from
    → Stage (lookup_of u (lent l.self.h.now l.self.g.now l.self.aux.now)) l.keys old l.from l.indices l.i)
