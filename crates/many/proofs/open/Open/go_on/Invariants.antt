use Prim.Native.Nat.{ℕ}
use mathlib.Core.Path.{◌≡◌}
use mathlib.Core.List.{List}
use lib.ListN.{length}
use Rattle.record.specs.declared.Record.{Record}
use Rattle.record.specs.Tables.{lent}
use Rattle.lookup.specs.Lookup.{lookup_of}
use Rattle.many.specs.Inner.Images.{Opened}
use Rattle.many.specs.Inner.Keys.{Within, reached, Done, Blank}
use Rattle.many.proofs.Keys.{ahead}
use Rattle.many.proofs.open.Open.go_on.Given as goal

abbrev pub invariant-loop-next : goal.invariant-loop-next
invariant-loop-next l = (length l.indices ≡ length l.initial.indices) × Within 0 (length l.keys) l.next
    × ((u : Record) → Opened u (lent l.self.h.now l.self.g.now l.self.aux.now) l.self.frame l.self.images.now → (old : List ℕ) → Done (lookup_of u (lent l.self.h.now l.self.g.now l.self.aux.now)) l.keys old l.initial.indices (reached l.keys l.initial.next)
    → Blank (lookup_of u (lent l.self.h.now l.self.g.now l.self.aux.now)) l.keys (reached l.keys l.initial.next)
    → Done (lookup_of u (lent l.self.h.now l.self.g.now l.self.aux.now)) l.keys old l.indices (reached l.keys l.next) × Blank (lookup_of u (lent l.self.h.now l.self.g.now l.self.aux.now)) l.keys (reached l.keys l.next))

abbrev pub decreases-loop-next : goal.decreases-loop-next
decreases-loop-next l = ahead (length l.keys) l.next
