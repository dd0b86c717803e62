use native.Mathlib.Omega.{arith}
use Rattle.record.specs.Tables.{lent}
use Rattle.lookup.specs.Lookup.{lookup_of}
use Rattle.many.proofs.Keys.{done_none, done_left}
use Rattle.many.proofs.open.Open.all.Goals as goal

pub go_on-requires : goal.go_on-requires
go_on-requires c = (omega (arith, c.run-first.auto.indices, c.requires), c.run-first.ensures.0)

pub returns : goal.returns
returns c =
    let f = c.run-first in
    λ u o.
    let look = lookup_of u (lent c.args.self.now.h.now c.args.self.now.g.now c.args.self.now.aux.now) in
    let t = f.ensures.1 u o _ (done_none look c.args.keys.now _) in
    done_left look c.args.keys.now _ _ _ c.requires t.first (c.go_on.ensures u o _ t.stored t.blank)
