use Rattle.std.proofs.Common.{rules}
use Rattle.std.proofs.KnownBytes.{Consumes-nil}
use Rattle.console.proofs.Inputs.{read_on}
use Rattle.console.proofs.read_all.Goals as goal

pub loop-done-init : goal.loop-done-init
loop-done-init g c = (search rules, search rules, Consumes-nil _)

pub loop-done-preserved : goal.loop-done-preserved
loop-done-preserved g c =
    let read = c.in_ok-next.ensures in
    (search rules, search rules, read_on _ _ _ c.loop-done.buf _ c.loop-done.done _ read.bounds.0 read.front c.loop-done.invariant.2 read.bytes)

pub returns-then-next-done-clause-bytes : goal.returns-then-next-done-clause-bytes
returns-then-next-done-clause-bytes g c =
    let read = c.in_ok-next.ensures in
    read_on _ _ _ c.loop-done.buf _ c.loop-done.done _ read.bounds.0 read.front c.loop-done.invariant.2 read.bytes
