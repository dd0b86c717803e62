use native.Mathlib.Omega.{arith}
use mathlib.Core.Path.{sym}
use Rattle.repeats.proofs.Limit.{too_many}
use Rattle.repeats.proofs.Chaining.{chaining_none, chaining_front, chaining_linked, chaining_latest, chaining_here, chaining_on, chaining_end}
use Rattle.repeats.proofs.first_repeat.Goals as goal

pub returns-then-words-gt-MAX_VECTORS : goal.returns-then-words-gt-MAX_VECTORS
returns-then-words-gt-MAX_VECTORS c = sym (too_many _ c.if-words-gt-MAX_VECTORS.true)

pub loop-i-init : goal.loop-i-init
loop-i-init c = chaining_none _

pub seen-requires : goal.seen-requires
seen-requires c =
    let f = c.if-words-gt-MAX_VECTORS.false in
    let l = c.loop-i.invariant in
    (omega (arith, chaining_front f l, l.within), chaining_linked f l, chaining_latest f l _ _ c.slot-s.ensures.0)

pub returns-then-seen : goal.returns-then-seen
returns-then-seen c = chaining_here c.if-words-gt-MAX_VECTORS.false c.loop-i.invariant (omega arith) (rw c.if-seen.true at c.seen.ensures)

pub loop-i-preserved : goal.loop-i-preserved
loop-i-preserved c =
    chaining_on c.if-words-gt-MAX_VECTORS.false c.loop-i.invariant (omega arith) _ c.slot-s.ensures.0 (rw c.if-seen.false at c.seen.ensures)

pub returns : goal.returns
returns c = chaining_end c.if-words-gt-MAX_VECTORS.false c.loop-i.invariant (omega arith)
