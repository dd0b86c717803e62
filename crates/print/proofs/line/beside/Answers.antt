use native.Mathlib.Omega.{arith}
use mathlib.Core.Path.{ap, ◌∙◌}
use Rattle.std.specs.Slice.Iter.{iter_rest}
use Rattle.print.proofs.Decimals.Digits.{length_word}
use Rattle.print.proofs.Writing.Beside.{besides_none, besides_line, besides_byte, besides_end, number_next}
use Rattle.print.proofs.line.beside.Goals as goal
use Rattle.print.proofs.line.beside.Goals.{then-b-eq10, else-b-eq10}

pub loop-b-init : goal.loop-b-init
loop-b-init c = besides_none c.iter-rest.ensures.rest

pub field-end-requires : goal.field-end-requires
field-end-requires c = omega (arith, c.loop-b.invariant.low, c.loop-b-test.true, c.requires)

pub byte-end-requires : goal.byte-end-requires
byte-end-requires c =
    elim c.if-b-eq10.branch [
      | then-b-eq10 w ↦ omega (arith, c.loop-b.invariant.low, c.loop-b-test.true, c.requires, w.end-is, w.field-end.ensures.place, length_word w.unwrap_or-n.result w.unwrap_or-n.type_inv)
      | else-b-eq10 w ↦ omega (arith, c.loop-b.invariant.low, c.loop-b-test.true, c.requires, w.end-is)
    ]

pub loop-b-preserved : goal.loop-b-preserved
loop-b-preserved c =
    elim c.if-b-eq10.branch [
      | then-b-eq10 w ↦
          let s = number_next _ _ _ _ _ w.next.ensures.steps w.copied.ensures w.unwrap_or-n.ensures in
          besides_line c.loop-b.invariant c.loop-b-test.true w.if-b-eq10.true s.0 (ap iter_rest w.rest-is ∙ s.1) w.unwrap_or-n.type_inv w.field-end.ensures (rw (w.out-is, w.end-is) at c.byte-end.ensures)
      | else-b-eq10 w ↦ rw w.rest-is (besides_byte c.loop-b.invariant c.loop-b-test.true w.if-b-eq10.false (rw (w.out-is, w.end-is) at c.byte-end.ensures))
    ]

pub returns : goal.returns
returns c = besides_end c.loop-b.invariant c.loop-b-test.false
