use Rattle.std.proofs.Common.{◌≡◌, true, false, arith, sym, ◌∙◌}
use borrow.Author.Tests.{leb-true, leb-false, eq-eqb, ne_eqb}
use Rattle.record.specs.Tables.{lent}
use Rattle.record.specs.Formed.{well_formed, framed_by}
use Rattle.record.specs.Inner.Formed.{InBounds}
use Rattle.record.proofs.Formed.{framed_bounds, formed_not, formed_right, well_formed_facts}
use Rattle.lookup.proofs.Lookups.{lookup_unformed, lookup_beyond, lookup_answer}
use Rattle.lookup.proofs.lookup.Goals as goal
use Rattle.lookup.proofs.lookup.Goals.{Else-not-framed, In-Some}

-- well formed but for the variables
framed : (c : Else-not-framed) → framed_by c.args.unit (lent c.args.h.now c.args.g.now c.args.aux.now) ≡ true
framed c = sym c.framed.ensures ∙ c.if-not-framed.false

bounds : (c : Else-not-framed) → InBounds c.args.unit
bounds c = framed_bounds c.args.unit _ (framed c)

-- and with them
formed : (c : In-Some) → well_formed c.args.unit (lent c.args.h.now c.args.g.now c.args.aux.now) ≡ true
formed c = sym (formed_right c.args.unit _ true (sym c.framed.ensures ∙ c.if-not-framed.false) (sym (eq-eqb _ _ c.in-Some.ensures.0)))

pub returns-then-not-framed : goal.returns-then-not-framed
returns-then-not-framed c = lookup_unformed _ _ _ (formed_not _ _ (sym c.framed.ensures ∙ c.if-not-framed.true))

pub overflow_cast-unit : goal.overflow_cast-unit
overflow_cast-unit c = omega (arith, (bounds (goal.at.overflow_cast-unit c).Else-not-framed).inputs)

pub take_values-requires : goal.take_values-requires
take_values-requires c = let b = bounds (goal.at.take_values-requires c).Else-not-framed in (b.inputs, b.few)

pub returns-in_default : goal.returns-in_default
returns-in_default c =
    let f = framed (goal.at.returns-in_default c).Else-not-framed in
    lookup_unformed _ _ _ (sym (formed_right _ _ false f (sym (ne_eqb _ _ c.in_default.ensures))))

pub returns-then-beyond : goal.returns-then-beyond
returns-then-beyond c =
    lookup_beyond _ _ _ (formed (goal.at.returns-then-beyond c).In-Some) (leb-true _ _ (sym c.beyond.ensures ∙ c.if-beyond.true))

pub answer-requires : goal.answer-requires
answer-requires c = record {
  formed = well_formed_facts _ _ (formed (goal.at.answer-requires c).In-Some);
  values = c.in-Some.ensures.1;
}

pub returns : goal.returns
returns c =
    c.answer.ensures ∙ lookup_answer _ _ _ (formed (goal.at.returns c).In-Some) (leb-false _ _ (sym c.beyond.ensures ∙ c.if-beyond.false))
