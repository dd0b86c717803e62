use native.Mathlib.Omega.{arith}
use borrow.Author.Rules.{rules}
use mathlib.Core.Path.{refl, sym, ap, ◌∙◌}
use Prim.Native.Nat.{◌+◌, ◌<◌}
use mathlib.Core.List.{[], map}
use lib.ListN.{length, drop, length-drop, length-map}
use Rattle.std.proofs.Common.{tests}
use lib.Seq.{get_or-drop}
use Rattle.std.proofs.lemmas.List.{length_push}
use Rattle.std.proofs.lemmas.Iterator.Consumers.{YieldsList-at}
use Rattle.std.specs.Iterator.Adapters.{enumerate_source, enumerate_count}
use Rattle.input.specs.Fields.{fields}
use Rattle.input.specs.Decimal.{value_of}
use Rattle.input.proofs.Reading.Numbers.{parts, part_some, part_is, part_next, good_some, good_none, places_turn, places_end, written_more, numbers_read}
use Rattle.input.proofs.numbers.Goals as goal

pub returns-in_err-n : goal.returns-in_err-n
returns-in_err-n c =
    let s = c.split-fields.ensures in
    absurd (good_none (fields c.args.text.now) 0 c.requires.good (omega (arith, c.requires.size)) _ (part_is (fields c.args.text.now) 0 (parts _ _ _ refl c.args.text.now s.rest s.done s.closure (λ x r q k. search (rules, tests))) (omega (arith, c.requires.size)) c.next.ensures.steps _ c.in_ok-next.was) (sym c.value_of.ensures ∙ c.in_err-n.was))

pub returns-in_err-next-2 : goal.returns-in_err-next-2
returns-in_err-next-2 c =
    let s = c.split-fields.ensures in
    let y1 = part_next (fields c.args.text.now) 0 (parts _ _ _ refl c.args.text.now s.rest s.done s.closure (λ x r q k. search (rules, tests))) (omega (arith, c.requires.size)) c.next.ensures.steps _ c.in_ok-next.was in
    absurd (part_some (fields c.args.text.now) 1 y1 (omega (arith, c.requires.size)) c.next-2.ensures.steps c.in_err-next-2.was)

pub returns-in_err-degree : goal.returns-in_err-degree
returns-in_err-degree c =
    let s = c.split-fields.ensures in
    let y1 = part_next (fields c.args.text.now) 0 (parts _ _ _ refl c.args.text.now s.rest s.done s.closure (λ x r q k. search (rules, tests))) (omega (arith, c.requires.size)) c.next.ensures.steps _ c.in_ok-next.was in
    absurd (good_none (fields c.args.text.now) 1 c.requires.good (omega (arith, c.requires.size)) _ (part_is (fields c.args.text.now) 1 y1 (omega (arith, c.requires.size)) c.next-2.ensures.steps _ c.in_ok-next-2.was) (sym c.value_of-2.ensures ∙ c.in_err-degree.was))

pub returns-in_err-next-3 : goal.returns-in_err-next-3
returns-in_err-next-3 c =
    let s = c.split-fields.ensures in
    let y1 = part_next (fields c.args.text.now) 0 (parts _ _ _ refl c.args.text.now s.rest s.done s.closure (λ x r q k. search (rules, tests))) (omega (arith, c.requires.size)) c.next.ensures.steps _ c.in_ok-next.was in
    let y2 = part_next (fields c.args.text.now) 1 y1 (omega (arith, c.requires.size)) c.next-2.ensures.steps _ c.in_ok-next-2.was in
    absurd (part_some (fields c.args.text.now) 2 y2 (omega (arith, c.requires.size)) c.next-3.ensures.steps c.in_err-next-3.was)

pub returns-in_err-cells : goal.returns-in_err-cells
returns-in_err-cells c =
    let s = c.split-fields.ensures in
    let y1 = part_next (fields c.args.text.now) 0 (parts _ _ _ refl c.args.text.now s.rest s.done s.closure (λ x r q k. search (rules, tests))) (omega (arith, c.requires.size)) c.next.ensures.steps _ c.in_ok-next.was in
    let y2 = part_next (fields c.args.text.now) 1 y1 (omega (arith, c.requires.size)) c.next-2.ensures.steps _ c.in_ok-next-2.was in
    absurd (good_none (fields c.args.text.now) 2 c.requires.good (omega (arith, c.requires.size)) _ (part_is (fields c.args.text.now) 2 y2 (omega (arith, c.requires.size)) c.next-3.ensures.steps _ c.in_ok-next-3.was) (sym c.value_of-3.ensures ∙ c.in_err-cells.was))

pub returns-in_err-vectors : goal.returns-in_err-vectors
returns-in_err-vectors c =
    let s = c.split-fields.ensures in
    let y1 = part_next (fields c.args.text.now) 0 (parts _ _ _ refl c.args.text.now s.rest s.done s.closure (λ x r q k. search (rules, tests))) (omega (arith, c.requires.size)) c.next.ensures.steps _ c.in_ok-next.was in
    let y2 = part_next (fields c.args.text.now) 1 y1 (omega (arith, c.requires.size)) c.next-2.ensures.steps _ c.in_ok-next-2.was in
    let y3 = part_next (fields c.args.text.now) 2 y2 (omega (arith, c.requires.size)) c.next-3.ensures.steps _ c.in_ok-next-3.was in
    let e = c.enumerate-i-items.ensures in
    let i = c.into_iter-i-iterator.ensures.into_iter_gives in
    let k = places_turn (drop 3 (fields c.args.text.now)) (YieldsList-at (ap enumerate_source i ∙ e.source) y3) (ap enumerate_count i ∙ e.count) c.loop-i.yielded _ c.loop-i.yielded_by _ _ c.next-in-loop-i.ensures.steps _ c.in-Some.is in
    let h : 3 + length c.loop-i.yielded < length (fields c.args.text.now) = omega (arith, k.0, length-drop 3 (fields c.args.text.now)) in
    absurd (good_none (fields c.args.text.now) (3 + length c.loop-i.yielded) c.requires.good h _ (k.2 ∙ get_or-drop 3 (fields c.args.text.now) _ []) (sym c.value_of-in-loop-i.ensures ∙ c.in_err-vectors.was))

pub bounds-vectors-i : goal.bounds-vectors-i
bounds-vectors-i c =
    let s = c.split-fields.ensures in
    let y1 = part_next (fields c.args.text.now) 0 (parts _ _ _ refl c.args.text.now s.rest s.done s.closure (λ x r q k. search (rules, tests))) (omega (arith, c.requires.size)) c.next.ensures.steps _ c.in_ok-next.was in
    let y2 = part_next (fields c.args.text.now) 1 y1 (omega (arith, c.requires.size)) c.next-2.ensures.steps _ c.in_ok-next-2.was in
    let y3 = part_next (fields c.args.text.now) 2 y2 (omega (arith, c.requires.size)) c.next-3.ensures.steps _ c.in_ok-next-3.was in
    let e = c.enumerate-i-items.ensures in
    let i = c.into_iter-i-iterator.ensures.into_iter_gives in
    let k = places_turn (drop 3 (fields c.args.text.now)) (YieldsList-at (ap enumerate_source i ∙ e.source) y3) (ap enumerate_count i ∙ e.count) c.loop-i.yielded _ c.loop-i.yielded_by _ _ c.next-in-loop-i.ensures.steps _ c.in-Some.is in
    omega (arith, k.0, k.1, c.requires.size, length-drop 3 (fields c.args.text.now))

pub offset_bounds-vectors-i : goal.offset_bounds-vectors-i
offset_bounds-vectors-i c =
    let s = c.split-fields.ensures in
    let y1 = part_next (fields c.args.text.now) 0 (parts _ _ _ refl c.args.text.now s.rest s.done s.closure (λ x r q k. search (rules, tests))) (omega (arith, c.requires.size)) c.next.ensures.steps _ c.in_ok-next.was in
    let y2 = part_next (fields c.args.text.now) 1 y1 (omega (arith, c.requires.size)) c.next-2.ensures.steps _ c.in_ok-next-2.was in
    let y3 = part_next (fields c.args.text.now) 2 y2 (omega (arith, c.requires.size)) c.next-3.ensures.steps _ c.in_ok-next-3.was in
    let e = c.enumerate-i-items.ensures in
    let i = c.into_iter-i-iterator.ensures.into_iter_gives in
    let k = places_turn (drop 3 (fields c.args.text.now)) (YieldsList-at (ap enumerate_source i ∙ e.source) y3) (ap enumerate_count i ∙ e.count) c.loop-i.yielded _ c.loop-i.yielded_by _ _ c.next-in-loop-i.ensures.steps _ c.in-Some.is in
    let l : c.in-Some.i < length c.loop-i.vectors = omega (arith, k.0, k.1, c.requires.size, length-drop 3 (fields c.args.text.now)) in
    search rules

pub loop-i-preserved : goal.loop-i-preserved
loop-i-preserved c =
    let s = c.split-fields.ensures in
    let y1 = part_next (fields c.args.text.now) 0 (parts _ _ _ refl c.args.text.now s.rest s.done s.closure (λ x r q k. search (rules, tests))) (omega (arith, c.requires.size)) c.next.ensures.steps _ c.in_ok-next.was in
    let y2 = part_next (fields c.args.text.now) 1 y1 (omega (arith, c.requires.size)) c.next-2.ensures.steps _ c.in_ok-next-2.was in
    let y3 = part_next (fields c.args.text.now) 2 y2 (omega (arith, c.requires.size)) c.next-3.ensures.steps _ c.in_ok-next-3.was in
    let e = c.enumerate-i-items.ensures in
    let i = c.into_iter-i-iterator.ensures.into_iter_gives in
    let k = places_turn (drop 3 (fields c.args.text.now)) (YieldsList-at (ap enumerate_source i ∙ e.source) y3) (ap enumerate_count i ∙ e.count) c.loop-i.yielded _ c.loop-i.yielded_by _ _ c.next-in-loop-i.ensures.steps _ c.in-Some.is in
    let h : 3 + length c.loop-i.yielded < length (fields c.args.text.now) = omega (arith, k.0, length-drop 3 (fields c.args.text.now)) in
    let ns = map value_of (fields c.args.text.now) in
    let x = good_some (fields c.args.text.now) (3 + length c.loop-i.yielded) c.requires.good h _ (k.2 ∙ get_or-drop 3 (fields c.args.text.now) _ []) _ (sym c.value_of-in-loop-i.ensures ∙ c.in_ok-vectors.was) in (
      search rules,
      search rules,
      rw (length_push c.loop-i.yielded (c.in-Some.i, c.in-Some.field)) (written_more c.loop-i.vectors (drop 3 ns) (length c.loop-i.yielded) _ _ k.1
          (omega (arith, k.0, c.requires.size, length-drop 3 (fields c.args.text.now)))
          (omega (arith, h, length-drop 3 ns, length-map (fields c.args.text.now) value_of))
          c.loop-i.invariant.2 (x ∙ sym (get_or-drop 3 ns _ 0))),
    )

pub returns : goal.returns
returns c =
    let s = c.split-fields.ensures in
    let y1 = part_next (fields c.args.text.now) 0 (parts _ _ _ refl c.args.text.now s.rest s.done s.closure (λ x r q k. search (rules, tests))) (omega (arith, c.requires.size)) c.next.ensures.steps _ c.in_ok-next.was in
    let y2 = part_next (fields c.args.text.now) 1 y1 (omega (arith, c.requires.size)) c.next-2.ensures.steps _ c.in_ok-next-2.was in
    let y3 = part_next (fields c.args.text.now) 2 y2 (omega (arith, c.requires.size)) c.next-3.ensures.steps _ c.in_ok-next-3.was in
    let e = c.enumerate-i-items.ensures in
    let i = c.into_iter-i-iterator.ensures.into_iter_gives in
    let k = places_end (drop 3 (fields c.args.text.now)) (YieldsList-at (ap enumerate_source i ∙ e.source) y3) (ap enumerate_count i ∙ e.count) c.loop-i.yielded _ c.loop-i.yielded_by _ _ c.next-in-loop-i.ensures.steps c.in-None.is in
    let ns = map value_of (fields c.args.text.now) in
    let m = length-map (fields c.args.text.now) value_of in
    numbers_read ns c.loop-i.vectors (length c.loop-i.yielded) _ _ _ (omega (arith, m, c.requires.size))
    (good_some (fields c.args.text.now) 0 c.requires.good (omega (arith, c.requires.size)) _ (part_is (fields c.args.text.now) 0 (parts _ _ _ refl c.args.text.now s.rest s.done s.closure (λ x r q k. search (rules, tests))) (omega (arith, c.requires.size)) c.next.ensures.steps _ c.in_ok-next.was) _ (sym c.value_of.ensures ∙ c.in_ok-n.was))
    (good_some (fields c.args.text.now) 1 c.requires.good (omega (arith, c.requires.size)) _ (part_is (fields c.args.text.now) 1 y1 (omega (arith, c.requires.size)) c.next-2.ensures.steps _ c.in_ok-next-2.was) _ (sym c.value_of-2.ensures ∙ c.in_ok-degree.was))
    (good_some (fields c.args.text.now) 2 c.requires.good (omega (arith, c.requires.size)) _ (part_is (fields c.args.text.now) 2 y2 (omega (arith, c.requires.size)) c.next-3.ensures.steps _ c.in_ok-next-3.was) _ (sym c.value_of-3.ensures ∙ c.in_ok-cells.was))
    (omega (arith, k, c.requires.size, length-drop 3 (fields c.args.text.now))) c.loop-i.invariant.2
