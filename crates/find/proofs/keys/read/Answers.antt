use Prim.Native.Nat.{◌-◌}
use native.Mathlib.Omega.{arith}
use mathlib.Core.Path.{◌≡◌, sym, ap, ◌∙◌}
use borrow.Author.Rules.{rules}
use lib.ListN.{length, get_or, take}
use Rattle.std.proofs.Common.{tests}
use Rattle.std.specs.List.{slice_split}
use Rattle.std.proofs.lemmas.List.{length_push}
use Rattle.find.specs.Keys.{key_of}
use Rattle.find.specs.Inner.{told}
use Rattle.std.proofs.lemmas.Iterator.Consumers.{YieldsList-at}
use Rattle.std.proofs.lemmas.Iterator.Splits.{YieldsList-from_slice_split}
use Rattle.input.proofs.Reading.Numbers.{loop_turn, loop_end}
use Rattle.print.specs.Line.{newline}
use Rattle.find.proofs.Lines.{ends, keys_long, keys_unended, read_not, lines_of, reading_bad, reading_more, read_bad, read_many, read_all}
use Rattle.find.proofs.keys.read.Goals as goal

pub returns-then-text-gt-MAX_BYTES : goal.returns-then-text-gt-MAX_BYTES
returns-then-text-gt-MAX_BYTES c = read_not _ _ c.requires (keys_long _ c.if-text-gt-MAX_BYTES.true)

pub returns-in_default : goal.returns-in_default
returns-in_default c = read_not _ _ c.requires (keys_unended _ (λ l. absurd (omega (arith, c.in_default.len_below))))

pub returns-in_default-2 : goal.returns-in_default-2
returns-in_default-2 c =
    let n : get_or c.args.text.now (length c.args.text.now - 1) 0 ≡ newline → ⊥ = search rules in
    read_not _ _ c.requires (keys_unended _ (λ _. n))

pub returns-in_err-key : goal.returns-in_err-key
returns-in_err-key c =
    let n : get_or c.args.text.now (length c.args.text.now - 1) 0 ≡ newline = search rules in
    let e = lines_of c.args.text.now (omega (arith, c.in-10.len_at_least)) n in
    let s = c.split-line-items.ensures in
    let t = loop_turn (slice_split ends (take (length c.args.text.now - 1) c.args.text.now)) (YieldsList-at c.into_iter-line-iterator.ensures.into_iter_gives (YieldsList-from_slice_split {s = c.split-line-items.result} _ ends _ s.rest s.done s.closure (λ x r q k. search (rules, tests)))) c.loop-line.yielded _ c.loop-line.yielded_by _ _ c.next.ensures.steps c.in-Some.line c.in-Some.is in
    let r = c.loop-line.invariant.3 in
    let k = ap told (sym c.in_err-key.was) ∙ c.written.ensures ∙ ap key_of t.1 in
    rw c.from_residual.ensures (read_bad c.args.text.now (take (length c.args.text.now - 1) c.args.text.now) _ _ e r (reading_bad _ _ _ r t.0 k))

pub returns-then-keys-count : goal.returns-then-keys-count
returns-then-keys-count c =
    let n : get_or c.args.text.now (length c.args.text.now - 1) 0 ≡ newline = search rules in
    let e = lines_of c.args.text.now (omega (arith, c.in-10.len_at_least)) n in
    let s = c.split-line-items.ensures in
    let t = loop_turn (slice_split ends (take (length c.args.text.now - 1) c.args.text.now)) (YieldsList-at c.into_iter-line-iterator.ensures.into_iter_gives (YieldsList-from_slice_split {s = c.split-line-items.result} _ ends _ s.rest s.done s.closure (λ x r q k. search (rules, tests)))) c.loop-line.yielded _ c.loop-line.yielded_by _ _ c.next.ensures.steps c.in-Some.line c.in-Some.is in
    read_many c.args.text.now (take (length c.args.text.now - 1) c.args.text.now) _ _ e c.loop-line.invariant.3 t.0 (omega (arith, c.loop-line.invariant.2, c.if-keys-count.true))

pub loop-line-preserved : goal.loop-line-preserved
loop-line-preserved c =
    let n : get_or c.args.text.now (length c.args.text.now - 1) 0 ≡ newline = search rules in
    let e = lines_of c.args.text.now (omega (arith, c.in-10.len_at_least)) n in
    let s = c.split-line-items.ensures in
    let t = loop_turn (slice_split ends (take (length c.args.text.now - 1) c.args.text.now)) (YieldsList-at c.into_iter-line-iterator.ensures.into_iter_gives (YieldsList-from_slice_split {s = c.split-line-items.result} _ ends _ s.rest s.done s.closure (λ x r q k. search (rules, tests)))) c.loop-line.yielded _ c.loop-line.yielded_by _ _ c.next.ensures.steps c.in-Some.line c.in-Some.is in
    let r = c.loop-line.invariant.3 in
    let k = ap told (sym c.in_ok-key.was) ∙ c.written.ensures ∙ ap key_of t.1 in
    let l = length_push c.loop-line.yielded c.in-Some.line in
    let m = c.loop-line.invariant.2 in (
      search rules,
      search rules,
      omega (arith, l, m),
      rw (l, m) (reading_more _ _ _ r t.0 (omega (arith, m, c.if-keys-count.false)) c.in_ok-key.key k),
    )

pub returns : goal.returns
returns c =
    let n : get_or c.args.text.now (length c.args.text.now - 1) 0 ≡ newline = search rules in
    let e = lines_of c.args.text.now (omega (arith, c.in-10.len_at_least)) n in
    let s = c.split-line-items.ensures in
    let l = loop_end (slice_split ends (take (length c.args.text.now - 1) c.args.text.now)) (YieldsList-at c.into_iter-line-iterator.ensures.into_iter_gives (YieldsList-from_slice_split {s = c.split-line-items.result} _ ends _ s.rest s.done s.closure (λ x r q k. search (rules, tests)))) c.loop-line.yielded _ c.loop-line.yielded_by _ _ c.next.ensures.steps c.in-None.is in
    rw c.loop-line.invariant.2 (read_all c.args.text.now (take (length c.args.text.now - 1) c.args.text.now) _ _ e c.loop-line.invariant.3 l c.if-text-gt-MAX_BYTES.false)
