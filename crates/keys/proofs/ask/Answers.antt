use Prim.Native.Nat.{ℕ, ◌+◌}
use native.Mathlib.Omega.{arith}
use mathlib.Core.Path.{ap, ◌∙◌}
use mathlib.Core.List.{List}
use lib.ListN.{length, drop}
use lib.Seq.{take_at}
use Rattle.std.specs.Prelude.{replicate}
use Rattle.input.specs.Input.{input_of}
use Rattle.keys.proofs.Asks.{asked_none, asked_long, asked_read}
use Rattle.keys.proofs.ask.Goals as goal

pub returns-then-size-eq0 : goal.returns-then-size-eq0
returns-then-size-eq0 c = asked_none c.args.words.now c.if-size-eq0.true

pub returns-then-size-gt-MAX_ASKED : goal.returns-then-size-gt-MAX_ASKED
returns-then-size-gt-MAX_ASKED c = asked_long c.args.words.now c.if-size-eq0.false c.if-size-gt-MAX_ASKED.true

pub returns-in_err-numbers : goal.returns-in_err-numbers
returns-in_err-numbers c =
    let z = c.behind_zero.ensures in
    rw c.from_residual.ensures
    (asked_read c.args.words.now c.if-size-eq0.false c.if-size-gt-MAX_ASKED.false _
    (c.in_err-numbers.ensures.value ∙ ap (λ (t : List ℕ). input_of t 0) (take_at _ (drop (length c.args.words.now + 2) (replicate 64 0)) (length c.args.words.now + 2) (ap length z ∙ omega arith) ∙ z)))

pub returns : goal.returns
returns c =
    let z = c.behind_zero.ensures in
    asked_read c.args.words.now c.if-size-eq0.false c.if-size-gt-MAX_ASKED.false _
    (c.in_ok-numbers.ensures.value ∙ ap (λ (t : List ℕ). input_of t 0) (take_at _ (drop (length c.args.words.now + 2) (replicate 64 0)) (length c.args.words.now + 2) (ap length z ∙ omega arith) ∙ z))
