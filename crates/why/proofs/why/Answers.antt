use Prim.Native.Nat.{ℕ}
use native.Mathlib.Omega.{arith}
use mathlib.Core.Path.{refl, sym, ap, ◌∙◌}
use mathlib.Core.Bool.{false≢true}
use mathlib.Core.List.{List}
use lib.ListN.{take}
use lib.Seq.{length-take-le}
use Rattle.std.specs.Prelude.{Some}
use Rattle.print.specs.Print.{fitted}
use Rattle.input.specs.Input.{Input, told}
use Rattle.input.specs.declared.Input as code
use Rattle.answer.specs.Make.{Making}
use Rattle.answer.proofs.Makes.{read_is, count_low, vectors_are}
use Rattle.why.specs.Why.{fault_text}
use Rattle.why.proofs.Whys.{why_bad, fault_some, make_good, said_good}
use Rattle.why.proofs.why.Goals as goal

pub unreachable-requires : goal.unreachable-requires
unreachable-requires c = fault_some c.args.text.now (read_is c.args.text.now _ c.in_default.ensures.value refl) _ c.in_default-find.ensures refl

pub returns-in_default : goal.returns-in_default
returns-in_default c =
    c.say_fault.ensures
    ∙ ap (λ (x : List ℕ). fitted x c.args.out.now)
    (ap fault_text c.in-Err.ensures ∙ why_bad c.args.text.now (read_is c.args.text.now _ c.in_default.ensures.value refl))

-- the numbers that the text says
abbrev said : code.Input → Input
said list = told (Some list)

pub unreachable-requires-in_default-make : goal.unreachable-requires-in_default-make
unreachable-requires-in_default-make c =
    let text = c.args.text.now in
    false≢true (ap (λ (m : Making). m.good) c.in_default-make.ensures ∙ make_good text (read_is text (said c.in-Some.list) c.in-Some.ensures.value refl))

pub slice_bounds-vectors-end : goal.slice_bounds-vectors-end
slice_bounds-vectors-end c = omega (arith, count_low c.args.text.now (said c.in-Some.list) c.in-Some.ensures.value refl, c.read.auto.vectors)

pub slice_bounds-say_built-end : goal.slice_bounds-say_built-end
slice_bounds-say_built-end c =
    sym (length-take-le _ _ (omega (arith, count_low c.args.text.now (said c.in-Some.list) c.in-Some.ensures.value refl, c.read.auto.vectors)))

pub returns : goal.returns
returns c =
    let text = c.args.text.now in
    let i = said c.in-Some.list in
    c.say_built.ensures
    ∙ ap (λ (x : List ℕ). fitted x c.args.out.now)
    (said_good text i c.in-Some.ensures.value refl _ _ (ap (λ (x : Making). x.outcome.built) c.in-Some-make.ensures)
    (ap (take i.count) c.in-Some.ensures.vectors_after ∙ vectors_are text i c.in-Some.ensures.value refl _ refl))
