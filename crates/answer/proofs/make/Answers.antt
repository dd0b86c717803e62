use native.Mathlib.Omega.{arith}
use mathlib.Core.Path.{refl, sym, ap, ◌∙◌}
use mathlib.Core.Bool.{true}
use lib.ListN.{take}
use lib.Seq.{length-take-le}
use Rattle.record.specs.Tables.{Tables, lent}
use Rattle.build.specs.Build.{Outcome}
use Rattle.std.specs.Prelude.{Some}
use Rattle.input.specs.Input.{Input, told}
use Rattle.answer.proofs.Makes.{make_bad, make_good, count_low, vectors_are}
use Rattle.answer.proofs.make.Goals as goal
use Rattle.answer.proofs.make.Goals.{In_ok-list}

pub returns-in_err-list : goal.returns-in_err-list
returns-in_err-list c =
    let t : Tables = lent c.args.h.now c.args.g.now c.args.aux.now in
    rw c.from_residual.ensures (make_bad c.args.text.now _ t c.in_err-list.ensures.value refl)

-- the numbers that the text says
abbrev said : In_ok-list → Input
said c = told (Some c.in_ok-list.list)

pub slice_bounds-vectors-end : goal.slice_bounds-vectors-end
slice_bounds-vectors-end c = omega (arith, count_low c.args.text.now (said c) c.in_ok-list.ensures.value refl, c.read.auto.vectors)

pub slice_bounds-build_chosen-end : goal.slice_bounds-build_chosen-end
slice_bounds-build_chosen-end c = sym (length-take-le _ _ (slice_bounds-vectors-end (goal.at.slice_bounds-build_chosen-end c).In_ok-list))

pub returns : goal.returns
returns c =
    let t : Tables = lent c.args.h.now c.args.g.now c.args.aux.now in
    let i = said (goal.at.returns c).In_ok-list in
    ap (λ (o : Outcome). record { good = true; outcome = o }) c.build_chosen.ensures
    ∙ make_good c.args.text.now i c.in_ok-list.ensures.value refl _ t
    (ap (take i.count) c.in_ok-list.ensures.vectors_after ∙ vectors_are c.args.text.now i c.in_ok-list.ensures.value refl _ refl)
