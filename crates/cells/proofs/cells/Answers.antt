use Prim.Native.Nat.{ℕ}
use native.Mathlib.Omega.{arith}
use mathlib.Core.Path.{refl, sym, ap, ◌∙◌}
use mathlib.Core.List.{List}
use lib.ListN.{take}
use lib.Seq.{length-take-le}
use Rattle.std.specs.Prelude.{Some}
use Rattle.input.specs.Input.{Input, told}
use Rattle.print.specs.Print.{fitted}
use Rattle.answer.proofs.Makes.{count_low, vectors_are}
use Rattle.cells.proofs.Counts.{cells_bad, cells_good}
use Rattle.cells.proofs.cells.Goals as goal
use Rattle.cells.proofs.cells.Goals.{In-Some}

pub returns-in_default : goal.returns-in_default
returns-in_default c =
    c.text.ensures ∙ ap (λ (x : List ℕ). fitted x c.args.out.now) (cells_bad c.args.text.now _ c.in_default.ensures.value refl)

-- the numbers that the text says
abbrev said : In-Some → Input
said c = told (Some c.in-Some.list)

pub slice_bounds-vectors-end : goal.slice_bounds-vectors-end
slice_bounds-vectors-end c = omega (arith, count_low c.args.text.now (said (goal.at.slice_bounds-vectors-end c).In-Some) c.in-Some.ensures.value refl, c.read.auto.vectors)

pub slice_bounds-build_chosen-end : goal.slice_bounds-build_chosen-end
slice_bounds-build_chosen-end c = sym (length-take-le _ _ (omega (arith, count_low c.args.text.now (said (goal.at.slice_bounds-build_chosen-end c).In-Some) c.in-Some.ensures.value refl, c.read.auto.vectors)))

pub returns : goal.returns
returns c =
    let i = said (goal.at.returns c).In-Some in
    c.print_fewest.ensures
    ∙ ap (λ (x : List ℕ). fitted x c.args.out.now)
    (cells_good c.args.text.now i c.in-Some.ensures.value refl _ _ _ _ _ (ap (take i.count) c.in-Some.ensures.vectors_after ∙ vectors_are c.args.text.now i c.in-Some.ensures.value refl _ refl)
    c.build_chosen-built.ensures)
