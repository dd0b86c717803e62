use Prim.Native.Nat.{ℕ}
use native.Mathlib.Omega.{arith}
use mathlib.Core.Path.{refl, sym, ap, ◌∙◌}
use mathlib.Core.List.{List}
use Rattle.refusal.proofs.Numbers.{numbered}
use Rattle.print.specs.Print.{fitted}
use Rattle.words.proofs.Writing.{file_refused, add_long, file_added, file_said}
use Rattle.words.proofs.from_file.Goals as goal

pub returns-in-Err : goal.returns-in-Err
returns-in-Err c =
    rw c.at.ensures at c.refused.ensures
    ∙ ap (λ (x : List ℕ). fitted x c.args.out.now) (file_refused c.args.given.now c.args.file.now _ c.in-Err.ensures (λ z. omega (arith, numbered c.in-Err.refusal)))

pub slice_bounds-amend-count : goal.slice_bounds-amend-count
slice_bounds-amend-count c = add_long c.args.given.now c.args.file.now _ c.in-Ok.ensures refl (sym c.opens.ensures ∙ c.if-opens.true)

pub slice_bounds-amend-start : goal.slice_bounds-amend-start
slice_bounds-amend-start c = slice_bounds-amend-count c

pub returns-then-opens : goal.returns-then-opens
returns-then-opens c =
    c.amend.ensures.out_after
    ∙ ap (λ (x : List ℕ). fitted x c.args.out.now) (file_added c.args.given.now c.args.file.now _ c.in-Ok.ensures refl (sym c.opens.ensures ∙ c.if-opens.true))

pub print_unit-requires : goal.print_unit-requires
print_unit-requires c = (c.requires, sym c.opens.ensures ∙ c.if-opens.false)

pub returns : goal.returns
returns c =
    c.print_unit.ensures ∙ file_said c.args.given.now c.args.file.now _ c.in-Ok.ensures refl (sym c.opens.ensures ∙ c.if-opens.false) c.args.out.now
