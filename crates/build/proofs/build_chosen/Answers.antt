use native.Mathlib.Omega.{arith}
use mathlib.Core.Path.{◌≡◌, sym, ap, ◌∙◌}
use lib.ListN.{length}
use Rattle.std.proofs.Common.{Err}
use Rattle.std.proofs.lemmas.Result.{err_from_is_err_and}
use Rattle.refusal.specs.declared.Refused.{Refused}
use Rattle.choice.proofs.Choosing.Places.{chosen_is}
use Rattle.record.specs.Tables.{lent}
use Rattle.build.specs.Built.{Built, told}
use Rattle.build.specs.Refusals.{ladder, check2_chosen}
use Rattle.build.specs.Build.{after}
use Rattle.build.proofs.Refusing.Ladder.{ListPassed, list_passed}
use Rattle.build.proofs.Holding.Passed.{chosen_split}
use Rattle.build.proofs.Refusing.Builds.{chosen_list, chosen_list_lem, chosen_apart, chosen_same, chosen_rest}
use Rattle.build.proofs.build_chosen.Goals as goal
use Rattle.build.proofs.build_chosen.Goals.{In_ok-check_list}

-- past checks 1 to 7
passed : (c : In_ok-check_list) → (ladder (chosen_list c.args.n c.args.degree c.args.cells c.args.vectors.now (lent c.args.h.now c.args.g.now c.args.aux.now))).number ≡ 0
passed c = sym (ap (λ (b : Built). b.refusal) (rw c.outside-two.ensures at c.in_ok-check_list.ensures))

list : (c : In_ok-check_list) → ListPassed c.args.n (check2_chosen c.args.degree) c.args.cells c.args.vectors.now (length c.args.g.now) (length c.args.aux.now)
list c = list_passed _ _ _ _ _ _ (passed c)

pub returns-in_err-check_list : goal.returns-in_err-check_list
returns-in_err-check_list c =
    let p = err_from_is_err_and c.from_residual.result c.from_residual.ensures.1 in
    rw (p.1, p.2) (chosen_list_lem c.args.n c.args.degree c.args.cells c.args.allowance c.args.vectors.now (lent c.args.h.now c.args.g.now c.args.aux.now) _ (rw c.outside-two.ensures at c.in_err-check_list.ensures))

pub overflow_cast-n : goal.overflow_cast-n
overflow_cast-n c = omega (arith, (list c).listed.inputs)

pub returns-in_default : goal.returns-in_default
returns-in_default c =
    let q = (goal.at.returns-in_default c).In_ok-check_list in
    let l = list q in
    let d = chosen_is _ _ _ _ l.some_inputs l.listed.inputs l.listed.few c.in_default.ensures in
    ap (λ (e : Refused). after (told (Err e)) c.args.h.now c.args.g.now c.args.aux.now) c.at.ensures
    ∙ chosen_apart c.args.n c.args.degree c.args.cells c.args.allowance c.args.vectors.now (lent c.args.h.now c.args.g.now c.args.aux.now) (passed q) (sym d.apart)

pub invariant_of-chart : goal.invariant_of-chart
invariant_of-chart c =
    let q = (goal.at.invariant_of-chart c).In_ok-check_list in
    let l = list q in
    let d = chosen_is _ _ _ _ l.some_inputs l.listed.inputs l.listed.few c.in-Ok.ensures in
    let v = chosen_split c.args.n c.args.degree _ c.args.cells c.args.vectors.now _ _ (passed q) in
    record { few = d.within; listed = l.listed; split = rw (d.kinds, d.many) v }

pub complete-requires : goal.complete-requires
complete-requires c = let l = list (goal.at.complete-requires c).In_ok-check_list in (l.cells_fit, l.few_cells, l.words_fit)

pub returns : goal.returns
returns c =
    let q = (goal.at.returns c).In_ok-check_list in
    let l = list q in
    let d = chosen_is _ _ _ _ l.some_inputs l.listed.inputs l.listed.few c.in-Ok.ensures in
    c.complete.ensures ∙ chosen_same c.args.n c.in-Ok.chosen.p _ _ c.args.cells c.args.allowance c.args.vectors.now (lent c.args.h.now c.args.g.now c.args.aux.now) d.kinds d.many
    ∙ sym (chosen_rest c.args.n c.args.degree c.args.cells c.args.allowance c.args.vectors.now (lent c.args.h.now c.args.g.now c.args.aux.now) (passed q) (sym d.apart))
