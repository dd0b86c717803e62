use native.Mathlib.Omega.{arith}
use Prim.Native.Nat.{◌≤◌}
use mathlib.Core.Path.{◌≡◌, sym, ap, ◌∙◌}
use lib.ListN.{length, take}
use Rattle.std.proofs.lemmas.Result.{err_from_is_err_and}
use Rattle.vectors.specs.Variable.{kinds_of}
use Rattle.vectors.specs.Bounds.{max_variables}
use Rattle.record.specs.Tables.{lent}
use Rattle.record.proofs.Formed as wellformed
use Rattle.build.specs.Built.{Built}
use Rattle.build.specs.Refusals.{ladder, check2_given, given_checks}
use Rattle.build.proofs.Refusing.Ladder.{ListPassed, list_passed, if_passed}
use Rattle.build.proofs.Holding.Passed.{given_split}
use Rattle.build.proofs.Refusing.Builds.{given_list, given_list_lem, given_variables, given_rest}
use Rattle.build.proofs.build_given.Goals as goal
use Rattle.build.proofs.build_given.Goals.{In_ok-check_list, In_ok-check_given}

-- past checks 1 to 7
passed : (c : In_ok-check_list) → (ladder (given_list c.args.n c.args.p c.args.n1 c.args.cells c.args.vectors.now (lent c.args.h.now c.args.g.now c.args.aux.now))).number ≡ 0
passed c = sym (ap (λ (b : Built). b.refusal) (rw c.too_many-two.ensures at c.in_ok-check_list.ensures))

list : (c : In_ok-check_list) → ListPassed c.args.n (check2_given c.args.p c.args.n1) c.args.cells c.args.vectors.now (length c.args.g.now) (length c.args.aux.now)
list c = list_passed _ _ _ _ _ _ (passed c)

few : (c : In_ok-check_list) → c.args.p ≤ max_variables
few c = (wellformed.few c.args.p c.args.n1 (if_passed 1 _ (list c).two)).all_few

-- past checks 8 to 10
right : (c : In_ok-check_given) → (ladder (given_checks c.args.n (kinds_of (take c.args.p c.args.variables)) c.args.vectors.now)).number ≡ 0
right c = sym (ap (λ (b : Built). b.refusal) c.in_ok-check_given.ensures)

pub returns-in_err-check_list : goal.returns-in_err-check_list
returns-in_err-check_list c =
    let p = err_from_is_err_and c.from_residual.result c.from_residual.ensures.1 in
    rw (p.1, p.2) (given_list_lem c.args.n c.args.variables c.args.p c.args.n1 c.args.cells c.args.allowance c.args.vectors.now (lent c.args.h.now c.args.g.now c.args.aux.now) _ (rw c.too_many-two.ensures at c.in_err-check_list.ensures))

pub check_given-requires : goal.check_given-requires
check_given-requires c = let l = list c in (l.listed.inputs, few c, l.listed.few)

pub returns-in_err-check_given : goal.returns-in_err-check_given
returns-in_err-check_given c =
    let q = (goal.at.returns-in_err-check_given c).In_ok-check_list in
    let p = err_from_is_err_and c.from_residual-in_err-check_given.result c.from_residual-in_err-check_given.ensures.1 in
    rw (p.1, p.2) (given_variables c.args.n c.args.variables c.args.p c.args.n1 c.args.cells c.args.allowance c.args.vectors.now (lent c.args.h.now c.args.g.now c.args.aux.now) (passed q) _ c.in_err-check_given.ensures)

pub invariant_of-chart : goal.invariant_of-chart
invariant_of-chart c =
    let q = (goal.at.invariant_of-chart c).In_ok-check_list in
    let l = list q in
    record {
      few = few q;
      listed = l.listed;
      split = given_split c.args.n c.args.variables c.args.p c.args.n1 c.args.cells c.args.vectors.now _ _ (omega (arith, c.well_formed)) (passed q) (right (goal.at.invariant_of-chart c).In_ok-check_given);
    }

pub complete-requires : goal.complete-requires
complete-requires c = let l = list (goal.at.complete-requires c).In_ok-check_list in (l.cells_fit, l.few_cells, l.words_fit)

pub returns : goal.returns
returns c =
    c.complete.ensures
    ∙ sym (given_rest c.args.n c.args.variables c.args.p c.args.n1 c.args.cells c.args.allowance c.args.vectors.now (lent c.args.h.now c.args.g.now c.args.aux.now) (passed (goal.at.returns c).In_ok-check_list) (right (goal.at.returns c).In_ok-check_given))
