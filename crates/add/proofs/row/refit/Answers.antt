use Prim.Native.Nat.{ℕ, ◌+◌, ◌<◌}
use native.Mathlib.Omega.{arith}
use mathlib.Core.Path.{◌≡◌, refl, sym, ap, ◌∙◌}
use mathlib.Core.List.{List}
use lib.ListN.{length, set, length-set}
use lib.Seq.{length-take-le}
use Rattle.rows.specs.Fit.{first_fit, put, At}
use Rattle.rows.specs.Single.{single_fit}
use Rattle.rows.specs.Told.{fit_told}
use Rattle.add.specs.Inner.Mates.{refitted}
use Rattle.add.specs.Inner.Rows.{mates_of, group_of, bare_of}
use Rattle.add.proofs.Moving.Refitting.{mates_few, cleared_length, fit_is, put_inside, put_cell, put_group, back_inside, back}
use Rattle.add.proofs.row.refit.Goals as goal
use Rattle.add.proofs.row.refit.Goals.{After-first_fit-fit, After-lift-m}

few : (c : After-lift-m) → c.lift-m.result < 1024
few c = let r = c.args.row in omega (arith, c.lift-m.ensures.count, mates_few r.seat r.aux.now r.firsts.now r.words.0, r.words)

-- the first fit of the row and the new vector
first_is : (c : After-first_fit-fit) → c.lift-m.result < 1024 → fit_told c.first_fit-fit.result ≡ first_fit (bare_of c.args.row c.args.g.now) (group_of c.args.row)
first_is c l =
    let r = c.args.row in
    c.first_fit-fit.ensures.value ∙ ap (single_fit _) c.lift-m.ensures.cells
    ∙ fit_is r.seat r.aux.now r.firsts.now c.args.g.now r.words.0 c.requires.stands r.column _ _ _ c.lift-m.ensures.count c.lift-m.ensures.words (omega (arith, l, c.lift-m.auto.words)) refl r.words.1 c.requires.few

-- the new vector's cell
in_cells : (c : After-first_fit-fit) (l : c.lift-m.result < 1024) (d : ℕ) → fit_told c.first_fit-fit.result ≡ At d → c.args.row.seat.column + d < length c.args.g.now
in_cells c l d e =
    let r = c.args.row in
    let h = put_cell r.seat r.aux.now r.firsts.now c.args.g.now r.words.0 c.requires.stands d (sym (first_is c l) ∙ e) in
    omega (arith, h, cleared_length c.args.g.now r.seat.displacement (mates_of r))

pub bounds-words-m : goal.bounds-words-m
bounds-words-m c = few (goal.at.bounds-words-m c).After-lift-m

pub overflow_add-words : goal.overflow_add-words
overflow_add-words c = omega (arith, few (goal.at.overflow_add-words c).After-lift-m)

pub slice_bounds-words-end : goal.slice_bounds-words-end
slice_bounds-words-end c = simp length-set (omega (arith, few (goal.at.slice_bounds-words-end c).After-lift-m, c.lift-m.auto.words))

pub slice_bounds-first_fit-end : goal.slice_bounds-first_fit-end
slice_bounds-first_fit-end c = sym (length-take-le _ _ (simp length-set (omega (arith, few (goal.at.slice_bounds-first_fit-end c).After-lift-m, c.lift-m.auto.words))))

pub put-requires : goal.put-requires
put-requires c =
    let r = c.args.row in
    let e = sym (first_is (goal.at.put-requires c).After-first_fit-fit (few (goal.at.put-requires c).After-lift-m)) ∙ ap fit_told c.in-Ok.is in
    record {
      stands = (λ i p h q. rw c.lift-m.auto.g (c.requires.stands i p h q));
      inside = rw c.lift-m.ensures.cells (put_inside r.seat r.aux.now r.firsts.now c.args.g.now r.words.0 c.requires.stands _ e);
    }

pub overflow_add-g : goal.overflow_add-g
overflow_add-g c = omega (arith, in_cells (goal.at.overflow_add-g c).After-first_fit-fit (few (goal.at.overflow_add-g c).After-lift-m) _ (ap fit_told c.in-Ok.is), c.requires.few)

pub offset_bounds-g-seat : goal.offset_bounds-g-seat
offset_bounds-g-seat c = omega (arith, in_cells (goal.at.offset_bounds-g-seat c).After-first_fit-fit (few (goal.at.offset_bounds-g-seat c).After-lift-m) _ (ap fit_told c.in-Ok.is), c.requires.few)

pub bounds-g-seat : goal.bounds-g-seat
bounds-g-seat c = omega (arith, in_cells (goal.at.bounds-g-seat c).After-first_fit-fit (few (goal.at.bounds-g-seat c).After-lift-m) _ (ap fit_told c.in-Ok.is), c.put.auto.g, c.lift-m.auto.g)

pub put-requires-in-Err : goal.put-requires-in-Err
put-requires-in-Err c =
    let r = c.args.row in
    record {
      stands = (λ i p h q. rw c.lift-m.auto.g (c.requires.stands i p h q));
      inside = rw c.lift-m.auto.g (back_inside r.seat r.aux.now r.firsts.now c.args.g.now r.words.0 c.requires.stands);
    }

pub returns-in-Ok : goal.returns-in-Ok
unfolding refitted
returns-in-Ok c =
    let r = c.args.row in
    record {
      fit = sym (ap fit_told c.in-Ok.is) ∙ first_is (goal.at.returns-in-Ok c).After-first_fit-fit (few (goal.at.returns-in-Ok c).After-lift-m);
      cells = ap (λ (g : List ℕ). set g (r.seat.column + c.in-Ok.d) (length r.aux.now)) (c.put.ensures ∙ ap (λ (g : List ℕ). put g c.in-Ok.d (mates_of r)) c.lift-m.ensures.cells)
          ∙ put_group r.seat r.aux.now r.firsts.now c.args.g.now r.words.0 c.requires.stands _ c.in-Ok.d;
    }

pub returns-in-Err : goal.returns-in-Err
unfolding refitted
returns-in-Err c =
    let r = c.args.row in
    record {
      fit = sym (ap fit_told c.in-Err.is) ∙ first_is (goal.at.returns-in-Err c).After-first_fit-fit (few (goal.at.returns-in-Err c).After-lift-m);
      cells = c.put-in-Err.ensures ∙ ap (λ (g : List ℕ). put g r.seat.displacement (mates_of r)) c.lift-m.ensures.cells
          ∙ back r.seat r.aux.now r.firsts.now c.args.g.now r.words.0 c.requires.stands c.requires.held;
    }
