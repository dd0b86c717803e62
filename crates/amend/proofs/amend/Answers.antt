use Prim.Native.Nat.{ℕ}
use mathlib.Core.Path.{refl, sym, ap, ◌∙◌}
use mathlib.Core.List.{List}
use lib.Seq.{length-take-le}
use Rattle.record.specs.Tables.{lent}
use Rattle.print.specs.Print.{fitted}
use Rattle.find.proofs.Lines.{given_good, given_fits, given_values}
use Rattle.amend.specs.Amend.{add_all}
use Rattle.amend.proofs.Adds.{amend_bad, tables_bad, tables_good, amend_good}
use Rattle.amend.proofs.amend.Goals as goal

pub returns-in_default : goal.returns-in_default
returns-in_default c =
    let t = lent c.args.h.now c.args.g.now c.args.aux.now in
    let bad = given_good c.args.text.now _ c.in_default.ensures refl in record {
      out_after = c.text.ensures ∙ ap (λ (x : List ℕ). fitted x c.args.out.now) (amend_bad c.args.text.now c.args.unit t bad);
      aux_after = tables_bad c.args.text.now c.args.unit t bad;
    }

pub slice_bounds-words-end : goal.slice_bounds-words-end
slice_bounds-words-end c = given_fits c.args.text.now _ c.in-Some.ensures (given_good c.args.text.now _ c.in-Some.ensures refl)

pub slice_bounds-add_all-end : goal.slice_bounds-add_all-end
slice_bounds-add_all-end c = sym (length-take-le _ _ (given_fits c.args.text.now _ c.in-Some.ensures (given_good c.args.text.now _ c.in-Some.ensures refl)))

pub returns : goal.returns
returns c =
    let t = lent c.args.h.now c.args.g.now c.args.aux.now in
    let g = given_good c.args.text.now _ c.in-Some.ensures refl in
    let e = c.add_all-added.ensures ∙ ap (add_all c.args.unit t) (given_values c.args.text.now _ c.in-Some.ensures g) in
    record {
      out_after = c.write_built.ensures ∙ amend_good c.args.text.now c.args.unit t g _ e c.args.out.now;
      aux_after = tables_good c.args.text.now c.args.unit t g _ e;
    }
