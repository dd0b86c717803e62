use native.Mathlib.Omega.{arith}
use mathlib.Core.Path.{◌≡◌, refl, sym, ap, ◌∙◌}
use mathlib.Core.Bool.{false}
use lib.ListN.{length}
use Rattle.rows.specs.Fit.{first_fit}
use Rattle.rows.specs.Answer.{unfit}
use Rattle.rows.proofs.Answers.Unfit.{Fits, fits_are}
use Rattle.rows.proofs.Answers.Single.{single_unfit, single_fit_lem, single_empty, single_chain, single_none}
use Rattle.rows.proofs.first_fit.Goals as goal
use Rattle.rows.proofs.first_fit.Goals.{Else-unfit, in-Some, in-None}

fit : (e : Else-unfit) → let a = e.args in unfit a.words.now 1 (length a.g.now) 0 ≡ false
fit e = sym e.unfit.ensures ∙ e.if-unfit.false

fits : (e : Else-unfit) → let a = e.args in Fits a.words.now 1 (length a.g.now) 0
fits e = fits_are _ _ _ _ (fit e)

pub returns-then-unfit : goal.returns-then-unfit
returns-then-unfit c = record {
  value = single_unfit _ _ (sym c.unfit.ensures ∙ c.if-unfit.true);
  words_unchanged = refl;
}

pub link-requires : goal.link-requires
link-requires c = let f = fits (goal.at.link-requires c).Else-unfit in record {
  packed = f.packed;
  inside = (f.some, f.few);
}

pub take_cells-requires : goal.take_cells-requires
take_cells-requires c = record {
  inside = (fits (goal.at.take_cells-requires c).Else-unfit).cells_few;
  blank = refl;
}

pub unlink-requires : goal.unlink-requires
unlink-requires c = omega (arith, c.link.auto.aux, (fits (goal.at.unlink-requires c).Else-unfit).some)

pub returns : goal.returns
returns c =
    let e = goal.at.returns c in
    let f = fit e.Else-unfit in
    let rows = (fits e.Else-unfit).rows_in in
    record {
      value =
          elim c.match-head.branch [
            | in-Some w ↦
                let h = w.in-Some.ensures in
                rw w.fit-is
                (w.first_fit-fit.ensures ∙ ap (first_fit c.args.g.now) (single_chain _ _ _ c.link.auto.h rows c.link.ensures _ h.0 h.1) ∙ single_fit_lem _ _ f)
            | in-None w ↦ rw w.fit-is (single_empty _ _ f (single_none _ _ _ c.link.auto.h rows c.link.ensures w.in-None.ensures))
          ];
      words_unchanged = c.unlink.ensures ∙ c.link.ensures.back;
    }
