use Prim.Native.Nat.{ℕ}
use native.Mathlib.Omega.{arith}
use mathlib.Core.Path.{◌≡◌, refl, sym, ap₂, ◌∙◌}
use mathlib.Core.Bool.{false}
use mathlib.Core.List.{List, map}
use lib.ListN.{length}
use Rattle.rows.specs.Care.{Care}
use Rattle.rows.specs.Answer.{owned, unfit, settled}
use Rattle.rows.proofs.Answers.Unfit.{Fits, fits_are, placed_unfit, placed_fit}
use Rattle.rows.proofs.place.Goals as goal
use Rattle.rows.proofs.place.Goals.{Else-unfit}

fit : (e : Else-unfit) → let a = e.args in unfit a.aux.now (length a.h.now) (length a.g.now) a.owner ≡ false
fit e = sym e.unfit.ensures ∙ e.if-unfit.false

fits : (e : Else-unfit) → let a = e.args in Fits a.aux.now (length a.h.now) (length a.g.now) a.owner
fits e = fits_are _ _ _ _ (fit e)

pub returns-then-unfit : goal.returns-then-unfit
returns-then-unfit c = record {
  g_after = sym (placed_unfit _ _ _ _ _ (sym c.unfit.ensures ∙ c.if-unfit.true));
  aux_unchanged = refl;
}

pub link-requires : goal.link-requires
link-requires c = let f = fits (goal.at.link-requires c).Else-unfit in record {
  packed = f.packed;
  inside = (f.some, f.few);
}

pub take_cells-requires : goal.take_cells-requires
take_cells-requires c = record {
  inside = (fits (goal.at.take_cells-requires c).Else-unfit).cells_few;
  blank = refl;
}

pub place_rows-placed-requires : goal.place_rows-placed-requires
place_rows-placed-requires c =
    let l = c.link in
    let f = fits (goal.at.place_rows-placed-requires c).Else-unfit in
    let a = l.auto.aux in
    let k = l.auto.h in record {
      linked = (l.ensures.rises, l.ensures.weighs);
      marked = l.ensures.marked;
      inside = (omega (arith, a, f.some), omega (arith, a, f.few, f.owner_is), omega (arith, k, f.rows_few));
      taken = c.take_cells.ensures;
      rows = rw (k, l.ensures.cares) f.rows_in;
    }

pub unlink-requires : goal.unlink-requires
unlink-requires c = omega (arith, c.link.auto.aux, (fits (goal.at.unlink-requires c).Else-unfit).some)

pub returns : goal.returns
returns c =
    let l = c.link in
    let a = c.args in record {
      g_after =
          c.place_rows-placed.ensures
          ∙ ap₂ (λ (cs : List Care) (n : ℕ). settled a.allowance (map (owned a.owner) cs) n a.g.now) l.ensures.cares l.auto.h
          ∙ sym (placed_fit _ _ _ _ _ (fit (goal.at.returns c).Else-unfit));
      aux_unchanged = c.unlink.ensures ∙ l.ensures.back;
    }
