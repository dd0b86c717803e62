-- Each displacement is the smallest that clears the rows placed before. Assumes nothing.
use Prim.Native.Nat.{ℕ}
use mathlib.Core.Path.{◌≡◌, refl, sym, ◌∙◌}
use mathlib.Core.Bool.{false}
use mathlib.Core.List.{List, [], ◌∷◌}
use lib.ListN.{get_or, set}
use lib.Seq.{get_or-set_same, get_or-set_other}
use Rattle.lists.specs.First.{has}
use Rattle.lists.proofs.Finding.Has.{not_cons}
use Rattle.rows.specs.Care.{Care, in_row}
use Rattle.rows.specs.Fit.{first_fit, At}
use Rattle.rows.specs.Place.{State, place_row, place}
use Rattle.rows.specs.Demand.{cells_of, Smallest}
use Rattle.rows.proofs.Fits.First.{fit_at}
use Rattle.rows.proofs.Placing.Open.{open_not}
use Rattle.rows.proofs.Placing.Turns.{Next, at_end}

-- a row that is not among them is set
module _ (cs : List Care) (h g : List ℕ) (r d : ℕ) where
  cells_set : (order : List ℕ) → has r order ≡ false → cells_of cs (set h r d) g order ≡ cells_of cs h g order
  unfolding cells_of
  cells_set [] n = refl
  cells_set (p ∷ ps) n =
      let o = not_cons r p ps n in
      rw (get_or-set_other h r p d 0 (λ e. o.0 (sym e)), cells_set ps o.1)

  smallest_set : (order : List ℕ) → has r order ≡ false → Smallest cs h g order → Smallest cs (set h r d) g order
  unfolding Smallest
  smallest_set [] n s = tt
  smallest_set (p ∷ ps) n s =
      let o = not_cons r p ps n in
      rw (get_or-set_other h r p d 0 (λ e. o.0 (sym e)), cells_set ps o.1) (s.0, s.1, smallest_set ps o.1 s.2)

-- g₀: the cells at the start
pub record Stacked (cs : List Care) (g₀ : List ℕ) (s : State) : Type 0 where
  pub cells_are : s.g ≡ cells_of cs s.h g₀ s.order
  pub smallest : Smallest cs s.h g₀ s.order

stacked_turn : (cs : List Care) (g₀ : List ℕ) (s : State) (r d : ℕ) → Next cs s r → first_fit s.g (in_row r cs) ≡ At d → Stacked cs g₀ s → Stacked cs g₀ (place_row cs s r d)
unfolding cells_of Smallest
stacked_turn cs g₀ s r d n f t =
    let shut = open_not cs s.order r n.weighs in
    let is : get_or (set s.h r d) r 0 ≡ d = get_or-set_same s.h r d 0 n.row_in in
    let q : s.g ≡ cells_of cs (set s.h r d) g₀ s.order = t.cells_are ∙ sym (cells_set cs s.h g₀ r d s.order shut) in
    let a = fit_at s.g (in_row r cs) d f in
    record {
      cells_are = rw (is, ← q);
      smallest = rw (is, ← q) (a.fits, a.before, smallest_set cs s.h g₀ r d s.order shut t.smallest);
    }

pub stacked : (cs : List Care) (h g : List ℕ) → Stacked cs g (place cs h g).state
unfolding cells_of Smallest
stacked cs h g = at_end cs (Stacked cs g) (stacked_turn cs g) h g (record { cells_are = refl; smallest = tt })
