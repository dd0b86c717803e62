-- The bound of each displacement, and the tries. Assumes nothing.
use Prim.Native.Nat.{ℕ, ◌+◌, ◌*◌, ◌≤◌}
use native.Mathlib.Nat.{le_trans, mul-le-mul_left}
use native.Mathlib.Omega.{arith}
use mathlib.Core.Path.{◌≡◌, refl, sym}
use mathlib.Core.Bool.{Bool, true, false}
use mathlib.Core.List.{List, [], ◌∷◌}
use lib.Dec.{eqb}
use lib.ListN.{length, get_or, set}
use lib.Seq.{get_or-set_same, get_or-set_other}
use borrow.Author.Tests.{eqb-true}
use Rattle.lists.specs.First.{has}
use Rattle.lists.proofs.Finding.Has.{not_cons}
use Rattle.rows.specs.Care.{Care, in_row, weight_of}
use Rattle.rows.specs.Fit.{first_fit, At}
use Rattle.rows.specs.Place.{State, place_row, place}
use Rattle.rows.specs.Demand.{filled, count_in, Bounded, tries_of, bound_of}
use Rattle.rows.proofs.Fits.Filled.{filled_put}
use Rattle.rows.proofs.Fits.Bound.{first_le}
use Rattle.rows.proofs.Placing.Open.{open_not}
use Rattle.rows.proofs.Placing.Turns.{Next, at_end}

-- one row more adds its vectors to those placed
pub count_more : (r : ℕ) (order : List ℕ) → has r order ≡ false → (cs : List Care) → count_in (r ∷ order) cs ≡ count_in order cs + weight_of cs r
unfolding count_in weight_of in_row has
count_more r order h [] = refl
count_more r order h (c ∷ cs) = go (eqb c.row r) refl (count_more r order h cs)
  where
    go : (t : Bool) → eqb c.row r ≡ t → count_in (r ∷ order) cs ≡ count_in order cs + weight_of cs r → count_in (r ∷ order) (c ∷ cs) ≡ count_in order (c ∷ cs) + weight_of (c ∷ cs) r
    go true e i = let q : has c.row order ≡ false = rw (eqb-true c.row r e) h in rw (e, q) (omega arith)
    go false e i = rw e (omega arith)

-- a row that is not among them is set
module _ (cs : List Care) (h : List ℕ) (r d : ℕ) where
  bounded_set : (start : ℕ) (order : List ℕ) → has r order ≡ false → Bounded cs h start order → Bounded cs (set h r d) start order
  unfolding Bounded
  bounded_set start [] n b = tt
  bounded_set start (p ∷ ps) n b =
      let o = not_cons r p ps n in
      (rw (get_or-set_other h r p d 0 (λ e. o.0 (sym e))) b.0, bounded_set start ps o.1 b.1)

  pub tries_set : (order : List ℕ) → has r order ≡ false → tries_of (set h r d) order ≡ tries_of h order
  unfolding tries_of
  tries_set [] n = refl
  tries_set (p ∷ ps) n =
      let o = not_cons r p ps n in
      rw (get_or-set_other h r p d 0 (λ e. o.0 (sym e)), tries_set ps o.1)

-- the tries are within the bound
pub tries_le : (cs : List Care) (h : List ℕ) (start : ℕ) (order : List ℕ) → Bounded cs h start order → tries_of h order ≤ bound_of cs start order
unfolding Bounded tries_of bound_of
tries_le cs h start [] b = omega arith
tries_le cs h start (r ∷ before) b = omega (arith, b.0, tries_le cs h start before b.1)

-- start: the cells taken at the start
pub record Counted (cs : List Care) (start : ℕ) (s : State) : Type 0 where
  pub count : filled s.g ≤ start + count_in s.order cs
  pub bounded : Bounded cs s.h start s.order
  pub tries : s.tries ≡ tries_of s.h s.order

module _ (cs : List Care) (start : ℕ) where
  fit_bound : (s : State) (r d : ℕ) → first_fit s.g (in_row r cs) ≡ At d → Counted cs start s → d ≤ weight_of cs r * (start + count_in s.order cs)
  unfolding weight_of
  fit_bound s r d f c = le_trans (first_le s.g (in_row r cs) d f) (mul-le-mul_left (length (in_row r cs)) c.count)

  pub counted_turn : (s : State) (r d : ℕ) → Next cs s r → first_fit s.g (in_row r cs) ≡ At d → Counted cs start s → Counted cs start (place_row cs s r d)
  unfolding Bounded tries_of weight_of
  counted_turn s r d n f c =
      let shut = open_not cs s.order r n.weighs in
      let is : get_or (set s.h r d) r 0 ≡ d = get_or-set_same s.h r d 0 n.row_in in
      record {
        count = omega (arith, count_more r s.order shut cs, filled_put s.g d (in_row r cs), c.count);
        bounded = (rw is (fit_bound s r d f c), bounded_set cs s.h r d start s.order shut c.bounded);
        tries = rw (is, tries_set cs s.h r d s.order shut) (omega (arith, c.tries));
      }

pub counted_start : (cs : List Care) (h g : List ℕ) → Counted cs (filled g) (record { h = h; g = g; tries = 0; order = [] })
unfolding Bounded tries_of
counted_start cs h g = record { count = omega arith; bounded = tt; tries = refl }

pub counted : (cs : List Care) (h g : List ℕ) → Counted cs (filled g) (place cs h g).state
counted cs h g = at_end cs (Counted cs (filled g)) (counted_turn cs (filled g)) h g (counted_start cs h g)
