-- Demand 3, of every placing: h are the displacements and g the cells at the start. Assumes nothing.
use Prim.Native.Nat.{ℕ, ◌+◌, ◌*◌, ◌≤◌, ◌<◌}
use native.Mathlib.Nat.{le_trans, mul-le-mul_left}
use native.Mathlib.Omega.{arith}
use mathlib.Core.Path.{◌≡◌, refl, ◌∙◌}
use mathlib.Core.Bool.{Bool, true, false, false≢true}
use mathlib.Core.List.{List, [], ◌∷◌}
use mathlib.Core.Logic.{⊎_elim}
use lib.ListN.{length, get_or}
use Rattle.lists.specs.First.{has}
use Rattle.lists.proofs.Finding.Has.{has_cons}
use Rattle.rows.specs.Care.{Care, in_row, weight_of}
use Rattle.rows.specs.Fit.{first_fit, None}
use Rattle.rows.specs.Place.{Placing, place}
use Rattle.rows.specs.Demand.{filled, Ahead, Falling, Once, Smallest, Bounded, tries_of, bound_of, Spread, spread, Columns}
use Rattle.rows.specs.End.{End, All, NoFit, Over, Unfit}
use Rattle.rows.proofs.Fits.Bound.{first_fits}
use Rattle.rows.proofs.Fits.Columns.{row_inside}
use Rattle.rows.proofs.Placing.Open.{open_none}
use Rattle.rows.proofs.Placing.Turns.{Next, ended, cells_length}
use Rattle.rows.proofs.Placing.Order.{ordered}
use Rattle.rows.proofs.Placing.Spreads.{spread_says, says_spread, spread_le}
use Rattle.rows.proofs.Placing.Counts.{counted, tries_le}
use Rattle.rows.proofs.Placing.Smallest.{stacked}

ahead_le : (cs : List Care) (q r : ℕ) → Ahead cs q r → weight_of cs r ≤ weight_of cs q
ahead_le cs q r a = ⊎_elim (λ l. omega arith) (λ e. omega (arith, e.0)) a

-- of rows by falling weight, under the spread condition, each displacement within its bound is at most k
spread_bounds : (k : ℕ) (cs : List Care) → Spread k cs → (h order : List ℕ) → Falling cs order → Bounded cs h 0 order → (r : ℕ) → has r order ≡ true → get_or h r 0 ≤ k
unfolding Falling Bounded has
spread_bounds k cs s h [] f b r m = absurd (false≢true m)
spread_bounds k cs s h (p ∷ ps) f b r m =
    ⊎_elim
    (λ e. rw e (omega (arith, b.0, spread_le k cs s ps p (λ q i. ahead_le cs q p (f.0 q i)))))
    (λ i. spread_bounds k cs s h ps f.1 b.1 r i)
    (has_cons r p ps m)

module _ (cs : List Care) (h g : List ℕ) where
  abbrev pub P : Placing
  P = place cs h g

  -- each displacement is the smallest that clears the rows placed before
  pub smallest : Smallest cs P.state.h g P.state.order
  smallest = (stacked cs h g).smallest

  -- and at most the row's vectors times the vectors placed before, with what stood in the cells
  pub bounded : Bounded cs P.state.h (filled g) P.state.order
  bounded = (counted cs h g).bounded

  -- the tries are the sum of displacement plus one, and so are bounded too
  pub tries_are : (P.state.tries ≡ tries_of P.state.h P.state.order) × (P.state.tries ≤ bound_of cs (filled g) P.state.order)
  tries_are = let e = (counted cs h g).tries in (e, omega (arith, tries_le cs P.state.h (filled g) P.state.order bounded))

  -- ---- the order of the rows

  -- by falling weight, equal weights by rising row number
  pub falling : Falling cs P.state.order
  falling = (ordered cs h g).falling

  pub placed_once : Once P.state.order
  placed_once = (ordered cs h g).once

  pub placed_in : (r : ℕ) → has r P.state.order ≡ true → r < length h
  placed_in = (ordered cs h g).rows_in

  pub placed_weighs : (r : ℕ) → has r P.state.order ≡ true → 0 < weight_of cs r
  placed_weighs = (ordered cs h g).weigh

  -- where the placing ends so, all rows with a weight are placed
  pub all_placed : P.end ≡ All → (r : ℕ) → r < length h → 0 < weight_of cs r → has r P.state.order ≡ true
  all_placed e r l w = open_none cs P.state.order r w ((ended cs h g).none_left e r (omega (arith, (ordered cs h g).size)))

  -- the others have displacement 0
  pub others_zero : ((i : ℕ) → get_or h i 0 ≡ 0) → (r : ℕ) → has r P.state.order ≡ false → get_or P.state.h r 0 ≡ 0
  others_zero zero r m = (ordered cs h g).rest r m ∙ zero r

  -- ---- over empty cells, under the spread condition

  module _ (k : ℕ) (s : Spread k cs) (empty : filled g ≡ 0) where
    -- no displacement exceeds k
    pub none_exceeds : ((i : ℕ) → get_or h i 0 ≡ 0) → (i : ℕ) → get_or P.state.h i 0 ≤ k
    none_exceeds zero i = go (has i P.state.order) refl
      where
        go : (t : Bool) → has i P.state.order ≡ t → get_or P.state.h i 0 ≤ k
        go true m = spread_bounds k cs s P.state.h P.state.order falling (rw empty at bounded) i m
        go false m = omega (arith, others_zero zero i m)

    -- the row in its turn has a displacement where the cells number k and the columns
    next_fits : (columns : ℕ) → k + columns ≤ length g → Columns columns cs → (r tried cells : ℕ) → Next cs P.state r → first_fit P.state.g (in_row r cs) ≡ None tried cells → ⊥
    unfolding weight_of
    next_fits columns l c r tried cells n f =
        let w = length (in_row r cs) * filled P.state.g in
        let a : w ≤ k =
        le_trans
        (mul-le-mul_left (length (in_row r cs)) (omega (arith, (counted cs h g).count)))
        (spread_le k cs s P.state.order r (λ q m. ahead_le cs q r ((ordered cs h g).ahead q r m (omega (arith, n.row_in, (ordered cs h g).size)) n.weighs))) in
        let b = first_fits P.state.g (in_row r cs) (row_inside columns (length P.state.g) w (omega (arith, cells_length cs h g)) r cs c) in
        let z : ◌≡◌ {A = ℕ} 0 1 = cc b.1 in
        omega arith

    -- every row fits where the cells number k and the columns at least
    pub always_fits : (columns : ℕ) → k + columns ≤ length g → Columns columns cs → P.end ≡ All
    always_fits columns l c = go P.end refl
      where
        go : (e : End) → P.end ≡ e → P.end ≡ All
        go All q = q
        go (NoFit r tried cells) q = let n = (ended cs h g).no_fit r tried cells q in absurd (next_fits columns l c r tried cells n.0 n.1)
        go (Over r) q = absurd ((ended cs h g).not_over r q)
        go Unfit q = absurd ((ended cs h g).not_unfit q)

-- the test of the spread condition says it for every j
pub spread_law : (k : ℕ) (cs : List Care) → (spread k cs ≡ true → Spread k cs) × (Spread k cs → spread k cs ≡ true)
spread_law k cs = (spread_says k cs, says_spread k cs)
