-- The most tries that a placing can make: the bound of demand 3 over all occupied rows, which is at most half of k(k + 1) over empty cells. Assumes nothing.
use Prim.Native.Nat.{ℕ, zero, suc, ◌+◌, ◌*◌, ◌≤◌, ◌<◌}
use native.Mathlib.Nat.{eq-zero-or-pos, le_trans, mul-le-mul, mul-le-mul_left, mul-le-mul_right, mul_comm, mul-suc, mul-add, add-mul}
use native.Mathlib.Omega.{arith}
use mathlib.Core.Path.{◌≡◌, refl, sym, ap, ◌∙◌}
use mathlib.Core.Bool.{Bool, true, false, cond}
use mathlib.Core.List.{List, [], ◌∷◌}
use mathlib.Core.Logic.{◌⊎◌, inl, inr}
use lib.ListN.{length, length-set}
use borrow.Author.Tests.{eq-eqb, ne_eqb}
use Rattle.lists.specs.First.{has}
use Rattle.rows.specs.Care.{Care, in_row, weight_of, open_weight, Heavy, heaviest}
use Rattle.rows.specs.Fit.{first_fit, Fit, At, None}
use Rattle.rows.specs.Place.{State, Placing, place_row, place_in, place}
use Rattle.rows.specs.Demand.{filled, count_in, bound_of}
use Rattle.rows.specs.Allowance.{tries_made, order_in, most_tries}
use Rattle.rows.specs.End.{All}
use Rattle.rows.proofs.Fits.Bound.{none_le}
use Rattle.rows.proofs.Placing.Open.{open_not, open_weight_lem}
use Rattle.rows.proofs.Placing.Heaviest.{is_heaviest}
use Rattle.rows.proofs.Placing.Turns.{next, place_none, place_stuck, place_more, is_next, all_no_fit}
use Rattle.rows.proofs.Placing.Counts.{Counted, counted_start, counted_turn, count_more, tries_le}

-- ---- the order of all occupied rows

module _ (cs : List Care) (rows : ℕ) where
  -- the heaviest that is not among those that came before
  abbrev then : List ℕ → Heavy
  then order = heaviest (open_weight cs order) rows

  order_end : (f : ℕ) (order : List ℕ) → (then order).weight ≡ 0 → order_in (suc f) cs rows order ≡ order
  unfolding order_in
  order_end f order e = rw (eq-eqb (then order).weight 0 e, order_in)

  order_more : (f : ℕ) (order : List ℕ) → 0 < (then order).weight → order_in (suc f) cs rows order ≡ order_in f cs rows ((then order).row ∷ order)
  unfolding order_in
  order_more f order l = rw (ne_eqb (then order).weight 0 (λ z. omega arith), order_in)

  -- what holds of an order holds with all rows after it
  order_all : (Q : List ℕ → Type 0) → ((order : List ℕ) → 0 < (then order).weight → Q order → Q ((then order).row ∷ order)) → (f : ℕ) (order : List ℕ) → Q order → Q (order_in f cs rows order)
  order_all Q turn zero order q = unfold order_in in q
  order_all Q turn (suc f) order q = go (eq-zero-or-pos (then order).weight) (order_all Q turn f ((then order).row ∷ order))
    where
      go : ((then order).weight ≡ 0) ⊎ (0 < (then order).weight) → (Q ((then order).row ∷ order) → Q (order_in f cs rows ((then order).row ∷ order))) → Q (order_in (suc f) cs rows order)
      go (inl z) i = rw (order_end f order z) q
      go (inr l) i = rw (order_more f order l) (i (turn order l q))

  -- the bound grows with each row
  bound_grows : (start f : ℕ) (order : List ℕ) → bound_of cs start order ≤ bound_of cs start (order_in f cs rows order)
  unfolding bound_of
  bound_grows start f order = order_all (λ o. bound_of cs start order ≤ bound_of cs start o) (λ o l q. omega arith) f order (omega arith)

-- ---- the tries of a placing are within the bound

bound_row : (cs : List Care) (start r : ℕ) (order : List ℕ) → bound_of cs start (r ∷ order) ≡ suc (weight_of cs r * (start + count_in order cs)) + bound_of cs start order
unfolding bound_of
bound_row cs start r order = refl

module _ (cs : List Care) (start : ℕ) where
  -- those made for a row that has no displacement
  tried : (s : State) → Counted cs start s → (r t n : ℕ) → first_fit s.g (in_row r cs) ≡ None t n → t ≤ weight_of cs r * (start + count_in s.order cs)
  unfolding weight_of
  tried s c r t n k = le_trans (none_le s.g (in_row r cs) t n k) (mul-le-mul_left (length (in_row r cs)) c.count)

  most_in : (f : ℕ) (s : State) → Counted cs start s → tries_made (place_in f cs s) ≤ bound_of cs start (order_in f cs (length s.h) s.order)
  unfolding place_in order_in
  most_in zero s c = omega (arith, c.tries, tries_le cs s.h start s.order c.bounded)
  most_in (suc f) s c = go (eq-zero-or-pos (next cs s).weight) (first_fit s.g (in_row r cs)) refl (λ d. most_in f (place_row cs s r d))
    where
      r : ℕ
      r = (next cs s).row

      here : s.tries ≤ bound_of cs start s.order
      here = omega (arith, c.tries, tries_le cs s.h start s.order c.bounded)

      go : ((next cs s).weight ≡ 0) ⊎ (0 < (next cs s).weight) → (a : Fit) → first_fit s.g (in_row r cs) ≡ a
          → ((d : ℕ) → Counted cs start (place_row cs s r d) → tries_made (place_in f cs (place_row cs s r d)) ≤ bound_of cs start (order_in f cs (length (place_row cs s r d).h) (r ∷ s.order)))
          → tries_made (place_in (suc f) cs s) ≤ bound_of cs start (order_in (suc f) cs (length s.h) s.order)
      go (inl z) a k i = rw (place_none f cs s z, order_end cs (length s.h) f s.order z) (omega (arith, here))
      go (inr l) (None t n) k i =
          rw (place_stuck f cs s r refl l t n k, order_more cs (length s.h) f s.order l)
          (omega (arith, here, tried s c r t n k, bound_grows cs (length s.h) start f (r ∷ s.order), bound_row cs start r s.order))
      go (inr l) (At d) k i =
          rw (place_more f cs s r refl l d k, order_more cs (length s.h) f s.order l)
          (rw length-set at (i d (counted_turn cs start s r d (is_next cs s r refl l) k c)))

-- no placing makes more tries than the bound
pub most_tries_lem : (cs : List Care) (h g : List ℕ) → tries_made (place cs h g) ≤ most_tries cs (length h) (filled g)
unfolding place most_tries
most_tries_lem cs h g = most_in cs (filled g) (length h) (record { h = h; g = g; tries = 0; order = [] }) (counted_start cs h g)

-- where all rows are placed it is the bound over these
most_in_all : (f : ℕ) (cs : List Care) (s : State) → (place_in f cs s).end ≡ All → order_in f cs (length s.h) s.order ≡ (place_in f cs s).state.order
unfolding place_in order_in
most_in_all zero cs s e = refl
most_in_all (suc f) cs s e = go (eq-zero-or-pos (next cs s).weight) (first_fit s.g (in_row r cs)) refl (λ d. most_in_all f cs (place_row cs s r d))
  where
    r : ℕ
    r = (next cs s).row

    go : ((next cs s).weight ≡ 0) ⊎ (0 < (next cs s).weight) → (a : Fit) → first_fit s.g (in_row r cs) ≡ a
        → ((d : ℕ) → (place_in f cs (place_row cs s r d)).end ≡ All → order_in f cs (length (place_row cs s r d).h) (r ∷ s.order) ≡ (place_in f cs (place_row cs s r d)).state.order)
        → order_in (suc f) cs (length s.h) s.order ≡ (place_in (suc f) cs s).state.order
    go (inl z) a k i = rw (place_none f cs s z) (order_end cs (length s.h) f s.order z)
    go (inr l) (None t n) k i = absurd (all_no_fit (sym e ∙ ap (λ (P : Placing). P.end) (place_stuck f cs s r refl l t n k)))
    go (inr l) (At d) k i =
        let m = place_more f cs s r refl l d k in
        rw (m, order_more cs (length s.h) f s.order l) (rw length-set at (i d (sym (ap (λ (P : Placing). P.end) m) ∙ e)))

pub most_all : (cs : List Care) (h g : List ℕ) (start : ℕ) → (place cs h g).end ≡ All → most_tries cs (length h) start ≡ bound_of cs start (place cs h g).state.order
unfolding place most_tries
most_all cs h g start e = ap (bound_of cs start) (most_in_all (length h) cs (record { h = h; g = g; tries = 0; order = [] }) e)

-- ---- the bound is small

count_all : (order : List ℕ) (cs : List Care) → count_in order cs ≤ length cs
unfolding count_in
count_all order [] = omega arith
count_all order (c ∷ cs) = go (has c.row order) (count_all order cs)
  where
    go : (t : Bool) → count_in order cs ≤ length cs → cond t 1 0 + count_in order cs ≤ suc (length cs)
    go true l = omega arith
    go false l = omega arith

-- c vectors in rows that came before, with the bound b, and w in one more
small_step : (start w c b : ℕ) → 0 < w → 2 * b ≤ c * suc c + 2 * (c * start) → 2 * (suc (w * (start + c)) + b) ≤ (c + w) * suc (c + w) + 2 * ((c + w) * start)
small_step start w c b l h =
    let q : w * 1 ≤ w * w = mul-le-mul_left w l in
    omega (
      arith,
      mul-suc (c + w) (c + w),
      add-mul c w (c + w),
      mul-add c c w,
      mul-add w c w,
      mul_comm c w,
      mul-suc c c,
      mul-add w start c,
      add-mul c w start,
    )

small_order : (cs : List Care) (start rows f : ℕ) (order : List ℕ) → let c = count_in order cs in 2 * bound_of cs start order ≤ c * suc c + 2 * (c * start)
    → let o = order_in f cs rows order in let e = count_in o cs in 2 * bound_of cs start o ≤ e * suc e + 2 * (e * start)
small_order cs start rows f order =
    order_all cs rows (λ o. let c = count_in o cs in 2 * bound_of cs start o ≤ c * suc c + 2 * (c * start)) turn f order
  where
    turn : (o : List ℕ) → 0 < (heaviest (open_weight cs o) rows).weight → let c = count_in o cs in 2 * bound_of cs start o ≤ c * suc c + 2 * (c * start)
        → let r = (heaviest (open_weight cs o) rows).row in let e = count_in (r ∷ o) cs in 2 * bound_of cs start (r ∷ o) ≤ e * suc e + 2 * (e * start)
    turn o l h =
        let b = heaviest (open_weight cs o) rows in
        let w = (is_heaviest (open_weight cs o) rows).weighs l in
        let p : 0 < open_weight cs o b.row = omega arith in
        rw (bound_row, count_more b.row o (open_not cs o b.row p) cs)
        (small_step start (weight_of cs b.row) (count_in o cs) (bound_of cs start o) (omega (arith, open_weight_lem cs o b.row p)) h)

-- twice the bound is at most k(k + 1), and 2k for each cell taken at the start
pub most_small : (cs : List Care) (rows start : ℕ) → let k = length cs in 2 * most_tries cs rows start ≤ k * suc k + 2 * (k * start)
unfolding most_tries bound_of
most_small cs rows start =
    let o = order_in rows cs rows [] in
    let c = count_in o cs in
    let k = length cs in
    let l = count_all o cs in
    le_trans (small_order cs start rows rows [] (omega arith))
    (omega (arith, mul-le-mul {n₁ = c} {m₁ = suc c} {n₂ = k} {m₂ = suc k} l (omega arith), mul-le-mul_right start l))
