-- The rows that are placed within an allowance. Assumes nothing.
use Prim.Native.Nat.{ℕ, ◌≤◌, ◌<◌}
use native.Mathlib.Omega.{arith}
use mathlib.Core.Path.{◌≡◌, refl, sym, ap, ◌∙◌}
use mathlib.Core.Bool.{Bool, true, false, true≢false}
use mathlib.Core.List.{List, [], ◌∷◌}
use mathlib.Core.Logic.{◌⊎◌, inl, inr}
use lib.Dec.{eqb}
use lib.ListN.{length}
use borrow.Author.Tests.{eqb-false, lt-ltb, le-ltb}
use Rattle.lists.specs.First.{has}
use Rattle.lists.proofs.Tests.{le_or_lt}
use Rattle.lists.proofs.Finding.Has.{has_self, has_other, has_in, in_has}
use Rattle.rows.specs.Care.{Care}
use Rattle.rows.specs.Place.{Placing, place}
use Rattle.rows.specs.Demand.{Once, tries_of}
use Rattle.rows.specs.Allowance.{last_row, last_tries, tries_made, in_hand, end_within, placed_within, tries_to, places_within}
use Rattle.rows.specs.End.{End, All, NoFit, Over, Unfit}
use Rattle.rows.proofs.Placing.Open.{open_not}
use Rattle.rows.proofs.Placing.Turns.{ended}
use Rattle.rows.proofs.Placing.Order.{ordered}
use Rattle.rows.proofs.Placing.Counts.{counted}
use Rattle.rows.proofs.Placing.Allowed.{within_same, within_over, same_over, hand_low, hand_high}

module _ (a : ℕ) (h : List ℕ) (r : ℕ) (before : List ℕ) where
  kept_all : tries_of h (r ∷ before) ≤ a → placed_within a h (r ∷ before) ≡ r ∷ before
  unfolding placed_within
  kept_all l = rw (le-ltb a (tries_of h (r ∷ before)) l, placed_within)

  kept_less : a < tries_of h (r ∷ before) → placed_within a h (r ∷ before) ≡ placed_within a h before
  unfolding placed_within
  kept_less l = rw (lt-ltb a (tries_of h (r ∷ before)) l, placed_within)

tries_here : (r : ℕ) (h before : List ℕ) (q : ℕ) → eqb q r ≡ true → tries_to r h (q ∷ before) ≡ tries_of h (q ∷ before)
unfolding tries_to
tries_here r h before q e = rw (e, tries_to)

tries_before : (r : ℕ) (h before : List ℕ) (q : ℕ) → eqb q r ≡ false → tries_to r h (q ∷ before) ≡ tries_to r h before
unfolding tries_to
tries_before r h before q e = rw (e, tries_to)

module _ (a : ℕ) (h : List ℕ) (r : ℕ) where
  -- a row placed with no more tries up to it and in it is placed within the allowance
  pub within_placed : (order : List ℕ) → has r order ≡ true → tries_to r h order ≤ a → has r (placed_within a h order) ≡ true
  within_placed [] m l = unfold placed_within in m
  within_placed (q ∷ before) m l = go (le_or_lt (tries_of h (q ∷ before)) a) (eqb q r) refl (within_placed before)
    where
      go : (tries_of h (q ∷ before) ≤ a) ⊎ (a < tries_of h (q ∷ before)) → (b : Bool) → eqb q r ≡ b
          → (has r before ≡ true → tries_to r h before ≤ a → has r (placed_within a h before) ≡ true) → has r (placed_within a h (q ∷ before)) ≡ true
      go (inl k) b e i = rw (kept_all a h q before k) m
      go (inr k) true e i = absurd (omega (arith, tries_here r h before q e))
      go (inr k) false e i =
          let n = eqb-false q r e in
          rw (kept_less a h q before k) (i (sym (has_other r q before (λ z. n (sym z))) ∙ m) (omega (arith, tries_before r h before q e)))

  -- and no other row is
  pub placed_within_lem : (order : List ℕ) → has r (placed_within a h order) ≡ true → has r order ≡ true
  placed_within_lem [] m = unfold placed_within in m
  placed_within_lem (q ∷ before) m = go (le_or_lt (tries_of h (q ∷ before)) a) (placed_within_lem before)
    where
      go : (tries_of h (q ∷ before) ≤ a) ⊎ (a < tries_of h (q ∷ before)) → (has r (placed_within a h before) ≡ true → has r before ≡ true) → has r (q ∷ before) ≡ true
      go (inl k) i = rw (kept_all a h q before k) at m
      go (inr k) i = in_has r (q ∷ before) (inr (has_in r before (i (rw (kept_less a h q before k) at m))))

-- the row in hand when the tries exceed the allowance is not among them
hand_out : (a : ℕ) (h : List ℕ) (after : ℕ) (order : List ℕ) → Once order → (a < tries_of h order) ⊎ (has after order ≡ false) → has (in_hand a h after order) (placed_within a h order) ≡ false
unfolding Once tries_of in_hand placed_within
hand_out a h after [] o (inl l) = absurd (omega arith)
hand_out a h after [] o (inr n) = n
hand_out a h after (r ∷ before) o n = go (le_or_lt (tries_of h (r ∷ before)) a) n (hand_out a h r before o.1 (inr o.0))
  where
    go : (tries_of h (r ∷ before) ≤ a) ⊎ (a < tries_of h (r ∷ before)) → (a < tries_of h (r ∷ before)) ⊎ (has after (r ∷ before) ≡ false)
        → has (in_hand a h r before) (placed_within a h before) ≡ false → has (in_hand a h after (r ∷ before)) (placed_within a h (r ∷ before)) ≡ false
    go (inl k) (inl l) i = absurd (omega arith)
    go (inl k) (inr m) i = rw (hand_low a h after (r ∷ before) k, kept_all a h r before k) m
    go (inr k) m i = rw (hand_high a h after r before k, kept_less a h r before k) i

-- and it is one of the rows placed, or the row after them
hand_of : (Q : ℕ → Type 0) (a : ℕ) (h : List ℕ) (after : ℕ) (order : List ℕ) → ((r : ℕ) → has r order ≡ true → Q r) → (a < tries_of h order) ⊎ Q after → Q (in_hand a h after order)
unfolding tries_of in_hand
hand_of Q a h after [] each (inl l) = absurd (omega arith)
hand_of Q a h after [] each (inr q) = q
hand_of Q a h after (r ∷ before) each n =
    go (le_or_lt (tries_of h (r ∷ before)) a) n
    (hand_of Q a h r before (λ p m. each p (in_has p (r ∷ before) (inr (has_in p before m)))) (inr (each r (has_self r before))))
  where
    go : (tries_of h (r ∷ before) ≤ a) ⊎ (a < tries_of h (r ∷ before)) → (a < tries_of h (r ∷ before)) ⊎ Q after → Q (in_hand a h r before) → Q (in_hand a h after (r ∷ before))
    go (inl k) (inl l) i = absurd (omega arith)
    go (inl k) (inr q) i = rw (hand_low a h after (r ∷ before) k) q
    go (inr k) m i = rw (hand_high a h after r before k) i

module _ (a : ℕ) (cs : List Care) (h g : List ℕ) where
  abbrev P : Placing
  P = place cs h g

  -- the rows placed make more tries, or the placing ends at a row that has no displacement
  last : (Q : ℕ → Type 0) → ((r t n : ℕ) → P.end ≡ NoFit r t n → Q r) → a < tries_made P → (a < tries_of P.state.h P.state.order) ⊎ Q (last_row P.end)
  last Q each l = go P.end refl
    where
      go : (x : End) → P.end ≡ x → (a < tries_of P.state.h P.state.order) ⊎ Q (last_row P.end)
      go All q = inl (omega (arith, (counted cs h g).tries, ap last_tries q))
      go (NoFit r t n) q = inr (rw q (each r t n q))
      go (Over r) q = absurd ((ended cs h g).not_over r q)
      go Unfit q = absurd ((ended cs h g).not_unfit q)

  -- what the row is at which the tries exceed the allowance
  over_is : (row : ℕ) → end_within a P ≡ Over row → (a < tries_made P) × (in_hand a P.state.h (last_row P.end) P.state.order ≡ row)
  over_is row e = go (le_or_lt (tries_made P) a)
    where
      go : (tries_made P ≤ a) ⊎ (a < tries_made P) → (a < tries_made P) × (in_hand a P.state.h (last_row P.end) P.state.order ≡ row)
      go (inl l) = absurd ((ended cs h g).not_over row (sym (within_same a P l) ∙ e))
      go (inr l) = (l, same_over (sym (within_over a P l) ∙ e))

  stuck_not : (r t n : ℕ) → P.end ≡ NoFit r t n → has r P.state.order ≡ false
  stuck_not r t n q = open_not cs P.state.order r ((ended cs h g).no_fit r t n q).0.weighs

  -- it is one of the rows
  pub over_in : (row : ℕ) → end_within a P ≡ Over row → row < length h
  over_in row e =
      let o = over_is row e in
      let q = o.1 in
      rw (← q)
      (hand_of (λ r. r < length h) a P.state.h (last_row P.end) P.state.order (ordered cs h g).rows_in
      (last (λ r. r < length h) (λ r t n k. rw (ordered cs h g).size at ((ended cs h g).no_fit r t n k).0.row_in) o.0))

  -- and is not placed
  pub over_out : (row : ℕ) → end_within a P ≡ Over row → places_within a P row ≡ false
  over_out row e =
      let o = over_is row e in
      let q = o.1 in
      rw (← q)
      (hand_out a P.state.h (last_row P.end) P.state.order (ordered cs h g).once (last (λ r. has r P.state.order ≡ false) stuck_not o.0))

  -- nor is a row that has no displacement
  pub stuck_out : (row tried cells : ℕ) → P.end ≡ NoFit row tried cells → places_within a P row ≡ false
  stuck_out row tried cells e = go (places_within a P row) refl
    where
      go : (b : Bool) → places_within a P row ≡ b → places_within a P row ≡ false
      go true q = absurd (true≢false (sym (placed_within_lem a P.state.h row P.state.order q) ∙ stuck_not row tried cells e))
      go false q = q
