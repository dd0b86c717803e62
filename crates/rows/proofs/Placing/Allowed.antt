-- A placing with an allowance of tries: when it ends as without one, and the row in hand when not. Assumes nothing.
use Prim.Native.Nat.{ℕ, zero, suc, ◌+◌, ◌≤◌, ◌<◌}
use native.Mathlib.Nat.{eq-zero-or-pos}
use native.Mathlib.Omega.{arith}
use mathlib.Core.Path.{◌≡◌, refl, sym, ap, ◌∙◌}
use mathlib.Core.Bool.{false}
use mathlib.Core.List.{List, [], ◌∷◌}
use mathlib.Core.Logic.{◌⊎◌, inl, inr}
use lib.ListN.{length, set}
use lib.Seq.{get_or-set_same}
use borrow.Author.Tests.{lt-ltb, le-ltb}
use Rattle.lists.specs.First.{has}
use Rattle.lists.proofs.Tests.{le_or_lt}
use Rattle.lists.proofs.Finding.Has.{not_cons}
use Rattle.rows.specs.Care.{Care, in_row}
use Rattle.rows.specs.Fit.{first_fit, Fit, At, None}
use Rattle.rows.specs.Place.{State, Placing, place_row, place_in, place}
use Rattle.rows.specs.Demand.{filled, tries_of}
use Rattle.rows.specs.Allowance.{last_row, tries_made, in_hand, end_within}
use Rattle.rows.specs.End.{End, All, NoFit, Over, Unfit}
use Rattle.rows.proofs.Placing.Open.{open_not}
use Rattle.rows.proofs.Placing.Turns.{next, Next, place_none, place_stuck, place_more, is_next, at_end_in, ended}
use Rattle.rows.proofs.Placing.Counts.{Counted, counted_start, counted_turn, tries_set}

-- ---- the end

module _ (a : ℕ) (P : Placing) where
  -- where no more tries are made the allowance alters nothing
  pub within_same : tries_made P ≤ a → end_within a P ≡ P.end
  unfolding end_within
  within_same l = rw (le-ltb a (tries_made P) l, end_within)

  pub within_over : a < tries_made P → end_within a P ≡ Over (in_hand a P.state.h (last_row P.end) P.state.order)
  unfolding end_within
  within_over l = rw (lt-ltb a (tries_made P) l, end_within)

  -- it ends otherwise exactly where no more are made
  pub within_not : ((row : ℕ) → end_within a P ≡ Over row → ⊥) → tries_made P ≤ a
  within_not n = go (le_or_lt (tries_made P) a)
    where
      go : (tries_made P ≤ a) ⊎ (a < tries_made P) → tries_made P ≤ a
      go (inl l) = l
      go (inr l) = absurd (n _ (within_over l))

pub over_all : {r : ℕ} → ◌≡◌ {A = End} (Over r) All → ⊥
over_all {r} e = let z : ◌≡◌ {A = ℕ} 0 1 = cc in omega arith

pub over_no_fit : {r q t n : ℕ} → ◌≡◌ {A = End} (Over r) (NoFit q t n) → ⊥
over_no_fit {r} {q} {t} {n} e = let z : ◌≡◌ {A = ℕ} 0 1 = cc in omega arith

pub same_over : {x y : ℕ} → ◌≡◌ {A = End} (Over x) (Over y) → x ≡ y
same_over {x} {y} e = cc

over_unfit : {r : ℕ} → ◌≡◌ {A = End} (Over r) Unfit → ⊥
over_unfit {r} e = let z : ◌≡◌ {A = ℕ} 0 1 = cc in omega arith

-- what an end says of the placing without an allowance
pub record Allowed (a : ℕ) (P : Placing) (e : End) : Type 0 where
  pub made : tries_made P ≤ a
  pub is : P.end ≡ e

-- an end that is not for the tries
module _ (a : ℕ) (P : Placing) (e : End) (q : end_within a P ≡ e) (n : (row : ℕ) → Over row ≡ e → ⊥) where
  allowed : Allowed a P e
  allowed = let m = within_not a P (λ row o. n row (sym o ∙ q)) in record { made = m; is = sym (within_same a P m) ∙ q }

pub within_all : (a : ℕ) (P : Placing) → end_within a P ≡ All → Allowed a P All
within_all a P q = allowed a P All q (λ row. over_all)

pub within_stuck : (a : ℕ) (P : Placing) (row tried cells : ℕ) → end_within a P ≡ NoFit row tried cells → Allowed a P (NoFit row tried cells)
within_stuck a P row tried cells q = allowed a P (NoFit row tried cells) q (λ r. over_no_fit)

-- no placing ends with Unfit
pub within_unfit : (a : ℕ) (cs : List Care) (h g : List ℕ) → end_within a (place cs h g) ≡ Unfit → ⊥
within_unfit a cs h g q = (ended cs h g).not_unfit (allowed a (place cs h g) Unfit q (λ row. over_unfit)).is

-- ---- the row in hand

-- where the tries of all rows placed keep within the allowance it is the row after them
pub hand_low : (a : ℕ) (h : List ℕ) (after : ℕ) (order : List ℕ) → tries_of h order ≤ a → in_hand a h after order ≡ after
unfolding in_hand
hand_low a h after [] l = refl
hand_low a h after (r ∷ before) l = rw (le-ltb a (tries_of h (r ∷ before)) l, in_hand)

pub hand_high : (a : ℕ) (h : List ℕ) (after r : ℕ) (before : List ℕ) → a < tries_of h (r ∷ before) → in_hand a h after (r ∷ before) ≡ in_hand a h r before
unfolding in_hand
hand_high a h after r before l = rw (lt-ltb a (tries_of h (r ∷ before)) l, in_hand)

-- a row that is not among them is set
hand_set : (cs : List Care) (a : ℕ) (h : List ℕ) (r d after : ℕ) (order : List ℕ) → has r order ≡ false → in_hand a (set h r d) after order ≡ in_hand a h after order
hand_set cs a h r d after [] n = unfold in_hand in refl
hand_set cs a h r d after (p ∷ ps) n = go (le_or_lt (tries_of h (p ∷ ps)) a) (hand_set cs a h r d p ps (not_cons r p ps n).1)
  where
    same : tries_of (set h r d) (p ∷ ps) ≡ tries_of h (p ∷ ps)
    same = tries_set cs h r d (p ∷ ps) n

    go : (tries_of h (p ∷ ps) ≤ a) ⊎ (a < tries_of h (p ∷ ps)) → in_hand a (set h r d) p ps ≡ in_hand a h p ps → in_hand a (set h r d) after (p ∷ ps) ≡ in_hand a h after (p ∷ ps)
    go (inl l) i = hand_low a (set h r d) after (p ∷ ps) (omega (arith, same)) ∙ sym (hand_low a h after (p ∷ ps) l)
    go (inr l) i = hand_high a (set h r d) after p ps (omega (arith, same)) ∙ i ∙ sym (hand_high a h after p ps l)

-- the tries exceed the allowance with the row i
pub record Exceeded (a i : ℕ) (s : State) : Type 0 where
  pub more : a < s.tries
  pub counted : s.tries ≡ tries_of s.h s.order
  pub hand : (after : ℕ) → in_hand a s.h after s.order ≡ i

module _ (cs : List Care) (a : ℕ) where
  -- the tries with one row more
  tries_more : (s : State) (r d : ℕ) → Next cs s r → s.tries ≡ tries_of s.h s.order → tries_of (set s.h r d) (r ∷ s.order) ≡ s.tries + suc d
  unfolding tries_of
  tries_more s r d n e =
      rw (get_or-set_same s.h r d 0 n.row_in, tries_set cs s.h r d s.order (open_not cs s.order r n.weighs)) (omega arith)

  -- with a row that is placed
  exceeded_at : (s : State) (r d : ℕ) → Next cs s r → s.tries ≡ tries_of s.h s.order → s.tries ≤ a → a < s.tries + suc d → Exceeded a r (place_row cs s r d)
  exceeded_at s r d n e l m =
      let t = tries_more s r d n e in
      let k : tries_of s.h s.order ≤ a = omega arith in
      record {
        more = m;
        counted = sym t;
        hand = λ after.
            hand_high a (set s.h r d) after r s.order (omega (arith, t)) ∙ hand_set cs a s.h r d r s.order (open_not cs s.order r n.weighs)
            ∙ hand_low a s.h r s.order k;
      }

  -- and later rows do not alter it
  exceeded_turn : (i : ℕ) (s : State) (r d : ℕ) → Next cs s r → first_fit s.g (in_row r cs) ≡ At d → Exceeded a i s → Exceeded a i (place_row cs s r d)
  exceeded_turn i s r d n f x =
      let t = tries_more s r d n x.counted in
      let m = x.more in
      record {
        more = omega arith;
        counted = sym t;
        hand = λ after.
            hand_high a (set s.h r d) after r s.order (omega (arith, t)) ∙ hand_set cs a s.h r d r s.order (open_not cs s.order r n.weighs)
            ∙ x.hand r;
      }

  -- the placing that goes on from there ends at that row
  pub exceeded_end : (f : ℕ) (s : State) (r d : ℕ) → Next cs s r → s.tries ≡ tries_of s.h s.order → s.tries ≤ a → a < s.tries + suc d
      → end_within a (place_in f cs (place_row cs s r d)) ≡ Over r
  exceeded_end f s r d n e l m =
      let P = place_in f cs (place_row cs s r d) in
      let x = at_end_in cs (Exceeded a r) (exceeded_turn r) f (place_row cs s r d) (exceeded_at s r d n e l m) in
      let k = x.more in
      within_over a P (omega arith) ∙ ap Over (x.hand (last_row P.end))

  -- a row that has no displacement
  pub exceeded_stuck : (s : State) (r t n : ℕ) → s.tries ≡ tries_of s.h s.order → s.tries ≤ a → a < s.tries + t
      → end_within a (record { end = NoFit r t n; state = s }) ≡ Over r
  exceeded_stuck s r t n e l m = within_over a (record { end = NoFit r t n; state = s }) m ∙ ap Over (hand_low a s.h r s.order (omega arith))

-- ---- where the placing stops

-- at the row r the tries exceed the allowance
pub data Exceeds (cs : List Care) (a : ℕ) (s : State) (r : ℕ) : Type 0 where
  fitting : (d : ℕ) → first_fit s.g (in_row r cs) ≡ At d → a < s.tries + suc d → Exceeds cs a s r
  fitless : (t n : ℕ) → first_fit s.g (in_row r cs) ≡ None t n → a < s.tries + t → Exceeds cs a s r

-- the state before it, of which holds what every turn keeps
pub record Stop (cs : List Care) (Q : State → Type 0) (a r : ℕ) : Type 0 where
  pub state : State
  pub holds : Q state
  pub turn : Next cs state r
  pub before : state.tries ≤ a
  pub exceeds : Exceeds cs a state r

module _ (cs : List Care) (a start : ℕ) (Q : State → Type 0) (turn : (s : State) (r d : ℕ) → Next cs s r → first_fit s.g (in_row r cs) ≡ At d → Q s → Q (place_row cs s r d)) where
  stop_in : (f : ℕ) (s : State) → Q s → Counted cs start s → s.tries ≤ a → (row : ℕ) → end_within a (place_in f cs s) ≡ Over row → Stop cs Q a row
  unfolding place_in
  stop_in zero s q c l row e = absurd (over_all (sym e ∙ within_same a (record { end = All; state = s }) (omega arith)))
  stop_in (suc f) s q c l row e =
      go (eq-zero-or-pos (next cs s).weight) (first_fit s.g (in_row r cs)) refl (λ d. stop_in f (place_row cs s r d))
    where
      r : ℕ
      r = (next cs s).row

      stop : 0 < (next cs s).weight → Exceeds cs a s r → Over r ≡ Over row → Stop cs Q a row
      stop w x k =
          let z : r ≡ row = same_over k in
          rw (← z) (record { state = s; holds = q; turn = is_next cs s r refl w; before = l; exceeds = x })

      go : ((next cs s).weight ≡ 0) ⊎ (0 < (next cs s).weight) → (b : Fit) → first_fit s.g (in_row r cs) ≡ b
          → ((d : ℕ) → Q (place_row cs s r d) → Counted cs start (place_row cs s r d) → (place_row cs s r d).tries ≤ a → (row : ℕ) → end_within a (place_in f cs (place_row cs s r d)) ≡ Over row → Stop cs Q a row)
          → Stop cs Q a row
      go (inl z) b k i =
          absurd (over_all (sym e ∙ ap (end_within a) (place_none f cs s z) ∙ within_same a (record { end = All; state = s }) (omega arith)))
      go (inr w) (None t n) k i = by (le_or_lt (s.tries + t) a)
        where
          P : Placing
          P = record { end = NoFit r t n; state = s }

          e' : end_within a P ≡ Over row
          e' = ap (end_within a) (sym (place_stuck f cs s r refl w t n k)) ∙ e

          by : (s.tries + t ≤ a) ⊎ (a < s.tries + t) → Stop cs Q a row
          by (inl m) = absurd (over_no_fit (sym e' ∙ within_same a P m))
          by (inr m) = stop w (fitless t n k m) (sym (exceeded_stuck cs a s r t n c.tries l m) ∙ e')
      go (inr w) (At d) k i = by (le_or_lt (s.tries + suc d) a)
        where
          e' : end_within a (place_in f cs (place_row cs s r d)) ≡ Over row
          e' = ap (end_within a) (sym (place_more f cs s r refl w d k)) ∙ e

          by : (s.tries + suc d ≤ a) ⊎ (a < s.tries + suc d) → Stop cs Q a row
          by (inl m) = let n = is_next cs s r refl w in i d (turn s r d n k q) (counted_turn cs start s r d n k c) m row e'
          by (inr m) = stop w (fitting d k m) (sym (exceeded_end cs a f s r d (is_next cs s r refl w) c.tries l m) ∙ e')

-- a placing that ends for its tries stops at such a row
pub stops : (cs : List Care) (a : ℕ) (Q : State → Type 0) → ((s : State) (r d : ℕ) → Next cs s r → first_fit s.g (in_row r cs) ≡ At d → Q s → Q (place_row cs s r d)) → (h g : List ℕ)
    → Q (record { h = h; g = g; tries = 0; order = [] }) → (row : ℕ) → end_within a (place cs h g) ≡ Over row → Stop cs Q a row
unfolding place
stops cs a Q turn h g q row e =
    stop_in cs a (filled g) Q turn (length h) (record { h = h; g = g; tries = 0; order = [] }) q (counted_start cs h g) (omega arith) row e
