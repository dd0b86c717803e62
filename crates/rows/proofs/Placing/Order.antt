-- The order in which the rows are placed. Assumes nothing.
use Prim.Native.Nat.{ℕ, ◌<◌}
use native.Mathlib.Nat.{eq-or-lt_of_le}
use native.Mathlib.Omega.{arith}
use mathlib.Core.Path.{◌≡◌, refl, sym, ◌∙◌}
use mathlib.Core.Bool.{true, false, false≢true}
use mathlib.Core.List.{List, ◌∷◌}
use mathlib.Core.Logic.{inl, inr, ⊎_elim}
use lib.ListN.{length, get_or, length-set}
use lib.Seq.{get_or-set_other}
use Rattle.lists.specs.First.{has}
use Rattle.lists.proofs.Tests.{le_or_lt}
use Rattle.lists.proofs.Finding.Has.{has_cons, not_cons}
use Rattle.rows.specs.Care.{Care, in_row, weight_of, open_weight}
use Rattle.rows.specs.Fit.{first_fit, At}
use Rattle.rows.specs.Place.{State, place_row, place}
use Rattle.rows.specs.Demand.{Ahead, Falling, Once}
use Rattle.rows.proofs.Placing.Open.{open_not, open_weight_lem, open_more}
use Rattle.rows.proofs.Placing.Turns.{Next, at_end}

-- what is known of the rows placed, over the displacements h₀ at the start
pub record Ordered (cs : List Care) (h₀ : List ℕ) (s : State) : Type 0 where
  pub size : length s.h ≡ length h₀
  pub once : Once s.order
  pub rows_in : (r : ℕ) → has r s.order ≡ true → r < length h₀
  pub weigh : (r : ℕ) → has r s.order ≡ true → 0 < weight_of cs r
  pub falling : Falling cs s.order
  pub ahead : (q r : ℕ) → has q s.order ≡ true → r < length h₀ → 0 < open_weight cs s.order r → Ahead cs q r
  pub rest : (r : ℕ) → has r s.order ≡ false → get_or s.h r 0 ≡ get_or h₀ r 0

module _ (cs : List Care) (h₀ : List ℕ) where
  -- the row in its turn is ahead of every row left
  next_ahead : (s : State) (r i : ℕ) → Next cs s r → i < length s.h → (i ≡ r → ⊥) → 0 < open_weight cs s.order i → Ahead cs r i
  next_ahead s r i n l d o =
      let a = open_weight_lem cs s.order r n.weighs in
      let b = open_weight_lem cs s.order i o in
      ⊎_elim
      (λ e. inr (omega arith, ⊎_elim (λ m. ⊎_elim (λ q. absurd (d (sym q))) (λ q. q) (eq-or-lt_of_le m)) (λ m. absurd (omega (arith, n.lowest i m))) (le_or_lt r i)))
      (λ m. inl (omega arith))
      (eq-or-lt_of_le (n.most i l))

  ordered_turn : (s : State) (r d : ℕ) → Next cs s r → first_fit s.g (in_row r cs) ≡ At d → Ordered cs h₀ s → Ordered cs h₀ (place_row cs s r d)
  unfolding Once Falling
  ordered_turn s r d n f o =
      let shut = open_not cs s.order r n.weighs in
      let w = open_weight_lem cs s.order r n.weighs in
      record {
        size = length-set s.h r d ∙ o.size;
        once = (shut, o.once);
        rows_in = λ q m. ⊎_elim (λ e. omega (arith, n.row_in, o.size)) (λ p. o.rows_in q p) (has_cons q r s.order m);
        weigh = λ q m. ⊎_elim (λ e. rw e (omega (arith, n.weighs))) (λ p. o.weigh q p) (has_cons q r s.order m);
        falling = ((λ q m. o.ahead q r m (omega (arith, n.row_in, o.size)) n.weighs), o.falling);
        ahead = λ q i m l p.
            let u : 0 < open_weight cs s.order i = omega (arith, open_more cs s.order i r) in
            let v = not_cons i r s.order (open_not cs (r ∷ s.order) i p) in
            ⊎_elim (λ e. rw e (next_ahead s r i n (omega (arith, o.size)) v.0 u)) (λ k. o.ahead q i k l u) (has_cons q r s.order m);
        rest = λ q m. let v = not_cons q r s.order m in get_or-set_other s.h r q d 0 v.0 ∙ o.rest q v.1;
      }

  pub ordered : (g : List ℕ) → Ordered cs h₀ (place cs h₀ g).state
  unfolding Once Falling has
  ordered g =
      at_end cs (Ordered cs h₀) ordered_turn h₀ g
      (record {
        size = refl;
        once = tt;
        rows_in = λ r m. absurd (false≢true m);
        weigh = λ r m. absurd (false≢true m);
        falling = tt;
        ahead = λ q r m. absurd (false≢true m);
        rest = λ r m. refl;
      })
