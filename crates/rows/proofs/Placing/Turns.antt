-- The placing turn by turn, and what is known at its end. Assumes nothing.
use Prim.Native.Nat.{ℕ, zero, suc, ◌≤◌, ◌<◌}
use native.Mathlib.Nat.{eq-zero-or-pos}
use native.Mathlib.Omega.{arith}
use mathlib.Core.Path.{◌≡◌, refl, sym, ap, ◌∙◌}
use mathlib.Core.List.{List, [], ◌∷◌}
use mathlib.Core.Logic.{◌⊎◌, inl, inr}
use lib.ListN.{length, set, length-set}
use borrow.Author.Tests.{eq-eqb, ne_eqb}
use Rattle.rows.specs.Care.{Care, in_row, open_weight, Heavy, heaviest}
use Rattle.rows.specs.Fit.{first_fit, Fit, At, None}
use Rattle.rows.specs.Place.{State, Placing, place_row, place_in, place}
use Rattle.rows.specs.End.{End, All, NoFit, Over, Unfit}
use Rattle.rows.proofs.Fits.Cells.{put_length}
use Rattle.rows.proofs.Placing.Heaviest.{is_heaviest}
use Rattle.rows.proofs.Placing.Open.{count_of, count_all, count_none, open_less}

-- the row that is placed next
abbrev pub next : List Care → State → Heavy
next cs s = heaviest (open_weight cs s.order) (length s.h)

-- r is the heaviest of the rows that are not placed, and the lowest of equals
pub record Next (cs : List Care) (s : State) (r : ℕ) : Type 0 where
  pub row_in : r < length s.h
  pub weighs : 0 < open_weight cs s.order r
  pub most : (i : ℕ) → i < length s.h → open_weight cs s.order i ≤ open_weight cs s.order r
  pub lowest : (i : ℕ) → i < r → open_weight cs s.order i < open_weight cs s.order r

module _ (cs : List Care) (s : State) (r : ℕ) (e : (next cs s).row ≡ r) (l : 0 < (next cs s).weight) where
  pub is_next : Next cs s r
  is_next =
      let h = is_heaviest (open_weight cs s.order) (length s.h) in
      let w : open_weight cs s.order r ≡ (next cs s).weight = rw (← e) (h.weighs l) in
      record {
        row_in = rw (← e) (h.row_in l);
        weighs = omega arith;
        most = λ i m. omega (arith, h.most i m);
        lowest = λ i m. omega (arith, h.lowest i (rw e m));
      }

-- ---- a turn

-- the turn of the row r, whose first fit is a
abbrev step : ℕ → List Care → State → ℕ → Fit → Placing
step f cs s r a = elim a [ At d ↦ place_in f cs (place_row cs s r d) | None tried cells ↦ record { end = NoFit r tried cells; state = s } ]

place_step : (f : ℕ) (cs : List Care) (s : State) → 0 < (next cs s).weight → place_in (suc f) cs s ≡ step f cs s (next cs s).row (first_fit s.g (in_row (next cs s).row cs))
unfolding place_in
place_step f cs s l = rw (ne_eqb (next cs s).weight 0 (λ n. omega arith), place_in)

module _ (f : ℕ) (cs : List Care) (s : State) where
  -- no row is left
  pub place_none : (next cs s).weight ≡ 0 → place_in (suc f) cs s ≡ record { end = All; state = s }
  unfolding place_in
  place_none e = rw (eq-eqb _ 0 e, place_in)

  module _ (r : ℕ) (e : (next cs s).row ≡ r) (l : 0 < (next cs s).weight) where
    place_row_lem : place_in (suc f) cs s ≡ step f cs s r (first_fit s.g (in_row r cs))
    place_row_lem = place_step f cs s l ∙ ap (λ (q : ℕ). step f cs s q (first_fit s.g (in_row q cs))) e

    -- the row has no displacement
    pub place_stuck : (tried cells : ℕ) → first_fit s.g (in_row r cs) ≡ None tried cells → place_in (suc f) cs s ≡ record { end = NoFit r tried cells; state = s }
    place_stuck tried cells q = place_row_lem ∙ ap (step f cs s r) q

    -- the row is placed
    pub place_more : (d : ℕ) → first_fit s.g (in_row r cs) ≡ At d → place_in (suc f) cs s ≡ place_in f cs (place_row cs s r d)
    place_more d q = place_row_lem ∙ ap (step f cs s r) q

-- ---- the end

-- a property that every turn keeps holds at the end
module _ (cs : List Care) (Q : State → Type 0) (turn : (s : State) (r d : ℕ) → Next cs s r → first_fit s.g (in_row r cs) ≡ At d → Q s → Q (place_row cs s r d)) where
  pub at_end_in : (f : ℕ) (s : State) → Q s → Q (place_in f cs s).state
  unfolding place_in
  at_end_in zero s q = q
  at_end_in (suc f) s q = go (eq-zero-or-pos (next cs s).weight) (first_fit s.g (in_row r cs)) refl (λ d. at_end_in f (place_row cs s r d))
    where
      r : ℕ
      r = (next cs s).row

      go : ((next cs s).weight ≡ 0) ⊎ (0 < (next cs s).weight) → (a : Fit) → first_fit s.g (in_row r cs) ≡ a
          → ((d : ℕ) → Q (place_row cs s r d) → Q (place_in f cs (place_row cs s r d)).state) → Q (place_in (suc f) cs s).state
      go (inl z) a k i = rw (place_none f cs s z) q
      go (inr l) (None t n) k i = rw (place_stuck f cs s r refl l t n k) q
      go (inr l) (At d) k i = rw (place_more f cs s r refl l d k) (i d (turn s r d (is_next cs s r refl l) k q))

  pub at_end : (h g : List ℕ) → Q (record { h = h; g = g; tries = 0; order = [] }) → Q (place cs h g).state
  unfolding place
  at_end h g q = at_end_in (length h) (record { h = h; g = g; tries = 0; order = [] }) q

-- the number of cells stays
pub cells_length : (cs : List Care) (h g : List ℕ) → length (place cs h g).state.g ≡ length g
cells_length cs h g = at_end cs (λ s. length s.g ≡ length g) (λ s r d n f e. put_length s.g d (in_row r cs) ∙ e) h g refl

-- what the end says: no row is left, or the row in its turn has no displacement
pub record Ended (cs : List Care) (P : Placing) : Type 0 where
  pub none_left : P.end ≡ All → (i : ℕ) → i < length P.state.h → open_weight cs P.state.order i ≡ 0
  pub no_fit : (r tried cells : ℕ) → P.end ≡ NoFit r tried cells → Next cs P.state r × (first_fit P.state.g (in_row r cs) ≡ None tried cells)
  pub not_over : (r : ℕ) → P.end ≡ Over r → ⊥
  pub not_unfit : P.end ≡ Unfit → ⊥

-- the two ends differ
pub all_no_fit : {r t n : ℕ} → ◌≡◌ {A = End} All (NoFit r t n) → ⊥
all_no_fit {r} {t} {n} e = let z : ◌≡◌ {A = ℕ} 0 1 = cc in omega arith

-- and no placing ends with another
all_over : {r : ℕ} → ◌≡◌ {A = End} All (Over r) → ⊥
all_over {r} e = let z : ◌≡◌ {A = ℕ} 0 1 = cc in omega arith

no_fit_over : {r t n q : ℕ} → ◌≡◌ {A = End} (NoFit r t n) (Over q) → ⊥
no_fit_over {r} {t} {n} {q} e = let z : ◌≡◌ {A = ℕ} 0 1 = cc in omega arith

all_unfit : ◌≡◌ {A = End} All Unfit → ⊥
all_unfit e = let z : ◌≡◌ {A = ℕ} 0 1 = cc in omega arith

no_fit_unfit : {r t n : ℕ} → ◌≡◌ {A = End} (NoFit r t n) Unfit → ⊥
no_fit_unfit {r} {t} {n} e = let z : ◌≡◌ {A = ℕ} 0 1 = cc in omega arith

ended_all : (cs : List Care) (s : State) → ((i : ℕ) → i < length s.h → open_weight cs s.order i ≡ 0) → Ended cs (record { end = All; state = s })
ended_all cs s z = record { none_left = λ e. z; no_fit = λ r t n e. absurd (all_no_fit e); not_over = λ r e. all_over e; not_unfit = all_unfit }

ended_stuck : (cs : List Care) (s : State) (r t c : ℕ) → Next cs s r → first_fit s.g (in_row r cs) ≡ None t c → Ended cs (record { end = NoFit r t c; state = s })
ended_stuck cs s r t c n k =
    record {
      none_left = λ e. absurd (all_no_fit (sym e));
      no_fit = λ q u v e. let a : r ≡ q = cc in let b : t ≡ u = cc in let z : c ≡ v = cc in rw (← a, ← b, ← z) (n, k);
      not_over = λ q e. no_fit_over e;
      not_unfit = no_fit_unfit;
    }

-- as many turns as rows with a weight are left suffice
ended_in : (f : ℕ) (cs : List Care) (s : State) → count_of (open_weight cs s.order) (length s.h) ≤ f → Ended cs (place_in f cs s)
unfolding place_in
ended_in zero cs s m = ended_all cs s (λ i l. count_none (open_weight cs s.order) (length s.h) i (omega arith) l)
ended_in (suc f) cs s m = go (eq-zero-or-pos (next cs s).weight) (first_fit s.g (in_row r cs)) refl (λ d. ended_in f cs (place_row cs s r d))
  where
    r : ℕ
    r = (next cs s).row

    go : ((next cs s).weight ≡ 0) ⊎ (0 < (next cs s).weight) → (a : Fit) → first_fit s.g (in_row r cs) ≡ a
        → ((d : ℕ) → count_of (open_weight cs (r ∷ s.order)) (length (set s.h r d)) ≤ f → Ended cs (place_in f cs (place_row cs s r d))) → Ended cs (place_in (suc f) cs s)
    go (inl z) a k i = rw (place_none f cs s z) (ended_all cs s (λ j l. omega (arith, (is_heaviest (open_weight cs s.order) (length s.h)).most j l)))
    go (inr l) (None t n) k i = rw (place_stuck f cs s r refl l t n k) (ended_stuck cs s r t n (is_next cs s r refl l) k)
    go (inr l) (At d) k i =
        let n = is_next cs s r refl l in
        rw (place_more f cs s r refl l d k) (i d (rw length-set (omega (arith, open_less cs s.order r (length s.h) n.weighs n.row_in))))

pub ended : (cs : List Care) (h g : List ℕ) → Ended cs (place cs h g)
unfolding place
ended cs h g = ended_in (length h) cs (record { h = h; g = g; tries = 0; order = [] }) (count_all (open_weight cs []) (length h))
