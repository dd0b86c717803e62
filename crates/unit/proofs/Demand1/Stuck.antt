-- Refusal 13: the placing ends without a fit exactly where a row in its turn fits nowhere, and that is one row. Assumes nothing.
use Prim.Native.Nat.{ℕ, suc, ◌+◌, ◌^◌, ◌≤◌, ◌<◌}
use native.Mathlib.Omega.{arith}
use mathlib.Core.Path.{◌≡◌, refl, sym, ap, ◌∙◌}
use mathlib.Core.Bool.{false}
use mathlib.Core.List.{List, [], ◌∷◌, ◌++◌}
use mathlib.Core.Logic.{◌⊎◌, inl, inr, ⊎_elim}
use lib.Dec.{ltb}
use lib.ListN.{length, get_or, replicate, length-set, length-replicate}
use borrow.Author.Tests.{ltb-false, eqb-false}
use Rattle.lists.proofs.Tests.{and_false, le_or_lt}
use Rattle.vectors.specs.declared.Kind.{Kind}
use Rattle.rows.specs.Care.{Care, in_row, weight_of, open_weight}
use Rattle.rows.specs.Fit.{cell_of, is_free, inside, clear, fits_at, put, first_fit, At}
use Rattle.rows.specs.Place.{State, place_row, place}
use Rattle.rows.specs.Demand.{Ahead}
use Rattle.rows.specs.End.{All, NoFit}
use Rattle.rows.proofs.Fits.First.{FirstAt, fit_at, fit_none}
use Rattle.rows.proofs.Fits.Cells.{fits_free}
use Rattle.rows.proofs.Placing.Open.{open_is, open_not, open_weight_lem}
use Rattle.rows.proofs.Placing.Turns.{Next, at_end, ended}
use Rattle.build.specs.Build.{cares_from, placing_of}
use Rattle.unit.specs.Demand1.{InTurn, Fits, Blocked, Turn, StuckAfter, Stuck}

-- ---- what a test of fit says

inside_blocked : (g : List ℕ) (d : ℕ) (m : List Care) → inside (length g) d m ≡ false → Blocked g m d
unfolding inside
inside_blocked g d [] h = let z : ◌≡◌ {A = ℕ} 0 1 = cc in absurd (omega arith)
inside_blocked g d (c ∷ m) h = go (and_false (ltb (cell_of c d) (length g)) (inside (length g) d m) h) (inside_blocked g d m)
  where
    go : (ltb (cell_of c d) (length g) ≡ false) ⊎ (inside (length g) d m ≡ false) → (inside (length g) d m ≡ false → Blocked g m d) → Blocked g (c ∷ m) d
    go (inl e) r = (c, inl refl, inl (ltb-false (cell_of c d) (length g) e))
    go (inr e) r = let b = r e in (b.0, inr b.1, b.2)

clear_blocked : (g : List ℕ) (d : ℕ) (m : List Care) → clear g d m ≡ false → Blocked g m d
unfolding clear
clear_blocked g d [] h = let z : ◌≡◌ {A = ℕ} 0 1 = cc in absurd (omega arith)
clear_blocked g d (c ∷ m) h = go (and_false (is_free g (cell_of c d)) (clear g d m) h) (clear_blocked g d m)
  where
    go : (is_free g (cell_of c d) ≡ false) ⊎ (clear g d m ≡ false) → (clear g d m ≡ false → Blocked g m d) → Blocked g (c ∷ m) d
    go (inl e) r = (c, inl refl, inr (eqb-false (get_or g (cell_of c d) 0) 0 e))
    go (inr e) r = let b = r e in (b.0, inr b.1, b.2)

pub not_fits : (g : List ℕ) (d : ℕ) (m : List Care) → fits_at g d m ≡ false → Blocked g m d
unfolding fits_at
not_fits g d m h = ⊎_elim (inside_blocked g d m) (clear_blocked g d m) (and_false (inside (length g) d m) (clear g d m) h)

-- not both
pub fits_blocked : (g : List ℕ) (m : List Care) (d : ℕ) → Fits g m d → Blocked g m d → ⊥
fits_blocked g m d f b = let p = f b.0 b.1 in ⊎_elim (λ l. omega (arith, p.0)) (λ n. n p.1) b.2

-- the smallest at which a row fits
abbrev pub Least : List ℕ → List Care → ℕ → Type 0
Least g m d = Fits g m d × ((e : ℕ) → e < d → Blocked g m e)

pub least_one : (g : List ℕ) (m : List Care) (d e : ℕ) → Least g m d → Least g m e → d ≡ e
least_one g m d e a b = go (le_or_lt d e) (le_or_lt e d)
  where
    go : (d ≤ e) ⊎ (e < d) → (e ≤ d) ⊎ (d < e) → d ≡ e
    go (inr l) k = absurd (fits_blocked g m e b.0 (a.1 e l))
    go (inl l) (inr k) = absurd (fits_blocked g m d a.0 (b.1 d k))
    go (inl l) (inl k) = omega arith

pub fit_least : (g : List ℕ) (m : List Care) (d : ℕ) → FirstAt g m d → Least g m d
fit_least g m d f = (fits_free g d m f.fits, λ e l. not_fits g e m (f.before e l))

-- ---- the row that is next

pub turn_one : (cs : List Care) (rows : ℕ) (order : List ℕ) (r q : ℕ) → InTurn cs rows order r → InTurn cs rows order q → r ≡ q
turn_one cs rows order r q a b =
    go (a.ahead q b.row_in b.not_placed b.occupied) (b.ahead r a.row_in a.not_placed a.occupied)
  where
    go : (q ≡ r) ⊎ Ahead cs r q → (r ≡ q) ⊎ Ahead cs q r → r ≡ q
    go (inl e) k = sym e
    go (inr x) (inl e) = e
    go (inr (inl x)) (inr (inl y)) = absurd (omega arith)
    go (inr (inl x)) (inr (inr y)) = absurd (omega (arith, y.0))
    go (inr (inr x)) (inr (inl y)) = absurd (omega (arith, x.0))
    go (inr (inr x)) (inr (inr y)) = absurd (omega (arith, x.1, y.1))

next_turn : (cs : List Care) (s : State) (r : ℕ) → Next cs s r → InTurn cs (length s.h) s.order r
next_turn cs s r n =
    record {
      row_in = n.row_in;
      not_placed = open_not cs s.order r n.weighs;
      occupied = omega (arith, n.weighs, open_weight_lem cs s.order r n.weighs);
      ahead = λ q l p w. go q (open_is cs s.order q p) (open_weight_lem cs s.order r n.weighs) (n.most q l) (le_or_lt r q);
    }
  where
    go : (q : ℕ) → open_weight cs s.order q ≡ weight_of cs q → open_weight cs s.order r ≡ weight_of cs r → open_weight cs s.order q ≤ open_weight cs s.order r
        → (r ≤ q) ⊎ (q < r) → (q ≡ r) ⊎ Ahead cs r q
    go q e f m (inr l) = inr (inl (omega (arith, n.lowest q l)))
    go q e f m (inl l) = same (le_or_lt q r) (le_or_lt (weight_of cs r) (weight_of cs q))
      where
        same : (q ≤ r) ⊎ (r < q) → (weight_of cs r ≤ weight_of cs q) ⊎ (weight_of cs q < weight_of cs r) → (q ≡ r) ⊎ Ahead cs r q
        same (inl k) w = inl (omega arith)
        same (inr k) (inr w) = inr (inl w)
        same (inr k) (inl w) = inr (inr (omega arith, k))

-- ---- one row is stuck

module _ (cs : List Care) (rows : ℕ) where
  pub stuck_one : (ts us : List Turn) (g order : List ℕ) (r q : ℕ) → StuckAfter cs rows g order ts r → StuckAfter cs rows g order us q → r ≡ q
  stuck_one [] [] g order r q a b = turn_one cs rows order r q a.0 b.0
  stuck_one [] (u ∷ us) g order r q a b =
      let e : u.row ≡ r = turn_one cs rows order u.row r b.0 a.0 in
      absurd (fits_blocked g (in_row u.row cs) u.at b.1.0 (rw e (a.1 u.at)))
  stuck_one (t ∷ ts) [] g order r q a b =
      let e : t.row ≡ q = turn_one cs rows order t.row q a.0 b.0 in
      absurd (fits_blocked g (in_row t.row cs) t.at a.1.0 (rw e (b.1 t.at)))
  stuck_one (t ∷ ts) (u ∷ us) g order r q a b =
      let e : t.row ≡ u.row = turn_one cs rows order t.row u.row a.0 b.0 in
      let d : t.at ≡ u.at = least_one g (in_row t.row cs) t.at u.at a.1 (rw e b.1) in
      stuck_one ts us (put g t.at (in_row t.row cs)) (t.row ∷ order) r q a.2 (rw (e, d) b.2)

-- ---- the turns of a placing

-- the turns lead from the cells g, with the rows `order` placed, to others
abbrev pub TurnsTo : List Care → ℕ → List ℕ → List ℕ → List Turn → List ℕ → List ℕ → Type 0
TurnsTo cs rows g order [] g' order' = (g ≡ g') × (order ≡ order')
TurnsTo cs rows g order (t ∷ ts) g' order' =
    InTurn cs rows order t.row
    × Least g (in_row t.row cs) t.at
    × TurnsTo cs rows (put g t.at (in_row t.row cs)) (t.row ∷ order) ts g' order'

module _ (cs : List Care) (rows : ℕ) where
  -- one turn more
  turns_more : (ts : List Turn) (g order g' order' : List ℕ) (r d : ℕ) → TurnsTo cs rows g order ts g' order' → InTurn cs rows order' r → Least g' (in_row r cs) d
      → TurnsTo cs rows g order (ts ++ (record { row = r; at = d } ∷ [])) (put g' d (in_row r cs)) (r ∷ order')
  turns_more [] g order g' order' r d a n f =
      (rw a.1 n, rw a.0 f, (ap (λ (c : List ℕ). put c d (in_row r cs)) a.0, ap (λ (o : List ℕ). r ∷ o) a.1))
  turns_more (t ∷ ts) g order g' order' r d a n f =
      (a.0, a.1, turns_more ts (put g t.at (in_row t.row cs)) (t.row ∷ order) g' order' r d a.2 n f)

  -- then a row fits nowhere
  turns_stuck : (ts : List Turn) (g order g' order' : List ℕ) (r : ℕ) → TurnsTo cs rows g order ts g' order' → InTurn cs rows order' r
      → ((d : ℕ) → Blocked g' (in_row r cs) d) → StuckAfter cs rows g order ts r
  turns_stuck [] g order g' order' r a n b = (rw a.1 n, rw a.0 b)
  turns_stuck (t ∷ ts) g order g' order' r a n b = (a.0, a.1, turns_stuck ts (put g t.at (in_row t.row cs)) (t.row ∷ order) g' order' r a.2 n b)

  -- or no row is left, and so none is stuck
  turns_none : (ts us : List Turn) (g order g' order' : List ℕ) (r : ℕ) → TurnsTo cs rows g order ts g' order' → ((q : ℕ) → InTurn cs rows order' q → ⊥)
      → StuckAfter cs rows g order us r → ⊥
  turns_none [] [] g order g' order' r a n b = n r (rw a.1 at b.0)
  turns_none [] (u ∷ us) g order g' order' r a n b = n u.row (rw a.1 at b.0)
  turns_none (t ∷ ts) [] g order g' order' r a n b =
      let e : t.row ≡ r = turn_one cs rows order t.row r a.0 b.0 in
      fits_blocked g (in_row t.row cs) t.at a.1.0 (rw e (b.1 t.at))
  turns_none (t ∷ ts) (u ∷ us) g order g' order' r a n b =
      let e : t.row ≡ u.row = turn_one cs rows order t.row u.row a.0 b.0 in
      let d : t.at ≡ u.at = least_one g (in_row t.row cs) t.at u.at a.1 (rw e b.1) in
      turns_none ts us (put g t.at (in_row t.row cs)) (t.row ∷ order) g' order' r a.2 n (rw (e, d) b.2)

-- ---- the placing

-- the tries of the turns
abbrev pub tries_in : List Turn → ℕ
tries_in [] = 0
tries_in (t ∷ ts) = suc t.at + tries_in ts

tries_more : (ts : List Turn) (t : Turn) → tries_in (ts ++ (t ∷ [])) ≡ tries_in ts + suc t.at
tries_more [] t = omega arith
tries_more (u ∷ ts) t = omega (arith, tries_more ts t)

module _ (cs : List Care) (h g : List ℕ) where
  -- a state that turns from the start lead to
  pub record Reached (s : State) : Type 0 where
    pub rows_same : length s.h ≡ length h
    pub turns : List Turn
    pub lead : TurnsTo cs (length h) g [] turns s.g s.order
    pub spent : s.tries ≡ tries_in turns

  pub reached_start : Reached (record { h = h; g = g; tries = 0; order = [] })
  reached_start = record { rows_same = refl; turns = []; lead = (refl, refl); spent = refl }

  pub turn_here : (s : State) (r : ℕ) → Reached s → Next cs s r → InTurn cs (length h) s.order r
  turn_here s r a n = rw a.rows_same at (next_turn cs s r n)

  reached_more : (s : State) (r d : ℕ) → Next cs s r → Least s.g (in_row r cs) d → Reached s → Reached (place_row cs s r d)
  reached_more s r d n f a =
      record {
        rows_same = length-set s.h r d ∙ a.rows_same;
        turns = a.turns ++ (record { row = r; at = d } ∷ []);
        lead = turns_more cs (length h) a.turns g [] s.g s.order r d a.lead (turn_here s r a n) f;
        spent = omega (arith, a.spent, tries_more a.turns (record { row = r; at = d }));
      }

  pub reached_turn : (s : State) (r d : ℕ) → Next cs s r → first_fit s.g (in_row r cs) ≡ At d → Reached s → Reached (place_row cs s r d)
  reached_turn s r d n f a = reached_more s r d n (fit_least s.g (in_row r cs) d (fit_at s.g (in_row r cs) d f)) a

  pub reached : Reached (place cs h g).state
  reached = at_end cs Reached reached_turn h g reached_start

  place_stuck : (r tried needed : ℕ) → (place cs h g).end ≡ NoFit r tried needed → (ts : List Turn) × StuckAfter cs (length h) g [] ts r
  place_stuck r tried needed e =
      let n = (ended cs h g).no_fit r tried needed e in
      let s = (place cs h g).state in (
        reached.turns,
        turns_stuck cs (length h) reached.turns g [] s.g s.order r reached.lead (turn_here s r reached n.0)
            (λ d. not_fits s.g d (in_row r cs) ((fit_none s.g (in_row r cs) tried needed n.1).0.never d)),
      )

  place_all : (place cs h g).end ≡ All → (ts : List Turn) (r : ℕ) → StuckAfter cs (length h) g [] ts r → ⊥
  place_all e ts r b =
      let s = (place cs h g).state in
      turns_none cs (length h) reached.turns ts g [] s.g s.order r reached.lead
      (λ q n. omega (arith, (ended cs h g).none_left e q (rw reached.rows_same n.row_in), open_is cs s.order q n.not_placed, n.occupied)) b

-- ---- of a build

module _ (n1 : ℕ) (ks : List Kind) (cells : ℕ) (vs : List ℕ) where
  abbrev cares : List Care
  cares = cares_from 1 n1 ks vs

  rows_are : length (replicate {A = ℕ} (2 ^ n1) 0) ≡ 2 ^ n1
  rows_are = length-replicate (2 ^ n1) 0

  pub no_fit_stuck : (r tried needed : ℕ) → (placing_of n1 ks cells vs).end ≡ NoFit r tried needed → Stuck n1 ks cells vs r
  unfolding placing_of
  no_fit_stuck r tried needed e =
      let p = place_stuck cares (replicate (2 ^ n1) 0) (replicate cells 0) r tried needed e in
      (p.0, rw rows_are at p.1)

  pub all_stuck : (placing_of n1 ks cells vs).end ≡ All → (r : ℕ) → Stuck n1 ks cells vs r → ⊥
  unfolding placing_of
  all_stuck e r a = place_all cares (replicate (2 ^ n1) 0) (replicate cells 0) e a.0 r (rw rows_are a.1)

  pub stuck_same : (r q : ℕ) → Stuck n1 ks cells vs r → Stuck n1 ks cells vs q → r ≡ q
  stuck_same r q a b = stuck_one cares (2 ^ n1) a.0 b.0 (replicate cells 0) [] r q a.1 b.1
