-- Refusal 41: the placing ends for its tries exactly where a row in its turn makes more than are left, and that is one row. Assumes nothing.
use Prim.Native.Nat.{ℕ, suc, ◌+◌, ◌-◌, ◌^◌, ◌≤◌, ◌<◌}
use native.Mathlib.Nat.{sub-zero}
use native.Mathlib.Omega.{arith}
use mathlib.Core.Path.{◌≡◌, refl, sym, ap, ◌∙◌}
use mathlib.Core.Bool.{true, true≢false}
use mathlib.Core.List.{List, [], ◌∷◌}
use mathlib.Core.Logic.{inl, inr}
use lib.Dec.{ltb}
use lib.ListN.{length, replicate, length-replicate}
use borrow.Author.Tests.{ltb-true}
use Rattle.lists.specs.Members.{In}
use Rattle.lists.proofs.Entries.Members.{all_of}
use Rattle.lists.proofs.Tests.{and_true}
use Rattle.vectors.specs.declared.Kind.{Kind}
use Rattle.rows.specs.Care.{Care, in_row}
use Rattle.rows.specs.Fit.{cell_of, inside, put}
use Rattle.rows.specs.Place.{State, place}
use Rattle.rows.specs.Allowance.{last_tries, tries_made, end_within}
use Rattle.rows.specs.End.{End}
use Rattle.rows.specs.End as ends
use Rattle.rows.proofs.Fits.First.{fit_at, fit_none}
use Rattle.rows.proofs.Placing.Open.{open_is}
use Rattle.rows.proofs.Placing.Turns.{ended}
use Rattle.rows.proofs.Placing.Allowed.{Exceeds, fitting, fitless, stops}
use Rattle.rows.proofs.Fits.Columns.{inside_all}
use Rattle.build.specs.Build.{cares_from, placing_of}
use Rattle.unit.specs.Demand1.{InTurn, Blocked, Turn, Tried, OverAfter, Over}
use Rattle.unit.proofs.Demand1.Stuck.{not_fits, fits_blocked, least_one, fit_least, turn_one, TurnsTo, tries_in, Reached, reached_start, reached_turn, reached, turn_here}

-- ---- one row

module _ (cs : List Care) (rows : ℕ) where
  over_one : (ts us : List Turn) (left : ℕ) (g order : List ℕ) (r q : ℕ) → OverAfter cs rows left g order ts r → OverAfter cs rows left g order us q → r ≡ q
  over_one [] [] left g order r q a b = turn_one cs rows order r q a.0 b.0
  over_one [] (u ∷ us) left g order r q a b =
      let e : u.row ≡ r = turn_one cs rows order u.row r b.0 a.0 in
      absurd (fits_blocked g (in_row u.row cs) u.at b.1.0 (rw e (a.1.0 u.at (omega (arith, b.2)))))
  over_one (t ∷ ts) [] left g order r q a b =
      let e : t.row ≡ q = turn_one cs rows order t.row q a.0 b.0 in
      absurd (fits_blocked g (in_row t.row cs) t.at a.1.0 (rw e (b.1.0 t.at (omega (arith, a.2)))))
  over_one (t ∷ ts) (u ∷ us) left g order r q a b =
      let e : t.row ≡ u.row = turn_one cs rows order t.row u.row a.0 b.0 in
      let d : t.at ≡ u.at = least_one g (in_row t.row cs) t.at u.at a.1 (rw e b.1) in
      over_one ts us (left - suc t.at) (put g t.at (in_row t.row cs)) (t.row ∷ order) r q a.3 (rw (e, d) b.3)

  -- ---- turns with no more tries than are left, and then a row that makes more

  turns_over : (ts : List Turn) (left : ℕ) (g order g' order' : List ℕ) (r : ℕ) → TurnsTo cs rows g order ts g' order' → tries_in ts ≤ left → InTurn cs rows order' r
      → Tried g' (in_row r cs) (left - tries_in ts) → OverAfter cs rows left g order ts r
  turns_over [] left g order g' order' r a l n d = (rw a.1 n, rw a.0 (rw (sub-zero left) at d))
  turns_over (t ∷ ts) left g order g' order' r a l n d =
      let e : left - (suc t.at + tries_in ts) ≡ left - suc t.at - tries_in ts = omega arith in
      (a.0, a.1, omega arith, turns_over ts (left - suc t.at) (put g t.at (in_row t.row cs)) (t.row ∷ order) g' order' r a.2 (omega arith) n (rw e at d))

  -- or no row makes more
  turns_within : (ts us : List Turn) (left : ℕ) (g order g' order' : List ℕ) (r : ℕ) → TurnsTo cs rows g order ts g' order' → tries_in ts ≤ left
      → ((q : ℕ) → InTurn cs rows order' q → ((d : ℕ) → Blocked g' (in_row q cs) d) × (((c : Care) → In c (in_row q cs) → cell_of c (left - tries_in ts) < length g') → ⊥))
      → OverAfter cs rows left g order us r → ⊥
  turns_within [] [] left g order g' order' r a l n b = (n r (rw a.1 at b.0)).1 (rw (sub-zero left) (rw a.0 at b.1.1))
  turns_within [] (u ∷ us) left g order g' order' r a l n b =
      fits_blocked g (in_row u.row cs) u.at b.1.0 (rw a.0 ((n u.row (rw a.1 at b.0)).0 u.at))
  turns_within (t ∷ ts) [] left g order g' order' r a l n b =
      let e : t.row ≡ r = turn_one cs rows order t.row r a.0 b.0 in
      fits_blocked g (in_row t.row cs) t.at a.1.0 (rw e (b.1.0 t.at (omega arith)))
  turns_within (t ∷ ts) (u ∷ us) left g order g' order' r a l n b =
      let e : t.row ≡ u.row = turn_one cs rows order t.row u.row a.0 b.0 in
      let d : t.at ≡ u.at = least_one g (in_row t.row cs) t.at u.at a.1 (rw e b.1) in
      let k : left - (suc t.at + tries_in ts) ≡ left - suc t.at - tries_in ts = omega arith in
      turns_within ts us (left - suc t.at) (put g t.at (in_row t.row cs)) (t.row ∷ order) g' order' r a.2 (omega arith)
      (λ q i. ((n q i).0, rw k at (n q i).1)) (rw (e, d) b.3)

-- ---- the placing

-- a row inside at a displacement has each cell below the number of cells
inside_each : (cells d : ℕ) (m : List Care) → inside cells d m ≡ true → (c : Care) → In c m → cell_of c d < cells
unfolding inside
inside_each cells d [] h c i = absurd i
inside_each cells d (e ∷ m) h c i =
    let p = and_true (ltb (cell_of e d) cells) (inside cells d m) h in
    go i (inside_each cells d m p.1 c)
  where
    go : In c (e ∷ m) → (In c m → cell_of c d < cells) → cell_of c d < cells
    go (inl q) k = rw q (ltb-true (cell_of e d) cells (and_true (ltb (cell_of e d) cells) (inside cells d m) h).0)
    go (inr j) k = k j

module _ (cs : List Care) (h g : List ℕ) (a : ℕ) where
  -- a row that makes more tries than are left tries the next displacement
  exceeds_tried : (s : State) (r : ℕ) → s.tries ≤ a → Exceeds cs a s r → Tried s.g (in_row r cs) (a - s.tries)
  exceeds_tried s r l (fitting d f m) =
      let p = fit_least s.g (in_row r cs) d (fit_at s.g (in_row r cs) d f) in
      (λ e k. p.1 e (omega arith), λ c i. omega (arith, (p.0 c i).0))
  exceeds_tried s r l (fitless t n f m) =
      let p = (fit_none s.g (in_row r cs) t n f).0 in
      (λ e k. not_fits s.g e (in_row r cs) (p.never e), inside_each (length s.g) (a - s.tries) (in_row r cs) (p.within (a - s.tries) (omega arith)))

  place_over : (r : ℕ) → end_within a (place cs h g) ≡ ends.Over r → (ts : List Turn) × OverAfter cs (length h) a g [] ts r
  place_over r e =
      let x = stops cs a (Reached cs h g) (reached_turn cs h g) h g (reached_start cs h g) r e in
      let s = x.state in
      let q = x.holds in
      let l = x.before in
      let z = q.spent in
      (q.turns, turns_over cs (length h) q.turns a g [] s.g s.order r q.lead (omega arith) (turn_here cs h g s r q x.turn) (rw (← z) (exceeds_tried s r l x.exceeds)))

  place_within : tries_made (place cs h g) ≤ a → (us : List Turn) (r : ℕ) → OverAfter cs (length h) a g [] us r → ⊥
  place_within l us r b = go (place cs h g).end refl
    where
      s : State
      s = (place cs h g).state

      q : Reached cs h g s
      q = reached cs h g

      go : (e : End) → (place cs h g).end ≡ e → ⊥
      go ends.All z =
          turns_within cs (length h) q.turns us a g [] s.g s.order r q.lead (omega (arith, q.spent))
          (λ x i. absurd (omega (arith, (ended cs h g).none_left z x (rw q.rows_same i.row_in), open_is cs s.order x i.not_placed, i.occupied))) b
      go (ends.NoFit p t n) z =
          let e = (ended cs h g).no_fit p t n z in
          let f = (fit_none s.g (in_row p cs) t n e.1).0 in
          let left : t ≤ a - tries_in q.turns = omega (arith, q.spent, ap last_tries z) in
          turns_within cs (length h) q.turns us a g [] s.g s.order r q.lead (omega (arith, q.spent))
          (λ x i.
          let k : x ≡ p = turn_one cs (length h) s.order x p i (turn_here cs h g s p q e.0) in
          rw k ((λ d. not_fits s.g d (in_row p cs) (f.never d)), (λ all. true≢false (sym (inside_all (length s.g) (a - tries_in q.turns) (in_row p cs) (all_of _ (in_row p cs) all)) ∙ f.beyond (a - tries_in q.turns) left))))
          b
      go (ends.Over p) z = (ended cs h g).not_over p z
      go ends.Unfit z = (ended cs h g).not_unfit z

-- ---- of a build

module _ (n1 : ℕ) (ks : List Kind) (cells allowance : ℕ) (vs : List ℕ) where
  abbrev cares : List Care
  cares = cares_from 1 n1 ks vs

  rows_are : length (replicate {A = ℕ} (2 ^ n1) 0) ≡ 2 ^ n1
  rows_are = length-replicate (2 ^ n1) 0

  pub exceeded_over : (r : ℕ) → end_within allowance (placing_of n1 ks cells vs) ≡ ends.Over r → Over n1 ks cells allowance vs r
  unfolding placing_of
  exceeded_over r e =
      let p = place_over cares (replicate (2 ^ n1) 0) (replicate cells 0) allowance r e in
      (p.0, rw rows_are at p.1)

  pub within_over : tries_made (placing_of n1 ks cells vs) ≤ allowance → (r : ℕ) → Over n1 ks cells allowance vs r → ⊥
  unfolding placing_of
  within_over l r a = place_within cares (replicate (2 ^ n1) 0) (replicate cells 0) allowance l a.0 r (rw rows_are a.1)

  pub over_same : (r q : ℕ) → Over n1 ks cells allowance vs r → Over n1 ks cells allowance vs q → r ≡ q
  over_same r q a b = over_one cares (2 ^ n1) a.0 b.0 allowance (replicate cells 0) [] r q a.1 b.1
