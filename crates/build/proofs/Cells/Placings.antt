-- The placing of a list with another number of cells, and the cells up to the last that is taken. Assumes nothing.
use Prim.Native.Nat.{ℕ, zero, suc, ◌+◌, ◌^◌, ◌≤◌, ◌<◌}
use native.Mathlib.Omega.{arith}
use mathlib.Core.Path.{◌≡◌, refl, sym, ap, ◌∙◌}
use mathlib.Core.Bool.{Bool, cond, true, false}
use mathlib.Core.List.{List, [], ◌∷◌}
use mathlib.Core.Logic.{◌⊎◌, inl, inr, ⊎_elim}
use lib.Dec.{eqb}
use lib.ListN.{length, get_or, replicate, length-replicate}
use borrow.Author.Tests.{eqb-true, eq-eqb}
use Rattle.lists.specs.Members.{In}
use Rattle.lists.proofs.Tests.{le_or_lt}
use Rattle.vectors.specs.declared.Kind.{Kind}
use Rattle.rows.specs.Care.{Care}
use Rattle.rows.specs.Place.{Placing, place}
use Rattle.rows.specs.Needed.{More, places, Keeps, Beside}
use Rattle.rows.specs.End as ends
use Rattle.rows.specs.End.{NoFit}
use Rattle.rows.proofs.Fits.Filled.{blank_zero}
use Rattle.rows.proofs.Placing.Wider.{wider_all, least, within_all}
use Rattle.rows.proofs.Fits.Needed.{past_free}
use Rattle.rows.proofs.Placing.Turns.{all_no_fit}
use Rattle.build.specs.Build.{cares_from, placing_of}
use Rattle.build.specs.Cells.{used, used_by}
use Rattle.build.proofs.Holding.Ends.{placing_cells}

more_blank : (a b : ℕ) → a ≤ b → More (replicate a 0) (replicate b 0)
more_blank a b l =
    record {
      longer = omega (arith, length-replicate {A = ℕ} a 0, length-replicate {A = ℕ} b 0);
      same = λ c. blank_zero b c ∙ sym (blank_zero a c);
    }

module _ (n1 : ℕ) (ks : List Kind) (vs : List ℕ) (cells : ℕ) where
  abbrev P : ℕ → Placing
  P m = placing_of n1 ks m vs

  pub placing_wider : (m : ℕ) → cells ≤ m → (P cells).end ≡ ends.All → ((P m).end ≡ ends.All) × Beside (P cells).state (P m).state
  unfolding placing_of
  placing_wider m l = wider_all (cares_from 1 n1 ks vs) (replicate (2 ^ n1) 0) (replicate cells 0) (replicate m 0) (more_blank cells m l)

  -- the row has no displacement with so many cells, and needs more
  pub record Short (row needed : ℕ) : Type 0 where
    pub above : cells < needed
    pub enough : (m : ℕ) → needed ≤ m → places (P m) row ≡ true
    pub earlier : (m : ℕ) → needed ≤ m → Keeps (P cells) (P m)
    pub fewer : (m : ℕ) → m < needed → places (P m) row ≡ false
    pub refused : (m : ℕ) → m < needed → (P m).end ≡ ends.All → ⊥

  pub placing_short : (row tried needed : ℕ) → (P cells).end ≡ NoFit row tried needed → Short row needed
  unfolding placing_of
  placing_short row tried needed e =
      let cs = cares_from 1 n1 ks vs in
      let h = replicate {A = ℕ} (2 ^ n1) 0 in
      let g : ℕ → List ℕ = λ m. replicate m 0 in
      let size : (m : ℕ) → length (g m) ≡ m = λ m. length-replicate m 0 in
      let q = least cs h (g cells) row tried needed e in
      let above : cells < needed = omega (arith, q.above, size cells) in
      record {
        above = above;
        enough = λ m l. q.enough (g m) (more_blank cells m (omega arith)) (omega (arith, size m));
        earlier = λ m l. q.earlier (g m) (more_blank cells m (omega arith));
        fewer = λ m l.
            ⊎_elim (λ k. q.fewer (g m) (more_blank cells m k) (omega (arith, size m))) (λ k. q.shorter (g m) (more_blank m cells (omega arith))) (le_or_lt cells m);
        refused = λ m l z.
            ⊎_elim
            (λ k. all_no_fit (sym z ∙ (q.still (g m) (more_blank cells m k) (omega (arith, size m))).1))
            (λ k. all_no_fit (sym (wider_all cs h (g m) (g cells) (more_blank m cells (omega arith)) z).0 ∙ e))
            (le_or_lt cells m);
      }

-- ---- the cells up to the last that is taken

pub used_le : (g : List ℕ) → used g ≤ length g
unfolding used
used_le [] = omega arith
used_le (w ∷ g) = go (used g) (used_le g)
  where
    go : (n : ℕ) → n ≤ length g → used_by w n ≤ suc (length g)
    go zero l = by (eqb w 0)
      where
        by : (b : Bool) → cond b 0 1 ≤ suc (length g)
        by true = omega arith
        by false = omega arith
    go (suc n) l = omega arith

-- past them every cell is free
pub used_past : (g : List ℕ) (c : ℕ) → used g ≤ c → get_or g c 0 ≡ 0
unfolding used
used_past [] c l = refl
used_past (w ∷ g) zero l = go (used g) (omega arith)
  where
    go : (n : ℕ) → used_by w n ≤ 0 → w ≡ 0
    go zero k = by (eqb w 0) refl k
      where
        by : (b : Bool) → eqb w 0 ≡ b → cond b 0 1 ≤ 0 → w ≡ 0
        by true e k = eqb-true w 0 e
        by false e k = absurd (omega arith)
    go (suc n) k = absurd (omega arith)
used_past (w ∷ g) (suc c) l = used_past g c (go (used g) l)
  where
    go : (n : ℕ) → used_by w n ≤ suc c → n ≤ c
    go zero k = omega arith
    go (suc n) k = omega arith

-- where every cell from m on is free they are m at the most
pub used_least : (g : List ℕ) (m : ℕ) → ((c : ℕ) → m ≤ c → get_or g c 0 ≡ 0) → used g ≤ m
unfolding used
used_least [] m f = omega arith
used_least (w ∷ g) zero f = go (used g) (used_least g zero (λ c l. f (suc c) (omega arith)))
  where
    go : (n : ℕ) → n ≤ 0 → used_by w n ≤ 0
    go zero k = let e : eqb w 0 ≡ true = eq-eqb w 0 (f 0 (omega arith)) in rw e (omega arith)
    go (suc n) k = absurd (omega arith)
used_least (w ∷ g) (suc m) f = go (used g) (used_least g m (λ c l. f (suc c) (omega arith)))
  where
    go : (n : ℕ) → n ≤ m → used_by w n ≤ suc m
    go zero k = by (eqb w 0)
      where
        by : (b : Bool) → cond b 0 1 ≤ suc m
        by true = omega arith
        by false = omega arith
    go (suc n) k = omega arith

module _ (n1 : ℕ) (ks : List Kind) (vs : List ℕ) (cells m : ℕ) where
  -- every row fits into cells that reach past the last that is taken
  pub placing_within : m ≤ cells → (placing_of n1 ks cells vs).end ≡ ends.All
      → ((c : Care) → In c (cares_from 1 n1 ks vs) → get_or (placing_of n1 ks cells vs).state.g (c.column + get_or (placing_of n1 ks cells vs).state.h c.row 0) 0 ≡ 0 → ⊥)
      → used (placing_of n1 ks cells vs).state.g ≤ m → (placing_of n1 ks m vs).end ≡ ends.All
  unfolding placing_of
  placing_within l e held u =
      within_all (cares_from 1 n1 ks vs) (replicate (2 ^ n1) 0) (replicate cells 0) (replicate m 0) (more_blank m cells l) e
      (λ c i. rw (length-replicate m) (low c i (c.column + get_or Q.state.h c.row 0) refl))
    where
      Q : Placing
      Q = place (cares_from 1 n1 ks vs) (replicate (2 ^ n1) 0) (replicate cells 0)

      low : (c : Care) → In c (cares_from 1 n1 ks vs) → (x : ℕ) → c.column + get_or Q.state.h c.row 0 ≡ x → x < m
      low c i x q = ⊎_elim (λ k. absurd (held c i (ap (λ (y : ℕ). get_or Q.state.g y 0) q ∙ used_past Q.state.g x (omega arith)))) (λ k. k) (le_or_lt m x)

  -- and into no fewer
  pub placing_used : (placing_of n1 ks m vs).end ≡ ends.All → used (placing_of n1 ks cells vs).state.g ≤ m
  placing_used e = go (le_or_lt cells m)
    where
      go : (cells ≤ m) ⊎ (m < cells) → used (placing_of n1 ks cells vs).state.g ≤ m
      go (inl l) = omega (arith, used_le (placing_of n1 ks cells vs).state.g, placing_cells n1 ks cells vs)
      go (inr l) =
          let w = (placing_wider n1 ks vs m cells (omega arith) e).1.cells in
          used_least (placing_of n1 ks cells vs).state.g m (λ c k. w.same c ∙ past_free (placing_of n1 ks m vs).state.g c (omega (arith, placing_cells n1 ks m vs)))
