-- The way back from rows that are placed to the cells as they were. Assumes nothing.
use Prim.Native.Nat.{ℕ, ◌+◌, ◌≤◌, ◌<◌}
use native.Mathlib.Omega.{arith}
use mathlib.Core.Path.{◌≡◌, refl, sym, ap, ◌∙◌}
use mathlib.Core.Bool.{true, true≢false}
use mathlib.Core.List.{List}
use mathlib.Core.Logic.{inl, inr, ⊎_elim}
use lib.ListN.{length, get_or}
use Rattle.lists.specs.First.{has}
use Rattle.lists.specs.Members.{In, All}
use Rattle.lists.proofs.Entries.Members.{all_in, all_of, in_pos}
use Rattle.rows.specs.Care.{Care, in_row, weight_of}
use Rattle.rows.specs.Place.{State}
use Rattle.rows.specs.Answer.{cares_in, cares_of}
use Rattle.rows.specs.Inner.Chains.{Within, WayBack, mark_bit}
use Rattle.rows.proofs.Fits.Cells.{row_in}
use Rattle.rows.proofs.Placing.Open.{open_none}
use Rattle.rows.proofs.Placing.Held.{Lies, Clearing}
use Rattle.rows.proofs.Sweeps.Marks.{RowState, shut, marked}
use Rattle.rows.proofs.Sweeps.Undoing.{Leads, Free, Undoing, undone_is}
use Rattle.rows.proofs.Answers.Owned.{owned_undone, all_owned, all_own}

module _ (owner : ℕ) (ws : List ℕ) (n : ℕ) (g₀ : List ℕ) (rows : All (λ c. c.row < n) (cares_in ws)) (h g : List ℕ) (s : State)
    (clearing : Clearing (cares_of owner ws) g₀ s) (size : length h ≡ n)
    (states : (r : ℕ) → r < length h → RowState owner ws (cares_of owner ws) s.order r (get_or h r 0) (get_or s.h r 0)) (cells : s.g ≡ g) where
  cs : List Care
  cs = cares_of owner ws

  row_low : (c : Care) → In c cs → c.row < length h
  unfolding cs
  row_low c i = omega (arith, all_in (λ x. x.row < n) c (cares_of owner ws) (all_own owner (λ x. x.row < n) (cares_in ws) rows) i)

  wide : length g ≡ length g₀
  wide = ap length (sym cells) ∙ clearing.size

  -- a row that is no mark is placed at that displacement
  placed_at : (c : Care) → In c cs → get_or h c.row 0 ≤ mark_bit → (has c.row s.order ≡ true) × (get_or h c.row 0 ≡ get_or s.h c.row 0)
  unfolding cs weight_of
  placed_at c i l = by (states c.row (row_low c i))
    where
      by : RowState owner ws (cares_of owner ws) s.order c.row (get_or h c.row 0) (get_or s.h c.row 0)
          → (has c.row s.order ≡ true) × (get_or h c.row 0 ≡ get_or s.h c.row 0)
      by (shut a b o) = (open_none (cares_of owner ws) s.order c.row (in_pos c (in_row c.row (cares_of owner ws)) (row_in c.row c (cares_of owner ws) i refl)) o, b)
      by (marked a b o m) = absurd (omega arith)

  -- and one that is placed is no mark
  no_mark : (c : Care) → In c cs → has c.row s.order ≡ true → (get_or h c.row 0 ≤ mark_bit) × (get_or h c.row 0 ≡ get_or s.h c.row 0)
  unfolding cs
  no_mark c i p = by (states c.row (row_low c i))
    where
      by : RowState owner ws (cares_of owner ws) s.order c.row (get_or h c.row 0) (get_or s.h c.row 0)
          → (get_or h c.row 0 ≤ mark_bit) × (get_or h c.row 0 ≡ get_or s.h c.row 0)
      by (shut a b o) = (a, b)
      by (marked a b o m) = absurd (true≢false (sym p ∙ m))

  cleared : (c : Care) → In c cs → get_or h c.row 0 ≤ mark_bit
      → (c.column + get_or h c.row 0 < length g₀) × (get_or g₀ (c.column + get_or h c.row 0) 0 ≡ 0)
  unfolding cs
  cleared c i l =
      let p = placed_at c i l in
      rw p.1 (clearing.cells c i p.0)

  leads : (i : ℕ) → Lies cs s i → Leads h cs i
  leads i l = let p = no_mark l.care l.listed l.placed in record { care = l.care; listed = l.listed; placed = p.0; there = rw p.1 l.there }

  undoing : Undoing h g₀ cs g
  unfolding cs
  undoing =
      record {
        size = wide;
        each = λ i l. rw (← cells) (⊎_elim (λ q. inl q) (λ q. inr (leads i q)) (clearing.lying.back i (omega (arith, clearing.size))));
      }

  pub way_back : WayBack ws g₀ h g
  unfolding cs
  way_back =
      record {
        within =
            all_owned owner (Within h (length g)) (cares_in ws)
            (all_of (Within h (length g)) (cares_of owner ws) (λ c i. (row_low c i, λ l. omega (arith, (cleared c i l).0, wide))));
        back = sym (owned_undone owner h (cares_in ws) g) ∙ undone_is h g₀ (cares_of owner ws) g (all_of (Free h g₀) (cares_of owner ws) (λ c i l. (cleared c i l).1)) undoing;
      }
