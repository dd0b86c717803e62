-- The row put, number by number. Assumes nothing.
use Prim.Native.Nat.{ℕ, ◌+◌, ◌-◌, ◌≤◌, ◌<◌}
use native.Mathlib.Omega.{arith}
use mathlib.Core.Path.{◌≡◌, refl, sym, ap, ◌∙◌}
use mathlib.Core.Bool.{true}
use mathlib.Core.List.{List}
use borrow.Author.Tests.{ltb-true}
use lib.ListN.{length, get_or, set}
use Rattle.lists.proofs.Tests.{and_true}
use Rattle.rows.specs.Fit.{cell_of, inside, put}
use Rattle.add.specs.declared.Seat.{Seat}
use Rattle.add.specs.Inner.Mates.{row_in, mate_at, mates_past, mates}
use Rattle.add.proofs.Moving.Mates.{past_in, past_out, past_end}

-- the numbers below i are in their cells at d, the others of the row are still to be put, each into one of the cells
pub record Putting (s : Seat) (aux firsts : List ℕ) (d : ℕ) (g₀ g : List ℕ) (i : ℕ) : Type 0 where
  pub within : inside (length g₀) d (mates_past s aux firsts i) ≡ true
  pub cells : put g d (mates_past s aux firsts i) ≡ put g₀ d (mates s aux firsts)

pub putting_none : (s : Seat) (aux firsts : List ℕ) (d : ℕ) (g : List ℕ) → inside (length g) d (mates s aux firsts) ≡ true → Putting s aux firsts d g g 1
putting_none s aux firsts d g h = record { within = h; cells = refl }

module _ {s : Seat} {aux firsts : List ℕ} {d : ℕ} {g₀ g : List ℕ} {i : ℕ} (p : Putting s aux firsts d g₀ g i) where
  -- a number of another row
  pub putting_skip : i < length aux → (row_in s aux i ≡ s.row → ⊥) → Putting s aux firsts d g₀ g (i + 1)
  putting_skip h ne =
      let e = past_out s aux firsts i h ne in
      record { within = rw (← e) p.within; cells = ap (put g d) (sym e) ∙ p.cells }

  -- one of the row
  module _ (h : i < length aux) (r : row_in s aux i ≡ s.row) where
    both : (cell_of (mate_at s firsts i) d < length g₀) × (inside (length g₀) d (mates_past s aux firsts (i + 1)) ≡ true)
    unfolding inside
    both =
        let q = and_true _ _ (rw (past_in s aux firsts i h r) at p.within) in
        (ltb-true _ _ q.0, q.1)

    pub putting_cell : length g ≡ length g₀ → get_or firsts i 0 - 1 - s.displacement + d < length g
    putting_cell e = omega (arith, both.0, e)

    pub putting_more : Putting s aux firsts d g₀ (set g (get_or firsts i 0 - 1 - s.displacement + d) i) (i + 1)
    unfolding put
    putting_more =
        record {
          within = both.1;
          cells = ap (put g d) (sym (past_in s aux firsts i h r)) ∙ p.cells;
        }

  pub putting_end : length aux ≤ i → g ≡ put g₀ d (mates s aux firsts)
  unfolding put
  putting_end h = ap (put g d) (sym (past_end s aux firsts i h)) ∙ p.cells
