-- The checks of an addition, rung by rung. Assumes nothing.
use Prim.Native.Nat.{ℕ, zero, suc, ◌<◌}
use native.Mathlib.Omega.{arith}
use mathlib.Core.Path.{◌≡◌, refl}
use mathlib.Core.Bool.{Bool, true, false}
use mathlib.Core.List.{List, ◌∷◌}
use borrow.Author.Tests.{eq-eqb, ne_eqb}
use lib.Dec.{eqb}
use lib.ListN.{get_or}
use Rattle.record.specs.declared.Record.{Record}
use Rattle.build.specs.Built.{Refusal}
use Rattle.build.specs.Refusals.{refuse_at, ladder}
use Rattle.add.specs.declared.Seat.{Seat}
use Rattle.add.specs.Add.{refuse_new}
use Rattle.add.specs.Inner.Mates.{row_in}
use Rattle.add.specs.Inner.Checks.{own_in, alike_in}

-- ---- a refusal at a number

pub at_number : (m i : ℕ) → 0 < i → refuse_at m i ≡ record { number = m; place = i }
at_number m zero h = absurd (omega arith)
at_number m (suc i) h = refl

-- ---- the number whose first cell is that of the new vector

module _ (aux : List ℕ) (word : ℕ) where
  pub own_none : (i : ℕ) → i ≡ 0 → 0 ≡ own_in aux word i
  unfolding own_in
  own_none i e = rw e

  pub own_same : (i : ℕ) → (i ≡ 0 → ⊥) → get_or aux i 0 ≡ word → i ≡ own_in aux word i
  unfolding own_in
  own_same zero n e = absurd (n refl)
  own_same (suc i) n e = rw (eq-eqb (get_or aux (suc i) 0) word e)

  pub own_other : (i : ℕ) → (i ≡ 0 → ⊥) → (get_or aux i 0 ≡ word → ⊥) → 0 ≡ own_in aux word i
  unfolding own_in
  own_other zero n e = absurd (n refl)
  own_other (suc i) n e = rw (ne_eqb (get_or aux (suc i) 0) word e)

module _ (s : Seat) (aux : List ℕ) where
  pub alike_none : (i : ℕ) → i ≡ 0 → false ≡ alike_in s aux i
  unfolding alike_in
  alike_none i e = rw e

  pub alike_some : (i : ℕ) → (i ≡ 0 → ⊥) → eqb (row_in s aux i) s.row ≡ alike_in s aux i
  unfolding alike_in
  alike_some zero n = absurd (n refl)
  alike_some (suc i) n = refl

-- ---- a refusal whose place is the new number

module _ (m : ℕ) (u : Record) (rs : List Refusal) where
  pub new_yes : (t : Bool) → t ≡ true → ladder (refuse_new (suc m) u t ∷ rs) ≡ record { number = suc m; place = suc u.k }
  unfolding ladder
  new_yes t e = rw e

  pub new_no : (t : Bool) → t ≡ false → ladder (refuse_new (suc m) u t ∷ rs) ≡ ladder rs
  unfolding ladder
  new_no t e = rw e
