-- Refusals 40, 3, 5 and 10 by the number whose first cell is that of x.
use Rattle.std.specs.Prelude.{ℕ, zero, suc, Option, None, Some, Bool, false, cond, List, [], ◌∷◌, eqb, ltb, length, get_or}
use Rattle.record.specs.declared.Record.{Record}
use Rattle.build.specs.Built.{Refusal}
use Rattle.build.specs.Refusals.{refuse_if, refuse_at}
use Rattle.add.specs.declared.Seat.{Seat}
use Rattle.add.specs.Add.{refuse_new, check3}
use Rattle.add.specs.Inner.Mates.{row_in}

-- i where AUX[i] is the word; else 0
unfoldable pub own_in : List ℕ → ℕ → ℕ → ℕ
own_in aux word zero = 0
own_in aux word (suc i) = cond (eqb (get_or aux (suc i) 0) word) (suc i) 0

-- whether AUX[i] has the row
unfoldable pub alike_in : Seat → List ℕ → ℕ → Bool
alike_in s aux zero = false
alike_in s aux (suc i) = eqb (row_in s aux (suc i)) s.row

-- the same of a number that may be none
abbrev pub own_at : List ℕ → ℕ → Option ℕ → ℕ
own_at aux word None = 0
own_at aux word (Some i) = cond (eqb (get_or aux i 0) word) i 0

abbrev pub alike_at : Seat → List ℕ → Option ℕ → Bool
alike_at s aux None = false
alike_at s aux (Some i) = eqb (row_in s aux i) s.row

abbrev pub checks : Record → List ℕ → Seat → Option ℕ → List Refusal
checks u aux s o =
    refuse_at 40 (own_at aux s.word o) ∷ check3 u ∷ refuse_if 5 (ltb (length aux) (suc (suc u.k))) ∷ refuse_new 10 u (alike_at s aux o) ∷ []
