-- A number that may be none, as the number from 1 that it is, 0 for none. Assumes nothing.
use Prim.Native.Nat.{ℕ, zero, suc}
use native.Mathlib.Omega.{arith}
use mathlib.Core.Path.{◌≡◌, refl}
use mathlib.Core.List.{List}
use Rattle.std.proofs.Common.{Option, None, Some}
use Rattle.record.specs.declared.Record.{Record}
use Rattle.record.specs.Tables.{Tables}
use Rattle.add.specs.declared.Seat.{Seat}
use Rattle.add.specs.Inner.Seats.{NumberAt, NumberFound}
use Rattle.add.specs.Inner.Checks.{own_in, own_at, alike_in, alike_at}

abbrev pub or_0 : Option ℕ → ℕ
or_0 None = 0
or_0 (Some i) = i

module _ (u : Record) (t : Tables) (cell : ℕ) where
  pub found_number : (o : Option ℕ) → NumberFound u t cell o → NumberAt u t cell (or_0 o)
  found_number None N = record { only = λ i p q e. absurd (cc (N.only i p q e)); some = λ h. absurd (omega arith) }
  found_number (Some j) N = record { only = λ i p q e. cc (N.only i p q e); some = λ h. let p = N.some j refl in (p.1, p.2) }

  pub found_own : (aux : List ℕ) (word : ℕ) (o : Option ℕ) → NumberFound u t cell o → own_in aux word (or_0 o) ≡ own_at aux word o
  unfolding own_in
  found_own aux word None N = refl
  found_own aux word (Some zero) N = let p = N.some 0 refl in absurd (omega (arith, p.0))
  found_own aux word (Some (suc i)) N = refl

  pub found_alike : (s : Seat) (aux : List ℕ) (o : Option ℕ) → NumberFound u t cell o → alike_in s aux (or_0 o) ≡ alike_at s aux o
  unfolding alike_in
  found_alike s aux None N = refl
  found_alike s aux (Some zero) N = let p = N.some 0 refl in absurd (omega (arith, p.0))
  found_alike s aux (Some (suc i)) N = refl
