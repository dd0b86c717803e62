use Prim.Native.Nat.{ℕ, ◌+◌}
use mathlib.Core.Path.{◌≡◌}
use mathlib.Core.List.{List}
use Rattle.print.proofs.Writing.Pieces.{Writing}
use Rattle.print.proofs.line.bytes.Given as goal

abbrev pub invariant-loop-b : goal.invariant-loop-b
invariant-loop-b l = (l.end ≡ l.at + l.b-index) × Writing (λ (xs : List ℕ). xs) l.initial.out l.at l.name l.out l.end l.b-index
