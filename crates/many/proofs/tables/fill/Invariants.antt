use Prim.Native.Nat.{ℕ, ◌≤◌}
use mathlib.Core.Path.{◌≡◌}
use lib.ListN.{length}
use Rattle.many.specs.Image.{Linear}
use Rattle.many.specs.Inner.Images.{OnBits, Tabled}
use Rattle.many.proofs.tables.fill.Given as goal

abbrev pub invariant-loop-t : goal.invariant-loop-t
invariant-loop-t l = (l.t ≤ l.bytes) × (length l.tables ≡ 2048) × ((f : ℕ → ℕ) → Linear f → OnBits 64 f l.images → Tabled l.t f l.tables)
