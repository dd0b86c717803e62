use Prim.Native.Nat.{ℕ, ◌^◌}
use mathlib.Core.Path.{◌≡◌}
use lib.ListN.{length}
use Rattle.many.specs.Image.{Linear}
use Rattle.many.specs.Inner.Images.{OnBits, Below}
use Rattle.many.proofs.tables.fill_one.Given as goal

abbrev pub invariant-loop-image : goal.invariant-loop-image
invariant-loop-image l = (l.span ≡ 2 ^ l.image-index) × (length l.table ≡ 256) × ((f : ℕ → ℕ) → Linear f → OnBits 8 f l.images → Below (2 ^ l.image-index) f l.table)
