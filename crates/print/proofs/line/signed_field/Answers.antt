use Prim.Native.Nat.{ℕ, ◌+◌, ◌≤◌}
use native.Mathlib.Omega.{arith}
use mathlib.Core.Path.{◌≡◌, sym, ap, ◌∙◌}
use mathlib.Core.List.{List, ◌∷◌}
use lib.IntN.{nat_abs}
use mir.Facts.{to_z-of_z}
use Rattle.print.specs.Decimal.{decimal, minus, signed}
use Rattle.print.specs.Line.{space}
use Rattle.print.specs.Inner.Written.{Written}
use Rattle.print.proofs.Decimals.Signs.{text_below, text_above, signed_low}
use Rattle.print.proofs.Writing.Pieces.{written_more}
use Rattle.print.proofs.line.signed_field.Goals as goal
use Rattle.print.proofs.line.signed_field.Lts.View
use Rattle.print.proofs.line.signed_field.Goals.{After-unsigned_abs-size, Else-n-lt0, Then-n-lt0}

-- the number without its sign
size_is : (c : After-unsigned_abs-size) → c.unsigned_abs-size.result ≡ nat_abs c.args.n
size_is c = c.unsigned_abs-size.ensures.value ∙ ap nat_abs (to_z-of_z c.ranges.n)

shown_below : (c : Then-n-lt0) → minus ∷ decimal c.unsigned_abs-size.result ≡ signed c.args.n
shown_below c =
    ap (λ m. minus ∷ decimal m) (size_is (View.up-After-unsigned_abs-size _ _ _ _ c.before.before)) ∙ sym (text_below c.args.n c.ranges.n c.if-n-lt0.true)

shown_above : (c : Else-n-lt0) → decimal c.unsigned_abs-size.result ≡ signed c.args.n
shown_above c =
    ap decimal (size_is (View.up-After-unsigned_abs-size _ _ _ _ c.before.before)) ∙ sym (text_above c.args.n c.ranges.n c.if-n-lt0.false)

-- a number written takes at most 22 bytes with its space
held : (c : After-unsigned_abs-size) {at end : ℕ} {old out : List ℕ} → let n = c.args.n in Written old at (space ∷ signed n) out end
    → Written old at (space ∷ signed n) out end × (end ≤ at + 22)
held c w = let s = c.before.before in (w, omega (arith, w.place, signed_low s.args.n s.ranges.n))

pub returns-then-n-lt0 : goal.returns-then-n-lt0
returns-then-n-lt0 c =
    let r = held (goal.at.returns-then-n-lt0 c).After-unsigned_abs-size (rw (sym (shown_below (goal.at.returns-then-n-lt0 c).Then-n-lt0)) (written_more c.bytes-after.ensures c.put.ensures)) in record { written = r.0; upper_bound = r.1 }

pub returns : goal.returns
returns c =
    let r = held (goal.at.returns c).After-unsigned_abs-size (rw (sym (shown_above (goal.at.returns c).Else-n-lt0)) c.field.ensures) in record { written = r.0; upper_bound = r.1 }
