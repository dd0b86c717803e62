use native.Mathlib.Numerals.{add-one}
use Prim.Native.Nat.{ℕ, suc}
use mathlib.Core.Path.{◌≡◌, ap, ap₂, ◌∙◌}
use lib.IntN.{ℤ}
use mir.Syntax.{w64}
use mir.Val.{to_z, of_z}
use mir.Facts.{to_z-of_z}
use Rattle.record.specs.Record.{excess_of, mark_amended}
use Rattle.add.proofs.amended.Goals as goal

pub returns : goal.returns
returns c =
    let u = c.args.unit in
    let x = c.excess-excess in
    let e : to_z w64 (of_z w64 x.result) ≡ excess_of u.p (suc u.k) =
    to_z-of_z {w = w64} (record { sfits = x.type_inv }) ∙ x.ensures ∙ ap (excess_of u.p) (add-one u.k) in
    ap₂
    (λ (k : ℕ) (z : ℤ). record { n = u.n; p = u.p; n1 = u.n1; k = k; cells = u.cells; kept = u.kept; tries = u.tries; excess = z; variables = u.variables; mark = mark_amended })
    (add-one u.k) e
