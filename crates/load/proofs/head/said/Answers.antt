use Prim.Native.Nat.{ℕ, ◌<◌}
use native.Mathlib.Omega.{arith}
use mathlib.Core.Path.{◌∙◌}
use mir.Facts.{to_z-of_z}
use mir.Syntax.{w64}
use Rattle.lists.proofs.Entries.Alls.{at_all}
use Rattle.block.proofs.Reading.Numbers.{Bytes}
use Rattle.block.proofs.Reading.Places.{number_low}
use Rattle.file.specs.Layout.{p_at, k_at}
use Rattle.load.proofs.Naming.{said_made}
use Rattle.load.proofs.head.said.Goals as goal

pub overflow_cast-p : goal.overflow_cast-p
overflow_cast-p c =
    let f = c.args.file.bytes.now in
    let bytes : Bytes f = at_all (λ (x : ℕ). x < 256) f 0 (λ i h. c.args.file.low i) in
    omega (arith, c.number-p.ensures, number_low 1 p_at f bytes)

pub overflow_cast-k : goal.overflow_cast-k
overflow_cast-k c =
    let f = c.args.file.bytes.now in
    let bytes : Bytes f = at_all (λ (x : ℕ). x < 256) f 0 (λ i h. c.args.file.low i) in
    omega (arith, c.number-k.ensures, number_low 2 k_at f bytes)

pub returns : goal.returns
returns c =
    said_made _ _ _ _ _ _ _ _ _ _ _ _ _ c.variables-v.ensures c.number-n.ensures c.number-p.ensures c.number-n1.ensures c.number-k.ensures c.number-cells.ensures c.number-tries.ensures
    c.kept_inputs-kept.ensures (to_z-of_z {w = w64} (record { sfits = c.excess-excess.type_inv }) ∙ c.excess-excess.ensures) c.marked-variables.ensures c.number.ensures c.from-mark.ensures
