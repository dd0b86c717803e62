use Prim.Native.Nat.{◌+◌, ◌-◌, ◌*◌, ◌/◌, ◌^◌}
use native.Mathlib.Nat.{mod-lt}
use native.Mathlib.Omega.{arith}
use mathlib.Core.Path.{◌≡◌, ◌∙◌}
use lib.ListN.{drop}
use lib.Pow.{pow_pos}
use lib.Seq.{get_or-take, get_or-drop}
use Rattle.many.proofs.tables.of_byte.Goals as goal

pub returns : goal.returns
returns c =
    let a = c.args in
    let e : 256 * a.t + 256 - 256 * a.t ≡ 256 = omega arith in
    rw e
    (get_or-take 256 (drop (256 * a.t) a.tables.now) _ 0 (mod-lt (a.x / 2 ^ (8 * a.t)) (pow_pos 8)) ∙ get_or-drop (256 * a.t) a.tables.now _ 0)
