use Prim.Native.Nat.{ℕ, ◌+◌, ◌-◌}
use native.Mathlib.Omega.{arith}
use mathlib.Core.Path.{◌≡◌, ◌∙◌, ap}
use lib.ListN.{length, take, drop, length-drop}
use lib.Seq.{length-take-le}
use Rattle.block.specs.Bytes.{value_of, number_at}
use Rattle.block.proofs.Reading.Numbers.{value_part}
use Rattle.block.proofs.read.word.Goals as goal

pub returns : goal.returns
unfolding number_at
returns c =
    let a = c.args in
    let part = take a.size (drop a.at a.bytes.now) in
    let n : length part ≡ a.size = length-take-le a.size (drop a.at a.bytes.now) (omega (arith, length-drop a.at a.bytes.now)) in
    let e : c.copy_from_slice.new.self ≡ part = c.copy_from_slice.ensures.after ∙ ap (λ (n : ℕ). take n (drop a.at a.bytes.now)) (let k : a.at + a.size - a.at ≡ a.size = omega arith in k) in
    c.from_le_bytes.ensures ∙ value_part a.size c.copy_from_slice.new.self (ap length e ∙ n) c.requires.1 ∙ ap value_of e
