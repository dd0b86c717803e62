-- How many blocks words take. Assumes nothing.
use Prim.Native.Nat.{ℕ, suc, ◌+◌, ◌-◌, ◌*◌, ◌≤◌, ◌<◌}
use native.Mathlib.Nat.{div-lt_iff_lt-mul, mul-le-mul_left}
use native.Mathlib.Omega.{arith}
use Rattle.file.specs.File.{blocks_for}

pub blocks_few : (per words : ℕ) → 1 ≤ per → blocks_for per words ≤ words
blocks_few per words h =
    let m : words * 1 ≤ words * per = mul-le-mul_left words h in
    let l : words + (per - 1) < suc words * per = omega arith in
    let d : blocks_for per words < suc words = (div-lt_iff_lt-mul h).1 l in
    omega arith
