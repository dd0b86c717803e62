-- The tries of an accepted build are few, so that four bytes hold them. Assumes nothing.
use mathlib.Core.List.{List}
use Prim.Native.Nat.{ℕ, suc, ◌*◌, ◌^◌, ◌≤◌, ◌<◌}
use native.Mathlib.Nat.{mul-le-mul}
use native.Mathlib.Omega.{arith}
use lib.ListN.{length}
use Rattle.vectors.specs.declared.Kind.{Kind}
use Rattle.vectors.specs.Bounds.{max_vectors}
use Rattle.build.specs.Build.{placing_of}
use Rattle.build.proofs.Allowed.{made_most, most_half}

pub tries_low : (n1 : ℕ) (ks : List Kind) (cells : ℕ) (vs : List ℕ) → length vs ≤ max_vectors → (placing_of n1 ks cells vs).state.tries < 2 ^ 32
tries_low n1 ks cells vs few =
    let k : ℕ = length vs in
    let l : suc k ≤ suc max_vectors = omega arith in
    let m : k * suc k ≤ max_vectors * suc max_vectors = mul-le-mul few l in
    omega (arith, made_most n1 ks vs cells, most_half n1 ks vs)
