-- What is known of the positions of a variable that is not faulty. Assumes nothing.
use Rattle.std.proofs.lemmas.Bool.{or_parts}
use Rattle.std.proofs.Common.{◌≡◌, ℕ, ◌<◌, ◌≤◌, false, ◌||◌, eqb, ltb, leb, arith, ltb-false, le-ltb, leb-false}
use borrow.Author.Tests.{eqb-false}
use Rattle.vectors.specs.declared.Kind.{Kind}
use Rattle.vectors.specs.declared.Kind.TheVariants.{One, Two}
use Rattle.vectors.specs.Variable.{faulty}

pub right_one : (n i : ℕ) → faulty n (One i) ≡ false → (0 < i) × (i ≤ n)
right_one n i h =
    let f = or_parts (eqb i 0) (ltb n i) h in
    let z : i ≡ 0 → ⊥ = eqb-false i 0 f.0 in
    (omega arith, ltb-false n i f.1)

pub right_two : (n i j : ℕ) → faulty n (Two i j) ≡ false → ((0 < i) × (i ≤ n)) × ((0 < j) × (j ≤ n))
right_two n i j h =
    let f = or_parts (eqb i 0 || leb j i) (ltb n j) h in
    let g = or_parts (eqb i 0) (leb j i) f.0 in
    let z : i ≡ 0 → ⊥ = eqb-false i 0 g.0 in
    let l : i < j = leb-false j i g.1 in
    let m : j ≤ n = ltb-false n j f.1 in
    ((omega arith, omega arith), (omega arith, m))

-- a variable within n inputs is within more
pub faulty_within : (n m : ℕ) (k : Kind) → n ≤ m → faulty n k ≡ false → faulty m k ≡ false
faulty_within n m (One i) l h =
    let f = or_parts (eqb i 0) (ltb n i) h in
    rw (f.0, le-ltb m i (omega (arith, ltb-false n i f.1)))
faulty_within n m (Two i j) l h =
    let f = or_parts (eqb i 0 || leb j i) (ltb n j) h in
    rw (f.0, le-ltb m j (omega (arith, ltb-false n j f.1)))
