-- The candidates by their two inputs. Assumes nothing.
use Prim.Native.Nat.{ℕ, zero, suc, ◌≤◌, ◌<◌}
use native.Mathlib.Omega.{arith}
use mathlib.Core.Path.{◌≡◌, refl, ap, ap₂}
use mathlib.Core.Bool.{false, ◌||◌, true≢false}
use borrow.Author.Tests.{ltb-false, leb-false, eqb-false}
use lib.Dec.{eqb, leb, ltb}
use Rattle.lists.proofs.Tests.{or_false}
use Rattle.vectors.specs.declared.Kind.{Kind}
use Rattle.vectors.specs.declared.Kind.TheVariants.{One, Two}
use Rattle.vectors.specs.Variable.{earlier, later, faulty}
use Rattle.choice.proofs.Choice.Candidates.{one_sound, two_sound}

-- the inputs of a candidate rise
pub inputs_in : (n : ℕ) (k : Kind) → faulty n k ≡ false → (earlier k < later k) × (later k ≤ n)
inputs_in n (One i) f =
    let a = or_false (eqb i 0) (ltb n i) f in
    let z : i ≡ 0 → ⊥ = eqb-false i 0 a.0 in
    (omega (arith, z), ltb-false n i a.1)
inputs_in n (Two i j) f =
    let a = or_false (eqb i 0 || leb j i) (ltb n j) f in
    (leb-false j i (or_false (eqb i 0) (leb j i) a.0).1, ltb-false n j a.1)

-- the candidate with these inputs
abbrev pub kind_of : ℕ → ℕ → Kind
kind_of zero j = One j
kind_of (suc i) j = Two (suc i) j

pub kind_earlier : (i j : ℕ) → earlier (kind_of i j) ≡ i
kind_earlier zero j = refl
kind_earlier (suc i) j = refl

pub kind_later : (i j : ℕ) → later (kind_of i j) ≡ j
kind_later zero j = refl
kind_later (suc i) j = refl

pub kind_sound : (n i j : ℕ) → i < j → j ≤ n → faulty n (kind_of i j) ≡ false
kind_sound n zero j h l = one_sound n j h l
kind_sound n (suc i) j h l = two_sound n (suc i) j (omega arith) h l

-- a candidate from its inputs
pub kind_one : (n : ℕ) (k : Kind) (i j : ℕ) → faulty n k ≡ false → i ≡ earlier k → j ≡ later k → i ≡ 0 → One j ≡ k
kind_one n (One x) i j f p q z = ap One q
kind_one n (Two zero y) i j f p q z = absurd (true≢false f)
kind_one n (Two (suc x) y) i j f p q z = absurd (omega arith)

pub kind_two : (n : ℕ) (k : Kind) (i j : ℕ) → i ≡ earlier k → j ≡ later k → (i ≡ 0 → ⊥) → Two i j ≡ k
kind_two n (One x) i j p q z = absurd (z p)
kind_two n (Two x y) i j p q z = ap₂ Two p q
