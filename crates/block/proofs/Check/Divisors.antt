-- 65,521 is no product of two places' distance and two bytes' difference. Assumes nothing.
use mathlib.Core.Path.{◌≡◌, refl}
use mathlib.Core.Bool.{Bool, true, false, not, ◌&&◌, ◌||◌}
use Prim.Native.Nat.{ℕ, zero, suc, ◌+◌, ◌*◌, ◌%◌, ◌≤◌, ◌<◌}
use native.Mathlib.Nat.{mul-mod_left, mul-le-mul, mul-le-mul_left, mul-pos}
use native.Mathlib.Omega.{arith}
use lib.Dec.{eqb, leb, ltb}
use borrow.Author.Tests.{eq-eqb, lt-leb, ltb-true, ltb-false}
use Rattle.lists.proofs.Tests.{and_true}
use Rattle.block.specs.Block.{check_at, modulus}

-- every number below n passes
below : (ℕ → Bool) → ℕ → Bool
below p zero = true
below p (suc n) = p n && below p n

last_or : (p : ℕ → Bool) (n i : ℕ) → p n ≡ true → (i < n → p i ≡ true) → i < suc n → p i ≡ true
last_or p n i last rest h = go (ltb i n) refl
  where
    go : (t : Bool) → ltb i n ≡ t → p i ≡ true
    go true e = rest (ltb-true _ _ e)
    go false e = let q : i ≡ n = omega (arith, ltb-false i n e) in rw q last

below_at : (p : ℕ → Bool) (n : ℕ) → below p n ≡ true → (i : ℕ) → i < n → p i ≡ true
unfolding below
below_at p zero e i h = absurd (omega arith)
below_at p (suc n) e i h = last_or p n i (and_true (p n) (below p n) e).0 (λ k. below_at p n (and_true (p n) (below p n) e).1 i k) h

-- a number above 1 does not divide it
indivisible : ℕ → Bool
indivisible e = leb e 1 || not (eqb (modulus % e) 0)

no_product : (d e : ℕ) → d < check_at → e < 256 → d * e ≡ modulus → ⊥
unfolding indivisible below
no_product d e hd he q = go (ltb 1 e) refl
  where
    go : (t : Bool) → ltb 1 e ≡ t → ⊥
    go true k =
        let z : modulus % e ≡ 0 = rw (← q) (mul-mod_left d e) in
        let f : indivisible e ≡ true = below_at indivisible 256 refl e he in
        let g : indivisible e ≡ false = simp (lt-leb e 1 (ltb-true _ _ k), eq-eqb _ _ z) in
        let c : ◌≡◌ {A = ℕ} 0 1 = cc in
        omega arith
    go false k =
        let b : e ≤ 1 = ltb-false 1 e k in
        let m : d * e ≤ d * 1 = mul-le-mul_left d b in
        omega arith

-- so a distance times a difference alters every remainder
pub apart : (t d e : ℕ) → 0 < d → d < check_at → 0 < e → e < 256 → (t + d * e) % modulus ≡ t % modulus → ⊥
apart t d e d₀ hd e₀ he m =
    let lo : 0 < d * e = mul-pos d₀ e₀ in
    let dd : d ≤ 507 = omega arith in
    let ee : e ≤ 255 = omega arith in
    let hi : d * e ≤ 507 * 255 = mul-le-mul dd ee in
    no_product d e hd he (only (d * e) lo hi m)
  where
    only : (p : ℕ) → 0 < p → p ≤ 129285 → (t + p) % modulus ≡ t % modulus → p ≡ modulus
    only p lo hi m = omega arith
