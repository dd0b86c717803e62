-- The stages one after the other: after the stage at distance j, the blocks of j are turned. Assumes nothing.
use Prim.Native.Nat.{ℕ, ◌+◌, ◌*◌, ◌/◌, ◌%◌, ◌<◌}
use native.Mathlib.Nat.{mod-lt, mul_comm, mul_assoc, zero-lt-suc, add-mul, div-div-eq-div-mul}
use native.Mathlib.Omega.{arith}
use mathlib.Core.Path.{◌≡◌, sym, ap, ap₂, ◌∙◌}
use mathlib.Core.List.{List}
use lib.Arith.{digits_div, digits_mod, mod-mul}
use Rattle.transpose.specs.Stage.{Exchanged, beside, bit_at}
use Rattle.transpose.proofs.Places.{beside_lt}

-- the block of c, and the place of r in a block
abbrev pub across : ℕ → ℕ → ℕ → ℕ
across j r c = c / j * j + r % j

-- the blocks of j are turned, and each keeps its inside
abbrev pub Across : ℕ → List ℕ → List ℕ → Type 0
Across j xs ys = (r c : ℕ) → r < 64 → c < 64 → bit_at ys r c ≡ bit_at xs (across j r c) (across j c r)

pub across_none : (xs : List ℕ) → Across 64 xs xs
across_none xs r c h k =
    let p : r ≡ c / 64 * 64 + r % 64 = omega arith in
    let q : c ≡ r / 64 * 64 + c % 64 = omega arith in
    ap₂ (bit_at xs) p q

-- turned blocks of 1 are turned bits
pub across_all : (xs ys : List ℕ) → Across 1 xs ys → (r c : ℕ) → r < 64 → c < 64 → bit_at ys r c ≡ bit_at xs c r
across_all xs ys a r c h k =
    let p : c / 1 * 1 + r % 1 ≡ c = omega arith in
    let q : r / 1 * 1 + c % 1 ≡ r = omega arith in
    a r c h k ∙ ap₂ (bit_at xs) p q

module _ (j : ℕ) (p : 0 < j) where
  beside_div : (r c : ℕ) → beside j r c / j ≡ r / j / 2 * 2 + c / j % 2
  beside_div r c = digits_div (r / j / 2 * 2 + c / j % 2) (mod-lt r p)

  high : (r c : ℕ) → beside j r c / (2 * j) ≡ r / j / 2
  high r c =
      ap (λ (t : ℕ). beside j r c / t) (mul_comm 2 j) ∙ sym (div-div-eq-div-mul (beside j r c) j 2) ∙ ap (λ (t : ℕ). t / 2) (beside_div r c)
      ∙ half (r / j) (c / j)
    where
      half : (a b : ℕ) → (a / 2 * 2 + b % 2) / 2 ≡ a / 2
      half a b = omega arith

  low : (r c : ℕ) → beside j r c % (2 * j) ≡ c / j % 2 * j + r % j
  low r c =
      mod-mul (beside j r c) (zero-lt-suc 1) p
      ∙ ap₂ (λ (a b : ℕ). a * j + b) (ap (λ (t : ℕ). t % 2) (beside_div r c) ∙ last (r / j) (c / j)) (digits_mod (r / j / 2 * 2 + c / j % 2) (mod-lt r p))
    where
      last : (a b : ℕ) → (a / 2 * 2 + b % 2) % 2 ≡ b % 2
      last a b = omega arith

  across_beside : (r c : ℕ) → across (2 * j) (beside j r c) (beside j c r) ≡ across j r c
  across_beside r c =
      let e : c / j / 2 * 2 + c / j % 2 ≡ c / j = omega arith in
      ap₂ (λ (a b : ℕ). a * (2 * j) + b) (high c r) (low r c)
      ∙ omega (arith, sym (mul_assoc (c / j / 2) 2 j), add-mul (c / j / 2 * 2) (c / j % 2) j, ap (λ (t : ℕ). t * j) e)

  pub across_step : (xs ys zs : List ℕ) → 32 / j * j ≡ 32 → Across (2 * j) xs ys → Exchanged j ys zs → Across j xs zs
  across_step xs ys zs b a e r c h k =
      e.bits r c h k ∙ a (beside j r c) (beside j c r) (beside_lt j p b r c h) (beside_lt j p b c r k)
      ∙ ap₂ (bit_at xs) (across_beside r c) (across_beside c r)
