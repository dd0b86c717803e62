-- Words and columns by blocks of j: which block of two, and which pair of words. Assumes nothing.
use Prim.Native.Nat.{ℕ, zero, suc, ◌+◌, ◌*◌, ◌/◌, ◌%◌, ◌≤◌, ◌<◌}
use native.Mathlib.Nat.{mod-lt, suc-mul, mul_comm, mul_assoc, div-add-mod', div-eq_of_lt, div-lt_iff_lt-mul, add-div_left, add-div_right, mul-le-mul_right}
use native.Mathlib.Numerals.{add-one}
use native.Mathlib.Omega.{arith}
use mathlib.Core.Path.{◌≡◌, refl, sym, ap, ap₂, ◌∙◌}
use mathlib.Core.Logic.{◌⊎◌, inl, inr}
use lib.Arith.{digits_lt, digits_div, digits_mod}
use Rattle.lists.proofs.Tests.{le_or_lt}
use Rattle.transpose.specs.Stage.{beside}

-- the number of the pair that word r is in
abbrev pub pair_of : ℕ → ℕ → ℕ
pair_of j r = r / j / 2 * j + r % j

-- the first word of pair k
abbrev pub low_of : ℕ → ℕ → ℕ
low_of j k = k / j * 2 * j + k % j

pub even_or_odd : (n : ℕ) → (n % 2 ≡ 0) ⊎ (n % 2 ≡ 1)
even_or_odd n = go (n % 2) refl
  where
    go : (d : ℕ) → n % 2 ≡ d → (n % 2 ≡ 0) ⊎ (n % 2 ≡ 1)
    go zero e = inl e
    go (suc zero) e = inr e
    go (suc (suc d)) e = absurd (omega arith)

halves : (q d : ℕ) → q % 2 ≡ d → q / 2 * 2 + d ≡ q
halves q d e = omega arith

more : (q j : ℕ) → (q + 1) * j ≡ q * j + j
more q j = ap (λ (t : ℕ). t * j) (add-one q) ∙ suc-mul q j

module _ (j : ℕ) (p : 0 < j) where
  -- ---- where a bit comes from

  pub same : (r c : ℕ) → r / j % 2 ≡ c / j % 2 → beside j r c ≡ r
  same r c e = ap (λ (q : ℕ). q * j + r % j) (halves (r / j) (c / j % 2) e) ∙ div-add-mod' r j

  pub up : (r c : ℕ) → r / j % 2 ≡ 0 → c / j % 2 ≡ 1 → beside j r c ≡ r + j
  up r c e o =
      let q : r / j / 2 * 2 + c / j % 2 ≡ r / j + 1 = omega arith in
      ap (λ (t : ℕ). t * j + r % j) q ∙ omega (arith, more (r / j) j, div-add-mod' r j)

  pub down : (r c : ℕ) → r / j % 2 ≡ 1 → c / j % 2 ≡ 0 → beside j r c + j ≡ r
  down r c e o =
      let q : r / j / 2 * 2 + c / j % 2 ≡ r / j / 2 * 2 = omega arith in
      let s : r / j / 2 * 2 + 1 ≡ r / j = omega arith in
      ap (λ (t : ℕ). t * j + r % j + j) q ∙ omega (arith, sym (more (r / j / 2 * 2) j) ∙ ap (λ (t : ℕ). t * j) s, div-add-mod' r j)

  -- ---- an odd column is j past an even one

  pub past : (c : ℕ) → c / j % 2 ≡ 1 → j ≤ c
  past c o = go (le_or_lt j c)
    where
      go : (j ≤ c) ⊎ (c < j) → j ≤ c
      go (inl h) = h
      go (inr h) = absurd (omega (arith, div-eq_of_lt h))

  pub next : (c : ℕ) → (j + c) / j ≡ c / j + 1
  next c = add-div_left c p

  -- ---- the pairs

  pub low_div : (k : ℕ) → low_of j k / j ≡ k / j * 2
  low_div k = digits_div (k / j * 2) (mod-lt k p)

  pub low_mod : (k : ℕ) → low_of j k % j ≡ k % j
  low_mod k = digits_mod (k / j * 2) (mod-lt k p)

  pub low_pair : (k : ℕ) → pair_of j (low_of j k) ≡ k
  low_pair k =
      let q : k / j * 2 / 2 ≡ k / j = omega arith in
      ap₂ (λ (a b : ℕ). a / 2 * j + b) (low_div k) (low_mod k) ∙ ap (λ (t : ℕ). t * j + k % j) q ∙ div-add-mod' k j

  -- the first word of a pair, and the second
  pub pair_low : (k r : ℕ) → pair_of j r ≡ k → r / j % 2 ≡ 0 → r ≡ low_of j k
  pair_low k r e z = sym (div-add-mod' r j) ∙ ap₂ (λ (a b : ℕ). a * j + b) d (sym (digits_mod (r / j / 2) (mod-lt r p)) ∙ ap (λ (t : ℕ). t % j) e)
    where
      d : r / j ≡ k / j * 2
      d =
          let q : r / j / 2 ≡ k / j = sym (digits_div (r / j / 2) (mod-lt r p)) ∙ ap (λ (t : ℕ). t / j) e in
          omega arith

  pub pair_high : (k r : ℕ) → pair_of j r ≡ k → r / j % 2 ≡ 1 → r ≡ low_of j k + j
  pair_high k r e o =
      sym (div-add-mod' r j) ∙ ap₂ (λ (a b : ℕ). a * j + b) d (sym (digits_mod (r / j / 2) (mod-lt r p)) ∙ ap (λ (t : ℕ). t % j) e)
      ∙ omega (arith, more (k / j * 2) j)
    where
      d : r / j ≡ k / j * 2 + 1
      d =
          let q : r / j / 2 ≡ k / j = sym (digits_div (r / j / 2) (mod-lt r p)) ∙ ap (λ (t : ℕ). t / j) e in
          omega arith

  pub high_pair : (k : ℕ) → pair_of j (low_of j k + j) ≡ k
  high_pair k =
      let s : low_of j k + j ≡ (k / j * 2 + 1) * j + k % j = omega (arith, more (k / j * 2) j) in
      let q : (k / j * 2 + 1) / 2 ≡ k / j = omega arith in
      ap (pair_of j) s ∙ ap₂ (λ (a b : ℕ). a / 2 * j + b) (digits_div (k / j * 2 + 1) (mod-lt k p)) (digits_mod (k / j * 2 + 1) (mod-lt k p))
      ∙ ap (λ (t : ℕ). t * j + k % j) q ∙ div-add-mod' k j

  -- the first word of pair k + n, where k pairs are whole blocks
  pub low_at : (k n : ℕ) → k / j * j ≡ k → n < j → low_of j (k + n) ≡ 2 * k + n
  low_at k n q l =
      ap₂ (λ (a b : ℕ). a * 2 * j + b) (ap (λ (t : ℕ). (t + n) / j) (sym q) ∙ digits_div (k / j) l) (ap (λ (t : ℕ). (t + n) % j) (sym q) ∙ digits_mod (k / j) l)
      ∙ omega (arith, q, ap (λ (t : ℕ). t * j) (mul_comm (k / j) 2) ∙ mul_assoc 2 (k / j) j)

  pub block_next : (k : ℕ) → k / j * j ≡ k → (k + j) / j * j ≡ k + j
  block_next k q = ap (λ (t : ℕ). t * j) (add-div_right k p) ∙ more (k / j) j ∙ ap (λ (t : ℕ). t + j) q

  module _ (b : 32 / j * j ≡ 32) where
    whole : 32 / j * 2 * j ≡ 64
    whole = ap (λ (t : ℕ). t * j) (mul_comm (32 / j) 2) ∙ mul_assoc 2 (32 / j) j ∙ ap (λ (t : ℕ). 2 * t) b

    -- a block more
    pub block_le : (k : ℕ) → k < 32 → k / j * j ≡ k → k + j ≤ 32
    block_le k h q =
        let m : k / j < 32 / j = (div-lt_iff_lt-mul p).1 (rw b h) in
        let l : (k / j + 1) * j ≤ 32 / j * j = mul-le-mul_right j (omega arith) in
        omega (arith, more (k / j) j)

    pub high_lt : (k : ℕ) → k < 32 → low_of j k + j < 64
    high_lt k h =
        let q : k / j < 32 / j = (div-lt_iff_lt-mul p).1 (rw b h) in
        let m : k / j * 2 + 1 < 32 / j * 2 = omega arith in
        let l : (k / j * 2 + 1) * j + k % j < 32 / j * 2 * j = digits_lt m (mod-lt k p) in
        omega (arith, more (k / j * 2) j, whole)

    pub pair_lt : (r : ℕ) → r < 64 → pair_of j r < 32
    pair_lt r h =
        let q : r / j < 32 / j * 2 = (div-lt_iff_lt-mul p).1 (rw whole h) in
        let m : r / j / 2 < 32 / j = omega arith in
        rw b at (digits_lt m (mod-lt r p))

    pub beside_lt : (r c : ℕ) → r < 64 → beside j r c < 64
    beside_lt r c h =
        let q : r / j < 32 / j * 2 = (div-lt_iff_lt-mul p).1 (rw whole h) in
        let m : r / j / 2 * 2 + c / j % 2 < 32 / j * 2 = omega arith in
        rw whole at (digits_lt m (mod-lt r p))
