-- Candidates with a tied input tell no more apart than earlier ones. Assumes nothing.
use Prim.Native.Nat.{ℕ, zero, suc, ◌+◌, ◌-◌, ◌*◌, ◌/◌, ◌%◌, ◌^◌, ◌≤◌, ◌<◌}
use native.Mathlib.Nat.{mul_comm, mul-zero, zero-mul, div-one, le_trans, eq-or-lt_of_le}
use native.Mathlib.Omega.{arith}
use mathlib.Core.Path.{◌≡◌, refl, sym, ap, ap₂, ◌∙◌, fun_ext}
use mathlib.Core.List.{List, [], ◌∷◌}
use mathlib.Core.Logic.{◌⊎◌, inl, inr, ⊎_elim}
use lib.ListN.{length}
use Rattle.lists.proofs.Tests.{le_or_lt}
use Rattle.lists.specs.Members.{All}
use Rattle.vectors.specs.Bits.{input}
use Rattle.vectors.specs.Bounds.{max_inputs}
use Rattle.vectors.specs.declared.Kind.TheVariants.{Two}
use Rattle.vectors.specs.Variable.{value_of}
use Rattle.vectors.proofs.Bits.Laws.{input_lt, shr_suc}
use Rattle.choice.specs.Inner.Split.{tally}
use Rattle.choice.specs.Inner.Gain.{splits, gains}
use Rattle.choice.specs.Inner.Search.{rank, Beaten}
use Rattle.choice.specs.Inner.Ties.{Tied, Ties}
use Rattle.choice.proofs.Counting.Columns.{value_inputs}
use Rattle.choice.proofs.Searching.Order.{kind_of, kind_earlier, kind_later}

-- x_1 left out of a mask
after_first : (tied j : ℕ) → input (tied / 2 * 2) j ≡ 1 → (1 < j) × (input tied j ≡ 1)
after_first tied zero e = absurd (omega arith)
after_first tied (suc zero) e = absurd (omega (arith, div-one (tied / 2 * 2)))
after_first tied (suc (suc j)) e =
    let half : tied / 2 * 2 / 2 ≡ tied / 2 = omega arith in
    (omega arith, ap (λ (m : ℕ). m % 2) (sym (shr_suc tied j) ∙ ap (λ (m : ℕ). m / 2 ^ j) (sym half) ∙ shr_suc (tied / 2 * 2) j) ∙ e)

-- by the XOR of two inputs: the members with 1, and the pairs told apart
abbrev tally_of : ℕ → ℕ → List ℕ → ℕ
tally_of i j g = tally (λ x. value_of x (Two i j)) g

abbrev pub gain_of : List (List ℕ) → ℕ → ℕ → ℕ
gain_of gs i j = gains (λ x. value_of x (Two i j)) gs

-- ---- a group in which inputs i and j are tied

module _ (i j : ℕ) where
  -- equal in all members
  tally_same : (a : ℕ) (g : List ℕ) → All (λ x. value_of x (Two i j) ≡ 0) g → tally_of a j g ≡ tally_of a i g
  unfolding tally value_of
  tally_same a [] e = refl
  tally_same a (x ∷ g) e = ap₂ ◌+◌ (one (input x a) (input x i) (input x j) (input_lt x i) (input_lt x j) e.0) (tally_same a g e.1)
    where
      one : (p q r : ℕ) → q < 2 → r < 2 → (q + r) % 2 ≡ 0 → (p + r) % 2 ≡ (p + q) % 2
      one p q r h l e = let s : r ≡ q = omega arith in ap (λ (t : ℕ). (p + t) % 2) s

  -- different in all members
  tally_other : (a : ℕ) (g : List ℕ) → All (λ x. value_of x (Two i j) ≡ 1) g → tally_of a j g + tally_of a i g ≡ length g
  unfolding tally value_of
  tally_other a [] e = refl
  tally_other a (x ∷ g) e = omega (arith, one (input x a) (input x i) (input x j) (input_lt x i) (input_lt x j) e.0, tally_other a g e.1)
    where
      one : (p q r : ℕ) → q < 2 → r < 2 → (q + r) % 2 ≡ 1 → (p + r) % 2 + (p + q) % 2 ≡ 1
      one p q r h l e = omega arith

  splits_other : (a b n : ℕ) → a + b ≡ n → splits a n ≡ splits b n
  splits_other a b n h =
      let e : n - a ≡ b = omega arith in
      let d : n - b ≡ a = omega arith in
      rw (e, d) (mul_comm a b)

  -- either tells the same pairs apart, with any third input
  splits_tied : (a : ℕ) (g : List ℕ) → Tied (λ x. x) i j g → splits (tally_of a j g) (length g) ≡ splits (tally_of a i g) (length g)
  unfolding tally value_of
  splits_tied a g (zero, e) = ap (λ (t : ℕ). splits t (length g)) (tally_same a g e)
  splits_tied a g (suc zero, e) = splits_other (tally_of a j g) (tally_of a i g) (length g) (tally_other a g e)
  splits_tied a [] (suc (suc v), e) = refl
  splits_tied a (x ∷ g) (suc (suc v), e) = absurd (omega (arith, e.0))

  -- both together tell nothing apart
  tally_value : (v : ℕ) (g : List ℕ) → All (λ x. value_of x (Two i j) ≡ v) g → tally_of i j g ≡ v * length g
  unfolding tally
  tally_value v [] e = sym (mul-zero v)
  tally_value v (x ∷ g) e = omega (arith, e.0, tally_value v g e.1)

  splits_none : (g : List ℕ) → Tied (λ x. x) i j g → splits (tally_of i j g) (length g) ≡ 0
  splits_none g (zero, e) = let t : tally_of i j g ≡ 0 = omega (arith, tally_value 0 g e) in rw t (zero-mul _)
  splits_none g (suc v, e) =
      let d : length g - tally_of i j g ≡ 0 = omega (arith, tally_value (suc v) g e) in
      rw d (mul-zero (tally_of i j g))

  -- ---- all groups

  gains_tied : (a : ℕ) (gs : List (List ℕ)) → All (Tied (λ x. x) i j) gs → gain_of gs a j ≡ gain_of gs a i
  unfolding gains
  gains_tied a [] t = refl
  gains_tied a (g ∷ gs) t = ap₂ ◌+◌ (splits_tied a g t.0) (gains_tied a gs t.1)

  gains_none : (gs : List (List ℕ)) → All (Tied (λ x. x) i j) gs → gain_of gs i j ≡ 0
  unfolding gains
  gains_none [] t = refl
  gains_none (g ∷ gs) t = omega (arith, splits_none g t.0, gains_none gs t.1)

-- ---- an earlier candidate

module _ (gs : List (List ℕ)) where
  gain_turned : (i j : ℕ) → gain_of gs i j ≡ gain_of gs j i
  unfolding value_of
  gain_turned i j = ap (λ (h : ℕ → ℕ). gains h gs) (fun_ext (λ x. let e : input x i + input x j ≡ input x j + input x i = omega arith in ap (λ (t : ℕ). t % 2) e))

  pub gain_pair : (i j : ℕ) → gains (λ x. value_of x (kind_of i j)) gs ≡ gain_of gs i j
  gain_pair i j =
      ap (λ (h : ℕ → ℕ). gains h gs) (fun_ext (λ x. sym (value_inputs x (kind_of i j))))
      ∙ ap₂ (gain_of gs) (kind_earlier i j) (kind_later i j)

  -- of the inputs after x_1, which is tried in any case
  earlier_twin : (n tied : ℕ) → n ≤ max_inputs → Ties tied (λ x. x) gs → (i j : ℕ) → i < j → j ≤ n → (input (tied / 2 * 2) i ≡ 1) ⊎ (input (tied / 2 * 2) j ≡ 1)
      → (x : ℕ) × (y : ℕ) × (x < y) × (y ≤ n) × (rank x y < rank i j) × (gain_of gs i j ≤ gain_of gs x y)
  earlier_twin n tied fits t i j h l (inl m) =
      let (a, b) = after_first tied i m in
      let (x, p, g) = t i b in
      (x, j, omega arith, l, omega arith, omega (arith, gain_turned i j, gains_tied x i j gs g, gain_turned j x))
  earlier_twin n tied fits t i j h l (inr m) =
      let (a, b) = after_first tied j m in
      let (x, p, g) = t j b in
      let e = gains_tied x j i gs g in
      ⊎_elim
      (λ q. ⊎_elim (λ z. none x g z a) (λ z. (x, i, z, omega arith, omega arith, omega (arith, e, gain_turned i x))) (eq-or-lt_of_le q))
      (λ q. (i, x, q, omega arith, omega arith, omega (arith, e)))
      (le_or_lt x i)
    where
      none : (x : ℕ) → All (Tied (λ x. x) x j) gs → x ≡ i → 1 < j → (x : ℕ) × (y : ℕ) × (x < y) × (y ≤ n) × (rank x y < rank i j) × (gain_of gs i j ≤ gain_of gs x y)
      none x g z a =
          let e : gain_of gs i j ≡ 0 = rw (sym z) (gains_none x j gs g) in
          (0, 1, omega arith, omega arith, omega arith, omega arith)

  pub ties_beaten : (n tied : ℕ) → n ≤ max_inputs → Ties tied (λ x. x) gs → Beaten (tied / 2 * 2) (gain_of gs) n
  ties_beaten n tied fits t i j h l q most below =
      let (x, y, a, b, r, m) = earlier_twin n tied fits t i j h l q in
      le_trans m (below x y a b r)

-- by a function that says the same of every candidate
pub beaten_same : (tied : ℕ) (f g : ℕ → ℕ → ℕ) (n : ℕ) → ((i j : ℕ) → i < j → j ≤ n → f i j ≡ g i j) → Beaten tied f n → Beaten tied g n
beaten_same tied f g n same b i j h l t most below =
    rw (same i j h l) at (b i j h l t most (λ x y p q r. rw (same x y p q) (below x y p q r)))
