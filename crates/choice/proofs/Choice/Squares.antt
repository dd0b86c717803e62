-- What a candidate leaves, by squares: of each group, the members with 1 and those with 0, counted and squared. Assumes nothing.
use Prim.Native.Nat.{ℕ, zero, suc, ◌+◌, ◌*◌, ◌-◌, ◌≤◌, ◌<◌}
use native.Mathlib.Omega.{arith}
use native.Mathlib.Nat.{zero-add, suc-mul, mul-suc}
use native.Mathlib.Numerals.{one-add}
use mathlib.Core.Path.{◌≡◌, refl, ap, sym, ◌∙◌, fun_ext}
use mathlib.Core.Bool.{Bool, true, false, cond}
use mathlib.Core.List.{List, [], ◌∷◌, ◌++◌, map}
use lib.Dec.{eqb, ltb}
use lib.ListN.{length, get_or, take, replicate, length-map}
use borrow.Author.Tests.{ltb-true, ltb-false, lt-ltb, le-ltb}
use Rattle.lists.specs.Members.{All}
use Rattle.vectors.specs.declared.Kind.{Kind}
use Rattle.vectors.specs.Variable.{value_of, number_of}
use Rattle.choice.specs.Choice.{count, pairs, leaves, fewest, best_of, next_of}
use Rattle.vectors.proofs.Variables.Numbers.{value_lt}
use Rattle.choice.specs.Inner.Split.{pairs_in, members, tally, square, squares}
use Rattle.choice.proofs.Choice.Grouped.{Grouped}

pub tally_map : (b f : ℕ → ℕ) (g : List ℕ) → tally b (map f g) ≡ tally (λ i. b (f i)) g
unfolding tally
tally_map b f [] = refl
tally_map b f (i ∷ g) = ap (λ n. b (f i) + n) (tally_map b f g)

pub tally_append : (b : ℕ → ℕ) (g h : List ℕ) → tally b (g ++ h) ≡ tally b g + tally b h
unfolding tally
tally_append b [] h = sym (zero-add (tally b h))
tally_append b (i ∷ g) h = omega (arith, tally_append b g h)

-- of zeros, all of them or the first few
pub tally_none : (b : ℕ → ℕ) → b 0 ≡ 0 → (m : ℕ) → tally b (replicate m 0) ≡ 0
unfolding tally
tally_none b e zero = refl
tally_none b e (suc m) = omega (arith, tally_none b e m)

pub tally_few : (b : ℕ → ℕ) → b 0 ≡ 0 → (n m : ℕ) → tally b (take n (replicate m 0)) ≡ 0
unfolding tally
tally_few b e zero m = refl
tally_few b e (suc n) zero = refl
tally_few b e (suc n) (suc m) = omega (arith, tally_few b e n m)

-- of groups of entries, and of groups of indices
pub squares_map : (b f : ℕ → ℕ) (gs : List (List ℕ)) → squares b (map (map f) gs) ≡ squares (λ i. b (f i)) gs
unfolding squares
squares_map b f [] = refl
squares_map b f (g ∷ gs) = rw (tally_map b f g, length-map g f, squares_map b f gs)

next_square : (x : ℕ) → suc x * suc x ≡ x * x + 2 * x + 1
next_square x = omega (arith, suc-mul x (suc x), mul-suc x x)

module _ (b : ℕ → ℕ) (two : (i : ℕ) → b i < 2) where
  pub tally_le : (g : List ℕ) → tally b g ≤ length g
  unfolding tally
  tally_le [] = omega arith
  tally_le (i ∷ g) = omega (arith, two i, tally_le g)

  tally_ones : (g : List ℕ) → count 1 (map b g) ≡ tally b g
  unfolding tally count
  tally_ones [] = refl
  tally_ones (i ∷ g) = go (b i) (two i) (tally_ones g)
    where
      go : (v : ℕ) → v < 2 → count 1 (map b g) ≡ tally b g → cond (eqb 1 v) 1 0 + count 1 (map b g) ≡ v + tally b g
      go zero h r = omega arith
      go (suc zero) h r = omega arith
      go (suc (suc v)) h r = absurd (omega arith)

  tally_zeros : (g : List ℕ) → count 0 (map b g) + tally b g ≡ length g
  unfolding tally count
  tally_zeros [] = refl
  tally_zeros (i ∷ g) = go (b i) (two i) (tally_zeros g)
    where
      go : (v : ℕ) → v < 2 → count 0 (map b g) + tally b g ≡ length g → cond (eqb 0 v) 1 0 + count 0 (map b g) + (v + tally b g) ≡ suc (length g)
      go zero h r = omega arith
      go (suc zero) h r = omega arith
      go (suc (suc v)) h r = absurd (omega arith)

  -- over the members with 1 and those with 0
  squares_sum : (g : List ℕ) → tally b g * tally b g + count 0 (map b g) * count 0 (map b g) ≡ 2 * pairs (map b g) + length g
  unfolding tally pairs count
  squares_sum [] = refl
  squares_sum (i ∷ g) = go (b i) (two i) (squares_sum g)
    where
      o : ℕ
      o = tally b g

      z : ℕ
      z = count 0 (map b g)

      go : (v : ℕ) → v < 2 → o * o + z * z ≡ 2 * pairs (map b g) + length g
          → (v + o) * (v + o) + (cond (eqb 0 v) 1 0 + z) * (cond (eqb 0 v) 1 0 + z) ≡ 2 * (count v (map b g) + pairs (map b g)) + suc (length g)
      go zero h r = rw (zero-add o, one-add z) (omega (arith, next_square z))
      go (suc zero) h r = rw (one-add o, zero-add z) (omega (arith, next_square o, tally_ones g))
      go (suc (suc v)) h r = absurd (omega arith)

  -- the squares of a group say how many pairs of it stay
  pub square_pairs : (g : List ℕ) → square (tally b g) (length g) ≡ 2 * pairs (map b g) + length g
  square_pairs g = let e : length g - tally b g ≡ count 0 (map b g) = omega (arith, tally_zeros g) in rw e (squares_sum g)

  pub squares_pairs : (gs : List (List ℕ)) → squares b gs ≡ 2 * pairs_in b gs + members gs
  unfolding squares pairs_in members
  squares_pairs [] = refl
  squares_pairs (g ∷ gs) = omega (arith, square_pairs g, squares_pairs gs)

-- ---- comparing squares is comparing what candidates leave

ltb_scaled : (a b c d m : ℕ) → a ≡ 2 * c + m → b ≡ 2 * d + m → ltb a b ≡ ltb c d
ltb_scaled a b c d m p q = go (ltb c d) refl
  where
    go : (t : Bool) → ltb c d ≡ t → ltb a b ≡ t
    go true e = lt-ltb a b (omega (arith, ltb-true c d e))
    go false e = le-ltb a b (omega (arith, ltb-false c d e))

-- the squares of a candidate
abbrev pub square_of : List ℕ → List (List ℕ) → Kind → ℕ
square_of vs gs c = squares (λ i. value_of (get_or vs i 0) c) gs

-- two functions that compare the candidates alike choose the same
module _ (f g : Kind → ℕ) (P : Kind → Type 0) (same : (c d : Kind) → P c → P d → ltb (f c) (f d) ≡ ltb (g c) (g d)) where
  fewest_agree : (b : Kind) (cs : List Kind) → P b → All P cs → fewest f b cs ≡ fewest g b cs
  unfolding fewest
  fewest_agree b [] p a = refl
  fewest_agree b (c ∷ cs) p a =
      ap (λ t. fewest f (cond t c b) cs) (same c b a.0 p) ∙ fewest_agree (cond (ltb (g c) (g b)) c b) cs (either (ltb (g c) (g b))) a.1
    where
      either : (t : Bool) → P (cond t c b)
      either true = a.0
      either false = p

  pub best_agree_on : (cs : List Kind) → All P cs → best_of f cs ≡ best_of g cs
  unfolding best_of
  best_agree_on [] a = refl
  best_agree_on (c ∷ cs) a = fewest_agree c cs a.0 a.1

best_agree : (f g : Kind → ℕ) → ((c d : Kind) → ltb (f c) (f d) ≡ ltb (g c) (g d)) → (cs : List Kind) → best_of f cs ≡ best_of g cs
best_agree f g same cs = best_agree_on f g (λ c. Unit {0}) (λ c d p q. same c d) cs (any cs)
  where
    any : (cs : List Kind) → All (λ c. Unit {0}) cs
    any [] = tt
    any (c ∷ cs) = (tt, any cs)

module _ {vs : List ℕ} {taken : List Kind} {gs : List (List ℕ)} (r : Grouped vs taken gs) where
  -- the squares say what a candidate leaves
  pub squares_leaves : (c : Kind) → square_of vs gs c ≡ 2 * leaves vs taken c + members gs
  unfolding number_of
  squares_leaves c =
      let b : ℕ → ℕ = λ i. value_of (get_or vs i 0) c in
      let e : (λ i. b i + 2 * 0) ≡ b = fun_ext (λ i. omega arith) in
      squares_pairs b (λ i. value_lt (get_or vs i 0) c) gs ∙ ap (λ x. 2 * x + members gs) (ap (λ h. pairs_in h gs) (sym e) ∙ sym (r.says (c ∷ [])))

  -- fewer squares exactly when fewer pairs are left
  pub squares_ltb : (c d : Kind) → ltb (square_of vs gs c) (square_of vs gs d) ≡ ltb (leaves vs taken c) (leaves vs taken d)
  squares_ltb c d = ltb_scaled (square_of vs gs c) (square_of vs gs d) (leaves vs taken c) (leaves vs taken d) (members gs) (squares_leaves c) (squares_leaves d)

  -- the candidate with the least squares is the next of the choice
  pub squares_next : (cs : List Kind) → best_of (square_of vs gs) cs ≡ next_of cs vs taken
  unfolding next_of
  squares_next cs = best_agree (square_of vs gs) (leaves vs taken) squares_ltb cs
