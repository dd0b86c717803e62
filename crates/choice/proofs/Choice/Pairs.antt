-- Pairs of equal entries: a finer map leaves fewer, and none is left exactly when no entry repeats. Assumes nothing.
use Prim.Native.Nat.{ℕ, zero, suc, ◌+◌, ◌≤◌, ◌<◌}
use native.Mathlib.Omega.{arith}
use mathlib.Core.Path.{◌≡◌, refl}
use mathlib.Core.Bool.{Bool, true, false, cond}
use mathlib.Core.List.{List, [], ◌∷◌, map}
use mathlib.Core.Logic.{◌⊎◌, inl, inr}
use lib.Dec.{eqb}
use lib.ListN.{length, get_or}
use borrow.Author.Tests.{eqb-true, eq-eqb, ne_eqb}
use Rattle.lists.specs.First.{repeated}
use Rattle.lists.specs.Members.{In}
use Rattle.lists.proofs.Finding.Repeats.{repeated_none, repeated_zero}
use Rattle.choice.specs.Choice.{count, pairs}

one_is : (a b : ℕ) → a ≡ b → cond {A = ℕ} (eqb a b) 1 0 ≡ 1
one_is a b e = rw (eq-eqb a b e)

one_not : (a b : ℕ) → (a ≡ b → ⊥) → cond {A = ℕ} (eqb a b) 1 0 ≡ 0
one_not a b e = rw (ne_eqb a b e)

-- ---- a finer map leaves fewer pairs

one_le : {a b c d : ℕ} → (a ≡ b → c ≡ d) → cond (eqb a b) 1 0 ≤ cond (eqb c d) 1 0
one_le {a} {b} {c} {d} h = go (eqb a b) refl
  where
    go : (t : Bool) → eqb a b ≡ t → cond t 1 0 ≤ cond (eqb c d) 1 0
    go true p = rw (eq-eqb c d (h (eqb-true a b p))) (omega arith)
    go false p = omega arith

-- u and v stand in the list, u before v
abbrev pub In2 : ℕ → ℕ → List ℕ → Type 0
In2 u v [] = ⊥
In2 u v (x ∷ xs) = ((u ≡ x) × In v xs) ⊎ In2 u v xs

module _ (f g : ℕ → ℕ) (finer : (u v : ℕ) → g u ≡ g v → f u ≡ f v) where
  count_finer : (u : ℕ) (l : List ℕ) → count (g u) (map g l) ≤ count (f u) (map f l)
  unfolding count
  count_finer u [] = omega arith
  count_finer u (x ∷ l) = omega (arith, count_finer u l, one_le (finer u x))

  -- what is equal under g is equal under f: g leaves no more pairs
  pub pairs_finer : (l : List ℕ) → pairs (map g l) ≤ pairs (map f l)
  unfolding pairs
  pairs_finer [] = omega arith
  pairs_finer (x ∷ l) = omega (arith, count_finer x l, pairs_finer l)

  module _ (u v : ℕ) (agree : f u ≡ f v) (apart : g u ≡ g v → ⊥) where
    count_fewer : (l : List ℕ) → In v l → count (g u) (map g l) < count (f u) (map f l)
    unfolding count
    count_fewer [] m = absurd m
    count_fewer (x ∷ l) (inl e) = omega (arith, count_finer u l, one_not (g u) (g x) (rw e at apart), one_is (f u) (f x) (rw e at agree))
    count_fewer (x ∷ l) (inr m) = omega (arith, count_fewer l m, one_le (finer u x))

    -- a map that is finer, and tells two equal entries apart, leaves fewer pairs
    pub pairs_fewer : (l : List ℕ) → In2 u v l → pairs (map g l) < pairs (map f l)
    unfolding pairs
    pairs_fewer [] m = absurd m
    pairs_fewer (x ∷ l) (inl m) =
        let k : count (g x) (map g l) < count (f x) (map f l) = rw m.0 at (count_fewer l m.1) in
        omega (arith, pairs_finer l)
    pairs_fewer (x ∷ l) (inr m) = omega (arith, count_finer x l, pairs_fewer l m)

-- ---- two entries that f makes equal, and that are not

module _ (f : ℕ → ℕ) where
  pub record Found (x : ℕ) (l : List ℕ) : Type 0 where
    pub v : ℕ
    pub member : In v l
    pub agree : f x ≡ f v
    pub apart : x ≡ v → ⊥

  pub record Found2 (l : List ℕ) : Type 0 where
    pub u : ℕ
    pub v : ℕ
    pub first : In u l
    pub second : In v l
    pub both : In2 u v l
    pub agree : f u ≡ f v
    pub apart : u ≡ v → ⊥

  count_found : (x : ℕ) (l : List ℕ) → 0 < count (f x) (map f l) → count x l ≡ 0 → Found x l
  unfolding count
  count_found x [] h e = absurd (omega arith)
  count_found x (y ∷ l) h e = go (eqb (f x) (f y)) refl h (λ a b. count_found x l a b)
    where
      go : (b : Bool) → eqb (f x) (f y) ≡ b → 0 < cond b 1 0 + count (f x) (map f l) → (0 < count (f x) (map f l) → count x l ≡ 0 → Found x l) → Found x (y ∷ l)
      go true p h r =
          record { v = y; member = inl refl; agree = eqb-true (f x) (f y) p; apart = λ q. omega (arith, one_is x y q) }
      go false p h r =
          let k = r (omega arith) (omega arith) in
          record { v = k.v; member = inr k.member; agree = k.agree; apart = k.apart }

  -- a pair that f makes equal, in a list with no equal entries
  pub pairs_found : (l : List ℕ) → 0 < pairs (map f l) → pairs l ≡ 0 → Found2 l
  unfolding pairs
  pairs_found [] h e = absurd (omega arith)
  pairs_found (x ∷ l) h e = go (count (f x) (map f l)) refl (λ a b. pairs_found l a b)
    where
      go : (n : ℕ) → count (f x) (map f l) ≡ n → (0 < pairs (map f l) → pairs l ≡ 0 → Found2 l) → Found2 (x ∷ l)
      go zero p r =
          let k = r (omega arith) (omega arith) in
          record { u = k.u; v = k.v; first = inr k.first; second = inr k.second; both = inr k.both; agree = k.agree; apart = k.apart }
      go (suc n) p r =
          let k = count_found x l (omega arith) (omega arith) in
          record { u = x; v = k.v; first = inl refl; second = inr k.member; both = inl (refl, k.member); agree = k.agree; apart = k.apart }

-- ---- no pair is left exactly when no entry repeats

abbrev Distinct : List ℕ → Type 0
Distinct xs = (a b : ℕ) → a < b → b < length xs → get_or xs a 0 ≡ get_or xs b 0 → ⊥

count_other : (x : ℕ) (xs : List ℕ) → count x xs ≡ 0 → (a : ℕ) → a < length xs → x ≡ get_or xs a 0 → ⊥
unfolding count
count_other x [] e a h g = omega arith
count_other x (y ∷ xs) e zero h g = omega (arith, one_is x y g)
count_other x (y ∷ xs) e (suc a) h g = count_other x xs (omega arith) a (omega arith) g

other_count : (x : ℕ) (xs : List ℕ) → ((a : ℕ) → a < length xs → x ≡ get_or xs a 0 → ⊥) → count x xs ≡ 0
unfolding count
other_count x [] n = refl
other_count x (y ∷ xs) n = omega (arith, one_not x y (n zero (omega arith)), other_count x xs (λ a h. n (suc a) (omega arith)))

pairs_distinct : (xs : List ℕ) → pairs xs ≡ 0 → Distinct xs
unfolding pairs
pairs_distinct [] e a b h k g = omega arith
pairs_distinct (x ∷ xs) e zero zero h k g = omega arith
pairs_distinct (x ∷ xs) e zero (suc b) h k g = count_other x xs (omega arith) b (omega arith) g
pairs_distinct (x ∷ xs) e (suc a) zero h k g = omega arith
pairs_distinct (x ∷ xs) e (suc a) (suc b) h k g = pairs_distinct xs (omega arith) a b (omega arith) (omega arith) g

distinct_pairs : (xs : List ℕ) → Distinct xs → pairs xs ≡ 0
unfolding pairs
distinct_pairs [] n = refl
distinct_pairs (x ∷ xs) n =
    omega (arith, other_count x xs (λ a h. n zero (suc a) (omega arith) (omega arith)), distinct_pairs xs (λ a b h k. n (suc a) (suc b) (omega arith) (omega arith)))

-- no entry repeats: no pair is equal
pub repeated_pairs : (xs : List ℕ) → repeated xs ≡ 0 → pairs xs ≡ 0
repeated_pairs xs e = distinct_pairs xs (repeated_zero xs e)

-- .. and the other way round
pub pairs_repeated : (xs : List ℕ) → pairs xs ≡ 0 → repeated xs ≡ 0
pairs_repeated xs e = repeated_none xs (pairs_distinct xs e)
