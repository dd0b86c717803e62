-- The first entry that equals an earlier one. Assumes nothing.
use Prim.Native.Nat.{ℕ, zero, suc, ◌+◌, ◌<◌}
use native.Mathlib.Omega.{arith}
use mathlib.Core.Path.{◌≡◌, refl, sym, ◌∙◌}
use mathlib.Core.Bool.{Bool, true, false, false≢true}
use mathlib.Core.List.{List, [], ◌∷◌}
use mathlib.Core.Logic.{◌⊎◌, inl, inr}
use lib.ListN.{length, get_or}
use Rattle.lists.specs.First.{has, first_in, repeated}
use Rattle.lists.specs.Members.{In}
use Rattle.lists.proofs.Finding.Has.{has_in, in_has}
use Rattle.lists.proofs.Finding.Firsts.{first_here, first_on}

test : List ℕ → ℕ → Bool
unfolding has
test before x = has x before

-- entry j is in before, or equals an earlier entry
abbrev Again : List ℕ → List ℕ → ℕ → Type 0
Again before xs j = In (get_or xs j 0) before ⊎ ((a : ℕ) × (a < j) × (get_or xs a 0 ≡ get_or xs j 0))

again_on : (before : List ℕ) (x : ℕ) (xs : List ℕ) (j : ℕ) → Again before (x ∷ xs) (suc j) → Again (x ∷ before) xs j
again_on before x xs j (inl m) = inl (inr m)
again_on before x xs j (inr p) = go p.0 p.1 p.2
  where
    go : (a : ℕ) → a < suc j → get_or (x ∷ xs) a 0 ≡ get_or xs j 0 → Again (x ∷ before) xs j
    go zero h e = inl (inl (sym e))
    go (suc a) h e = inr (a, omega arith, e)

again_back : (before : List ℕ) (x : ℕ) (xs : List ℕ) (j : ℕ) → Again (x ∷ before) xs j → Again before (x ∷ xs) (suc j)
again_back before x xs j (inl (inl e)) = inr (zero, omega arith, sym e)
again_back before x xs j (inl (inr m)) = inl m
again_back before x xs j (inr p) = inr (suc p.0, omega (arith, p.1), p.2)

fresh : (before : List ℕ) (x : ℕ) (xs : List ℕ) → (Again before (x ∷ xs) 0 → ⊥) → test before x ≡ false
unfolding test
fresh before x xs h = go (has x before) refl
  where
    go : (t : Bool) → has x before ≡ t → has x before ≡ false
    go true e = absurd (h (inl (has_in x before e)))
    go false e = e

at_from : (before xs : List ℕ) (i j : ℕ) → j < length xs → Again before xs j → ((b : ℕ) → b < j → Again before xs b → ⊥) → first_in test before xs i ≡ i + j
unfolding test
at_from before [] i j h m n = absurd (omega arith)
at_from before (x ∷ xs) i zero h (inl m) n = first_here test before x xs i (in_has x before m) ∙ omega arith
at_from before (x ∷ xs) i zero h (inr p) n = absurd (omega (arith, p.1))
at_from before (x ∷ xs) i (suc j) h m n =
    first_on test before x xs i (fresh before x xs (n zero (omega arith)))
    ∙ at_from (x ∷ before) xs (suc i) j (omega arith) (again_on before x xs j m) (λ b k q. n (suc b) (omega arith) (again_back before x xs b q))
    ∙ omega arith

none_from : (before xs : List ℕ) (i : ℕ) → ((b : ℕ) → b < length xs → Again before xs b → ⊥) → first_in test before xs i ≡ 0
unfolding first_in
none_from before [] i n = refl
none_from before (x ∷ xs) i n =
    first_on test before x xs i (fresh before x xs (n zero (omega arith))) ∙ none_from (x ∷ before) xs (suc i) (λ b k q. n (suc b) (omega arith) (again_back before x xs b q))

zero_from : (before xs : List ℕ) (i : ℕ) → first_in test before xs (suc i) ≡ 0 → (b : ℕ) → b < length xs → Again before xs b → ⊥
unfolding test
zero_from before [] i e b h m = omega arith
zero_from before (x ∷ xs) i e b h m = go (has x before) refl b h m (zero_from (x ∷ before) xs (suc i))
  where
    go : (t : Bool) → has x before ≡ t → (b : ℕ) → b < suc (length xs) → Again before (x ∷ xs) b
        → (first_in test (x ∷ before) xs (suc (suc i)) ≡ 0 → (c : ℕ) → c < length xs → Again (x ∷ before) xs c → ⊥) → ⊥
    go true p b h m r = let z : suc i ≡ 0 = sym (first_here test before x xs (suc i) p) ∙ e in omega arith
    go false p zero h (inl m) r = let z : ◌≡◌ {A = Bool} false true = sym p ∙ in_has x before m in false≢true z
    go false p zero h (inr q) r = omega (arith, q.1)
    go false p (suc b) h m r = r (sym (first_on test before x xs (suc i) p) ∙ e) b (omega arith) (again_on before x xs b m)

-- no two entries are equal: none repeats
pub repeated_none : (xs : List ℕ) → ((a b : ℕ) → a < b → b < length xs → get_or xs a 0 ≡ get_or xs b 0 → ⊥) → repeated xs ≡ 0
unfolding repeated test
repeated_none xs n = none_from [] xs 1 go
  where
    go : (b : ℕ) → b < length xs → Again [] xs b → ⊥
    go b h (inl m) = m
    go b h (inr p) = n p.0 b p.1 h p.2

pub repeated_zero : (xs : List ℕ) → repeated xs ≡ 0 → (a b : ℕ) → a < b → b < length xs → get_or xs a 0 ≡ get_or xs b 0 → ⊥
unfolding repeated test
repeated_zero xs e a b h k g = zero_from [] xs 0 e b k (inr (a, h, g))

-- entry j equals an earlier one, and no two before it are equal
pub repeated_at : (xs : List ℕ) (a j : ℕ) → a < j → j < length xs → get_or xs a 0 ≡ get_or xs j 0 → ((b c : ℕ) → b < c → c < j → get_or xs b 0 ≡ get_or xs c 0 → ⊥)
    → repeated xs ≡ suc j
unfolding repeated test
repeated_at xs a j h k e n = at_from [] xs 1 j k (inr (a, h, e)) go ∙ omega arith
  where
    go : (b : ℕ) → b < j → Again [] xs b → ⊥
    go b q (inl m) = m
    go b q (inr p) = n p.0 b p.1 q p.2
