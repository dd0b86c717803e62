-- The first of a list, or of the numbers, that passes a test.
use Rattle.std.specs.Prelude.{ℕ, zero, suc, Option, None, Some, Bool, true, false, ◌||◌, List, [], ◌∷◌, eqb}

-- whether x is in the list
unfoldable pub has : ℕ → List ℕ → Bool
has x [] = false
has x (y ∷ ys) = eqb x y || has x ys

-- the entries numbered from i; before: those passed, the last first
unfoldable pub first_in : {A : Type 0} → (List A → A → Bool) → List A → List A → ℕ → ℕ
first_in test before [] i = 0
first_in test before (x ∷ xs) i = elim (test before x) [ true ↦ i | false ↦ first_in test (x ∷ before) xs (suc i) ]

-- the number from 1 of the first entry that passes the test against those before it; 0 for none
unfoldable pub first_of : {A : Type 0} → (List A → A → Bool) → List A → ℕ
unfolding first_in
first_of test xs = first_in test [] xs 1

-- a place counted from 0 as a number counted from 1; 0 where there is none
abbrev pub place_number : Option ℕ → ℕ
place_number None = 0
place_number (Some i) = suc i

-- the first entry that equals an earlier one
unfoldable pub repeated : List ℕ → ℕ
unfolding first_of has
repeated = first_of (λ before x. has x before)

-- the first number from x on, d of them tried, that passes the test; x + d for none
unfoldable pub first_from : ℕ → (ℕ → Bool) → ℕ → ℕ
first_from zero test x = x
first_from (suc d) test x = elim (test x) [ true ↦ x | false ↦ first_from d test (suc x) ]
