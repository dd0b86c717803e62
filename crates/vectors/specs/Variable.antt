-- Variables: their values, and the number that a list of them makes of a vector.
use Rattle.std.specs.Prelude.{ℕ, ◌+◌, ◌*◌, ◌%◌, Bool, ◌||◌, List, [], ◌∷◌, map, take, drop, ◌==◌, bit_xor, nat_le, nat_lt}
use Rattle.lists.specs.First.{first_of}
use Rattle.vectors.specs.declared.Kind.{Kind}
use Rattle.vectors.specs.declared.Kind.TheVariants.{One, Two}
use Rattle.vectors.specs.declared.Part.TheVariants.{Row}
use Rattle.vectors.specs.declared.Variable.{Variable}
use Rattle.vectors.specs.Bits.{input, place_of}

-- SCOPE 3.4: the value of a variable on x, 1 where x has an odd number of the variable's inputs
unfoldable pub value_of : ℕ → Kind → ℕ
value_of x (One i) = input x i
value_of x (Two i j) = (input x i + input x j) % 2

-- SCOPE 3.5: the inputs of a variable as a mask
abbrev pub mask_of : Kind → ℕ
mask_of (One i) = place_of i
mask_of (Two i j) = bit_xor (place_of i) (place_of j)

-- the inputs of a variable as an edge between two nodes, a single input being an edge to the ground, 0
abbrev pub earlier : Kind → ℕ
earlier (One i) = 0
earlier (Two i j) = i

abbrev pub later : Kind → ℕ
later (One i) = i
later (Two i j) = j

-- SCOPE 3.6: a variable is faulty where a position is 0 or past n, or where the second of two is not above the first
abbrev pub faulty : ℕ → Kind → Bool
faulty n (One i) = i == 0 || nat_lt n i
faulty n (Two i j) = i == 0 || nat_le j i || nat_lt n j

-- the number from 1 of the first faulty variable; 0 for none
abbrev pub first_faulty : ℕ → List Kind → ℕ
first_faulty n ks = first_of (λ before k. faulty n k) ks

-- SCOPE 5.3: the values of the variables as a number, the first one's in the lowest bit
unfoldable pub number_of : List Kind → ℕ → ℕ
unfolding value_of
number_of [] x = 0
number_of (k ∷ ks) x = value_of x k + 2 * number_of ks x

-- SCOPE 5.3, 5.4: the row number comes from the first n1 variables, the column number from the others; with none of them it is 0
abbrev pub row_of : ℕ → List Kind → ℕ → ℕ
row_of n1 ks x = number_of (take n1 ks) x

abbrev pub column_of : ℕ → List Kind → ℕ → ℕ
column_of n1 ks x = number_of (drop n1 ks) x

abbrev pub kinds_of : List Variable → List Kind
kinds_of = map (λ v. v.kind)

-- SCOPE 12.1: an unused slot holds the single input 0, marked row
abbrev pub blank_variable : Variable
blank_variable = record { kind = One 0; part = Row }
