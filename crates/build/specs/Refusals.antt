-- The refusals of the builds, in the order of checking. Refusals 13 and 41 are in Build, 14 and 15 are those of lookup and recovery.
use Rattle.std.specs.Prelude.{ℕ, zero, suc, ◌^◌, Bool, cond, not, ◌||◌, List, [], ◌∷◌, map, leb, ltb, length}
use Rattle.lists.specs.First.{first_of, repeated}
use Rattle.vectors.specs.declared.Kind.{Kind}
use Rattle.vectors.specs.Bounds.{max_inputs, max_vectors, max_cells, outside, too_many}
use Rattle.vectors.specs.Variable.{number_of, first_faulty}
use Rattle.span.specs.Span.{first_dependent}
use Rattle.choice.specs.Choice.{apart}
use Rattle.build.specs.Built.{Refusal}

-- SCOPE 11.3: number 0 and place 0 where nothing is refused
abbrev pub accepted : Refusal
accepted = record { number = 0; place = 0 }

-- a refusal whose place is 0
abbrev pub refuse_if : ℕ → Bool → Refusal
refuse_if number test = cond test (record { number = number; place = 0 }) accepted

-- a refusal at the place that was found, if one was
abbrev pub refuse_at : ℕ → ℕ → Refusal
refuse_at number zero = accepted
refuse_at number (suc i) = record { number = number; place = suc i }

abbrev pub or_else : ℕ → Refusal → Refusal → Refusal
or_else zero r later = later
or_else (suc m) r later = r

-- SCOPE 11.2: the first refusal that has a cause
unfoldable pub ladder : List Refusal → Refusal
ladder [] = accepted
ladder (r ∷ rs) = or_else r.number r (ladder rs)

-- ---- the rungs

-- SCOPE 11.1, No. 1: n is out of bounds
abbrev pub check1 : ℕ → Refusal
check1 n = refuse_if 1 (outside 1 max_inputs n)

-- SCOPE 11.1, No. 2, chosen: the degree is neither 1 nor 2
abbrev pub check2_chosen : ℕ → Refusal
check2_chosen degree = refuse_if 2 (outside 1 2 degree)

-- SCOPE 11.1, No. 2, given: too many variables, of one part or in all
abbrev pub check2_given : ℕ → ℕ → Refusal
check2_given p n1 = refuse_if 2 (too_many p n1)

-- SCOPE 11.1, No. 3: no vectors, or too many
abbrev pub check3 : ℕ → Refusal
check3 k = refuse_if 3 (outside 1 max_vectors k)

-- SCOPE 11.1, No. 4: L is out of bounds
abbrev pub check4 : ℕ → Refusal
check4 cells = refuse_if 4 (outside 1 max_cells cells)

-- SCOPE 11.1, No. 5: G or AUX is lent too short
abbrev pub check5 : ℕ → ℕ → ℕ → ℕ → Refusal
check5 k cells g aux = refuse_if 5 (ltb g cells || ltb aux (suc k))

-- SCOPE 11.1, No. 6: the first vector with a 1 beyond n
abbrev pub first_beyond : ℕ → List ℕ → ℕ
first_beyond n vs = first_of (λ before v. leb (2 ^ n) v) vs

abbrev pub check6 : ℕ → List ℕ → Refusal
check6 n vs = refuse_at 6 (first_beyond n vs)

-- SCOPE 11.1, No. 7: the first vector that is the same as one before it
abbrev pub check7 : List ℕ → Refusal
check7 vs = refuse_at 7 (repeated vs)

-- SCOPE 11.1, No. 8: the first faulty variable
abbrev pub check8 : ℕ → List Kind → Refusal
check8 n ks = refuse_at 8 (first_faulty n ks)

-- SCOPE 11.1, No. 9: the first variable that is an XOR of some before it
abbrev pub check9 : List Kind → Refusal
check9 ks = refuse_at 9 (first_dependent ks)

-- SCOPE 11.1, No. 10: the first vector that agrees with one before it on every variable
abbrev pub check10 : List Kind → List ℕ → Refusal
check10 ks vs = refuse_at 10 (repeated (map (number_of ks) vs))

-- SCOPE 11.1, No. 11: the rule has taken all that it may, and a pair is left
abbrev pub check11 : List Kind → List ℕ → Refusal
check11 ks vs = refuse_if 11 (not (apart vs ks))

-- SCOPE 11.1, No. 12: H is lent too short
abbrev pub check12 : ℕ → List ℕ → Refusal
check12 n1 h = refuse_if 12 (ltb (length h) (2 ^ n1))

-- checks 1 to 7, which both builds share but for the second; g and aux are the lengths of G and AUX
abbrev pub list_checks : ℕ → Refusal → ℕ → List ℕ → ℕ → ℕ → List Refusal
list_checks n second cells vs g aux =
    check1 n
    ∷ second
    ∷ check3 (length vs)
    ∷ check4 cells
    ∷ check5 (length vs) cells g aux
    ∷ check6 n vs
    ∷ check7 vs
    ∷ []

-- checks 8 to 10, of given variables
abbrev pub given_checks : ℕ → List Kind → List ℕ → List Refusal
given_checks n ks vs = check8 n ks ∷ check9 ks ∷ check10 ks vs ∷ []
