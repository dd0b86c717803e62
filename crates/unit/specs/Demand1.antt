-- Demand 1 (SCOPE 16.1), a predicate over any build, lookup and recovery: the refusals of SCOPE 11.1 by their causes, and what a refused call leaves.
use Rattle.std.specs.Prelude.{ℕ, suc, ◌+◌, ◌-◌, ◌%◌, ◌^◌, ◌≤◌, ◌<◌, ◌≡◌, true, false, List, [], ◌∷◌, ◌++◌, map, ◌⊎◌, length, get_or, take, replicate}
use Rattle.std.specs.Int.Count.{ones}
use Rattle.lists.specs.First.{has}
use Rattle.lists.specs.Members.{In, All}
use Rattle.vectors.specs.declared.Kind.{Kind}
use Rattle.vectors.specs.declared.Kind.TheVariants.{One}
use Rattle.vectors.specs.declared.Variable.{Variable}
use Rattle.vectors.specs.Bounds.{max_inputs, max_vectors, max_cells, max_variables, max_side}
use Rattle.vectors.specs.Variable.{value_of, mask_of, faulty, kinds_of}
use Rattle.span.specs.Span.{spans, kept}
use Rattle.rows.specs.Care.{Care, in_row, weight_of}
use Rattle.rows.specs.Fit.{cell_of, put}
use Rattle.rows.specs.Demand.{Ahead}
use Rattle.record.specs.declared.Record.{Record}
use Rattle.record.specs.Record.{blank_record, kinds_in}
use Rattle.record.specs.Leads.{cell_in}
use Rattle.record.specs.Tables.{Tables, index_in}
use Rattle.build.specs.Build.{rows_share, Outcome, cares_from, zeroed, chosen_kinds}
use Rattle.unit.specs.Demand2.{ChosenBuild, GivenBuild, Lookup, Recovery}

-- ---- the first that has a cause

-- a refusal's number, and what its cause says of the place
pub record Cause : Type 1 where
  pub number : ℕ
  pub at : ℕ → Type 0

-- SCOPE 11.2, 11.3: the first that has a cause, with its place; 0 and 0 where none has
abbrev pub Gives : List Cause → ℕ → ℕ → Type 0
Gives [] number place = (number ≡ 0) × (place ≡ 0)
Gives (c ∷ cs) number place = ((number ≡ c.number) × c.at place) ⊎ (((q : ℕ) → c.at q → ⊥) × Gives cs number place)

-- a cause whose place is 0
abbrev pub cause : ℕ → Type 0 → Cause
cause number P = record { number = number; at = λ place. (place ≡ 0) × P }

-- of so many entries the first that is so; the place is its number, counted from 1
pub record First (size : ℕ) (P : ℕ → Type 0) (place : ℕ) : Type 0 where
  pub entry : ℕ
  pub numbered : place ≡ suc entry
  pub listed : entry < size
  pub is : P entry
  pub none_before : (j : ℕ) → j < entry → P j → ⊥

abbrev pub cause_at : ℕ → ℕ → (ℕ → Type 0) → Cause
cause_at number size P = record { number = number; at = First size P }

-- ---- the causes of 1 to 12; entry i of a list is counted from 0

-- SCOPE 11.1, No. 1, 3, 4 and 15: x is 0 or above the bound
abbrev pub Outside : ℕ → ℕ → Type 0
Outside high x = (x ≡ 0) ⊎ (high < x)

-- SCOPE 11.1, No. 2, chosen: the degree is neither 1 nor 2
abbrev pub WrongDegree : ℕ → Type 0
WrongDegree degree = (degree ≡ 1 → ⊥) × (degree ≡ 2 → ⊥)

-- SCOPE 11.1, No. 2, given: more variables than the bounds allow, in all or on a side, or more row variables than variables
abbrev pub TooMany : ℕ → ℕ → Type 0
TooMany p n1 = (max_variables < p) ⊎ (p < n1) ⊎ (max_side < n1) ⊎ (max_side < p - n1)

-- SCOPE 11.1, No. 5: G or AUX is too short
abbrev pub TooShort : ℕ → ℕ → Tables → Type 0
TooShort cells k t = (length t.g < cells) ⊎ (length t.aux < suc k)

-- SCOPE 11.1, No. 6: vector i has a 1 beyond n
abbrev pub Beyond : ℕ → List ℕ → ℕ → Type 0
Beyond n vs i = 2 ^ n ≤ get_or vs i 0

-- SCOPE 11.1, No. 7: vector i is the same as one before it
abbrev pub Same : List ℕ → ℕ → Type 0
Same vs i = (a : ℕ) × (a < i) × (get_or vs a 0 ≡ get_or vs i 0)

-- SCOPE 11.1, No. 8: variable i is faulty (3.6)
abbrev pub Faulty : ℕ → List Kind → ℕ → Type 0
Faulty n ks i = faulty n (get_or ks i (One 0)) ≡ true

-- SCOPE 11.1, No. 9; 3.7: the mask of variable i is an XOR of some of the masks before it
abbrev pub Dependent : List Kind → ℕ → Type 0
Dependent ks i = spans (take i (map mask_of ks)) (get_or (map mask_of ks) i 0) ≡ true

-- SCOPE 4.3: x and y agree on the variables
abbrev pub Agree : List Kind → ℕ → ℕ → Type 0
Agree ks x y = All (λ k. value_of x k ≡ value_of y k) ks

-- SCOPE 11.1, No. 10: vector i agrees with one before it
abbrev pub Agrees : List Kind → List ℕ → ℕ → Type 0
Agrees ks vs i = (a : ℕ) × (a < i) × Agree ks (get_or vs a 0) (get_or vs i 0)

-- SCOPE 11.1, No. 11: as many as may be are taken, and two vectors agree on them
abbrev pub PairLeft : List Kind → List ℕ → Type 0
PairLeft ks vs = (length ks ≡ max_variables) × ((i : ℕ) × (i < length vs) × Agrees ks vs i)

-- SCOPE 11.1, No. 12: H is too short
abbrev pub FewRows : ℕ → Tables → Type 0
FewRows n1 t = length t.h < 2 ^ n1

-- 1 to 7, of both builds; the second differs
abbrev pub list_causes : ℕ → Type 0 → ℕ → List ℕ → Tables → List Cause
list_causes n second cells vs t =
    cause 1 (Outside max_inputs n)
    ∷ cause 2 second
    ∷ cause 3 (Outside max_vectors (length vs))
    ∷ cause 4 (Outside max_cells cells)
    ∷ cause 5 (TooShort cells (length vs) t)
    ∷ cause_at 6 (length vs) (Beyond n vs)
    ∷ cause_at 7 (length vs) (Same vs)
    ∷ []

-- 8 to 10, of the given build
abbrev pub variable_causes : ℕ → List Kind → List ℕ → List Cause
variable_causes n ks vs =
    cause_at 8 (length ks) (Faulty n ks)
    ∷ cause_at 9 (length ks) (Dependent ks)
    ∷ cause_at 10 (length vs) (Agrees ks vs)
    ∷ []

-- ---- the cause of 13

-- SCOPE 7.2: row r is next: occupied, not placed, and ahead of every other that is so
pub record InTurn (cs : List Care) (rows : ℕ) (order : List ℕ) (r : ℕ) : Type 0 where
  pub row_in : r < rows
  pub not_placed : has r order ≡ false
  pub occupied : 0 < weight_of cs r
  pub ahead : (q : ℕ) → q < rows → has q order ≡ false → 0 < weight_of cs q → (q ≡ r) ⊎ Ahead cs r q

-- SCOPE 7.3: the vectors of a row fit at d: each has a cell below L that no earlier row has taken
abbrev pub Fits : List ℕ → List Care → ℕ → Type 0
Fits g m d = (c : Care) → In c m → (cell_of c d < length g) × (get_or g (cell_of c d) 0 ≡ 0)

-- .. they do not: one of them comes to L or past it, or to a taken cell
abbrev pub Blocked : List ℕ → List Care → ℕ → Type 0
Blocked g m d = (c : Care) × In c m × ((length g ≤ cell_of c d) ⊎ (get_or g (cell_of c d) 0 ≡ 0 → ⊥))

-- a row placed, with its displacement
pub record Turn : Type 0 where
  pub row : ℕ
  pub at : ℕ

-- the turns so far, each of the row that is next and at the smallest displacement at which it fits; then the row r is next and fits at none
-- g: the cells; order: the rows placed before
abbrev pub StuckAfter : List Care → ℕ → List ℕ → List ℕ → List Turn → ℕ → Type 0
StuckAfter cs rows g order [] r = InTurn cs rows order r × ((d : ℕ) → Blocked g (in_row r cs) d)
StuckAfter cs rows g order (t ∷ ts) r =
    InTurn cs rows order t.row
    × (Fits g (in_row t.row cs) t.at × ((d : ℕ) → d < t.at → Blocked g (in_row t.row cs) d))
    × StuckAfter cs rows (put g t.at (in_row t.row cs)) (t.row ∷ order) ts r

-- SCOPE 11.1, No. 13: from L empty cells, with no row placed, the turns come to a row that fits nowhere
abbrev pub Stuck : ℕ → List Kind → ℕ → List ℕ → ℕ → Type 0
Stuck n1 ks cells vs r = (ts : List Turn) × StuckAfter (cares_from 1 n1 ks vs) (2 ^ n1) (replicate cells 0) [] ts r

-- ---- the cause of 41

-- SCOPE 7.8: d is tried for the vectors of a row: they fit at none below it, and each has a cell below L
abbrev pub Tried : List ℕ → List Care → ℕ → Type 0
Tried g m d = ((e : ℕ) → e < d → Blocked g m e) × ((c : Care) → In c m → cell_of c d < length g)

-- the turns so far, each with no more tries than are left; then the row r is next, and after as many tries as are left one more is made for it
-- left: the tries that are left; g: the cells; order: the rows placed before
abbrev pub OverAfter : List Care → ℕ → ℕ → List ℕ → List ℕ → List Turn → ℕ → Type 0
OverAfter cs rows left g order [] r = InTurn cs rows order r × Tried g (in_row r cs) left
OverAfter cs rows left g order (t ∷ ts) r =
    InTurn cs rows order t.row
    × (Fits g (in_row t.row cs) t.at × ((d : ℕ) → d < t.at → Blocked g (in_row t.row cs) d))
    × (suc t.at ≤ left)
    × OverAfter cs rows (left - suc t.at) (put g t.at (in_row t.row cs)) (t.row ∷ order) ts r

-- SCOPE 11.1, No. 41: from L empty cells, with no row placed and all of the allowance left, the turns come to such a row
abbrev pub Over : ℕ → List Kind → ℕ → ℕ → List ℕ → ℕ → Type 0
Over n1 ks cells allowance vs r = (ts : List Turn) × OverAfter (cares_from 1 n1 ks vs) (2 ^ n1) allowance (replicate cells 0) [] ts r

-- SCOPE 11.2: 41 comes after 12
abbrev pub last_causes : ℕ → List Kind → ℕ → ℕ → List ℕ → Tables → List Cause
last_causes n1 ks cells allowance vs t =
    cause 12 (FewRows n1 t) ∷ record { number = 41; at = Over n1 ks cells allowance vs } ∷ record { number = 13; at = Stuck n1 ks cells vs } ∷ []

-- ---- the causes of the two builds, in the order of checking

-- ks: the variables that the rule takes
abbrev pub chosen_causes : ℕ → ℕ → List Kind → ℕ → ℕ → List ℕ → Tables → List Cause
chosen_causes n degree ks cells allowance vs t =
    list_causes n (WrongDegree degree) cells vs t ++ (cause 11 (PairLeft ks vs) ∷ last_causes (rows_share (length ks)) ks cells allowance vs t)

-- ks: the first p of the caller's variables
abbrev pub given_causes : ℕ → ℕ → ℕ → List Kind → ℕ → ℕ → List ℕ → Tables → List Cause
given_causes n p n1 ks cells allowance vs t = list_causes n (TooMany p n1) cells vs t ++ (variable_causes n ks vs ++ last_causes n1 ks cells allowance vs t)

-- ---- what a refused build leaves

-- k: the vectors; t: the tables as lent
pub record Leaves (n1 cells k : ℕ) (t : Tables) (o : Outcome) : Type 0 where
  -- SCOPE 11.4: the blank record beside any refusal
  pub blank : 0 < o.built.refusal → o.built.unit ≡ blank_record
  -- SCOPE 11.9: no cells are needed but beside 13
  pub none_needed : (o.built.refusal ≡ 13 → ⊥) → o.built.needed ≡ 0
  -- SCOPE 11.5: 1 to 12 have written no word
  pub untouched : 0 < o.built.refusal → o.built.refusal < 13 → o.tables ≡ t
  -- SCOPE 11.6: 13 and 41 leave zeros in the words of the unit, and no other word altered
  pub zeros : 13 ≤ o.built.refusal → o.tables ≡ zeroed n1 cells k t

-- an outcome, with the causes of the call
pub record Demand1 (causes : List Cause) (n1 cells k : ℕ) (t : Tables) (o : Outcome) : Type 0 where
  -- the refusal given is the first that has a cause, with its place
  pub refusal : Gives causes o.built.refusal o.built.place
  -- .. and the first that has a cause is the one given
  pub only : (number place : ℕ) → Gives causes number place → (o.built.refusal ≡ number) × (o.built.place ≡ place)
  pub leaves : Leaves n1 cells k t o

-- ---- lookup and recovery

-- SCOPE 13.1: record and tables are well formed
pub record Formed (u : Record) (t : Tables) : Type 0 where
  pub inputs : (1 ≤ u.n) × (u.n ≤ max_inputs)
  pub vectors : (1 ≤ u.k) × (u.k ≤ max_vectors)
  pub some_cells : (1 ≤ u.cells) × (u.cells ≤ max_cells)
  pub few : (u.p ≤ u.n) × (u.p ≤ max_variables)
  pub sides : (u.n1 ≤ u.p) × (u.n1 ≤ max_side) × (u.p - u.n1 ≤ max_side)
  pub none_faulty : All (λ k. faulty u.n k ≡ false) (kinds_in u)
  pub kept_right : (ones u.kept ≡ u.n - u.p) × (u.kept < 2 ^ u.n)
  pub long_enough : (2 ^ u.n1 ≤ length t.h) × (u.cells ≤ length t.g) × (u.k < length t.aux)

-- SCOPE 13.2: and no variable is an XOR of variables before it, and the kept inputs are those of SCOPE 6.1
pub record Sound (u : Record) (t : Tables) : Type 0 where
  pub formed : Formed u t
  pub independent : (i : ℕ) → i < length (kinds_in u) → Dependent (kinds_in u) i → ⊥
  pub kept_are : u.kept ≡ kept u.n (kinds_in u)

-- SCOPE 9.1, 9.3: not well formed; the key has a 1 beyond n; its cell is below L and holds an index above k
abbrev pub lookup_causes : Record → Tables → ℕ → List Cause
lookup_causes u t x =
    cause 14 (Formed u t → ⊥)
    ∷ cause 6 (2 ^ u.n ≤ x)
    ∷ cause 14 ((cell_in u t x < u.cells) × (u.k < index_in (get_or t.g (cell_in u t x) 0)))
    ∷ []

-- SCOPE 10.2: the first cell below L that holds i
pub record FirstCell (u : Record) (t : Tables) (i cell : ℕ) : Type 0 where
  pub below : cell < u.cells
  pub holds : index_in (get_or t.g cell 0) ≡ i
  pub none_before : (a : ℕ) → a < cell → index_in (get_or t.g a 0) ≡ i → ⊥

-- the displacement of the row in the lowest n1 bits of AUX[i]
abbrev pub displacement_at : Record → Tables → ℕ → ℕ
displacement_at u t i = get_or t.h (get_or t.aux i 0 % 2 ^ u.n1) 0

-- SCOPE 10.3: i is in no cell, its column is negative or too large, AUX[i] has a 1 too high, or the unit is not sound
abbrev pub Unread : Record → Tables → ℕ → Type 0
Unread u t i =
    ((cell : ℕ) → cell < u.cells → index_in (get_or t.g cell 0) ≡ i → ⊥)
    ⊎ ((cell : ℕ) × FirstCell u t i cell × ((cell < displacement_at u t i) ⊎ (2 ^ (u.p - u.n1) ≤ cell - displacement_at u t i)))
    ⊎ (2 ^ (u.n1 + u.n - u.p) ≤ get_or t.aux i 0)
    ⊎ (Sound u t → ⊥)

-- SCOPE 10.1: not well formed; i is 0 or above k; a cause of 10.3
abbrev pub recovery_causes : Record → Tables → ℕ → List Cause
recovery_causes u t i = cause 14 (Formed u t → ⊥) ∷ cause 15 (Outside u.k i) ∷ cause 14 (Unread u t i) ∷ []

-- the answer of a call that is lent its tables to read: number, place and result
pub record Answered (causes : List Cause) (number place result : ℕ) : Type 0 where
  pub refusal : Gives causes number place
  pub only : (m q : ℕ) → Gives causes m q → (number ≡ m) × (place ≡ q)
  -- SCOPE 11.7: place 0 and result 0 beside a refusal
  pub nothing : 0 < number → (place ≡ 0) × (result ≡ 0)

-- ---- over any build, lookup and recovery

abbrev pub Demand1Chosen : ChosenBuild → Type 0
Demand1Chosen build =
    (n degree cells allowance : ℕ) (vs : List ℕ) (t : Tables)
    → Demand1 (chosen_causes n degree (chosen_kinds n degree vs) cells allowance vs t) (rows_share (length (chosen_kinds n degree vs))) cells (length vs) t (build n degree cells allowance vs t)

abbrev pub Demand1Given : GivenBuild → Type 0
Demand1Given build =
    (n : ℕ) (variables : List Variable) (p n1 cells allowance : ℕ) (vs : List ℕ) (t : Tables)
    → Demand1 (given_causes n p n1 (kinds_of (take p variables)) cells allowance vs t) n1 cells (length vs) t (build n variables p n1 cells allowance vs t)

-- neither is lent a table to write: their results have none
abbrev pub Demand1Lookup : Lookup → Type 0
Demand1Lookup lookup =
    (u : Record) (t : Tables) (x : ℕ) → Answered (lookup_causes u t x) (lookup u t x).refusal (lookup u t x).place (lookup u t x).index

abbrev pub Demand1Recovery : Recovery → Type 0
Demand1Recovery recovery =
    (u : Record) (t : Tables) (i : ℕ) → Answered (recovery_causes u t i) (recovery u t i).refusal (recovery u t i).place (recovery u t i).vector

-- SCOPE 16.1: every call of the four entries
pub record Demand1All (chosen : ChosenBuild) (given : GivenBuild) (lookup : Lookup) (recovery : Recovery) : Type 0 where
  pub of_chosen : Demand1Chosen chosen
  pub of_given : Demand1Given given
  pub of_lookup : Demand1Lookup lookup
  pub of_recovery : Demand1Recovery recovery
