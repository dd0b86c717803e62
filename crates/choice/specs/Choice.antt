-- The choosing rule.
use Rattle.std.specs.Prelude.{ℕ, zero, suc, ◌+◌, Bool, true, false, cond, List, [], ◌∷◌, ◌++◌, map, eqb, ltb}
use Rattle.vectors.specs.declared.Kind.{Kind}
use Rattle.vectors.specs.declared.Kind.TheVariants.{One, Two}
use Rattle.vectors.specs.Variable.{number_of}

-- ---- SCOPE 4.1, 4.2: the candidates: single inputs first, then for degree 2 every two inputs, the lower one leading

-- d single inputs from i on
unfoldable pub ones : ℕ → ℕ → List Kind
ones zero i = []
ones (suc d) i = One i ∷ ones d (suc i)

-- the pairs of i with d inputs from j on
unfoldable pub twos_at : ℕ → ℕ → ℕ → List Kind
twos_at zero i j = []
twos_at (suc d) i j = Two i j ∷ twos_at d i (suc j)

-- the pairs among d inputs from i on
unfoldable pub twos : ℕ → ℕ → List Kind
unfolding twos_at
twos zero i = []
twos (suc d) i = twos_at d i (suc i) ++ twos d (suc i)

unfoldable pub candidates : ℕ → ℕ → List Kind
unfolding ones twos
candidates n degree = ones n 1 ++ cond (eqb degree 2) (twos n 1) []

-- ---- SCOPE 4.3: the pairs left, of vectors that agree

unfoldable pub count : ℕ → List ℕ → ℕ
count s [] = 0
count s (t ∷ ts) = cond (eqb s t) 1 0 + count s ts

-- how many pairs of entries are equal
unfoldable pub pairs : List ℕ → ℕ
unfolding count
pairs [] = 0
pairs (s ∷ ss) = count s ss + pairs ss

-- the pairs of vectors that agree on every variable taken
unfoldable pub left : List ℕ → List Kind → ℕ
unfolding number_of pairs
left vs taken = pairs (map (number_of taken) vs)

-- no two vectors agree on every variable taken
unfoldable pub apart : List ℕ → List Kind → Bool
unfolding left
apart vs taken = eqb (left vs taken) 0

-- the pairs that a candidate leaves beside those taken
abbrev pub leaves : List ℕ → List Kind → Kind → ℕ
leaves vs taken c = left vs (taken ++ (c ∷ []))

-- ---- SCOPE 4.4: a step takes the candidate with the smallest number of pairs left, the earliest among equals

-- of b and those after it, f saying what each leaves
unfoldable pub fewest : (Kind → ℕ) → Kind → List Kind → Kind
fewest f b [] = b
fewest f b (c ∷ cs) = fewest f (cond (ltb (f c) (f b)) c b) cs

unfoldable pub best_of : (Kind → ℕ) → List Kind → Kind
unfolding fewest
best_of f [] = One 0
best_of f (c ∷ cs) = fewest f c cs

unfoldable pub next_of : List Kind → List ℕ → List Kind → Kind
unfolding best_of left
next_of cs vs taken = best_of (leaves vs taken) cs

-- SCOPE 4.5: steps for as long as a pair is left; at most f more are taken
unfoldable pub choose_in : ℕ → List Kind → List ℕ → List Kind → List Kind
unfolding apart next_of
choose_in zero cs vs taken = taken
choose_in (suc f) cs vs taken =
    elim (apart vs taken) [
      | true ↦ taken
      | false ↦ choose_in f cs vs (taken ++ (next_of cs vs taken ∷ []))
    ]

-- SCOPE 4.5: from nothing taken
unfoldable pub choose : ℕ → ℕ → ℕ → List ℕ → List Kind
unfolding choose_in candidates
choose most n degree vs = choose_in most (candidates n degree) vs []
