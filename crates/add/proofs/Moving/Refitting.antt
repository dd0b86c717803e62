-- The row with the new vector: the words that are placed, its first fit, and the way back. Assumes nothing.
use Prim.Native.Nat.{ℕ, zero, suc, ◌+◌, ◌-◌, ◌*◌, ◌≤◌, ◌<◌}
use native.Mathlib.Numerals.{add-one}
use native.Mathlib.Omega.{arith}
use mathlib.Core.Path.{◌≡◌, refl, sym, ap, ap₂, ◌∙◌}
use mathlib.Core.Bool.{Bool, true, false}
use mathlib.Core.List.{List, [], ◌∷◌, ◌++◌, map, map-append}
use mathlib.Core.Logic.{inl, inr, ⊎_elim}
use borrow.Author.Tests.{eqb-true, eqb-false, ltb-true}
use lib.Dec.{eqb, ltb}
use lib.ListN.{length, get_or, set, take, length-set, length-append}
use lib.Seq.{take-suc-set, get_or-set_same, get_or-set_other, ext_get_or}
use Rattle.lists.specs.Members.{In, All}
use Rattle.lists.proofs.Tests.{and_true}
use Rattle.lists.proofs.Entries.Joined.{all_append}
use Rattle.vectors.specs.Bounds.{max_cells, max_words, max_rows}
use Rattle.rows.specs.Care.{Care, keep}
use Rattle.rows.specs.Fit.{cell_of, inside, first_fit, put, At}
use Rattle.rows.specs.Single.{column_word, single_fit}
use Rattle.rows.proofs.Fits.First.{fit_inside}
use Rattle.rows.proofs.Fits.Columns.{inside_joined, inside_all, put_joined}
use Rattle.rows.proofs.Answers.Single.{single_columns}
use Rattle.add.specs.declared.Seat.{Seat}
use Rattle.add.specs.Inner.Mates.{row_in, mate_at, mates_from, mates, group, Stands, Held, cleared, bare}

-- ---- what holds of each vector of the row

module _ (s : Seat) (aux firsts : List ℕ) (P : Care → Type 0) (at : (i : ℕ) → 0 < i → i < length aux → row_in s aux i ≡ s.row → P (mate_at s firsts i)) where
  all_from : (m i : ℕ) → 0 < i → i + m ≤ length aux → All P (mates_from s aux firsts i m)
  unfolding mates_from
  all_from zero i p l = tt
  all_from (suc m) i p l = go (eqb (row_in s aux i) s.row) refl (all_from m (suc i) (omega arith) (omega arith))
    where
      go : (b : Bool) → eqb (row_in s aux i) s.row ≡ b → All P (mates_from s aux firsts (suc i) m) → All P (keep b (mate_at s firsts i) (mates_from s aux firsts (suc i) m))
      go true e a = (at i p (omega arith) (eqb-true _ _ e), a)
      go false e a = a

  pub mates_all : 0 < length aux → All P (mates s aux firsts)
  mates_all l = all_from (length aux - 1) 1 (omega arith) (omega arith)

module _ (s : Seat) (aux firsts : List ℕ) where
  few_from : (m i : ℕ) → length (mates_from s aux firsts i m) ≤ m
  unfolding mates_from
  few_from zero i = omega arith
  few_from (suc m) i = go (eqb (row_in s aux i) s.row) (few_from m (suc i))
    where
      go : (b : Bool) → length (mates_from s aux firsts (suc i) m) ≤ m → length (keep b (mate_at s firsts i) (mates_from s aux firsts (suc i) m)) ≤ suc m
      go true l = omega arith
      go false l = omega arith

  pub mates_few : 0 < length aux → suc (length (mates s aux firsts)) ≤ length aux
  mates_few l = omega (arith, few_from (length aux - 1) 1)

-- ---- the cells

pub cleared_length : (g : List ℕ) (d : ℕ) (cs : List Care) → length (cleared g d cs) ≡ length g
unfolding cleared
cleared_length g d [] = refl
cleared_length g d (c ∷ cs) = cleared_length (set g (cell_of c d) 0) d cs ∙ length-set g (cell_of c d) 0

cleared_other : (g : List ℕ) (d j : ℕ) (cs : List Care) → ((c : Care) → In c cs → cell_of c d ≡ j → ⊥) → get_or (cleared g d cs) j 0 ≡ get_or g j 0
unfolding cleared
cleared_other g d j [] n = refl
cleared_other g d j (c ∷ cs) n =
    cleared_other (set g (cell_of c d) 0) d j cs (λ x i. n x (inr i)) ∙ get_or-set_other g (cell_of c d) j 0 0 (λ e. n c (inl refl) (sym e))

-- each cell holds its vector's index
abbrev Holding : List ℕ → ℕ → Care → Type 0
Holding g d c = (cell_of c d < length g) × (get_or g (cell_of c d) 0 ≡ c.index)

-- written into cells that differ from g in theirs alone, the vectors make them g
put_into : (g : List ℕ) (d : ℕ) (cs : List Care) (g' : List ℕ) → All (Holding g d) cs → length g' ≡ length g
    → ((j : ℕ) → ((c : Care) → In c cs → cell_of c d ≡ j → ⊥) → get_or g' j 0 ≡ get_or g j 0) → put g' d cs ≡ g
unfolding put
put_into g d [] g' a l e = ext_get_or 0 g' g l (λ j h. e j (λ c i. absurd i))
put_into g d (c ∷ cs) g' a l e =
    put_into g d cs (set g' (cell_of c d) c.index) a.1 (length-set g' (cell_of c d) c.index ∙ l) (λ j n. go j n (eqb j (cell_of c d)) refl)
  where
    go : (j : ℕ) → ((x : Care) → In x cs → cell_of x d ≡ j → ⊥) → (b : Bool) → eqb j (cell_of c d) ≡ b → get_or (set g' (cell_of c d) c.index) j 0 ≡ get_or g j 0
    go j n true q =
        let z : j ≡ cell_of c d = eqb-true _ _ q in
        rw z (get_or-set_same g' (cell_of c d) c.index 0 (omega (arith, l, a.0.0)) ∙ sym a.0.1)
    go j n false q =
        let z : j ≡ cell_of c d → ⊥ = eqb-false _ _ q in
        get_or-set_other g' (cell_of c d) j c.index 0 z ∙ e j (λ x i. ⊎_elim (λ p t. z (sym t ∙ ap (λ (y : Care). cell_of y d) p)) (λ i t. n x i t) i)

restored : (g : List ℕ) (d : ℕ) (cs : List Care) → All (Holding g d) cs → put (cleared g d cs) d cs ≡ g
restored g d cs a = put_into g d cs (cleared g d cs) a (cleared_length g d cs) (λ j n. cleared_other g d j cs n)

-- ---- the row and the new vector

module _ (s : Seat) (aux firsts g : List ℕ) (l : 0 < length aux) (st : Stands s aux firsts (length g)) where
  -- the cell of a number of the row is its first one
  cell_is : (i : ℕ) → 0 < i → i < length aux → row_in s aux i ≡ s.row → cell_of (mate_at s firsts i) s.displacement ≡ get_or firsts i 0 - 1
  cell_is i p h r = omega (arith, (st i p h r).above)

  -- where the row was it is inside, and there it goes back to
  pub back_inside : inside (length g) s.displacement (mates s aux firsts) ≡ true
  back_inside =
      inside_all (length g) s.displacement (mates s aux firsts)
      (mates_all s aux firsts (λ c. cell_of c s.displacement < length g) (λ i p h r. omega (arith, cell_is i p h r, (st i p h r).above, (st i p h r).within)) l)

  pub back : Held s aux firsts g → put (bare s aux firsts g) s.displacement (mates s aux firsts) ≡ g
  back held =
      restored g s.displacement (mates s aux firsts)
      (mates_all s aux firsts (Holding g s.displacement)
      (λ i p h r. (omega (arith, cell_is i p h r, (st i p h r).above, (st i p h r).within), ap (λ (n : ℕ). get_or g n 0) (cell_is i p h r) ∙ held i p h r)) l)

  module _ (low : s.column < max_rows) where
    group_narrow : All (λ c. c.column < max_rows) (group s aux firsts)
    group_narrow =
        all_append (λ c. c.column < max_rows) (mates s aux firsts) _
        (mates_all s aux firsts (λ c. c.column < max_rows) (λ i p h r. (st i p h r).narrow) l) (low, tt)

    -- the words after the new vector's is written
    module _ (words : List ℕ) (m v : ℕ) (e : m ≡ suc (length (mates s aux firsts))) (w : take m words ≡ 0 ∷ map column_word (mates s aux firsts)) (h : m < length words) (f : v ≡ max_rows * s.column) where
      words_are : take (m + 1) (set words m v) ≡ 0 ∷ map column_word (group s aux firsts)
      words_are =
          ap (λ (n : ℕ). take n (set words m v)) (add-one m)
          ∙ take-suc-set words m v h
          ∙ ap₂ (λ (ws : List ℕ) (n : ℕ). ws ++ (n ∷ [])) w f
          ∙ ap (λ (ws : List ℕ). 0 ∷ ws) (sym (map-append column_word (mates s aux firsts) _))

      pub fit_is : length aux < max_words → length g ≤ max_cells
          → single_fit (take (m + 1) (set words m v)) (bare s aux firsts g) ≡ first_fit (bare s aux firsts g) (group s aux firsts)
      fit_is few cells =
          ap (λ (ws : List ℕ). single_fit ws (bare s aux firsts g)) words_are
          ∙ single_columns 0 (group s aux firsts) (bare s aux firsts g)
          (omega (arith, length-append (mates s aux firsts) (record { index = length aux; row = s.row; column = s.column } ∷ []), mates_few s aux firsts l))
          (omega (arith, cleared_length g s.displacement (mates s aux firsts))) group_narrow

  -- at its first fit
  module _ (d : ℕ) (e : first_fit (bare s aux firsts g) (group s aux firsts) ≡ At d) where
    parts : (inside (length (bare s aux firsts g)) d (mates s aux firsts) ≡ true) × (s.column + d < length (bare s aux firsts g))
    unfolding inside
    parts =
        let q = fit_inside (bare s aux firsts g) (group s aux firsts) d e in
        let p = and_true _ _ (sym (inside_joined (length (bare s aux firsts g)) d (mates s aux firsts) _) ∙ q) in
        (p.0, ltb-true _ _ (and_true (ltb (s.column + d) (length (bare s aux firsts g))) true p.1).0)

    pub put_inside : inside (length (bare s aux firsts g)) d (mates s aux firsts) ≡ true
    put_inside = parts.0

    pub put_cell : s.column + d < length (bare s aux firsts g)
    put_cell = parts.1

  pub put_group : (g' : List ℕ) (d : ℕ) → set (put g' d (mates s aux firsts)) (s.column + d) (length aux) ≡ put g' d (group s aux firsts)
  unfolding put
  put_group g' d = sym (put_joined d (mates s aux firsts) _ g')
