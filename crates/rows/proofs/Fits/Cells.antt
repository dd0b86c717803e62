-- The vectors of a row, and what their writing does to the cells. Assumes nothing.
use Prim.Native.Nat.{ℕ, suc, ◌+◌, ◌<◌}
use native.Mathlib.Nat.{add_right_cancel}
use native.Mathlib.Omega.{arith}
use mathlib.Core.Path.{◌≡◌, refl, sym, ap, ◌∙◌}
use mathlib.Core.Bool.{Bool, true, false}
use mathlib.Core.List.{List, [], ◌∷◌}
use mathlib.Core.Logic.{◌⊎◌, inl, inr, ⊎_elim}
use lib.Dec.{eqb, ltb}
use lib.ListN.{length, get_or, set, length-set}
use lib.Seq.{get_or-set_same, get_or-set_other}
use borrow.Author.Tests.{ltb-true, eqb-true, eqb-false}
use Rattle.lists.proofs.Tests.{and_true}
use Rattle.lists.specs.Members.{In, All}
use Rattle.lists.proofs.Entries.Members.{all_in, all_of}
use Rattle.rows.specs.Care.{Care, cares_by, keep, in_row}
use Rattle.rows.specs.Fit.{cell_of, is_free, inside, clear, fits_at, put}
use Rattle.rows.proofs.Fits.First.{fits_in}

-- an entry is one vector
pub cares_length : (row column : ℕ → ℕ) (i : ℕ) (xs : List ℕ) → length (cares_by row column i xs) ≡ length xs
unfolding cares_by
cares_length row column i [] = refl
cares_length row column i (x ∷ xs) = ap suc (cares_length row column (suc i) xs)

-- ---- the vectors of a row

-- they are those with that row
pub in_row_lem : (r : ℕ) (c : Care) (cs : List Care) → In c (in_row r cs) → In c cs × (c.row ≡ r)
unfolding in_row
in_row_lem r c [] i = absurd i
in_row_lem r c (e ∷ cs) i = go (eqb e.row r) refl i (in_row_lem r c cs)
  where
    go : (t : Bool) → eqb e.row r ≡ t → In c (keep t e (in_row r cs)) → (In c (in_row r cs) → In c cs × (c.row ≡ r)) → In c (e ∷ cs) × (c.row ≡ r)
    go true q i u = ⊎_elim (λ p. (inl p, ap (λ (x : Care). x.row) p ∙ eqb-true e.row r q)) (λ p. (inr (u p).0, (u p).1)) i
    go false q i u = let v = u i in (inr v.0, v.1)

-- what holds of all vectors holds of those of a row
pub all_row : (Q : Care → Type 0) (r : ℕ) (cs : List Care) → All Q cs → All Q (in_row r cs)
all_row Q r cs a = all_of Q (in_row r cs) (λ c i. all_in Q c cs a (in_row_lem r c cs i).0)

pub row_in : (r : ℕ) (c : Care) (cs : List Care) → In c cs → c.row ≡ r → In c (in_row r cs)
unfolding in_row
row_in r c [] i m = i
row_in r c (e ∷ cs) i m = go (eqb e.row r) refl (row_in r c cs)
  where
    go : (t : Bool) → eqb e.row r ≡ t → (In c cs → c.row ≡ r → In c (in_row r cs)) → In c (keep t e (in_row r cs))
    go true q u = ⊎_elim (λ p. inl p) (λ p. inr (u p m)) i
    go false q u = ⊎_elim (λ p. absurd (eqb-false e.row r q (sym (ap (λ (x : Care). x.row) p) ∙ m))) (λ p. u p m) i

-- no two have one row and one column
abbrev pub Distinct : List Care → Type 0
Distinct [] = Unit
Distinct (c ∷ cs) = ((x : Care) → In x cs → c.row ≡ x.row → c.column ≡ x.column → ⊥) × Distinct cs

-- no two have one column
abbrev pub Apart : List Care → Type 0
Apart [] = Unit
Apart (c ∷ m) = ((x : Care) → In x m → c.column ≡ x.column → ⊥) × Apart m

pub row_apart : (r : ℕ) (cs : List Care) → Distinct cs → Apart (in_row r cs)
unfolding in_row
row_apart r [] d = tt
row_apart r (c ∷ cs) d = go (eqb c.row r) refl (row_apart r cs d.1)
  where
    go : (t : Bool) → eqb c.row r ≡ t → Apart (in_row r cs) → Apart (keep t c (in_row r cs))
    go true q a = ((λ x i e. let v = in_row_lem r x cs i in d.0 x v.0 (eqb-true c.row r q ∙ sym v.1) e), a)
    go false q a = a

-- ---- the cells of a row

in_free : (g : List ℕ) (d : ℕ) (m : List Care) → inside (length g) d m ≡ true → clear g d m ≡ true → (x : Care) → In x m
    → (x.column + d < length g) × (get_or g (x.column + d) 0 ≡ 0)
unfolding inside clear
in_free g d [] a b x i = absurd i
in_free g d (c ∷ m) a b x i =
    let p = and_true (ltb (cell_of c d) (length g)) (inside (length g) d m) a in
    let q = and_true (is_free g (cell_of c d)) (clear g d m) b in
    ⊎_elim (λ e. rw e (ltb-true (cell_of c d) (length g) p.0, eqb-true _ 0 q.0)) (λ j. in_free g d m p.1 q.1 x j) i

-- a row that fits has its cells below the number of cells, and they are free
pub fits_free : (g : List ℕ) (d : ℕ) (m : List Care) → fits_at g d m ≡ true → (x : Care) → In x m → (x.column + d < length g) × (get_or g (x.column + d) 0 ≡ 0)
fits_free g d m f = let p = fits_in g d m f in in_free g d m p.0 p.1

-- ---- what is written

pub put_length : (g : List ℕ) (d : ℕ) (m : List Care) → length (put g d m) ≡ length g
unfolding put
put_length g d [] = refl
put_length g d (c ∷ m) = put_length (set g (cell_of c d) c.index) d m ∙ length-set g (cell_of c d) c.index

pub put_other : (g : List ℕ) (d i : ℕ) (m : List Care) → ((x : Care) → In x m → x.column + d ≡ i → ⊥) → get_or (put g d m) i 0 ≡ get_or g i 0
unfolding put
put_other g d i [] n = refl
put_other g d i (c ∷ m) n =
    put_other (set g (cell_of c d) c.index) d i m (λ x j. n x (inr j)) ∙ get_or-set_other g (cell_of c d) i c.index 0 (λ e. n c (inl refl) (sym e))

-- each vector's cell holds its index
pub put_own : (g : List ℕ) (d : ℕ) (c : Care) (m : List Care) → In c m → Apart m → ((x : Care) → In x m → x.column + d < length g)
    → get_or (put g d m) (c.column + d) 0 ≡ c.index
unfolding put
put_own g d c [] i a l = absurd i
put_own g d c (e ∷ m) i a l =
    ⊎_elim
    (λ p. rw p
    (put_other (set g (cell_of e d) e.index) d (cell_of e d) m (λ x j q. a.0 x j (sym (add_right_cancel d q)))
    ∙ get_or-set_same g (cell_of e d) e.index 0 (l e (inl refl))))
    (λ p. put_own (set g (cell_of e d) e.index) d c m p a.1 (λ x j. rw length-set (l x (inr j))))
    i

-- a cell keeps its word, or holds the index of one of the row
pub put_either : (g : List ℕ) (d i : ℕ) (m : List Care) → i < length g
    → (get_or (put g d m) i 0 ≡ get_or g i 0) ⊎ ((x : Care) × In x m × (x.column + d ≡ i) × (get_or (put g d m) i 0 ≡ x.index))
unfolding put
put_either g d i [] l = inl refl
put_either g d i (c ∷ m) l =
    ⊎_elim
    (λ e. go e (eqb i (cell_of c d)) refl)
    (λ p. inr (p.0, inr p.1, p.2, p.3))
    (put_either (set g (cell_of c d) c.index) d i m (rw length-set l))
  where
    go : get_or (put g d (c ∷ m)) i 0 ≡ get_or (set g (cell_of c d) c.index) i 0 → (t : Bool) → eqb i (cell_of c d) ≡ t
        → (get_or (put g d (c ∷ m)) i 0 ≡ get_or g i 0) ⊎ ((x : Care) × In x (c ∷ m) × (x.column + d ≡ i) × (get_or (put g d (c ∷ m)) i 0 ≡ x.index))
    go e true q =
        let p : i ≡ cell_of c d = eqb-true i (cell_of c d) q in
        inr (c, inl refl, sym p, e ∙ rw p (get_or-set_same g (cell_of c d) c.index 0 (omega arith)))
    go e false q = inl (e ∙ get_or-set_other g (cell_of c d) i c.index 0 (eqb-false i (cell_of c d) q))
