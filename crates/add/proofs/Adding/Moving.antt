-- A vector added with its row moved: the unit holds the list with the vector at its end. Assumes nothing.
use Prim.Native.Nat.{ℕ, suc, ◌+◌, ◌*◌, ◌^◌, ◌<◌}
use native.Mathlib.Nat.{add_comm}
use native.Mathlib.Omega.{arith}
use mathlib.Core.Path.{◌≡◌, refl, sym, ap, ap₂, ◌∙◌}
use mathlib.Core.Bool.{Bool, true, false, true≢false}
use mathlib.Core.List.{List, [], ◌∷◌, ◌++◌, map}
use mathlib.Core.Logic.{◌⊎◌, inl, inr}
use lib.Dec.{eqb}
use lib.ListN.{length, get_or, set, take, length-append, length-drop, length-map, length-set, get_or-append}
use lib.Seq.{get_or-set_same, get_or-set_other, get_or-take, length-take-le}
use borrow.Author.Tests.{eqb-true, eqb-false}
use Rattle.lists.specs.Members.{In}
use Rattle.lists.specs.First.{has}
use Rattle.lists.proofs.Finding.Has.{in_has}
use Rattle.lists.proofs.Entries.Members.{get_d_map, get_d_in}
use Rattle.vectors.specs.Variable.{number_of, row_of, column_of}
use Rattle.vectors.proofs.Variables.Numbers.{number_split, row_lt}
use Rattle.rows.specs.Care.{Care, in_row}
use Rattle.rows.specs.Fit.{first_fit, put, At}
use Rattle.rows.proofs.Fits.First.{fit_at}
use Rattle.rows.proofs.Fits.Cells.{Distinct, Apart, in_row_lem, row_in, row_apart, fits_free, put_length, put_other, put_own, put_either}
use Rattle.record.specs.declared.Record.{Record}
use Rattle.record.specs.Record.{kinds_in}
use Rattle.record.specs.Tables.{Tables, over}
use Rattle.record.specs.Leads.{cell_in}
use Rattle.record.specs.Holds.{Leads, Holds}
use Rattle.record.proofs.Formed.{well_formed_facts}
use Rattle.record.proofs.Soundness.{Sound, sound_says}
use Rattle.recover.specs.Every.{list_in}
use Rattle.recover.proofs.Every.{listed_cells}
use Rattle.build.specs.Build.{cares_from}
use Rattle.build.proofs.Holding.Cares.{care_of, cares_in, cares_entry, cares_distinct}
use Rattle.add.specs.Add.{amended, row_mates, amended_to}
use Rattle.add.specs.Facts.{lifted_cells, new_row}
use Rattle.add.proofs.Adding.Ends.{Passed}
use Rattle.add.proofs.Adding.Appended.{each_appended, cares_appended, row_appended}
use Rattle.add.proofs.Adding.Lifting.{first_one, lifted_length, lifted_other, lifted_empty, lifted_own}
use Rattle.add.proofs.Adding.Amended.{amended_holds}
use Rattle.add.proofs.Adding.Mates.{care_at, first_own, mate_in, mate_is, mate_cell}

module _ (u : Record) (t : Tables) (x : ℕ) (H : Holds u t (list_in u t)) (P : Passed u t x) where
  abbrev vs : List ℕ
  vs = list_in u t

  S : Sound u t
  S = sound_says u t H.is_sound

  abbrev row : ℕ → ℕ
  row v = row_of u.n1 (kinds_in u) v

  abbrev column : ℕ → ℕ
  column v = column_of u.n1 (kinds_in u) v

  abbrev ws : List ℕ
  ws = vs ++ (x ∷ [])

  -- the vectors of the longer list
  abbrev cares : List Care
  cares = cares_from 1 u.n1 (kinds_in u) ws

  low : (i : ℕ) → i < length vs → i < u.k
  low i h = omega (arith, H.vectors)

  -- ---- the row

  row_is : new_row u t x ≡ in_row (row x) cares
  unfolding row_mates
  row_is =
      let e : suc u.k ≡ 1 + length vs = omega (arith, H.vectors) in
      ap (λ (i : ℕ). row_mates u t x ++ (care_of u.n1 (kinds_in u) i x ∷ [])) e
      ∙ sym (ap (in_row (row x)) (cares_appended u.n1 (kinds_in u) 1 vs x) ∙ row_appended (row x) (cares_from 1 u.n1 (kinds_in u) vs) (care_of u.n1 (kinds_in u) (1 + length vs) x) refl)

  -- x agrees with no vector on every variable
  new_apart : (i : ℕ) → i < length vs → row (get_or vs i 0) ≡ row x → column (get_or vs i 0) ≡ column x → ⊥
  new_apart i h p q =
      let m : List ℕ = map (number_of (kinds_in u)) vs in
      let n : get_or m i 0 ≡ number_of (kinds_in u) x =
      get_d_map (number_of (kinds_in u)) vs i 0 0 h ∙ number_split (kinds_in u) u.n1 (get_or vs i 0) S.rows_in
      ∙ ap₂ (λ (a b : ℕ). a + 2 ^ u.n1 * b) p q ∙ sym (number_split (kinds_in u) u.n1 x S.rows_in) in
      let k : has (number_of (kinds_in u) x) m ≡ true = rw n at (in_has (get_or m i 0) m (get_d_in m i 0 (rw length-map h))) in
      true≢false (sym k ∙ P.apart)

  -- nor do two vectors have one row and one column
  old_apart : (i j : ℕ) → i < j → j < length vs → row (get_or vs i 0) ≡ row (get_or vs j 0) → column (get_or vs i 0) ≡ column (get_or vs j 0) → ⊥
  old_apart i j l h p q =
      let e : i ≡ j = listed_cells u t P.is_listed i j (low i (omega arith)) (low j h) (ap₂ (λ (r c : ℕ). get_or t.h r 0 + c) p q) in
      omega arith

  distinct : Distinct cares
  distinct =
      cares_distinct u.n1 (kinds_in u) 1 ws
      (λ a b l h. each_appended (λ j v. (i : ℕ) → i < j → row (get_or ws i 0) ≡ row v → column (get_or ws i 0) ≡ column v → ⊥) vs x
      (λ j k i m. rw (get_or-append vs (x ∷ []) 0 i (omega arith)) (old_apart i j m k))
      (λ i m. rw (get_or-append vs (x ∷ []) 0 i m) (new_apart i m))
      b h a l)

  apart : Apart (new_row u t x)
  apart = rw row_is (row_apart (row x) cares distinct)

  -- ---- the cells without the row

  abbrev cells : List ℕ
  cells = lifted_cells u t x

  cells_length : length cells ≡ u.cells
  cells_length = lifted_length u t (row_mates u t x) (take u.cells t.g) ∙ length-take-le u.cells t.g S.cells_held

  -- the row's own cells are empty
  own_empty : (i : ℕ) → i < length vs → row (get_or vs i 0) ≡ row x → get_or cells (cell_in u t (get_or vs i 0)) 0 ≡ 0
  own_empty i h e =
      let q : first_one u t (care_at u t x P.is_listed i) ≡ cell_in u t (get_or vs i 0) = omega (arith, first_own u t x P.is_listed i (low i h)) in
      rw q at (lifted_own u t (row_mates u t x) (take u.cells t.g) _ (mate_in u t x P.is_listed i (low i h) e))

  -- the others' cells are as they were
  others_stay : (i : ℕ) → i < length vs → (row (get_or vs i 0) ≡ row x → ⊥) → get_or cells (cell_in u t (get_or vs i 0)) 0 ≡ suc i
  others_stay i h n =
      lifted_other u t (row_mates u t x) (take u.cells t.g) (cell_in u t (get_or vs i 0)) none
      ∙ get_or-take u.cells t.g (cell_in u t (get_or vs i 0)) 0 (H.lies i h).0 ∙ (H.lies i h).1
    where
      none : (m : Care) → In m (row_mates u t x) → first_one u t m ≡ cell_in u t (get_or vs i 0) → ⊥
      none m k e =
          let q = mate_is u t x P.is_listed m k in
          let j : q.at ≡ i = listed_cells u t P.is_listed q.at i q.below (low i h) (omega (arith, mate_cell u t x P.is_listed m q)) in
          n (ap (λ (a : ℕ). row (get_or vs a 0)) (sym j) ∙ q.in_row_lem)

  -- a cell that is not empty holds the number of a vector of another row, which leads there
  record Elsewhere (cell : ℕ) : Type 0 where
    entry : ℕ
    listed : entry < length vs
    other : row (get_or vs entry 0) ≡ row x → ⊥
    there : cell_in u t (get_or vs entry 0) ≡ cell
    holds : get_or cells cell 0 ≡ suc entry

  elsewhere : (cell : ℕ) → cell < u.cells → (get_or cells cell 0 ≡ 0 → ⊥) → Elsewhere cell
  elsewhere cell l n = go (eqb (row (get_or vs p.entry 0)) (row x)) refl
    where
      p : Leads u t vs cell
      p = H.leads cell l (λ z. n (lifted_empty u t (row_mates u t x) (take u.cells t.g) cell (get_or-take u.cells t.g cell 0 l ∙ z)))

      go : (b : Bool) → eqb (row (get_or vs p.entry 0)) (row x) ≡ b → Elsewhere cell
      go true e = absurd (n (rw p.there at (own_empty p.entry p.listed (eqb-true _ _ e))))
      go false e =
          record {
            entry = p.entry;
            listed = p.listed;
            other = eqb-false _ _ e;
            there = p.there;
            holds = rw p.there at (others_stay p.entry p.listed (eqb-false _ _ e));
          }

  -- ---- the row put at d

  module _ (d : ℕ) (fit : first_fit (lifted_cells u t x) (new_row u t x) ≡ At d) where
    abbrev t' : Tables
    t' = (amended_to u t x (set t.h (row x) d) (over (put cells d (new_row u t x)) t.g)).tables

    free : (c : Care) → In c (new_row u t x) → (c.column + d < u.cells) × (get_or cells (c.column + d) 0 ≡ 0)
    free c i = let f = fits_free cells d (new_row u t x) (fit_at cells (new_row u t x) d fit).fits c i in (rw cells_length at f.0, f.1)

    put_size : length (put cells d (new_row u t x)) ≡ u.cells
    put_size = put_length cells d (new_row u t x) ∙ cells_length

    -- the words of G below L
    cell_at : (cell : ℕ) → cell < u.cells → get_or t'.g cell 0 ≡ get_or (put cells d (new_row u t x)) cell 0
    cell_at cell l = get_or-append (put cells d (new_row u t x)) _ 0 cell (omega (arith, put_size))

    rows_fit : row x < length t.h
    rows_fit = omega (arith, row_lt u.n1 (kinds_in u) x S.rows_in, (well_formed_facts u t S.well_formed_lem).rows_held)

    cell_moved : (v : ℕ) → row v ≡ row x → cell_in u t' v ≡ column v + d
    cell_moved v e = rw (e, get_or-set_same t.h (row x) d 0 rows_fit) (add_comm d (column v))

    cell_stays : (v : ℕ) → (row v ≡ row x → ⊥) → cell_in u t' v ≡ cell_in u t v
    cell_stays v n = rw (get_or-set_other t.h (row x) (row v) d 0 n)

    Lying : ℕ → ℕ → Type 0
    Lying i v = (cell_in u t' v < u.cells) × (get_or t'.g (cell_in u t' v) 0 ≡ suc i)

    -- a vector of the row lies where the row was put
    lies_own : (i : ℕ) → i < length ws → row (get_or ws i 0) ≡ row x → Lying i (get_or ws i 0)
    unfolding Lying
    lies_own i h e =
        let c : Care = care_of u.n1 (kinds_in u) (1 + i) (get_or ws i 0) in
        let k : In c (new_row u t x) = rw row_is (row_in (row x) c cares (cares_in u.n1 (kinds_in u) 1 ws i h) e) in
        let f = free c k in
        rw (cell_moved (get_or ws i 0) e)
        (f.0, cell_at _ f.0 ∙ put_own cells d c (new_row u t x) k apart (λ a j. rw cells_length (free a j).0) ∙ omega arith)

    -- a vector of another row lies where it lay
    lies_other : (i : ℕ) → i < length vs → (row (get_or vs i 0) ≡ row x → ⊥) → Lying i (get_or vs i 0)
    unfolding Lying
    lies_other i h n =
        let l = (H.lies i h).0 in
        let s = others_stay i h n in
        rw (cell_stays (get_or vs i 0) n)
        (l, cell_at _ l ∙ put_other cells d _ (new_row u t x) (λ c k e. omega (arith, (free c k).1, s, ap (λ (a : ℕ). get_or cells a 0) e)) ∙ s)

    lies : (i : ℕ) → i < length ws → Lying i (get_or ws i 0)
    lies i h = go (eqb (row (get_or ws i 0)) (row x)) refl
      where
        go : (b : Bool) → eqb (row (get_or ws i 0)) (row x) ≡ b → Lying i (get_or ws i 0)
        go true e = lies_own i h (eqb-true _ _ e)
        go false e =
            each_appended (λ j v. (row v ≡ row x → ⊥) → Lying j v) vs x (λ j k n. lies_other j k n) (λ n. absurd (n refl)) i h (eqb-false _ _ e)

    leads : (cell : ℕ) → cell < u.cells → (get_or t'.g cell 0 ≡ 0 → ⊥) → Leads (amended u) t' ws cell
    leads cell l n = by (put_either cells d cell (new_row u t x) (rw cells_length l))
      where
        by : (get_or (put cells d (new_row u t x)) cell 0 ≡ get_or cells cell 0)
            ⊎ ((c : Care) × In c (new_row u t x) × (c.column + d ≡ cell) × (get_or (put cells d (new_row u t x)) cell 0 ≡ c.index))
            → Leads (amended u) t' ws cell
        by (inl e) =
            let p = elsewhere cell l (λ z. n (cell_at cell l ∙ e ∙ z)) in
            let v : get_or ws p.entry 0 ≡ get_or vs p.entry 0 = get_or-append vs (x ∷ []) 0 p.entry p.listed in
            record {
              entry = p.entry;
              listed = omega (arith, p.listed, length-append vs (x ∷ []));
              holds = cell_at cell l ∙ e ∙ p.holds;
              there = ap (cell_in u t') v ∙ cell_stays _ p.other ∙ p.there;
            }
        by (inr w) =
            let q = in_row_lem (row x) w.0 cares (rw row_is at w.1) in
            let c = cares_entry u.n1 (kinds_in u) 1 ws w.0 q.0 in
            let r : row (get_or ws c.at 0) ≡ row x = sym (ap (λ (a : Care). a.row) c.is) ∙ q.1 in
            record {
              entry = c.at;
              listed = c.below;
              holds = cell_at cell l ∙ w.3 ∙ ap (λ (a : Care). a.index) c.is ∙ omega arith;
              there = cell_moved (get_or ws c.at 0) r ∙ ap (λ (a : Care). a.column + d) (sym c.is) ∙ w.2;
            }

    pub moved_holds : Holds (amended u) t' ws
    unfolding Lying
    moved_holds =
        amended_holds u t t' H.is_sound P.few
        (record {
          h = length-set t.h (row x) d;
          g = length-append (put cells d (new_row u t x)) _ ∙ omega (arith, put_size, S.cells_held, length-drop (length (put cells d (new_row u t x))) t.g);
          aux = rw length-set P.word_fits;
        })
        vs x H P.within refl lies leads
