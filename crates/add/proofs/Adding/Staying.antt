-- The words that an addition can change, for every unit and every vector; and where the vectors of other rows lie (SCOPE 22.7). Assumes nothing.
use Prim.Native.Nat.{ℕ, suc, ◌+◌, ◌-◌, ◌≤◌, ◌<◌}
use native.Mathlib.Omega.{arith}
use mathlib.Core.Path.{◌≡◌, refl, sym, ap, ap₂, ◌∙◌}
use mathlib.Core.Bool.{true, true≢false}
use mathlib.Core.List.{List}
use mathlib.Core.Logic.{inl, inr, ⊎_elim}
use lib.Dec.{ltb}
use lib.ListN.{length, get_or, set, take, length-append, length-drop, length-set, get_or-append}
use lib.Seq.{get_or-set_same, get_or-set_other, get_or-take, length-take-le, get_or-append-add, get_or-drop}
use borrow.Author.Tests.{ltb-true, eqb-true}
use Rattle.lists.proofs.Tests.{and_true, le_or_lt}
use Rattle.vectors.specs.Variable.{row_of, column_of}
use Rattle.vectors.proofs.Variables.Numbers.{row_lt}
use Rattle.rows.specs.Fit.{is_free, put}
use Rattle.rows.proofs.Fits.First.{fit_at}
use Rattle.rows.proofs.Fits.Cells.{fits_free, put_length, put_other}
use Rattle.record.specs.declared.Record.{Record}
use Rattle.record.specs.Record.{kinds_in}
use Rattle.record.specs.Tables.{Tables, over}
use Rattle.record.specs.Leads.{word_in, cell_in}
use Rattle.record.specs.Holds.{Holds}
use Rattle.record.proofs.Formed.{well_formed_facts}
use Rattle.record.proofs.Soundness.{Sound, sound_says}
use Rattle.recover.specs.Every.{listed, list_in}
use Rattle.recover.proofs.Every.{listed_entry, listed_sound, holds_listed, holds_list}
use Rattle.build.specs.Built.{Built}
use Rattle.add.specs.Add.{row_mates, amended_to, add_of}
use Rattle.add.specs.Facts.{new_row, lifted_cells, HasCell, GetsCell, SameBut, Stays, ChangesLittle, OthersStay}
use Rattle.add.proofs.Adding.Ends.{Room, Moved, End, ending}
use Rattle.add.proofs.Adding.Lifting.{lifted_length, lifted_other}
use Rattle.add.proofs.Adding.Mates.{mate_is, mate_cell}

-- nothing changed
same_all : (places : ℕ → Type 0) (l : List ℕ) → SameBut places l l
same_all places l = record { size = refl; same = λ i n. refl }

-- one word stored
same_set : (l : List ℕ) (i v : ℕ) → SameBut (λ j. j ≡ i) l (set l i v)
same_set l i v = record { size = length-set l i v; same = λ j n. get_or-set_other l i j v 0 n }

module _ (u : Record) (t : Tables) (x : ℕ) where
  abbrev row : ℕ
  row = row_of u.n1 (kinds_in u) x

  -- the tables as they were lent
  nothing : (b : Built) → Stays u t x (record { built = b; tables = t })
  nothing b =
      record {
        refused = λ z. refl;
        one_word = same_all _ _;
        one_row = same_all _ _;
        room_rows = λ r. refl;
        room_cell = λ r. same_all _ _;
        moved_cells = λ r. same_all _ _;
        other_cells = λ i n k. refl;
        beyond_cells = λ i l. refl;
      }

  -- ---- in a free cell

  in_room : (R : Room u t x) → Stays u t x (amended_to u t x t.h (set t.g (cell_in u t x) (suc u.k)))
  in_room R =
      let a = and_true (ltb (cell_in u t x) u.cells) (is_free t.g (cell_in u t x)) R.has_room in
      let below : cell_in u t x < u.cells = ltb-true _ _ a.0 in
      let free : get_or t.g (cell_in u t x) 0 ≡ 0 = eqb-true _ _ a.1 in
      record {
        refused = λ z. absurd (z refl);
        one_word = same_set t.aux (suc u.k) (word_in u x);
        one_row = same_all _ _;
        room_rows = λ r. refl;
        room_cell = λ r. same_set t.g (cell_in u t x) (suc u.k);
        moved_cells = λ r. absurd (true≢false (sym R.has_room ∙ r));
        other_cells = λ i n k. get_or-set_other t.g (cell_in u t x) i (suc u.k) 0 (λ e. n (ap (λ (j : ℕ). get_or t.g j 0) e ∙ free));
        beyond_cells = λ i l. get_or-set_other t.g (cell_in u t x) i (suc u.k) 0 (λ e. omega arith);
      }

  -- ---- with the row moved

  module _ (M : Moved u t x) where
    S : Sound u t
    S = sound_says u t (listed_sound u t M.passes.is_listed)

    abbrev cells : List ℕ
    cells = lifted_cells u t x

    abbrev h' : List ℕ
    h' = set t.h row M.d

    abbrev g' : List ℕ
    g' = over (put cells M.d (new_row u t x)) t.g

    d_is : get_or h' row 0 ≡ M.d
    d_is =
        get_or-set_same t.h row M.d 0
        (omega (arith, row_lt u.n1 (kinds_in u) x S.rows_in, (well_formed_facts u t S.well_formed_lem).rows_held))

    put_size : length (put cells M.d (new_row u t x)) ≡ u.cells
    put_size =
        put_length cells M.d (new_row u t x)
        ∙ lifted_length u t (row_mates u t x) (take u.cells t.g) ∙ length-take-le u.cells t.g S.cells_held

    g_size : length g' ≡ length t.g
    g_size =
        length-append (put cells M.d (new_row u t x)) _
        ∙ omega (arith, put_size, S.cells_held, length-drop (length (put cells M.d (new_row u t x))) t.g)

    -- a word from L up
    beyond : (i : ℕ) → u.cells ≤ i → get_or g' i 0 ≡ get_or t.g i 0
    beyond i l =
        let n : ℕ = length (put cells M.d (new_row u t x)) in
        let e : i ≡ n + (i - n) = omega (arith, put_size) in
        ap (λ (j : ℕ). get_or g' j 0) e
        ∙ get_or-append-add (put cells M.d (new_row u t x)) _ (i - n) 0
        ∙ get_or-drop n t.g (i - n) 0
        ∙ ap (λ (j : ℕ). get_or t.g j 0) (sym e)

    -- a cell that the row does not have is as it was when the row is lifted
    not_lifted : (i : ℕ) → i < u.cells → (HasCell u t x i → ⊥) → get_or cells i 0 ≡ get_or t.g i 0
    not_lifted i l n =
        lifted_other u t (row_mates u t x) (take u.cells t.g) i
        (λ c k e. n (c, k, omega (arith, mate_cell u t x M.passes.is_listed c (mate_is u t x M.passes.is_listed c k))))
        ∙ get_or-take u.cells t.g i 0 l

    -- and if it gets it neither, so it stays
    not_put : (i : ℕ) → i < u.cells → (HasCell u t x i → ⊥) → (GetsCell u t x M.d i → ⊥) → get_or g' i 0 ≡ get_or t.g i 0
    not_put i l n m =
        get_or-append (put cells M.d (new_row u t x)) _ 0 i (omega (arith, put_size))
        ∙ put_other cells M.d i (new_row u t x) (λ c k e. m (c, k, e)) ∙ not_lifted i l n

    -- it gets no cell that holds an index of another row
    gets_free : (i : ℕ) → i < u.cells → (HasCell u t x i → ⊥) → GetsCell u t x M.d i → get_or t.g i 0 ≡ 0
    gets_free i l n p =
        sym (not_lifted i l n) ∙ ap (λ (j : ℕ). get_or cells j 0) (sym p.2)
        ∙ (fits_free cells M.d (new_row u t x) (fit_at cells (new_row u t x) M.d M.fits).fits p.0 p.1).1

    row_moved : Stays u t x (amended_to u t x h' g')
    row_moved =
        record {
          refused = λ z. absurd (z refl);
          one_word = same_set t.aux (suc u.k) (word_in u x);
          one_row = same_set t.h row M.d;
          room_rows = λ r. absurd (true≢false (sym r ∙ M.no_room));
          room_cell = λ r. absurd (true≢false (sym r ∙ M.no_room));
          moved_cells = λ r.
              rw d_is (record {
                size = g_size;
                same = λ i n. ⊎_elim (beyond i) (λ l. not_put i l (λ p. n (inl p)) (λ p. n (inr p))) (le_or_lt u.cells i);
              });
          other_cells = λ i n k. ⊎_elim (beyond i) (λ l. not_put i l k (λ p. n (gets_free i l k p))) (le_or_lt u.cells i);
          beyond_cells = beyond;
        }

-- of every addition
pub add_changes_little : ChangesLittle add_of
add_changes_little u t x = go (ending u t x)
  where
    go : End u t x → Stays u t x (add_of u t x)
    go (End.refuses r) = rw r.is (nothing u t x _)
    go (End.goes_in r) = rw r.is (in_room u t x r)
    go (End.moves m) = rw m.is (row_moved u t x m)
    go (End.sticks s) = rw s.is (nothing u t x _)

-- ---- the vectors of other rows

module _ (u : Record) (t : Tables) (vs : List ℕ) (H : Holds u t vs) (x i : ℕ) (h : i < length vs)
    (n : row_of u.n1 (kinds_in u) (get_or vs i 0) ≡ row_of u.n1 (kinds_in u) x → ⊥) where
  L : listed u t ≡ true
  L = holds_listed u t vs H

  -- the row of x does not have the cell
  not_had : HasCell u t x (cell_in u t (get_or vs i 0)) → ⊥
  not_had p =
      let m = mate_is u t x L p.0 p.1 in
      let v : ℕ = get_or (list_in u t) m.at 0 in
      let c : cell_in u t v ≡ cell_in u t (get_or vs i 0) = omega (arith, mate_cell u t x L p.0 m, p.2) in
      let j : m.at ≡ i = omega (arith, (listed_entry u t L m.at m.below).holds, (H.lies i h).1, ap (λ (a : ℕ). get_or t.g a 0) c) in
      n (ap₂ (λ (l : List ℕ) (a : ℕ). row_of u.n1 (kinds_in u) (get_or l a 0)) (sym (holds_list u t vs H)) (sym j) ∙ m.in_row_lem)

pub add_others_stay : OthersStay add_of
add_others_stay u t vs H x i h n =
    let s = add_changes_little u t x in
    let l = (H.lies i h).1 in (
      ap (λ (d : ℕ). d + column_of u.n1 (kinds_in u) (get_or vs i 0)) (s.one_row.same (row_of u.n1 (kinds_in u) (get_or vs i 0)) n),
      s.other_cells (cell_in u t (get_or vs i 0)) (λ z. omega arith) (not_had u t vs H x i h n) ∙ l,
    )
