-- An accepted build leaves a unit that holds the list. Assumes nothing.
use Prim.Native.Nat.{ℕ, suc, ◌+◌, ◌-◌, ◌*◌, ◌^◌, ◌≤◌, ◌<◌}
use native.Mathlib.Nat.{add_comm}
use native.Mathlib.Omega.{arith}
use mathlib.Core.Path.{◌≡◌, refl, sym, ap, ap₂, ◌∙◌}
use mathlib.Core.Bool.{true}
use mathlib.Core.List.{List, map}
use lib.Count.{ones}
use lib.ListN.{length, get_or, drop, replicate, length-replicate, length-append, length-map, get_or-append}
use borrow.Author.Tests.{eq-eqb, lt-ltb, le-ltb, le-leb}
use Rattle.lists.specs.Members.{In}
use Rattle.lists.proofs.Entries.Members.{get_d_map}
use Rattle.lists.proofs.Entries.Alls.{all_at}
use Rattle.lists.proofs.Finding.Repeats.{repeated_zero}
use Rattle.lists.proofs.Finding.NonePass.{all_none}
use Rattle.vectors.specs.declared.Kind.{Kind}
use Rattle.vectors.specs.Variable.{faulty, number_of, row_of, column_of}
use Rattle.span.specs.Span.{kept, sound_of}
use Rattle.vectors.specs.Word.{word_of}
use Rattle.vectors.proofs.Variables.Numbers.{number_split, row_lt}
use Rattle.span.proofs.Spans.{kept_lt}
use Rattle.rows.specs.Care.{Care}
use Rattle.record.specs.declared.Record.{Record}
use Rattle.vectors.specs.Bounds.{max_inputs, max_vectors, max_cells, max_variables, max_side}
use Rattle.record.specs.Record.{mark_built, record_of}
use Rattle.build.specs.Built.{Refusal}
use Rattle.record.specs.Tables.{Tables, over}
use Rattle.build.specs.Build.{cares_from, placing_of, aux_of, written}
use Rattle.record.specs.Leads.{word_in, cell_in}
use Rattle.record.specs.Formed.{well_formed, sound}
use Rattle.record.specs.Holds.{Leads, Holds}
use Rattle.record.proofs.Marks.{kinds_in_lem}
use Rattle.build.proofs.Holding.Passed.{Passed, split_kept}
use Rattle.build.proofs.Holding.Ends.{placing_rows, placing_cells}
use Rattle.build.proofs.Holding.Cares.{care_of, cares_in, cares_entry, cares_distinct}
use Rattle.rows.specs.End.{All}
use Rattle.rows.proofs.Fits.Filled.{filled_blank}
use Rattle.rows.proofs.Placing.Held.{Lies, held_only, all_held}

-- ---- words over old ones

over_at : (words old : List ℕ) (i : ℕ) → i < length words → get_or (over words old) i 0 ≡ get_or words i 0
over_at words old i h = get_or-append words (drop (length words) old) 0 i h

over_length : (words old : List ℕ) → length words ≤ length (over words old)
over_length words old = omega (arith, length-append words (drop (length words) old))

module _ (n n1 : ℕ) (second : Refusal) (ks : List Kind) (cells : ℕ) (vs : List ℕ) (t : Tables) (R : Passed n n1 second ks cells vs t)
    (e : (placing_of n1 ks cells vs).end ≡ All) where
  abbrev cs : List Care
  cs = cares_from 1 n1 ks vs

  abbrev h : List ℕ
  h = (placing_of n1 ks cells vs).state.h

  abbrev g : List ℕ
  g = (placing_of n1 ks cells vs).state.g

  abbrev u : Record
  u = record_of mark_built n n1 (length vs) ks cells (placing_of n1 ks cells vs).state.tries

  abbrev T : Tables
  T = written n n1 ks vs (placing_of n1 ks cells vs) t

  words_length : length (aux_of n n1 ks vs) ≡ suc (length vs)
  words_length = ap suc (length-map vs (word_of n n1 ks (kept n ks)))

  -- ---- the placing

  apart : (a b : ℕ) → a < b → b < length vs → row_of n1 ks (get_or vs a 0) ≡ row_of n1 ks (get_or vs b 0) → column_of n1 ks (get_or vs a 0) ≡ column_of n1 ks (get_or vs b 0) → ⊥
  apart a b l m p q =
      repeated_zero (map (number_of ks) vs) R.apart a b l (rw (length-map vs (number_of ks)) m)
      (get_d_map (number_of ks) vs a 0 0 (omega arith) ∙ number_split ks n1 (get_or vs a 0) R.split.rows_in
      ∙ ap₂ (λ (x y : ℕ). x + 2 ^ n1 * y) p q
      ∙ sym (get_d_map (number_of ks) vs b 0 0 m ∙ number_split ks n1 (get_or vs b 0) R.split.rows_in))

  -- vector i + 1 lies in its cell
  held : (i : ℕ) → i < length vs
      → (column_of n1 ks (get_or vs i 0) + get_or h (row_of n1 ks (get_or vs i 0)) 0 < cells)
      × (get_or g (column_of n1 ks (get_or vs i 0) + get_or h (row_of n1 ks (get_or vs i 0)) 0) 0 ≡ suc i)
  unfolding placing_of
  held i l =
      let s : length (replicate {A = ℕ} (2 ^ n1) 0) ≡ 2 ^ n1 = length-replicate (2 ^ n1) 0 in
      let r = all_held cs (replicate (2 ^ n1) 0) (replicate cells 0) (cares_distinct n1 ks 1 vs apart)
      (λ c m. let q = cares_entry n1 ks 1 vs c m in omega (arith, ap (λ (x : Care). x.index) q.is))
      (λ c m. let q = cares_entry n1 ks 1 vs c m in omega (arith, ap (λ (x : Care). x.row) q.is, row_lt n1 ks (get_or vs q.at 0) R.split.rows_in))
      e (care_of n1 ks (1 + i) (get_or vs i 0)) (cares_in n1 ks 1 vs i l) in
      (rw (length-replicate cells) at r.0, r.1 ∙ omega arith)

  -- the cell of a vector is taken
  pub care_held : (c : Care) → In c cs → get_or g (c.column + get_or h c.row 0) 0 ≡ 0 → ⊥
  care_held c m z = let q = cares_entry n1 ks 1 vs c m in omega (arith, (held q.at q.below).1, rw q.is at z)

  -- a cell that is not empty holds a vector that leads there
  only : (cell : ℕ) → cell < cells → (get_or g cell 0 ≡ 0 → ⊥) → Lies cs (placing_of n1 ks cells vs).state cell
  unfolding placing_of
  only cell l n = held_only cs (replicate (2 ^ n1) 0) (replicate cells 0) (filled_blank cells) cell (rw (length-replicate cells) l) n

  -- ---- the unit

  well_formed_lem : well_formed u T ≡ true
  unfolding well_formed record_of
  well_formed_lem =
      let k : ones (kept n ks) + length ks ≡ n = split_kept n n1 ks R.split in
      let l = R.list in
      let s = R.split in
      rw (
        le-ltb n 1 l.some_inputs,
        le-ltb max_inputs n l.listed.inputs,
        le-ltb (length vs) 1 l.listed.some,
        le-ltb max_vectors (length vs) l.listed.few,
        le-ltb cells 1 l.some_cells,
        le-ltb max_cells cells l.few_cells,
        le-leb (length ks) n (omega arith),
        le-ltb max_variables (length ks) s.few,
        le-ltb (length ks) n1 s.rows_in,
        le-ltb max_side n1 s.rows_few,
        le-ltb max_side (length ks - n1) s.columns_few,
        kinds_in_lem n1 ks,
        all_none (faulty n) ks s.right,
        eq-eqb (ones (kept n ks)) (n - length ks) (omega arith),
        lt-ltb (kept n ks) (2 ^ n) (kept_lt n ks),
        le-leb (2 ^ n1) (length T.h) (omega (arith, placing_rows n1 ks cells vs, over_length h t.h)),
        le-leb cells (length T.g) (omega (arith, placing_cells n1 ks cells vs, over_length g t.g)),
        lt-ltb (length vs) (length T.aux) (omega (arith, words_length, over_length (aux_of n n1 ks vs) t.aux)),
      )

  is_sound : sound u T ≡ true
  unfolding sound sound_of record_of
  is_sound = rw (well_formed_lem, kinds_in_lem n1 ks, eq-eqb _ 0 R.split.independent, eq-eqb (kept n ks) (kept n ks) refl)

  cell_is : (v : ℕ) → cell_in u T v ≡ column_of n1 ks v + get_or h (row_of n1 ks v) 0
  unfolding record_of
  cell_is v = rw (kinds_in_lem n1 ks, over_at h t.h (row_of n1 ks v) (omega (arith, placing_rows n1 ks cells vs, row_lt n1 ks v R.split.rows_in))) (add_comm _ _)

  word_is : (v : ℕ) → word_in u v ≡ word_of n n1 ks (kept n ks) v
  unfolding record_of
  word_is v = rw (kinds_in_lem n1 ks)

  cell_at : (cell : ℕ) → cell < cells → get_or T.g cell 0 ≡ get_or g cell 0
  cell_at cell l = over_at g t.g cell (omega (arith, placing_cells n1 ks cells vs))

  leads : (cell : ℕ) → cell < cells → (get_or T.g cell 0 ≡ 0 → ⊥) → Leads u T vs cell
  leads cell l n =
      let p = only cell l (λ z. n (cell_at cell l ∙ z)) in
      let q = cares_entry n1 ks 1 vs p.care p.listed in
      record {
        entry = q.at;
        listed = q.below;
        holds = cell_at cell l ∙ p.holds ∙ ap (λ (c : Care). c.index) q.is ∙ omega arith;
        there = cell_is (get_or vs q.at 0) ∙ ap (λ (c : Care). c.column + get_or h c.row 0) (sym q.is) ∙ p.there;
      }

  -- the record and the tables hold the list
  pub accepted_holds : Holds u T vs
  unfolding record_of
  accepted_holds =
      record {
        is_sound = is_sound;
        vectors = refl;
        within = λ i l. all_at (λ v. v < 2 ^ n) vs i 0 R.list.listed.within l;
        words = λ i l.
            over_at (aux_of n n1 ks vs) t.aux (suc i) (omega (arith, words_length)) ∙ get_d_map (word_of n n1 ks (kept n ks)) vs i 0 0 l ∙ sym (word_is (get_or vs i 0));
        lies = λ i l. let c = held i l in rw (cell_is (get_or vs i 0)) (c.0, cell_at _ c.0 ∙ c.1);
        leads = leads;
      }
