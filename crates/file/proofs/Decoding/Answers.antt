-- Units that are the same answer alike; so does a unit that is read from its file. Assumes nothing.
use mathlib.Core.Path.{◌≡◌, refl, sym, ap, ap₂, ◌∙◌}
use mathlib.Core.Bool.{Bool, true, false}
use mathlib.Core.List.{List}
use mathlib.Core.Logic.{⊎_elim}
use Prim.Native.Nat.{ℕ, zero, suc, ◌+◌, ◌-◌, ◌%◌, ◌^◌, ◌≤◌, ◌<◌}
use native.Mathlib.Nat.{mod-lt, eq-zero-or-pos}
use native.Mathlib.Omega.{arith}
use borrow.Author.Tests.{eqb-true, eqb-false, ltb-false}
use lib.Dec.{eqb, ltb}
use lib.ListN.{length, get_or, take}
use lib.Pow.{pow_pos}
use lib.Seq.{get_or-take, take_all}
use Rattle.lists.specs.First.{first_of}
use Rattle.lists.proofs.Tests.{le_or_lt, or_false}
use Rattle.vectors.specs.declared.Kind.{Kind}
use Rattle.vectors.specs.Bounds.{outside}
use Rattle.vectors.specs.Variable.{row_of, column_of}
use Rattle.vectors.proofs.Variables.Numbers.{row_lt}
use Rattle.span.specs.Fixed.{vector_of}
use Rattle.record.specs.declared.Record.{Record}
use Rattle.record.specs.Record.{record_of, kinds_in}
use Rattle.record.specs.Tables.{Tables, index_in}
use Rattle.record.specs.Formed.{sound}
use Rattle.record.specs.Leads.{word_in, cell_in}
use Rattle.record.proofs.Soundness.{Sound, sound_says}
use Rattle.lookup.specs.Lookup.{compared, answer, lookup_of}
use Rattle.lookup.proofs.Lookups as looking
use Rattle.recover.specs.Recover.{Recovered}
use Rattle.recover.specs.Recover.{recovered, not_recovered, first_cell, row_in, fixes, vector_at, from_cell, recover_of}
use Rattle.recover.proofs.Recovery.{recover_outside, recover_from}
use Rattle.file.specs.File.{rows_in, words_in, file_of}
use Rattle.file.specs.Decode.{record_in, tables_in}
use Rattle.file.specs.Facts.{WordsFit, SameRecord, SameUnit, SameAnswers, carried_record, carried_tables}
use Rattle.file.proofs.Laying.Files.{Whole}
use Rattle.file.proofs.Outcomes.{whole}
use Rattle.file.proofs.Decoding.Units.{record_read, tables_read}
use Rattle.file.proofs.Decoding.Same.{h_whole, g_whole, aux_whole}
use Rattle.file.proofs.Decoding.Again.{record_same, carried_sound}

-- an entry within the range of both
pub in_range : {m i : ℕ} (a b : List ℕ) {n : ℕ} → take m a ≡ take n b → m ≡ n → i < m → get_or a i 0 ≡ get_or b i 0
in_range {m} {i} a b {n} e q h = sym (get_or-take m a i 0 h) ∙ ap (λ (l : List ℕ). get_or l i 0) e ∙ get_or-take n b i 0 (omega arith)

module _ (u v : Record) (s t : Tables) (e : SameUnit u s v t) (hu : sound u s ≡ true) (hv : sound v t ≡ true) where
  abbrev f : SameRecord u v
  f = e.fields

  S : Sound u s
  S = sound_says u s hu

  T : Sound v t
  T = sound_says v t hv

  rows_same : rows_in u ≡ rows_in v
  rows_same = ap (λ (i : ℕ). 2 ^ i) f.n1

  displacement : (r : ℕ) → r < rows_in u → get_or s.h r 0 ≡ get_or t.h r 0
  displacement r h = in_range s.h t.h e.h rows_same h

  word : (i : ℕ) → i ≤ u.k → get_or s.aux i 0 ≡ get_or t.aux i 0
  word i h = in_range s.aux t.aux e.aux (ap suc f.k) (omega arith)

  -- ---- lookup

  module _ (x : ℕ) where
    pub cell_same : cell_in u s x ≡ cell_in v t x
    cell_same =
        let r : row_of u.n1 (kinds_in u) x ≡ row_of v.n1 (kinds_in v) x = ap₂ (λ (i : ℕ) (ks : List Kind). row_of i ks x) f.n1 f.variables in
        let c : column_of u.n1 (kinds_in u) x ≡ column_of v.n1 (kinds_in v) x = ap₂ (λ (i : ℕ) (ks : List Kind). column_of i ks x) f.n1 f.variables in
        let d : get_or s.h (row_of u.n1 (kinds_in u) x) 0 ≡ get_or t.h (row_of v.n1 (kinds_in v) x) 0 =
        displacement (row_of u.n1 (kinds_in u) x) (row_lt u.n1 (kinds_in u) x S.rows_in) ∙ ap (λ (i : ℕ). get_or t.h i 0) r in
        ap₂ (λ (i j : ℕ). i + j) d c

    pub word_same : word_in u x ≡ word_in v x
    word_same = cc (f.n, f.n1, f.variables, f.kept)

    compared_same : (i : ℕ) → compared u s.aux x i ≡ compared v t.aux x i
    compared_same i = ⊎_elim within (λ h. sym (looking.compared_above u s.aux x i h) ∙ looking.compared_above v t.aux x i (omega (arith, f.k))) (le_or_lt i u.k)
      where
        held : 0 < i → i ≤ u.k → (b : Bool) → eqb (get_or s.aux i 0) (word_in u x) ≡ b → compared u s.aux x i ≡ compared v t.aux x i
        held p h true q =
            sym (looking.compared_same u s.aux x i (λ z. omega arith) h (eqb-true _ _ q))
            ∙ looking.compared_same v t.aux x i (λ z. omega arith) (omega (arith, f.k)) (sym (word i h) ∙ eqb-true _ _ q ∙ word_same)
        held p h false q =
            sym (looking.compared_other u s.aux x i (λ z. omega arith) h (eqb-false _ _ q))
            ∙ looking.compared_other v t.aux x i (λ z. omega arith) (omega (arith, f.k)) (λ z. eqb-false _ _ q (word i h ∙ z ∙ sym word_same))

        within : i ≤ u.k → compared u s.aux x i ≡ compared v t.aux x i
        within h =
            ⊎_elim (λ z. sym (looking.compared_none u s.aux x i z) ∙ looking.compared_none v t.aux x i z)
            (λ p. held p h (eqb (get_or s.aux i 0) (word_in u x)) refl) (eq-zero-or-pos i)

    answer_same : answer u s x ≡ answer v t x
    answer_same = ⊎_elim out into (le_or_lt u.cells (cell_in u s x))
      where
        out : u.cells ≤ cell_in u s x → answer u s x ≡ answer v t x
        out h = sym (looking.answer_out u s x (cell_in u s x) refl h) ∙ looking.answer_out v t x (cell_in u s x) cell_same (omega (arith, f.cells))

        into : cell_in u s x < u.cells → answer u s x ≡ answer v t x
        into h =
            sym (looking.answer_in u s x (cell_in u s x) refl h)
            ∙ compared_same (get_or s.g (cell_in u s x) 0)
            ∙ ap (compared v t.aux x) (in_range s.g t.g e.g f.cells h)
            ∙ looking.answer_in v t x (cell_in u s x) cell_same (omega (arith, f.cells))

    lookup_same : lookup_of u s x ≡ lookup_of v t x
    lookup_same =
        let w : 2 ^ u.n ≡ 2 ^ v.n = ap (λ (i : ℕ). 2 ^ i) f.n in
        ⊎_elim (λ h. sym (looking.lookup_beyond u s x S.well_formed_lem h) ∙ looking.lookup_beyond v t x T.well_formed_lem (omega arith))
        (λ h. sym (looking.lookup_answer u s x S.well_formed_lem h) ∙ answer_same ∙ looking.lookup_answer v t x T.well_formed_lem (omega arith)) (le_or_lt (2 ^ u.n) x)

  -- ---- recovery

  row_low : (w : ℕ) → row_in u w < rows_in u
  row_low w = mod-lt w (pow_pos u.n1)

  vector_same : (w cell : ℕ) → vector_at u s w cell ≡ vector_at v t w cell
  unfolding vector_at
  vector_same w cell =
      let d : get_or s.h (row_in u w) 0 ≡ get_or t.h (row_in v w) 0 = displacement (row_in u w) (row_low w) ∙ ap (λ (i : ℕ). get_or t.h (w % 2 ^ i) 0) f.n1 in
      let p : sound u s ≡ sound v t = hu ∙ sym hv in
      let q : fixes u s w cell ≡ fixes v t w cell = cc (d, p, f.n, f.p, f.n1) in
      let r : vector_of u.n u.n1 (kinds_in u) u.kept w (cell - get_or s.h (row_in u w) 0) ≡ vector_of v.n v.n1 (kinds_in v) v.kept w (cell - get_or t.h (row_in v w) 0) =
      cc (d, f.n, f.n1, f.variables, f.kept) in
      ap₂ (λ (b : Bool) (x : ℕ). elim b as (λ b. Recovered) [ false ↦ not_recovered 14 | true ↦ recovered x ]) q r

  from_same : (w m : ℕ) → from_cell u s w m ≡ from_cell v t w m
  unfolding from_cell
  from_same w zero = refl
  from_same w (suc cell) = vector_same w cell

  recover_same : (i : ℕ) → recover_of u s i ≡ recover_of v t i
  recover_same i = go (outside 1 u.k i) refl
    where
      o : outside 1 u.k i ≡ outside 1 v.k i
      o = ap (λ (k : ℕ). outside 1 k i) f.k

      first : first_cell u s i ≡ first_cell v t i
      first = ap (λ (l : List ℕ). first_of (λ before w. eqb (index_in w) i) l) e.g

      go : (b : Bool) → outside 1 u.k i ≡ b → recover_of u s i ≡ recover_of v t i
      go true q = sym (recover_outside u s i S.well_formed_lem q) ∙ recover_outside v t i T.well_formed_lem (sym o ∙ q)
      go false q =
          sym (recover_from u s i S.well_formed_lem q)
          ∙ from_same (get_or s.aux i 0) (first_cell u s i)
          ∙ ap₂ (from_cell v t) (word i (ltb-false u.k i (or_false (ltb i 1) (ltb u.k i) q).1)) first
          ∙ recover_from v t i T.well_formed_lem (sym o ∙ q)

  pub same_answers : SameAnswers u s v t
  same_answers = record { lookups = lookup_same; recoveries = recover_same }

-- ---- carried

-- words that fit are those of the unit that was written
whole_again : (m : ℕ) (l a : List ℕ) → l ≡ take m a → length (take m a) ≡ m → take m a ≡ take m l
whole_again m l a e n = sym e ∙ sym (take_all m l (omega (arith, ap length e)))

module _ (u : Record) (t : Tables) (h : sound u t ≡ true) (f : WordsFit u t) where
  pub carried_same : SameUnit u t (carried_record u) (carried_tables u t)
  unfolding record_of
  carried_same =
      let w : Whole u (take (rows_in u) t.h) (take u.cells t.g) (take (words_in u) t.aux) = whole u t h in
      record {
        fields = record_same u t h;
        h = whole_again (rows_in u) (carried_tables u t).h t.h (h_whole u t f) w.rows;
        g = whole_again u.cells (carried_tables u t).g t.g (g_whole u t f) w.cells;
        aux = whole_again (words_in u) (carried_tables u t).aux t.aux (aux_whole u t f) w.words;
      }

  pub carried_answers : SameAnswers (record_in (file_of u t)) (tables_in (record_in (file_of u t)) (file_of u t)) u t
  carried_answers =
      let a : SameAnswers u t (carried_record u) (carried_tables u t) = same_answers u (carried_record u) t (carried_tables u t) carried_same h (carried_sound u t h) in
      rw (tables_read u t h, record_read u t h) (record { lookups = λ x. sym (a.lookups x); recoveries = λ i. sym (a.recoveries i) })
