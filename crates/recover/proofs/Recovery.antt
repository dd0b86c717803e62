-- Recovery case by case, and the one vector that it answers with. Assumes nothing.
use Prim.Native.Nat.{ℕ, zero, suc, ◌+◌, ◌-◌, ◌^◌, ◌≤◌, ◌<◌}
use native.Mathlib.Omega.{arith}
use mathlib.Core.Path.{◌≡◌, refl, sym, ap, ◌∙◌}
use mathlib.Core.Bool.{Bool, true, false, ◌&&◌}
use borrow.Author.Tests.{le-leb, lt-leb}
use Rattle.std.specs.Prelude.{Option, None, Some}
use Rattle.std.specs.Option.{ok_or}
use Rattle.refusal.specs.declared.Refusal.TheVariants.{NoUnit}
use lib.Dec.{ltb}
use lib.ListN.{length, get_or, take}
use lib.Seq.{get_or-take, length-take-le}
use Rattle.lists.proofs.Tests.{and_true}
use Rattle.lists.proofs.Finding.Equals.{FirstEqual, first_equal}
use Rattle.vectors.specs.Variable.{row_of, column_of}
use Rattle.vectors.specs.Word.{word_of}
use Rattle.vectors.proofs.Words.Laws.{word_row}
use Rattle.span.specs.Span.{first_dependent, sound_of}
use Rattle.span.specs.Fixed as span
use Rattle.span.specs.Fixed.{vector_of, found_by}
use Rattle.span.proofs.Labels.Edges.{all_edges}
use Rattle.span.proofs.Fixed.{Fixed, vector_is, vector_one, sound_facts, found_fixed, found_nothing}
use Rattle.record.specs.declared.Record.{Record}
use Rattle.recover.specs.Recover.{Recovered}
use Rattle.vectors.specs.Bounds.{outside}
use Rattle.record.specs.Record.{kinds_in}
use Rattle.record.specs.Tables.{Tables, index_in}
use Rattle.record.specs.Formed.{well_formed, sound}
use Rattle.record.specs.Leads.{word_in, cell_in}
use Rattle.record.specs.Inner.Formed.{WellFormed}
use Rattle.record.proofs.Formed.{well_formed_facts}
use Rattle.record.proofs.Soundness.{Sound, sound_says}
use Rattle.recover.specs.Inner.Fixed.{answered, vector_in}
use Rattle.recover.proofs.Charts.{Charted, charted}
use Rattle.recover.specs.Recover.{recovered, not_recovered, told, first_cell, row_in, in_chart, fixes, vector_at, from_cell, recover_of}

-- ---- the cell

module _ (u : Record) (t : Tables) (word : ℕ) where
  pub from_none : (number : ℕ) → number ≡ 0 → not_recovered 14 ≡ from_cell u t word number
  unfolding from_cell
  from_none number e = rw e

  pub from_some : (number : ℕ) → (number ≡ 0 → ⊥) → vector_at u t word (number - 1) ≡ from_cell u t word number
  unfolding from_cell
  from_some zero n = absurd (n refl)
  from_some (suc cell) n = let e : suc cell - 1 ≡ cell = omega arith in ap (vector_at u t word) e

  pub from_held : (number cell : ℕ) → number ≡ suc cell → vector_at u t word cell ≡ from_cell u t word number
  unfolding from_cell
  from_held number cell e = rw e

-- ---- the displacement of the row

module _ (u : Record) (t : Tables) (word cell : ℕ) where
  pub vector_low : cell < get_or t.h (row_in u word) 0 → not_recovered 14 ≡ vector_at u t word cell
  unfolding vector_at
  vector_low h = rw (lt-leb (get_or t.h (row_in u word) 0) cell h, vector_at)

  pub vector_high : well_formed u t ≡ true → get_or t.h (row_in u word) 0 ≤ cell
      → vector_in u word (cell - get_or t.h (row_in u word) 0) ≡ vector_at u t word cell
  unfolding vector_at vector_in sound
  vector_high f h = rw (le-leb (get_or t.h (row_in u word) 0) cell h, f, vector_at)

-- ---- the column, the word and the kept inputs

module _ (u : Record) (word column : ℕ) (size : length (kinds_in u) ≡ u.p) (rows : u.n1 ≤ u.p) where
  turned : (a b c : Bool) → ((a && b) && c) ≡ ((a && c) && b)
  turned false b c = refl
  turned true false false = refl
  turned true false true = refl
  turned true true false = refl
  turned true true true = refl

  abbrev fixing : Bool
  fixing = ltb column (2 ^ (u.p - u.n1)) && ltb word (2 ^ (u.n1 + u.n - u.p)) && sound_of u.n (kinds_in u) u.kept

  fixes_same : span.fixes u.n u.n1 (kinds_in u) u.kept word column ≡ fixing
  fixes_same = rw (size, le-leb u.n1 u.p rows) (turned (ltb column (2 ^ (u.p - u.n1))) (sound_of u.n (kinds_in u) u.kept) (ltb word (2 ^ (u.n1 + u.n - u.p))))

  -- what is found is the answer
  pub vector_found : (f : Option ℕ) → f ≡ found_by u.n u.n1 (kinds_in u) u.kept word column → answered f ≡ vector_in u word column
  unfolding vector_in
  vector_found f e = e' fixing refl
    where
      e' : (b : Bool) → fixing ≡ b → answered f ≡ vector_in u word column
      e' true b = ap answered (e ∙ sym (found_fixed u.n u.n1 (kinds_in u) u.kept word column (fixes_same ∙ b))) ∙ rw (b, vector_in)
      e' false b = ap answered (e ∙ sym (found_nothing u.n u.n1 (kinds_in u) u.kept word column (fixes_same ∙ b))) ∙ rw (b, vector_in)

-- as the code answers with it
pub told_found : (f : Option ℕ) → told (ok_or f NoUnit) ≡ answered f
told_found (Some x) = refl
told_found None = refl

-- ---- the tests before

module _ (u : Record) (t : Tables) (i : ℕ) where
  pub recover_unformed : well_formed u t ≡ false → not_recovered 14 ≡ recover_of u t i
  unfolding recover_of
  recover_unformed f = rw (f, recover_of)

  pub recover_outside : well_formed u t ≡ true → outside 1 u.k i ≡ true → not_recovered 15 ≡ recover_of u t i
  unfolding recover_of
  recover_outside f o = rw (f, recover_of) (rw o)

  pub recover_from : well_formed u t ≡ true → outside 1 u.k i ≡ false → from_cell u t (get_or t.aux i 0) (first_cell u t i) ≡ recover_of u t i
  unfolding recover_of
  recover_from f o = rw (f, recover_of) (rw o)

-- ---- the answer is one vector

-- v has the word AUX[i] and leads to the first cell that holds i, and no other vector of n bits does both
pub record OneVector (u : Record) (t : Tables) (i v : ℕ) : Type 0 where
  pub is_sound : sound u t ≡ true
  pub answer : recover_of u t i ≡ recovered v
  pub below : v < 2 ^ u.n
  pub word_is : word_in u v ≡ get_or t.aux i 0
  pub row_is : row_of u.n1 (kinds_in u) v ≡ row_in u (get_or t.aux i 0)
  pub first : first_cell u t i ≡ suc (cell_in u t v)
  pub column_is : column_of u.n1 (kinds_in u) v ≡ first_cell u t i - 1 - get_or t.h (row_in u (get_or t.aux i 0)) 0
  pub cell_below : cell_in u t v < u.cells
  pub holds : index_in (get_or t.g (cell_in u t v) 0) ≡ i
  pub only : (x : ℕ) → x < 2 ^ u.n → word_in u x ≡ get_or t.aux i 0 → cell_in u t x ≡ cell_in u t v → x ≡ v

module _ (u : Record) (t : Tables) (i : ℕ) where
  abbrev word : ℕ
  word = get_or t.aux i 0

  abbrev displacement : ℕ
  displacement = get_or t.h (row_in u word) 0

  abbrev vector : ℕ → ℕ
  vector cell = vector_of u.n u.n1 (kinds_in u) u.kept word (cell - displacement)

  vector_answer : (cell : ℕ) → fixes u t word cell ≡ true → vector_at u t word cell ≡ recovered (vector cell)
  unfolding vector_at
  vector_answer cell f = rw (f, vector_at)

  vector_refused : (cell : ℕ) → fixes u t word cell ≡ false → not_recovered 14 ≡ vector_at u t word cell
  unfolding vector_at
  vector_refused cell f = rw (f, vector_at)

  cell_vector : (cell : ℕ) → vector_at u t word cell ≡ from_cell u t word (suc cell)
  unfolding from_cell
  cell_vector cell = refl

  module _ (w : WellFormed u t) (cell : ℕ) (e : first_cell u t i ≡ suc cell) (f : fixes u t word cell ≡ true) where
    chart : (in_chart u t.h word cell ≡ true) × (sound u t ≡ true)
    chart = and_true (in_chart u t.h word cell) (sound u t) f

    S : Sound u t
    S = sound_says u t chart.1

    C : Charted u t.h word cell
    C = charted u t.h word cell chart.0

    independent : first_dependent (kinds_in u) ≡ 0
    unfolding sound
    independent = (sound_facts u.n (kinds_in u) u.kept (and_true (well_formed u t) (sound_of u.n (kinds_in u) u.kept) chart.1).1).0

    -- the vector has the word and the column
    fixed : Fixed u.n u.n1 (kinds_in u) word (cell - displacement) (vector cell)
    fixed =
        let hw : word < 2 ^ (u.n1 + u.n - length (kinds_in u)) = rw S.variables C.word_in in
        let hc : cell - displacement < 2 ^ (length (kinds_in u) - u.n1) = rw S.variables C.column_in in
        rw S.kept_is (vector_is u.n u.n1 (kinds_in u) word (cell - displacement) (all_edges u.n (kinds_in u) w.inputs.right) independent S.rows_in hw hc)

    has_word : word_in u (vector cell) ≡ word
    has_word = ap (λ (m : ℕ). word_of u.n u.n1 (kinds_in u) m (vector cell)) S.kept_is ∙ fixed.word_is

    -- the row of a vector that has the word
    row_of_lem : (x : ℕ) → word_in u x ≡ word → row_of u.n1 (kinds_in u) x ≡ row_in u word
    row_of_lem x q = sym (word_row u.n u.n1 (kinds_in u) u.kept x S.rows_in) ∙ ap (row_in u) q

    -- the cell of a vector that has the word
    cell_of : (x : ℕ) → word_in u x ≡ word → cell_in u t x ≡ displacement + column_of u.n1 (kinds_in u) x
    cell_of x q = ap (λ (r : ℕ). get_or t.h r 0 + column_of u.n1 (kinds_in u) x) (row_of_lem x q)

    cell_is : cell_in u t (vector cell) ≡ cell
    cell_is = omega (arith, cell_of (vector cell) has_word, fixed.column_is, C.placed)

    held : FirstEqual (take u.cells t.g) i cell
    held = first_equal (take u.cells t.g) i cell e

    within : cell < u.cells
    within = rw (length-take-le u.cells t.g S.cells_held) at held.below

    vector_one_of : recover_of u t i ≡ recovered (vector cell) → OneVector u t i (vector cell)
    vector_one_of a =
        record {
          is_sound = chart.1;
          answer = a;
          below = fixed.below;
          word_is = has_word;
          row_is = row_of_lem (vector cell) has_word;
          first = e ∙ ap suc (sym cell_is);
          column_is = omega (arith, fixed.column_is, e);
          cell_below = rw cell_is within;
          holds = rw cell_is (sym (get_or-take u.cells t.g cell 0 within) ∙ held.equal);
          only = λ x b q h.
              let c : column_of u.n1 (kinds_in u) x ≡ cell - displacement = omega (arith, cell_of x q, h, cell_is) in
              sym
              (ap (λ (m : ℕ). vector_of u.n u.n1 (kinds_in u) m word (cell - displacement)) S.kept_is
              ∙ vector_one u.n u.n1 (kinds_in u) word (cell - displacement) x S.rows_in
              (record { below = b; word_is = ap (λ (m : ℕ). word_of u.n u.n1 (kinds_in u) m x) (sym S.kept_is) ∙ q; column_is = c }));
        }

  -- where recovery refuses nothing, its vector is the one vector that the cell and the word fix
  pub recovered_one : (recover_of u t i).refusal ≡ 0 → OneVector u t i (recover_of u t i).vector
  recovered_one z = formed (well_formed u t) refl
    where
      refused : {number : ℕ} → not_recovered number ≡ recover_of u t i → number ≡ 0
      refused e = ap (λ (r : Recovered). r.refusal) e ∙ z

      fixing : WellFormed u t → (cell : ℕ) → first_cell u t i ≡ suc cell → vector_at u t word cell ≡ recover_of u t i → (b : Bool) → fixes u t word cell ≡ b
          → OneVector u t i (recover_of u t i).vector
      fixing w cell e q true f =
          let a : recover_of u t i ≡ recovered (vector cell) = sym q ∙ vector_answer cell f in
          rw (ap (λ (r : Recovered). r.vector) a) (vector_one_of w cell e f a)
      fixing w cell e q false f = absurd (omega (arith, refused (vector_refused cell f ∙ q)))

      celled : WellFormed u t → (m : ℕ) → first_cell u t i ≡ m → from_cell u t word m ≡ recover_of u t i → OneVector u t i (recover_of u t i).vector
      celled w zero e q = absurd (omega (arith, refused (from_none u t word 0 refl ∙ q)))
      celled w (suc cell) e q = fixing w cell e (cell_vector cell ∙ q) (fixes u t word cell) refl

      numbered : well_formed u t ≡ true → (b : Bool) → outside 1 u.k i ≡ b → OneVector u t i (recover_of u t i).vector
      numbered f true o = absurd (omega (arith, refused (recover_outside u t i f o)))
      numbered f false o = celled (well_formed_facts u t f) (first_cell u t i) refl (recover_from u t i f o)

      formed : (b : Bool) → well_formed u t ≡ b → OneVector u t i (recover_of u t i).vector
      formed false f = absurd (omega (arith, refused (recover_unformed u t i f)))
      formed true f = numbered f (outside 1 u.k i) refl
