-- Recovery from a unit that holds a list is exact. Assumes nothing.
use Prim.Native.Nat.{ℕ, suc, ◌+◌, ◌-◌, ◌^◌, ◌≤◌, ◌<◌}
use native.Mathlib.Omega.{arith}
use mathlib.Core.Path.{◌≡◌, refl, sym, ap, ◌∙◌}
use mathlib.Core.Bool.{true}
use mathlib.Core.List.{List}
use lib.Count.{ones}
use lib.ListN.{length, get_or, take}
use lib.Seq.{get_or-take, length-take-le}
use borrow.Author.Tests.{lt-ltb, le-ltb, le-leb}
use Rattle.lists.proofs.Finding.Equals.{equal_first}
use Rattle.vectors.specs.Variable.{row_of, column_of}
use Rattle.vectors.proofs.Variables.Numbers.{column_lt}
use Rattle.vectors.proofs.Words.Laws.{word_row, word_lt}
use Rattle.span.proofs.Fixed.{vector_one}
use Rattle.record.specs.declared.Record.{Record}
use Rattle.record.specs.Record.{kinds_in}
use Rattle.record.specs.Tables.{Tables}
use Rattle.record.specs.Leads.{word_in, cell_in}
use Rattle.recover.specs.Recover.{recovered, first_cell, row_in, fixes, vector_at, from_cell, recover_of}
use Rattle.record.specs.Holds.{Holds}
use Rattle.record.proofs.Soundness.{Sound, sound_says}

module _ (u : Record) (t : Tables) (vs : List ℕ) (H : Holds u t vs) where
  S : Sound u t
  S = sound_says u t H.is_sound

  module _ (i : ℕ) (h : i < length vs) where
    abbrev v : ℕ
    v = get_or vs i 0

    -- the cell of vector i is the first that holds its index
    first_cell_is : first_cell u t (suc i) ≡ suc (cell_in u t v)
    first_cell_is =
        let c = H.lies i h in
        equal_first (take u.cells t.g) (suc i) (cell_in u t v)
        (record {
          below = rw (length-take-le u.cells t.g S.cells_held) c.0;
          equal = get_or-take u.cells t.g (cell_in u t v) 0 c.0 ∙ c.1;
          first = λ a l e.
              let b : a < u.cells = omega (arith, c.0) in
              let q : get_or t.g a 0 ≡ suc i = sym (get_or-take u.cells t.g a 0 b) ∙ e in
              let p = H.leads a b (λ z. omega arith) in
              let z : p.entry ≡ i = omega (arith, p.holds) in
              omega (arith, rw z at p.there);
        })

    row_is : row_in u (word_in u v) ≡ row_of u.n1 (kinds_in u) v
    row_is = word_row u.n u.n1 (kinds_in u) u.kept v S.rows_in

    column_is : cell_in u t v - get_or t.h (row_in u (word_in u v)) 0 ≡ column_of u.n1 (kinds_in u) v
    column_is = rw row_is (omega arith)

    does_fix : fixes u t (word_in u v) (cell_in u t v) ≡ true
    does_fix =
        let a : get_or t.h (row_in u (word_in u v)) 0 ≤ cell_in u t v = rw row_is (omega arith) in
        let b : cell_in u t v - get_or t.h (row_in u (word_in u v)) 0 < 2 ^ (u.p - u.n1) =
        omega (arith, column_is, column_lt u.n1 (kinds_in u) v, ap (λ (p : ℕ). 2 ^ (p - u.n1)) S.variables) in
        let r : u.n1 + ones u.kept ≤ u.n1 + u.n - u.p = omega (arith, S.kept_count) in
        let w : word_in u v < 2 ^ (u.n1 + u.n - u.p) = word_lt u.n u.n1 (kinds_in u) u.kept v S.rows_in (u.n1 + u.n - u.p) S.kept_in r in
        rw (le-leb _ _ a, lt-ltb _ _ b, lt-ltb _ _ w, H.is_sound)

    at_cell : vector_at u t (word_in u v) (cell_in u t v) ≡ recovered v
    unfolding vector_at
    at_cell = rw (does_fix, vector_at) (ap recovered (rw (column_is, S.kept_is) (vector_one u.n u.n1 (kinds_in u) _ _ v S.rows_in (record { below = H.within i h; word_is = refl; column_is = refl }))))

    -- recovery of the number of a vector gives the vector
    pub holds_recover : recover_of u t (suc i) ≡ recovered (get_or vs i 0)
    unfolding recover_of from_cell
    holds_recover =
        rw (S.well_formed_lem, le-ltb (suc i) 1 (omega arith), le-ltb u.k (suc i) (omega (arith, H.vectors)), H.words i h, first_cell_is, recover_of) at_cell
