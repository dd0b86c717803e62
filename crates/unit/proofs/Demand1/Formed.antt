-- The tests of a well-formed and of a sound unit say what SCOPE 13.1 and 13.2 say. Assumes nothing.
use Prim.Native.Nat.{ℕ, ◌-◌, ◌^◌, ◌≤◌}
use mathlib.Core.Path.{◌≡◌, sym, ◌∙◌}
use mathlib.Core.Bool.{Bool, true, false, not, ◌&&◌, true≢false}
use lib.Count.{ones}
use lib.ListN.{length}
use borrow.Author.Tests.{eq-eqb, le-leb, lt-ltb, le-ltb}
use Rattle.lists.proofs.Tests.{and_true}
use Rattle.lists.proofs.Finding.NonePass.{all_none}
use Rattle.vectors.specs.Bounds.{max_inputs, max_vectors, max_cells, max_variables, max_side, outside, too_many}
use Rattle.vectors.specs.Variable.{faulty, first_faulty}
use Rattle.span.specs.Span.{kept, first_dependent, sound_of}
use Rattle.span.proofs.Fixed.{sound_facts}
use Rattle.record.specs.declared.Record.{Record}
use Rattle.record.specs.Record.{kinds_in}
use Rattle.record.specs.Tables.{Tables}
use Rattle.record.specs.Formed.{well_formed, sound}
use Rattle.record.proofs.Formed.{well_formed_facts, formed_numbers}
use Rattle.unit.specs.Demand1.{Formed, Sound}
use Rattle.unit.proofs.Demand1.Checks.{none_dependent, dependent_none}

both : {a b : Bool} → a ≡ true → b ≡ true → (a && b) ≡ true
both {a} {b} p q = rw (p, q)

within : (low high x : ℕ) → low ≤ x → x ≤ high → not (outside low high x) ≡ true
within low high x a b = rw (le-ltb x low a, le-ltb high x b)

not_many : (p n1 : ℕ) → p ≤ max_variables → n1 ≤ p → n1 ≤ max_side → p - n1 ≤ max_side → not (too_many p n1) ≡ true
not_many p n1 a b c d = rw (le-ltb max_variables p a, le-ltb p n1 b, le-ltb max_side n1 c, le-ltb max_side (p - n1) d)

module _ (u : Record) (t : Tables) where
  pub formed_yes : well_formed u t ≡ true → Formed u t
  formed_yes h =
      let b = formed_numbers u t h in
      let s = b.sides in
      let w = well_formed_facts u t h in
      record {
        inputs = b.inputs;
        vectors = b.vectors;
        some_cells = b.cells;
        few = (b.within, s.all_few);
        sides = (s.rows_in, s.rows_few, s.columns_few);
        none_faulty = w.inputs.right;
        kept_right = (w.inputs.kept_number, w.inputs.kept_in);
        long_enough = (w.rows_held, w.cells_held, w.words_held);
      }

  yes_formed : Formed u t → well_formed u t ≡ true
  unfolding well_formed
  yes_formed f =
      both
      (both
      (both
      (both
      (both
      (both (within 1 max_inputs u.n f.inputs.0 f.inputs.1) (within 1 max_vectors u.k f.vectors.0 f.vectors.1))
      (within 1 max_cells u.cells f.some_cells.0 f.some_cells.1))
      (le-leb u.p u.n f.few.0))
      (not_many u.p u.n1 f.few.1 f.sides.0 f.sides.1 f.sides.2))
      (both
      (both
      (eq-eqb (first_faulty u.n (kinds_in u)) 0 (all_none (faulty u.n) (kinds_in u) f.none_faulty))
      (eq-eqb (ones u.kept) (u.n - u.p) f.kept_right.0))
      (lt-ltb u.kept (2 ^ u.n) f.kept_right.1)))
      (both
      (both (le-leb (2 ^ u.n1) (length t.h) f.long_enough.0) (le-leb u.cells (length t.g) f.long_enough.1))
      (lt-ltb u.k (length t.aux) f.long_enough.2))

  pub formed_no : well_formed u t ≡ false → Formed u t → ⊥
  formed_no e f = true≢false (sym (yes_formed f) ∙ e)

  pub sound_yes : sound u t ≡ true → Sound u t
  unfolding sound
  sound_yes h =
      let a = and_true (well_formed u t) (sound_of u.n (kinds_in u) u.kept) h in
      let s = sound_facts u.n (kinds_in u) u.kept a.1 in
      record { formed = formed_yes a.0; independent = none_dependent (kinds_in u) s.0; kept_are = s.1 }

  pub sound_no : sound u t ≡ false → Sound u t → ⊥
  unfolding sound sound_of
  sound_no e s =
      true≢false
      (sym
      (both (yes_formed s.formed)
      (both (eq-eqb (first_dependent (kinds_in u)) 0 (dependent_none (kinds_in u) s.independent)) (eq-eqb u.kept (kept u.n (kinds_in u)) s.kept_are)))
      ∙ e)
