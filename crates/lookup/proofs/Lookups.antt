-- The answer of a lookup, case by case. Assumes nothing.
use Prim.Native.Nat.{ℕ, zero, suc, ◌+◌, ◌-◌, ◌*◌, ◌/◌, ◌%◌, ◌^◌, ◌≤◌, ◌<◌}
use native.Mathlib.Nat.{mul_comm}
use native.Mathlib.Omega.{arith}
use mathlib.Core.Path.{◌≡◌, refl, sym, ap, ap₂, ◌∙◌}
use mathlib.Core.Bool.{Bool, true, false}
use mathlib.Core.List.{List}
use borrow.Author.Tests.{lt-ltb, le-ltb, le-leb, lt-leb, eq-eqb, ne_eqb}
use lib.ListN.{get_or}
use lib.Pow.{high, low, split}
use Rattle.vectors.specs.Variable.{row_of}
use Rattle.vectors.specs.Word.{pack_in, word_of}
use Rattle.vectors.proofs.Words.Packing.{pack_more}
use Rattle.record.specs.declared.Record.{Record}
use Rattle.vectors.specs.Bounds.{max_inputs}
use Rattle.record.specs.Record.{kinds_in}
use Rattle.record.specs.Tables.{Tables}
use Rattle.lookup.specs.Lookup.{found, not_found, compared, answer, lookup_of}
use Rattle.record.specs.Leads.{word_in, cell_in}
use Rattle.record.specs.Formed.{well_formed}
use Rattle.record.specs.Inner.Formed.{InBounds, RightInputs}

-- ---- the cell

module _ (u : Record) (t : Tables) (x cell : ℕ) (e : cell ≡ cell_in u t x) where
  pub answer_out : u.cells ≤ cell → found 0 ≡ answer u t x
  unfolding answer
  answer_out h = rw (le-ltb (cell_in u t x) u.cells (rw e at h), answer)

  pub answer_in : cell < u.cells → compared u t.aux x (get_or t.g cell 0) ≡ answer u t x
  unfolding answer
  answer_in h = rw (lt-ltb (cell_in u t x) u.cells (rw e at h), answer) (ap (λ (c : ℕ). compared u t.aux x (get_or t.g c 0)) e)

-- ---- the index

module _ (u : Record) (aux : List ℕ) (x : ℕ) where
  pub compared_none : (i : ℕ) → i ≡ 0 → found 0 ≡ compared u aux x i
  unfolding compared
  compared_none i e = rw e

  pub compared_above : (i : ℕ) → u.k < i → not_found 14 ≡ compared u aux x i
  unfolding compared
  compared_above zero h = absurd (omega arith)
  compared_above (suc i) h = rw (lt-leb (suc i) u.k h, compared)

  pub compared_other : (i : ℕ) → (i ≡ 0 → ⊥) → i ≤ u.k → (get_or aux i 0 ≡ word_in u x → ⊥) → found 0 ≡ compared u aux x i
  unfolding compared
  compared_other zero n h d = absurd (n refl)
  compared_other (suc i) n h d = rw (le-leb (suc i) u.k h, compared) (ap (λ (same : Bool). elim same [ true ↦ found (suc i) | false ↦ found 0 ]) (sym (ne_eqb (get_or aux (suc i) 0) (word_in u x) d)))

  pub compared_same : (i : ℕ) → (i ≡ 0 → ⊥) → i ≤ u.k → get_or aux i 0 ≡ word_in u x → found i ≡ compared u aux x i
  unfolding compared
  compared_same zero n h d = absurd (n refl)
  compared_same (suc i) n h d = rw (le-leb (suc i) u.k h, compared) (rw (eq-eqb (get_or aux (suc i) 0) (word_in u x) d))

-- ---- the word, as its row and the kept inputs above it

module _ (u : Record) (x row : ℕ) (b : InBounds u) (r : RightInputs u) (e : row ≡ row_of u.n1 (kinds_in u) x) (l : row < 2 ^ u.n1) where
  -- the word of x
  word_is : word_in u x ≡ pack_in max_inputs u.kept x * 2 ^ u.n1 + row
  unfolding word_of
  word_is =
      let s : u.n + (max_inputs - u.n) ≡ max_inputs = omega (arith, b.inputs) in
      let p : pack_in u.n u.kept x ≡ pack_in max_inputs u.kept x =
      sym (pack_more u.n (max_inputs - u.n) u.kept x r.kept_in) ∙ ap (λ (d : ℕ). pack_in d u.kept x) s in
      ap₂ (λ (v w : ℕ). v + 2 ^ u.n1 * w) (sym e) p ∙ omega (arith, mul_comm (2 ^ u.n1) (pack_in max_inputs u.kept x))

  pub word_row : (held : ℕ) → held ≡ word_in u x → held % 2 ^ u.n1 ≡ row
  word_row held f = ap (λ (w : ℕ). w % 2 ^ u.n1) (f ∙ word_is) ∙ low (pack_in max_inputs u.kept x) u.n1 l

  pub word_rest : (held : ℕ) → held ≡ word_in u x → held / 2 ^ u.n1 ≡ pack_in max_inputs u.kept x
  word_rest held f = ap (λ (w : ℕ). w / 2 ^ u.n1) (f ∙ word_is) ∙ high (pack_in max_inputs u.kept x) u.n1 l

  -- a word with the row and the kept inputs of x is the word of x
  pub word_same : (held : ℕ) → held % 2 ^ u.n1 ≡ row → held / 2 ^ u.n1 ≡ pack_in max_inputs u.kept x → held ≡ word_in u x
  word_same held f g = sym (split held u.n1) ∙ ap₂ (λ (v w : ℕ). v * 2 ^ u.n1 + w) g f ∙ sym word_is

-- ---- the tests before the answer

module _ (u : Record) (t : Tables) (x : ℕ) where
  pub lookup_unformed : well_formed u t ≡ false → not_found 14 ≡ lookup_of u t x
  unfolding lookup_of
  lookup_unformed f = rw (f, lookup_of)

  pub lookup_beyond : well_formed u t ≡ true → 2 ^ u.n ≤ x → not_found 6 ≡ lookup_of u t x
  unfolding lookup_of
  lookup_beyond f h = rw (f, lookup_of) (rw (le-ltb x (2 ^ u.n) h))

  pub lookup_answer : well_formed u t ≡ true → x < 2 ^ u.n → answer u t x ≡ lookup_of u t x
  unfolding lookup_of
  lookup_answer f h = rw (f, lookup_of) (rw (lt-ltb x (2 ^ u.n) h))
