-- Lookup in a unit that holds a list is exact. Assumes nothing.
use Prim.Native.Nat.{ℕ, zero, suc, ◌^◌, ◌≤◌, ◌<◌}
use native.Mathlib.Omega.{arith}
use mathlib.Core.Path.{◌≡◌, refl, sym, ap, ◌∙◌}
use mathlib.Core.Bool.{Bool, true, false}
use mathlib.Core.List.{List}
use mathlib.Core.Logic.{◌⊎◌, inl, inr}
use lib.Dec.{eqb}
use lib.ListN.{length, get_or}
use borrow.Author.Tests.{eqb-true, eqb-false}
use Rattle.lists.proofs.Tests.{le_or_lt}
use Rattle.lists.proofs.Finding.Equals.{equal_first, equal_none, first_equal}
use Rattle.vectors.specs.Variable.{row_of}
use Rattle.vectors.proofs.Words.Laws.{word_parts}
use Rattle.span.proofs.Unique.{one_vector}
use Rattle.record.specs.declared.Record.{Record}
use Rattle.lookup.specs.Lookup.{Found}
use Rattle.record.specs.Record.{kinds_in}
use Rattle.record.specs.Tables.{Tables}
use Rattle.lookup.specs.Lookup.{found, compared, answer, lookup_of}
use Rattle.record.specs.Leads.{word_in, cell_in}
use Rattle.record.specs.Holds.{Leads, Holds, index_of}
use Rattle.lookup.proofs.Lookups.{answer_out, answer_in, compared_same, compared_other, lookup_answer}
use Rattle.record.proofs.Soundness.{Sound, sound_says}

module _ (u : Record) (t : Tables) (vs : List ℕ) (H : Holds u t vs) where
  S : Sound u t
  S = sound_says u t H.is_sound

  -- ---- lookup

  -- a key that equals a vector leads to the vector's cell
  in_cell : (x j : ℕ) → j < length vs → get_or vs j 0 ≡ x → (cell_in u t x < u.cells) × (get_or t.g (cell_in u t x) 0 ≡ suc j)
  in_cell x j h e = rw e at (H.lies j h)

  -- two vectors with one word and one cell are equal
  same_vector : (v x : ℕ) → v < 2 ^ u.n → x < 2 ^ u.n → word_in u v ≡ word_in u x → cell_in u t v ≡ cell_in u t x → v ≡ x
  same_vector v x hv hx w c =
      let r = (word_parts u.n u.n1 (kinds_in u) u.kept v x S.rows_in w).0 in
      let d : get_or t.h (row_of u.n1 (kinds_in u) v) 0 ≡ get_or t.h (row_of u.n1 (kinds_in u) x) 0 = ap (λ (q : ℕ). get_or t.h q 0) r in
      one_vector u.n u.n1 (kinds_in u) v x S.rows_in hv hx (rw S.kept_is at w) (omega arith)

  -- lookup of any key gives the number of the vector that equals it, else zero
  pub holds_lookup : (x : ℕ) → x < 2 ^ u.n → lookup_of u t x ≡ found (index_of vs x)
  unfolding compared
  holds_lookup x l = sym (lookup_answer u t x S.well_formed_lem l) ∙ go (le_or_lt u.cells (cell_in u t x))
    where
      none : ((j : ℕ) → j < length vs → get_or vs j 0 ≡ x → ⊥) → found 0 ≡ found (index_of vs x)
      none n = ap found (sym (equal_none vs x n))

      at : cell_in u t x < u.cells → (w : ℕ) → get_or t.g (cell_in u t x) 0 ≡ w → compared u t.aux x w ≡ found (index_of vs x)
      at c zero q = none (λ j h e. omega (arith, (in_cell x j h e).1))
      at c (suc i) q = by (eqb (get_or t.aux (suc i) 0) (word_in u x)) refl
        where
          p : Leads u t vs (cell_in u t x)
          p = H.leads (cell_in u t x) c (λ z. omega arith)

          is : p.entry ≡ i
          is = omega (arith, p.holds)

          low : i < length vs
          low = omega (arith, p.listed, is)

          by : (b : Bool) → eqb (get_or t.aux (suc i) 0) (word_in u x) ≡ b → compared u t.aux x (suc i) ≡ found (index_of vs x)
          by true e =
              let v : get_or vs i 0 ≡ x = same_vector (get_or vs i 0) x (H.within i low) l (sym (H.words i low) ∙ eqb-true _ _ e) (rw is at p.there) in
              sym (compared_same u t.aux x (suc i) (λ z. omega arith) (omega (arith, H.vectors, low)) (eqb-true _ _ e))
              ∙ ap found (sym (equal_first vs x i (record { below = low; equal = v; first = λ a k f. omega (arith, (in_cell x a (omega (arith, low)) f).1) })))
          by false e =
              sym (compared_other u t.aux x (suc i) (λ z. omega arith) (omega (arith, H.vectors, low)) (eqb-false _ _ e))
              ∙ none (λ j h f.
              let z : j ≡ i = omega (arith, (in_cell x j h f).1) in
              eqb-false _ _ e (H.words i low ∙ ap (word_in u) (ap (λ (a : ℕ). get_or vs a 0) (sym z) ∙ f)))

      go : (u.cells ≤ cell_in u t x) ⊎ (cell_in u t x < u.cells) → answer u t x ≡ found (index_of vs x)
      go (inl c) = sym (answer_out u t x (cell_in u t x) refl c) ∙ none (λ j h e. omega (arith, (in_cell x j h e).0))
      go (inr c) = sym (answer_in u t x (cell_in u t x) refl c) ∙ at c _ refl

  -- SCOPE 16.2: an index comes out exactly where the key is its vector
  pub lookup_hits : (x : ℕ) → x < 2 ^ u.n → (j : ℕ) → j < length vs → (lookup_of u t x ≡ found (suc j) → x ≡ get_or vs j 0) × (x ≡ get_or vs j 0 → lookup_of u t x ≡ found (suc j))
  lookup_hits x l j h = (
    (λ e. sym (first_equal vs x j (ap (λ (f : Found). f.index) (sym (holds_lookup x l) ∙ e))).equal),
    (λ e. holds_lookup x l ∙ ap found (equal_first vs x j (record { below = h; equal = sym e; first = λ a k f. omega (arith, (in_cell x a (omega arith) f).1, (in_cell x j h (sym e)).1) }))),
  )

  -- SCOPE 16.2: and 0 where the key is no vector
  pub lookup_misses : (x : ℕ) → x < 2 ^ u.n → ((j : ℕ) → j < length vs → x ≡ get_or vs j 0 → ⊥) → lookup_of u t x ≡ found 0
  lookup_misses x l n = holds_lookup x l ∙ ap found (equal_none vs x (λ j h e. n j h (sym e)))
