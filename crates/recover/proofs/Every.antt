-- Recovery of every number: the list that a listed unit holds. Assumes nothing.
use Prim.Native.Nat.{ℕ, zero, suc, ◌+◌, ◌-◌, ◌^◌, ◌≤◌, ◌<◌}
use native.Mathlib.Nat.{add-zero}
use native.Mathlib.Omega.{arith}
use mathlib.Core.Path.{◌≡◌, refl, sym, ap, ◌∙◌}
use mathlib.Core.Bool.{true}
use mathlib.Core.List.{List, ◌∷◌, map}
use borrow.Author.Tests.{eqb-true}
use lib.Dec.{eqb}
use lib.ListN.{length, get_or, take, drop, drop_of_length-le, length-map}
use lib.Seq.{drop-cons}
use Rattle.lists.specs.First.{repeated}
use Rattle.lists.proofs.Tests.{and_true}
use Rattle.lists.proofs.Entries.Members.{get_d_map}
use Rattle.lists.proofs.Finding.Repeats.{repeated_none}
use Rattle.vectors.specs.Bounds.{max_vectors, max_cells, max_words}
use Rattle.vectors.specs.Variable.{number_of, row_of, column_of}
use Rattle.vectors.proofs.Variables.Numbers.{number_split, parts, row_lt}
use Rattle.record.specs.declared.Record.{Record}
use Rattle.record.specs.Record.{kinds_in}
use Rattle.record.specs.Tables.{Tables}
use Rattle.record.specs.Formed.{well_formed, sound}
use Rattle.record.specs.Leads.{cell_in}
use Rattle.record.specs.Holds.{Holds}
use Rattle.record.specs.Inner.Formed.{WellFormed}
use Rattle.record.proofs.Formed.{well_formed_facts, formed_numbers, few_words}
use Rattle.record.proofs.Soundness.{sound_says}
use Rattle.recover.specs.Recover.{first_cell, recover_of}
use Rattle.recover.specs.Every.{all_given, vectors_from, listed, list_in, firsts_in}
use Rattle.recover.proofs.Firsts.{firsts_of, sound_firsts}
use Rattle.recover.proofs.Recovery.{OneVector, recovered_one}
use Rattle.recover.proofs.Exact.{holds_recover}

module _ (u : Record) (t : Tables) where
  pub vectors_length : (m i : ℕ) → length (vectors_from u t i m) ≡ m
  unfolding vectors_from
  vectors_length zero i = refl
  vectors_length (suc m) i = ap suc (vectors_length m (suc i))

  vectors_at : (m i j : ℕ) → j < m → get_or (vectors_from u t i m) j 0 ≡ (recover_of u t (i + j)).vector
  unfolding vectors_from
  vectors_at zero i j h = absurd (omega arith)
  vectors_at (suc m) i zero h = ap (λ (x : ℕ). (recover_of u t x).vector) (sym (add-zero i))
  vectors_at (suc m) i (suc j) h = let e : suc i + j ≡ i + suc j = omega arith in vectors_at m (suc i) j (omega arith) ∙ ap (λ (x : ℕ). (recover_of u t x).vector) e

  given_at : (m i j : ℕ) → j < m → all_given u t i m ≡ true → (recover_of u t (i + j)).refusal ≡ 0
  unfolding all_given
  given_at zero i j h g = absurd (omega arith)
  given_at (suc m) i zero h g = ap (λ (x : ℕ). (recover_of u t x).refusal) (add-zero i) ∙ eqb-true _ _ (and_true (eqb (recover_of u t i).refusal 0) (all_given u t (suc i) m) g).0
  given_at (suc m) i (suc j) h g =
      let e : i + suc j ≡ suc i + j = omega arith in
      ap (λ (x : ℕ). (recover_of u t x).refusal) e ∙ given_at m (suc i) j (omega arith) (and_true (eqb (recover_of u t i).refusal 0) (all_given u t (suc i) m) g).1

-- ---- a listed unit

module _ (u : Record) (t : Tables) (L : listed u t ≡ true) where
  tests : (well_formed u t ≡ true) × (all_given u t 1 u.k ≡ true)
  unfolding listed
  tests = and_true (well_formed u t) (all_given u t 1 u.k) L

  pub listed_tested : well_formed u t ≡ true
  listed_tested = tests.0

  -- it is well formed, with few vectors and cells
  pub listed_formed : WellFormed u t
  listed_formed = well_formed_facts u t listed_tested

  pub listed_few : (u.k ≤ max_vectors) × (u.cells ≤ max_cells)
  listed_few = few_words u t listed_tested

  pub listed_length : length (list_in u t) ≡ u.k
  unfolding list_in
  listed_length = vectors_length u t u.k 1

  -- entry j of its list is the one vector of number j + 1
  pub listed_entry : (j : ℕ) → j < u.k → OneVector u t (suc j) (get_or (list_in u t) j 0)
  unfolding list_in
  listed_entry j h =
      let e : 1 + j ≡ suc j = omega arith in
      rw (vectors_at u t u.k 1 j h, e) (recovered_one u t (suc j) (rw e at (given_at u t u.k 1 j h tests.1)))

  -- the same by its number
  pub listed_number : (i : ℕ) → 0 < i → i ≤ u.k → OneVector u t i (get_or (list_in u t) (i - 1) 0)
  listed_number i l h = let e : suc (i - 1) ≡ i = omega arith in rw e at (listed_entry (i - 1) (omega arith))

  pub listed_sound : sound u t ≡ true
  listed_sound = (listed_entry 0 (formed_numbers u t tests.0).vectors.0).is_sound

  -- the words for the first cells, after the call
  pub listed_firsts : (old : List ℕ) (i : ℕ) → i ≤ u.k → get_or (firsts_in u t old) i 0 ≡ first_cell u t i
  listed_firsts old i h =
      ap (λ (l : List ℕ). get_or l i 0) (sym (sound_firsts u t old listed_sound))
      ∙ firsts_of (take u.cells t.g) max_words i (omega (arith, listed_few.0))

  -- two vectors never lead to one cell
  pub listed_cells : (i j : ℕ) → i < u.k → j < u.k → cell_in u t (get_or (list_in u t) i 0) ≡ cell_in u t (get_or (list_in u t) j 0) → i ≡ j
  listed_cells i j hi hj e = let q : suc i ≡ suc j = sym (listed_entry i hi).holds ∙ rw e (listed_entry j hj).holds in omega arith

  -- two vectors never agree on all variables
  pub listed_agree : (i j : ℕ) → i < u.k → j < u.k → number_of (kinds_in u) (get_or (list_in u t) i 0) ≡ number_of (kinds_in u) (get_or (list_in u t) j 0) → i ≡ j
  listed_agree i j hi hj e = listed_cells i j hi hj (same _ _ e)
    where
      r : u.n1 ≤ length (kinds_in u)
      r = (sound_says u t listed_sound).rows_in

      same : (x y : ℕ) → number_of (kinds_in u) x ≡ number_of (kinds_in u) y → cell_in u t x ≡ cell_in u t y
      same x y q =
          let p =
          parts (2 ^ u.n1) (row_of u.n1 (kinds_in u) x) (column_of u.n1 (kinds_in u) x) (row_of u.n1 (kinds_in u) y) (column_of u.n1 (kinds_in u) y)
          (row_lt u.n1 (kinds_in u) x r) (row_lt u.n1 (kinds_in u) y r)
          (sym (number_split (kinds_in u) u.n1 x r) ∙ q ∙ number_split (kinds_in u) u.n1 y r) in
          rw (p.0, p.1)

  pub listed_apart : repeated (map (number_of (kinds_in u)) (list_in u t)) ≡ 0
  listed_apart =
      repeated_none (map (number_of (kinds_in u)) (list_in u t))
      (λ a b l h e.
      let s : b < length (list_in u t) = omega (arith, length-map (list_in u t) (number_of (kinds_in u))) in
      let p = get_d_map (number_of (kinds_in u)) (list_in u t) a 0 0 (omega arith) in
      let q = get_d_map (number_of (kinds_in u)) (list_in u t) b 0 0 s in
      let z : a ≡ b = listed_agree a b (omega (arith, listed_length)) (omega (arith, listed_length)) (sym p ∙ e ∙ q) in
      omega arith)

  -- it has no vector twice
  pub listed_different : repeated (list_in u t) ≡ 0
  listed_different =
      repeated_none (list_in u t)
      (λ a b l h e. let z : a ≡ b = listed_agree a b (omega (arith, listed_length)) (omega (arith, listed_length)) (ap (number_of (kinds_in u)) e) in omega arith)

-- ---- a unit that holds a list

module _ (u : Record) (t : Tables) (vs : List ℕ) (H : Holds u t vs) where
  -- the m numbers after i
  given_after : (m i : ℕ) → i + m ≡ length vs → all_given u t (suc i) m ≡ true
  unfolding all_given
  given_after zero i e = refl
  given_after (suc m) i e = rw (holds_recover u t vs H i (omega arith)) (given_after m (suc i) (omega arith))

  vectors_after : (m i : ℕ) → i + m ≡ length vs → vectors_from u t (suc i) m ≡ drop i vs
  unfolding vectors_from
  vectors_after zero i e = sym (drop_of_length-le vs {i = i} (omega arith))
  vectors_after (suc m) i e =
      rw (holds_recover u t vs H i (omega arith)) (ap (λ (l : List ℕ). get_or vs i 0 ∷ l) (vectors_after m (suc i) (omega arith)) ∙ sym (drop-cons vs i 0 (omega arith)))

  -- it is listed, and that is its list
  pub holds_listed : listed u t ≡ true
  unfolding listed
  holds_listed = rw (sound_says u t H.is_sound).well_formed_lem (given_after u.k 0 (omega (arith, H.vectors)))

  pub holds_list : list_in u t ≡ vs
  unfolding list_in
  holds_list = vectors_after u.k 0 (omega (arith, H.vectors))
