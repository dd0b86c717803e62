-- A lookup's index is the number of a vector, and its refusal one of the list: they are small. Assumes nothing.
use Prim.Native.Nat.{ℕ, ◌^◌, ◌≤◌, ◌<◌}
use native.Mathlib.Omega.{arith}
use native.Mathlib.Nat.{eq-zero-or-pos}
use mathlib.Core.Path.{◌≡◌, refl, sym, ap, ◌∙◌}
use mathlib.Core.Bool.{Bool, true, false}
use mathlib.Core.List.{List}
use mathlib.Core.Logic.{⊎_elim}
use borrow.Author.Tests.{eqb-true, eqb-false}
use lib.Dec.{eqb}
use lib.ListN.{get_or}
use Rattle.std.proofs.Common.{Result, Ok, Err}
use Rattle.refusal.specs.declared.Refusal.{Refusal}
use Rattle.refusal.proofs.Numbers.{numbered, number_names}
use Rattle.lists.proofs.Tests.{le_or_lt}
use Rattle.lookup.specs.Lookup.{Found}
use Rattle.record.specs.declared.Record.{Record}
use Rattle.vectors.specs.Bounds.{max_vectors}
use Rattle.record.specs.Tables.{Tables}
use Rattle.record.specs.Formed.{well_formed}
use Rattle.record.specs.Leads.{word_in, cell_in}
use Rattle.lookup.specs.Lookup.{told, compared, answer, lookup_of}
use Rattle.record.proofs.Formed.{few_words}
use Rattle.lookup.proofs.Lookups.{answer_out, answer_in, compared_none, compared_above, compared_other, compared_same, lookup_unformed, lookup_beyond, lookup_answer}

abbrev Listed : Record → Found → Type 0
Listed u f = (f.index ≤ u.k) × (f.refusal ≤ 14) × (f.refusal ≡ 13 → ⊥)

-- the index is the one that the cell holds, or 0
compared_listed : (u : Record) (aux : List ℕ) (x i : ℕ) → Listed u (compared u aux x i)
compared_listed u aux x i = ⊎_elim some past (le_or_lt i u.k)
  where
    past : u.k < i → Listed u (compared u aux x i)
    past l = rw (← compared_above u aux x i l) (omega arith, omega arith, λ z. omega arith)

    held : 0 < i → i ≤ u.k → (b : Bool) → eqb (get_or aux i 0) (word_in u x) ≡ b → Listed u (compared u aux x i)
    held p l true e = rw (← compared_same u aux x i (λ z. omega arith) l (eqb-true _ _ e)) (omega arith, omega arith, λ z. omega arith)
    held p l false e = rw (← compared_other u aux x i (λ z. omega arith) l (eqb-false _ _ e)) (omega arith, omega arith, λ z. omega arith)

    some : i ≤ u.k → Listed u (compared u aux x i)
    some l = ⊎_elim (λ z. rw (← compared_none u aux x i z) (omega arith, omega arith, λ z. omega arith)) (λ p. held p l (eqb (get_or aux i 0) (word_in u x)) refl) (eq-zero-or-pos i)

answer_listed : (u : Record) (t : Tables) (x : ℕ) → Listed u (answer u t x)
answer_listed u t x =
    ⊎_elim (λ l. rw (← answer_out u t x (cell_in u t x) refl l) (omega arith, omega arith, λ z. omega arith))
    (λ l. rw (← answer_in u t x (cell_in u t x) refl l) (compared_listed u t.aux x (get_or t.g (cell_in u t x) 0))) (le_or_lt u.cells (cell_in u t x))

listed : (u : Record) (t : Tables) (x : ℕ) → Listed u (lookup_of u t x)
listed u t x = go (well_formed u t) refl
  where
    go : (b : Bool) → well_formed u t ≡ b → Listed u (lookup_of u t x)
    go false e = rw (← lookup_unformed u t x e) (omega arith, omega arith, λ z. omega arith)
    go true e = ⊎_elim (λ l. rw (← lookup_beyond u t x e l) (omega arith, omega arith, λ z. omega arith)) (λ l. rw (← lookup_answer u t x e l) (answer_listed u t x)) (le_or_lt (2 ^ u.n) x)

-- of any record and tables: an index is the number of a vector
pub found_listed : (u : Record) (t : Tables) (x : ℕ) → (lookup_of u t x).index ≤ u.k
found_listed u t x = (listed u t x).0

pub found_number : (u : Record) (t : Tables) (x : ℕ) → (lookup_of u t x).refusal ≤ 14
found_number u t x = (listed u t x).1

-- 13, beside which cells are needed, never comes out
pub found_plain : (u : Record) (t : Tables) (x : ℕ) → (lookup_of u t x).refusal ≡ 13 → ⊥
found_plain u t x = (listed u t x).2

pub found_index : (u : Record) (t : Tables) (x : ℕ) → (lookup_of u t x).index ≤ max_vectors
found_index u t x = go (well_formed u t) refl
  where
    go : (b : Bool) → well_formed u t ≡ b → (lookup_of u t x).index ≤ max_vectors
    go false e = rw (← lookup_unformed u t x e) (omega arith)
    go true e = omega (arith, found_listed u t x, (few_words u t e).0)

-- ---- one answer alone is told as a definition says

told_one : (r s : Result ℕ Refusal) → ((told r).refusal ≡ 13 → ⊥) → told r ≡ told s → r ≡ s
told_one (Ok i) (Ok j) h e = ap Ok (ap (λ (f : Found). f.index) e)
told_one (Ok i) (Err b) h e = let q = ap (λ (f : Found). f.refusal) e in absurd (omega (arith, numbered b))
told_one (Err a) (Ok j) h e = let q = ap (λ (f : Found). f.refusal) e in absurd (omega (arith, numbered a))
told_one (Err a) (Err b) h e = ap Err (number_names a b h (ap (λ (f : Found). f.refusal) e))

pub lookup_one : (u : Record) (t : Tables) (x : ℕ) (r s : Result ℕ Refusal) → told r ≡ lookup_of u t x → told s ≡ lookup_of u t x → r ≡ s
lookup_one u t x r s e f = told_one r s (λ z. found_plain u t x (ap (λ (g : Found). g.refusal) (sym e) ∙ z)) (e ∙ sym f)
