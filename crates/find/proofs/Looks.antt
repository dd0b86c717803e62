-- The keys looked up together, and what is printed in each case. Assumes nothing.
use Prim.Native.Nat.{ℕ}
use native.Mathlib.Omega.{arith}
use mathlib.Core.Path.{◌≡◌, sym, ap, ◌∙◌}
use mathlib.Core.Bool.{true, false}
use mathlib.Core.List.{List, ◌++◌, append-nil}
use borrow.Author.Tests.{eq-eqb, ne_eqb}
use lib.ListN.{length, take, drop, length-map, drop_of_length-le}
use lib.Seq.{take_at}
use Rattle.record.specs.declared.Record.{Record}
use Rattle.record.specs.Tables.{Tables}
use Rattle.lookup.specs.Lookup.{lookup_of}
use Rattle.many.specs.Lookups.{Many}
use Rattle.many.specs.Lookups.{first_refused, Left, left, left_by, lookup_many}
use Rattle.many.proofs.Keys.{many_by}
use Rattle.print.specs.Line.{beside}
use Rattle.print.specs.Print.{fitted, refused_text, beside_of}
use Rattle.print.proofs.Pages.Fitting.{beside_fits}
use Rattle.find.specs.Keys.{good_keys, values_in}
use Rattle.find.specs.Find.{input_text, indices_of, found_text, find_text}
use Rattle.find.proofs.Lines.{good_few}

module _ (u : Record) (t : Tables) where
  -- with a word for each key
  module _ (keys old l : List ℕ) (m : Many) (e : left m l ≡ lookup_many (lookup_of u t) keys old) (n : length keys ≡ length old) where
    by : left m l ≡ left_by (lookup_of u t) keys old
    by = e ∙ sym (many_by (lookup_of u t) keys old (omega arith))

    pub looked_answer : m ≡ first_refused (lookup_of u t) 1 keys
    unfolding left_by
    looked_answer = ap (λ (r : Left). r.answer) by

    pub looked_indices : l ≡ indices_of u t keys
    unfolding left_by indices_of
    looked_indices = ap (λ (r : Left). r.indices) by ∙ none
      where
        k : length (indices_of u t keys) ≡ length keys
        k = length-map keys (λ (x : ℕ). (lookup_of u t x).index)

        none : indices_of u t keys ++ drop (length (indices_of u t keys)) old ≡ indices_of u t keys
        none = rw (drop_of_length-le old {i = length (indices_of u t keys)} (omega (arith, k))) (append-nil (indices_of u t keys))

  -- ---- what is printed

  module _ (text : List ℕ) where
    pub find_no : good_keys text ≡ false → input_text ≡ find_text text u t
    unfolding find_text
    find_no g = rw (g, find_text)

    module _ (g : good_keys text ≡ true) (e : Many) (ee : e ≡ first_refused (lookup_of u t) 1 (values_in text)) where
      whole : found_text text u t e ≡ find_text text u t
      unfolding find_text
      whole = rw (g, find_text) (ap (found_text text u t) ee)

      pub find_refused : (e.refusal ≡ 0 → ⊥) → refused_text e.refusal e.place ≡ find_text text u t
      unfolding found_text
      find_refused n = let q : refused_text e.refusal e.place ≡ found_text text u t e = rw (ne_eqb e.refusal 0 n, found_text) in q ∙ whole

      pub find_all : e.refusal ≡ 0 → beside text (indices_of u t (values_in text)) ≡ find_text text u t
      unfolding found_text
      find_all z = let q : beside text (indices_of u t (values_in text)) ≡ found_text text u t e = rw (eq-eqb e.refusal 0 z, found_text) in q ∙ whole

      -- each key's line, from indices that stand in front of other words
      pub find_printed : (ix rest out : List ℕ) (count : ℕ) → e.refusal ≡ 0 → length ix ≡ count → ix ≡ indices_of u t (values_in text)
          → beside_of text (take count (ix ++ rest)) out ≡ fitted (find_text text u t) out
      find_printed ix rest out count z n i =
          ap (λ (l : List ℕ). beside_of text l out) (take_at ix rest count n ∙ i)
          ∙ sym (beside_fits text (indices_of u t (values_in text)) out (good_few text g))
          ∙ ap (λ (l : List ℕ). fitted l out) (find_all z)
