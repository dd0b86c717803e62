-- The vector that a word and a column fix: there is one, no other, and it is read off from tags. Assumes nothing.
use Prim.Native.Nat.{ℕ, ◌+◌, ◌-◌, ◌*◌, ◌/◌, ◌%◌, ◌^◌, ◌≤◌, ◌<◌}
use native.Mathlib.Nat.{mod-lt, mul_comm}
use native.Mathlib.Omega.{arith}
use mathlib.Core.Path.{◌≡◌, sym, ap, ap₂, ◌∙◌}
use mathlib.Core.Bool.{Bool, true, false, ◌&&◌, true≢false}
use mathlib.Core.List.{List, map}
use mathlib.Core.Logic.{⊎_elim}
use borrow.Author.Tests.{eqb-true, eq-eqb, ne_eqb, le-leb, lt-leb, lt-ltb, le-ltb}
use lib.Count.{ones}
use lib.Dec.{eqb}
use lib.ListN.{length, length-map}
use lib.Pow.{pow_pos, shr_lt, shl_exact, split}
use Rattle.std.proofs.lemmas.Bool.{and_parts}
use Rattle.lists.specs.First.{first_from}
use Rattle.lists.proofs.Tests.{le_or_lt}
use Rattle.lists.specs.Members.{All}
use Rattle.lists.proofs.Finding.Firsts.{FoundFrom, found_from}
use Rattle.vectors.specs.declared.Kind.{Kind}
use Rattle.vectors.specs.Variable.{mask_of, row_of, column_of}
use Rattle.std.proofs.Common.{None, Some}
use Rattle.span.specs.Span.{kept, first_dependent, sound_of}
use Rattle.span.specs.Inner.Tags.{start_tags, half, tags_on, kept_on}
use Rattle.span.specs.Fixed.{vector_of, fixes, found_by}
use Rattle.vectors.specs.Word.{word_of}
use Rattle.vectors.proofs.Variables.Numbers.{number_split, parts, row_lt}
use Rattle.vectors.proofs.Words.Laws.{sum_lt}
use Rattle.span.proofs.Unique.{one_vector}
use Rattle.span.proofs.Count.{kept_number}
use Rattle.span.proofs.Labels.Edges.{Edge}
use Rattle.span.proofs.Labels.Recovery.{read_with, Recovered, recovered, tied_tags}
use Rattle.span.proofs.Labels.Tags.{length_start, length_tags}
use Rattle.span.proofs.Labels.Walk.{kept_tied}

-- x is a vector of n bits with this word and this column
pub record Fixed (n n1 : ℕ) (ks : List Kind) (word column x : ℕ) : Type 0 where
  pub below : x < 2 ^ n
  pub word_is : word_of n n1 ks (kept n ks) x ≡ word
  pub column_is : column_of n1 ks x ≡ column

-- any vector with the word and the column is the one found
pub vector_one : (n n1 : ℕ) (ks : List Kind) (word column x : ℕ) → n1 ≤ length ks → Fixed n n1 ks word column x
    → vector_of n n1 ks (kept n ks) word column ≡ x
unfolding vector_of
vector_one n n1 ks word column x h f = go (found_from test (2 ^ n) 0)
  where
    test : ℕ → Bool
    test y = eqb (word_of n n1 ks (kept n ks) y) word && eqb (column_of n1 ks y) column

    here : test x ≡ true
    here = rw (eq-eqb _ _ f.word_is, eq-eqb _ _ f.column_is)

    go : FoundFrom test (2 ^ n) 0 (first_from (2 ^ n) test 0) → first_from (2 ^ n) test 0 ≡ x
    go g =
        let r : ℕ = first_from (2 ^ n) test 0 in
        let l : r ≤ x = ⊎_elim (λ a. a) (λ a. absurd (true≢false (sym here ∙ g.before x (omega arith) a))) (le_or_lt r x) in
        let b : r < 2 ^ n = omega (arith, f.below) in
        let t = and_parts _ _ (g.passes (omega arith)) in
        one_vector n n1 ks r x h b f.below (eqb-true _ _ t.0 ∙ sym f.word_is) (eqb-true _ _ t.1 ∙ sym f.column_is)

-- ---- the values of all variables, from the row and the column

pub values_lt : (p n1 row column : ℕ) → n1 ≤ p → row < 2 ^ n1 → column < 2 ^ (p - n1) → row + 2 ^ n1 * column < 2 ^ p
values_lt p n1 row column h hr hc =
    let e : n1 + (p - n1) ≡ p = omega arith in
    rw e at (sum_lt n1 (p - n1) row column hr hc)

-- nothing is shifted out of a word of w bits
pub values_sum : (w p n1 row column : ℕ) → n1 ≤ p → p ≤ w → column < 2 ^ (p - n1) → row + column * 2 ^ n1 % 2 ^ w ≡ row + 2 ^ n1 * column
values_sum w p n1 row column h l hc = ap (λ (t : ℕ). row + t) (shl_exact (p - n1) n1 w hc (omega arith) ∙ mul_comm column (2 ^ n1))

-- ---- sound variables, a word and a column within their bounds

module _ (n n1 : ℕ) (ks : List Kind) (word column : ℕ) (f : All (Edge n) ks) (e : first_dependent ks ≡ 0) (h : n1 ≤ length ks)
    (hw : word < 2 ^ (n1 + n - length ks)) (hc : column < 2 ^ (length ks - n1)) where
  rest_lt : word / 2 ^ n1 < 2 ^ ones (kept n ks)
  rest_lt =
      let k : ones (kept n ks) + length ks ≡ n = kept_number n ks f e in
      let s : n1 + n - length ks ≡ ones (kept n ks) + n1 = omega arith in
      shr_lt (ones (kept n ks)) n1 (rw s at hw)

  -- the vector read off from d tags has the word and the column
  pub read_fixed : (d : ℕ) → n < d → Fixed n n1 ks word column (read_with n ks d (word % 2 ^ n1 + 2 ^ n1 * column) (word / 2 ^ n1))
  unfolding word_of
  read_fixed d l =
      let r : Recovered n ks (word % 2 ^ n1 + 2 ^ n1 * column) (word / 2 ^ n1) (read_with n ks d (word % 2 ^ n1 + 2 ^ n1 * column) (word / 2 ^ n1)) =
      recovered n ks d (word % 2 ^ n1 + 2 ^ n1 * column) (word / 2 ^ n1) l f e
      (values_lt (length ks) n1 (word % 2 ^ n1) column h (mod-lt word (pow_pos n1)) hc) rest_lt in
      let x : ℕ = read_with n ks d (word % 2 ^ n1 + 2 ^ n1 * column) (word / 2 ^ n1) in
      let p : (row_of n1 ks x ≡ word % 2 ^ n1) × (column_of n1 ks x ≡ column) =
      parts (2 ^ n1) _ _ (word % 2 ^ n1) column (row_lt n1 ks x h) (mod-lt word (pow_pos n1)) (sym (number_split ks n1 x h) ∙ r.values) in
      record {
        below = r.below;
        word_is = ap₂ (λ (t u : ℕ). t + 2 ^ n1 * u) p.0 r.rest ∙ omega (arith, split word n1, mul_comm (2 ^ n1) (word / 2 ^ n1));
        column_is = p.1;
      }

  -- the vector read off is the one that the word and the column fix
  pub vector_read : (d : ℕ) → n < d → read_with n ks d (word % 2 ^ n1 + 2 ^ n1 * column) (word / 2 ^ n1) ≡ vector_of n n1 ks (kept n ks) word column
  vector_read d l = sym (vector_one n n1 ks word column _ h (read_fixed d l))

  -- the vector found has the word and the column
  pub vector_is : Fixed n n1 ks word column (vector_of n n1 ks (kept n ks) word column)
  vector_is = rw (vector_one n n1 ks word column _ h (read_fixed (n + 1) (omega arith))) (read_fixed (n + 1) (omega arith))

-- what sound variables and kept inputs are
pub sound_facts : (n : ℕ) (ks : List Kind) (mask : ℕ) → sound_of n ks mask ≡ true → (first_dependent ks ≡ 0) × (mask ≡ kept n ks)
unfolding sound_of
sound_facts n ks mask s = let t = and_parts (eqb (first_dependent ks) 0) (eqb mask (kept n ks)) s in (eqb-true _ _ t.0, eqb-true _ _ t.1)

-- more variables than inputs are dependent
pub few_independent : (n : ℕ) (ks : List Kind) → All (Edge n) ks → first_dependent ks ≡ 0 → length ks ≤ n
few_independent n ks f e = omega (arith, kept_number n ks f e)

-- ---- the kept inputs, by labels

pub kept_read : (n : ℕ) (ks : List Kind) (v d : ℕ) → All (Edge n) ks → n < d → kept_on n 0 (map half (tags_on ks v (start_tags d))) ≡ kept n ks
unfolding kept
kept_read n ks v d f h =
    let l : length (map half (tags_on ks v (start_tags d))) ≡ d =
    length-map (tags_on ks v (start_tags d)) half ∙ length_tags ks v (start_tags d) ∙ length_start d in
    kept_tied n 0 (map mask_of ks) _ (tied_tags n ks v d f h) (omega arith)

-- ---- by the tests, in their order

module _ (n : ℕ) (ks : List Kind) (mask : ℕ) where
  sound_tied : (first_dependent ks ≡ 0 → ⊥) → sound_of n ks mask ≡ false
  unfolding sound_of
  sound_tied h = rw (sound_of, ne_eqb (first_dependent ks) 0 h)

  sound_other : first_dependent ks ≡ 0 → (kept n ks ≡ mask → ⊥) → sound_of n ks mask ≡ false
  unfolding sound_of
  sound_other e h = rw (sound_of, e, ne_eqb mask (kept n ks) (λ q. h (sym q)))

  sound_is : first_dependent ks ≡ 0 → kept n ks ≡ mask → sound_of n ks mask ≡ true
  unfolding sound_of
  sound_is e q = rw (sound_of, e, eq-eqb mask (kept n ks) (sym q))

module _ (n n1 : ℕ) (ks : List Kind) (mask word column : ℕ) where
  pub found_fixed : fixes n n1 ks mask word column ≡ true → Some (vector_of n n1 ks mask word column) ≡ found_by n n1 ks mask word column
  unfolding found_by
  found_fixed f = rw (f, found_by)

  pub found_nothing : fixes n n1 ks mask word column ≡ false → None ≡ found_by n n1 ks mask word column
  unfolding found_by
  found_nothing f = rw (f, found_by)

  pub found_few : length ks < n1 → None ≡ found_by n n1 ks mask word column
  found_few h = found_nothing (rw (lt-leb n1 (length ks) h))

  module _ (h : n1 ≤ length ks) where
    pub found_wide : 2 ^ (length ks - n1) ≤ column → None ≡ found_by n n1 ks mask word column
    found_wide c = found_nothing (rw (le-leb n1 (length ks) h, le-ltb column (2 ^ (length ks - n1)) c))

    module _ (hc : column < 2 ^ (length ks - n1)) where
      pub found_tied : (first_dependent ks ≡ 0 → ⊥) → None ≡ found_by n n1 ks mask word column
      found_tied d = found_nothing (rw (le-leb n1 (length ks) h, lt-ltb column (2 ^ (length ks - n1)) hc, sound_tied n ks mask d))

      module _ (e : first_dependent ks ≡ 0) where
        pub found_other : (kept n ks ≡ mask → ⊥) → None ≡ found_by n n1 ks mask word column
        found_other m = found_nothing (rw (le-leb n1 (length ks) h, lt-ltb column (2 ^ (length ks - n1)) hc, sound_other n ks mask e m))

        module _ (m : kept n ks ≡ mask) where
          pub found_long : 2 ^ (n1 + n - length ks) ≤ word → None ≡ found_by n n1 ks mask word column
          found_long w =
              found_nothing
              (rw (le-leb n1 (length ks) h, lt-ltb column (2 ^ (length ks - n1)) hc, sound_is n ks mask e m, le-ltb word (2 ^ (n1 + n - length ks)) w))

          pub found_one : (d x : ℕ) → All (Edge n) ks → word < 2 ^ (n1 + n - length ks) → n < d
              → x ≡ read_with n ks d (word % 2 ^ n1 + 2 ^ n1 * column) (word / 2 ^ n1) → Some x ≡ found_by n n1 ks mask word column
          found_one d x f w l q =
              ap Some (q ∙ vector_read n n1 ks word column f e h w hc d l ∙ ap (λ (t : ℕ). vector_of n n1 ks t word column) m)
              ∙ found_fixed
              (rw (le-leb n1 (length ks) h, lt-ltb column (2 ^ (length ks - n1)) hc, sound_is n ks mask e m, lt-ltb word (2 ^ (n1 + n - length ks)) w))
