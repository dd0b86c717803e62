-- The first that passes a test. Assumes nothing.
use Prim.Native.Nat.{ℕ, zero, suc, ◌+◌, ◌≤◌, ◌<◌}
use native.Mathlib.Nat.{eq-or-lt_of_le}
use native.Mathlib.Omega.{arith}
use mathlib.Core.Path.{◌≡◌, refl, sym, ◌∙◌}
use mathlib.Core.Bool.{Bool, true, false}
use mathlib.Core.List.{List, [], ◌∷◌}
use mathlib.Core.Logic.{⊎_elim}
use native.Mathlib.Numerals.{add-one}
use lib.ListN.{length, get_or, drop, drop_of_length-le}
use lib.Seq.{drop-cons}
use Rattle.lists.specs.First.{first_in, first_of, first_from}

module _ {A : Type 0} (test : List A → A → Bool) where
  pub first_here : (before : List A) (x : A) (xs : List A) (i : ℕ) → test before x ≡ true → first_in test before (x ∷ xs) i ≡ i
  unfolding first_in
  first_here before x xs i h = rw (h, first_in)

  pub first_on : (before : List A) (x : A) (xs : List A) (i : ℕ) → test before x ≡ false
      → first_in test before (x ∷ xs) i ≡ first_in test (x ∷ before) xs (suc i)
  unfolding first_in
  first_on before x xs i h = rw (h, first_in)

-- the number that is found is at most the last one's
first_in_le : {A : Type 0} (test : List A → A → Bool) (before xs : List A) (i : ℕ) → first_in test before xs (suc i) ≤ i + length xs
unfolding first_in
first_in_le test before [] i = omega arith
first_in_le {A} test before (x ∷ xs) i = go (test before x) refl (first_in_le test (x ∷ before) xs (suc i))
  where
    go : (t : Bool) → test before x ≡ t → first_in test (x ∷ before) xs (suc (suc i)) ≤ suc i + length xs → first_in test before (x ∷ xs) (suc i) ≤ i + length (x ∷ xs)
    go true p r = omega (arith, first_here test before x xs (suc i) p)
    go false p r = omega (arith, first_on test before x xs (suc i) p)

pub first_length : {A : Type 0} (test : List A → A → Bool) (xs : List A) → first_of test xs ≤ length xs
unfolding first_of
first_length test xs = omega (arith, first_in_le test [] xs 0)

-- ---- a loop that seeks it: i entries were passed

pub record Seek {A : Type 0} (test : List A → A → Bool) (xs : List A) (i : ℕ) : Type 0 where
  pub before : List A
  pub rest : first_in test before (drop i xs) (suc i) ≡ first_of test xs

module _ {A : Type 0} (test : List A → A → Bool) (xs : List A) where
  pub seek_start : Seek test xs 0
  unfolding first_of
  seek_start = record { before = []; rest = refl }

  pub seek_end : (i : ℕ) → length xs ≤ i → Seek test xs i → 0 ≡ first_of test xs
  unfolding first_in
  seek_end i h s = sym (rw (drop_of_length-le xs h)) ∙ s.rest

  module _ (d : A) (i : ℕ) (h : i < length xs) (s : Seek test xs i) where
    pub seek_here : test s.before (get_or xs i d) ≡ true → i + 1 ≡ first_of test xs
    seek_here e = add-one i ∙ sym (rw (drop-cons xs i d h) (first_here test s.before (get_or xs i d) (drop (suc i) xs) (suc i) e)) ∙ s.rest

    pub seek_on : test s.before (get_or xs i d) ≡ false → Seek test xs (i + 1)
    seek_on e =
        record {
          before = get_or xs i d ∷ s.before;
          rest = rw (add-one i) (sym (rw (drop-cons xs i d h) (first_on test s.before (get_or xs i d) (drop (suc i) xs) (suc i) e)) ∙ s.rest);
        }

-- ---- a search over numbers

-- none before it passes, and it does, unless it is the end
pub record FoundFrom (test : ℕ → Bool) (d x r : ℕ) : Type 0 where
  pub low : x ≤ r
  pub high : r ≤ x + d
  pub before : (y : ℕ) → x ≤ y → y < r → test y ≡ false
  pub passes : r < x + d → test r ≡ true

pub found_from : (test : ℕ → Bool) (d x : ℕ) → FoundFrom test d x (first_from d test x)
unfolding first_from
found_from test zero x = record { low = omega arith; high = omega arith; before = λ y a b. absurd (omega arith); passes = λ l. absurd (omega arith) }
found_from test (suc d) x = go (test x) refl (found_from test d (suc x))
  where
    go : (t : Bool) → test x ≡ t → FoundFrom test d (suc x) (first_from d test (suc x)) → FoundFrom test (suc d) x (first_from (suc d) test x)
    go true e f = rw (e, first_from) (record { low = omega arith; high = omega arith; before = λ y a b. absurd (omega arith); passes = λ l. e })
    go false e f =
        rw (e, first_from)
        (record {
          low = omega (arith, f.low);
          high = omega (arith, f.high);
          before = λ y a b. ⊎_elim (λ q. rw (← q) e) (λ q. f.before y q b) (eq-or-lt_of_le a);
          passes = λ l. f.passes (omega arith);
        })
