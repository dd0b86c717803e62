-- Which texts are good, and what is made of one. Assumes nothing.
use Prim.Native.Nat.{ℕ, ◌-◌, ◌≤◌, ◌<◌}
use native.Mathlib.Omega.{arith}
use mathlib.Core.Path.{◌≡◌, refl, sym, ◌∙◌}
use mathlib.Core.Bool.{Bool, true, false, cond}
use mathlib.Core.List.{List, ◌++◌, map}
use lib.Dec.{eqb}
use lib.ListN.{length, get_or, drop}
use borrow.Author.Tests.{le-leb, lt-leb}
use Rattle.input.specs.declared.Input as code
use Rattle.input.specs.Fields.{fields}
use Rattle.lists.specs.Members.{every}
use Rattle.input.specs.Decimal.{good_field, value_of}
use Rattle.input.specs.Input.{max_text, max_listed, body_length, body, good_text, input_from, numbers_in, input_of, vectors_of, told}
use Rattle.input.specs.Inner.{count_of}
use Rattle.std.specs.Prelude.{Option, Some, None}

-- fields that were counted are numbers
pub counted : (fs : List (List ℕ)) (found : ℕ) → count_of fs ≡ Some found → (every good_field fs ≡ true) × (length fs ≡ found)
unfolding count_of
counted fs found e = go (every good_field fs) refl
  where
    go : (t : Bool) → every good_field fs ≡ t → (every good_field fs ≡ true) × (length fs ≡ found)
    go true g = let q : Some (length fs) ≡ Some found = sym (rw (g, count_of)) ∙ e in (g, cc)
    go false g = let q : None ≡ Some found = sym (rw (g, count_of)) ∙ e in cc

pub not_counted : (fs : List (List ℕ)) → count_of fs ≡ None → every good_field fs ≡ false
unfolding count_of
not_counted fs e = go (every good_field fs) refl
  where
    go : (t : Bool) → every good_field fs ≡ t → every good_field fs ≡ false
    go true g = let q : Some (length fs) ≡ None = sym (rw (g, count_of)) ∙ e in cc
    go false g = g

pub body_low : (text : List ℕ) → body_length text ≤ length text
body_low text = go (eqb (get_or text (length text - 1) 0) 10)
  where
    go : (t : Bool) → cond t (length text - 1) (length text) ≤ length text
    go true = omega arith
    go false = omega arith

module _ (text : List ℕ) (room : ℕ) where
  pub bad_long : max_text < length text → good_text text room ≡ false
  unfolding good_text
  bad_long h = rw (lt-leb (length text) max_text h)

  module _ (short : length text ≤ max_text) where
    pub bad_field : count_of (fields (body text)) ≡ None → good_text text room ≡ false
    unfolding good_text
    bad_field e = rw (le-leb (length text) max_text short, not_counted (fields (body text)) e)

    pub bad_few : (found : ℕ) → count_of (fields (body text)) ≡ Some found → found < 3 → good_text text room ≡ false
    unfolding good_text
    bad_few found e h =
        let k = counted (fields (body text)) found e in
        rw (le-leb (length text) max_text short, k.0, k.1, lt-leb 3 found h)

    module _ (found : ℕ) (e : count_of (fields (body text)) ≡ Some found) (three : 3 ≤ found) where
      pub bad_many : max_listed < found - 3 → good_text text room ≡ false
      unfolding good_text
      bad_many h =
          let k = counted (fields (body text)) found e in
          rw (le-leb (length text) max_text short, k.0, k.1, le-leb 3 found three, lt-leb (found - 3) max_listed h)

      module _ (few : found - 3 ≤ max_listed) where
        pub bad_room : room < found - 3 → good_text text room ≡ false
        unfolding good_text
        bad_room h =
            let k = counted (fields (body text)) found e in
            rw (le-leb (length text) max_text short, k.0, k.1, le-leb 3 found three, le-leb (found - 3) max_listed few, lt-leb (found - 3) room h)

        pub good_text_lem : found - 3 ≤ room → good_text text room ≡ true
        unfolding good_text
        good_text_lem h =
            let k = counted (fields (body text)) found e in
            rw (le-leb (length text) max_text short, k.0, k.1, le-leb 3 found three, le-leb (found - 3) max_listed few, le-leb (found - 3) room h)

module _ (text words : List ℕ) (r : Option code.Input) where
  -- a text that is not good
  pub read_bad : good_text text (length words) ≡ false → r ≡ None → (told r ≡ input_of text (length words)) × (words ≡ vectors_of text words)
  unfolding input_of vectors_of
  read_bad b e = (rw (e, b, input_of), rw (b, vectors_of))

  -- a good text
  pub read_good : (found : ℕ) (written : List ℕ) → good_text text (length words) ≡ true → length (fields (body text)) ≡ found
      → told r ≡ input_from (map value_of (fields (body text))) → written ≡ drop 3 (map value_of (fields (body text)))
      → (told r ≡ input_of text (length words)) × (written ++ drop (found - 3) words ≡ vectors_of text words)
  unfolding input_of vectors_of numbers_in
  read_good found written g n e w = (rw (e, g, input_of, numbers_in), rw (w, ← n, g, vectors_of, numbers_in))
