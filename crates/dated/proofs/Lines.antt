-- A line written anew, and the five numbers of a line. Assumes nothing.
use Prim.Native.Nat.{ℕ, ◌+◌, ◌≤◌, ◌<◌}
use native.Mathlib.Omega.{arith}
use mathlib.Core.Path.{◌≡◌, refl, sym, ap, ap₂, ◌∙◌}
use mathlib.Core.Bool.{Bool, true, false, false≢true, not, ◌&&◌}
use mathlib.Core.List.{List, [], ◌∷◌, ◌++◌, map}
use borrow.Author.Tests.{eq-eqb, ne_eqb, le-leb, lt-leb}
use lib.Dec.{eqb, leb}
use native.Mathlib.Numerals.{add-one}
use lib.ListN.{length, get_or, take, drop, set, length-map, length-drop, get_or-append}
use lib.Seq.{get_or-drop, take_all, take-suc, take-suc-set}
use Rattle.lists.proofs.Entries.Members.{get_d_map}
use Rattle.input.specs.Input.{Input}
use Rattle.input.specs.Fields.{fields}
use Rattle.input.specs.Decimal.{value_of}
use Rattle.input.specs.Input.{body, listed, good_text, input_from, numbers_in, input_of, vectors_of}
use Rattle.profiles.specs.Key.{Word}
use Rattle.profiles.specs.Key as key
use Rattle.std.specs.Prelude.{Option, Some, None}
use Rattle.std.specs.Option.{ok_or}
use Rattle.dated.specs.declared.NoWord.TheVariants.{Wide}
use Rattle.profiles.specs.Key.{in_widths, packed, key_of, word_of}
use Rattle.dated.specs.Dated.{Dated}
use Rattle.dated.specs.Dated.{max_line, exchanged, spaced, good_line, capped, key_in, no_line, dated_by, dated_of, told}

module _ (line out : List ℕ) (i : ℕ) where
  -- one more byte written
  pub spacing_more : length line ≡ length out → i < length line → take i out ≡ take i (map exchanged line) → (b : ℕ) → b ≡ exchanged (get_or line i 0)
      → take (i + 1) (set out i b) ≡ take (i + 1) (map exchanged line)
  spacing_more l h w b e =
      rw add-one (
      take-suc-set out i b (omega arith)
      ∙ ap₂ (λ (l : List ℕ) (x : ℕ). l ++ (x ∷ [])) w (e ∙ sym (get_d_map exchanged line i 0 0 h))
      ∙ sym (take-suc (map exchanged line) i 0 (omega (arith, length-map line exchanged)))
      )

  pub spacing_end : length line ≡ length out → length line ≤ i → take i out ≡ take i (map exchanged line) → out ≡ spaced line
  unfolding spaced
  spacing_end l h w = sym (take_all i out (omega arith)) ∙ w ∙ take_all i (map exchanged line) (omega (arith, length-map line exchanged))

pub spaced_length : (line : List ℕ) → length (spaced line) ≡ length line
unfolding spaced
spaced_length line = length-map line exchanged

and_none : (a : Bool) → (a && false) ≡ false
and_none true = refl
and_none false = refl

module _ (line : List ℕ) where
  abbrev s : List ℕ
  s = spaced line

  abbrev ns : List ℕ
  ns = numbers_in s

  not_good : good_line line ≡ false → no_line ≡ dated_of line
  unfolding dated_of
  not_good g = rw (g, dated_of)

  pub line_long : max_line < length line → no_line ≡ dated_of line
  unfolding good_line
  line_long h = not_good (rw (lt-leb (length line) max_line h, good_line))

  numbers_length : length ns ≡ length (fields (body s))
  unfolding numbers_in
  numbers_length = length-map (fields (body s)) value_of

  module _ (i : Input) (e : i ≡ input_of s 2) where
    by_good : (b : Bool) → good_text s 2 ≡ b → i ≡ (elim b [ true ↦ input_from ns | false ↦ record { good = false; n = 0; degree = 0; cells = 0; count = 0 } ])
    unfolding input_of
    by_good b g = e ∙ rw (g, input_of)

    pub line_other : i.good ≡ false → no_line ≡ dated_of line
    unfolding good_line input_from
    line_other f = go (good_text s 2) refl
      where
        go : (b : Bool) → good_text s 2 ≡ b → no_line ≡ dated_of line
        go true g = absurd (false≢true (sym f ∙ ap (λ (x : Input). x.good) (by_good true g)))
        go false g = not_good (rw (g, good_line) (and_none (leb (length line) max_line)))

    module _ (y : i.good ≡ true) where
      is_text : good_text s 2 ≡ true
      is_text = go (good_text s 2) refl
        where
          go : (b : Bool) → good_text s 2 ≡ b → good_text s 2 ≡ true
          go true g = g
          go false g = absurd (false≢true (sym (ap (λ (x : Input). x.good) (by_good false g)) ∙ y))

      is_input : i ≡ input_from ns
      is_input = by_good true is_text

      count_is : i.count ≡ listed s
      unfolding input_from
      count_is = ap (λ (x : Input). x.count) is_input ∙ omega (arith, numbers_length)

      pub line_count : (i.count ≡ 2 → ⊥) → no_line ≡ dated_of line
      unfolding good_line
      line_count n =
          let q : eqb (listed s) 2 ≡ false = ne_eqb (listed s) 2 (λ (z : listed s ≡ 2). n (count_is ∙ z)) in
          not_good (rw (q, is_text, good_line) (and_none (leb (length line) max_line)))

      -- five numbers
      module _ (l : length line ≤ max_line) (two : i.count ≡ 2) where
        five : length ns ≡ 5
        five = omega (arith, numbers_length, count_is)

        good : good_line line ≡ true
        unfolding good_line
        good = rw (le-leb (length line) max_line l, is_text, eq-eqb (listed s) 2 (sym count_is ∙ two), good_line)

        -- the last two
        module _ (last : List ℕ) (el : last ≡ vectors_of s (0 ∷ 0 ∷ [])) where
          front : last ≡ drop 3 ns ++ drop (listed s) (0 ∷ 0 ∷ [])
          unfolding vectors_of
          front = el ∙ rw (is_text, vectors_of)

          later : (j : ℕ) → j < 2 → get_or last j 0 ≡ get_or ns (3 + j) 0
          later j h =
              ap (λ (l : List ℕ). get_or l j 0) front
              ∙ get_or-append (drop 3 ns) (drop (listed s) (0 ∷ 0 ∷ [])) 0 j (omega (arith, length-drop 3 ns, five))
              ∙ get_or-drop 3 ns j 0

          at : (j : ℕ) → j < 5 → capped (get_or ns j 0) ≡ get_or (map capped ns) j 0
          at j h = sym (get_d_map capped ns j 0 0 (omega (arith, five)))

          key_is : record { press = capped i.n; ink = capped i.degree; substrate = capped i.cells; screen = capped (get_or last 0 0); day = capped (get_or last 1 0) }
              ≡ key_of (map capped ns)
          unfolding input_from
          key_is =
              let a : capped i.n ≡ get_or (map capped ns) 0 0 = ap (λ (x : Input). capped x.n) is_input ∙ at 0 (omega arith) in
              let b : capped i.degree ≡ get_or (map capped ns) 1 0 = ap (λ (x : Input). capped x.degree) is_input ∙ at 1 (omega arith) in
              let c : capped i.cells ≡ get_or (map capped ns) 2 0 = ap (λ (x : Input). capped x.cells) is_input ∙ at 2 (omega arith) in
              let d : capped (get_or last 0 0) ≡ get_or (map capped ns) 3 0 = ap capped (later 0 (omega arith)) ∙ at 3 (omega arith) in
              let f : capped (get_or last 1 0) ≡ get_or (map capped ns) 4 0 = ap capped (later 1 (omega arith)) ∙ at 4 (omega arith) in
              cc

          pub line_read : (w : Word)
              → w ≡ word_of (record { press = capped i.n; ink = capped i.degree; substrate = capped i.cells; screen = capped (get_or last 0 0); day = capped (get_or last 1 0) })
              → dated_by w ≡ dated_of line
          unfolding dated_of key_in
          line_read w e = rw (good, dated_of) (ap dated_by (e ∙ ap word_of key_is))

-- a word, or none of a key that is too wide
pub told_word : (o : Option ℕ) → told (ok_or o Wide) ≡ dated_by (key.told o)
told_word (Some w) = refl
told_word None = refl

-- ---- what is read of a line

module _ (line : List ℕ) where
  pub dated_good : (dated_of line).good ≡ good_line line
  unfolding dated_of
  dated_good = go (good_line line) refl
    where
      go : (b : Bool) → good_line line ≡ b → (dated_of line).good ≡ b
      go true g = rw (g, dated_of)
      go false g = rw (g, dated_of)

  -- of a line of five numbers
  module _ (g : good_line line ≡ true) where
    by : dated_of line ≡ dated_by (word_of (key_in line))
    unfolding dated_of
    by = rw (g, dated_of)

    pub dated_wide : (dated_of line).wide ≡ not (in_widths (key_in line))
    unfolding word_of
    dated_wide = ap (λ (d : Dated). d.wide) by ∙ go (in_widths (key_in line)) refl
      where
        go : (b : Bool) → in_widths (key_in line) ≡ b → not (word_of (key_in line)).good ≡ not b
        go true w = rw (w, word_of)
        go false w = rw (w, word_of)

    pub dated_word : in_widths (key_in line) ≡ true → (dated_of line).word ≡ packed (key_in line)
    unfolding word_of
    dated_word w = ap (λ (d : Dated). d.word) by ∙ rw (w, word_of)
