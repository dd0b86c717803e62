-- A text of keys, line after line. Assumes nothing.
use Prim.Native.Nat.{ℕ, suc, ◌+◌, ◌-◌, ◌≤◌, ◌<◌}
use native.Mathlib.Omega.{arith}
use native.Mathlib.Numerals.{add-one}
use mathlib.Core.Path.{◌≡◌, refl, sym, ap, ap₂, ◌∙◌}
use mathlib.Core.Bool.{Bool, true, false, cond, ◌&&◌}
use mathlib.Core.List.{List, [], ◌∷◌, ◌++◌, append-nil, append_assoc, map}
use mathlib.Core.Logic.{◌⊎◌, inl, inr}
use borrow.Author.Tests.{ne_eqb, le-leb, lt-leb, leb-true, ltb-true, lt-ltb, le-ltb, ltb-false}
use lib.Dec.{eqb, leb, ltb}
use lib.ListN.{length, get_or, take, drop, set, replicate, length-append, length-drop, length-set, length-map, drop_of_length-le}
use lib.Seq.{length-take-le, take_at, drop-cons, take-suc, take_all}
use borrow.Rule.Slice.PartMut.{mid_of, post_of, put_mid}
use Rattle.std.specs.Prelude.{Option, Some, None}
use Rattle.std.specs.Option.{unwrap_or}
use Rattle.std.specs.List.{position, position_or_len, slice_split, onto_first}
use Rattle.std.proofs.lemmas.List.Recursion.{is_position_or_len}
use Rattle.std.proofs.lemmas.List.Splits.{length-slice_split}
use Rattle.lists.specs.Members.{every}
use Rattle.lists.proofs.Tests.{and_true, le_or_lt}
use Rattle.lists.proofs.Entries.Members.{get_d_map}
use Rattle.input.proofs.Reading.Numbers.{written_more}
use Rattle.print.specs.Line.{newline}
use Rattle.print.specs.Print.{max_bytes}
use Rattle.find.specs.Keys.{Key, max_keys, no_key, key_of, keys_from, keys_in, good_keys, values_in, line_length}
use Rattle.find.specs.Given.{Given}
use Rattle.find.specs.Given.{given_of}
use Rattle.find.specs.Inner.{told, ReadAs}

-- ---- how long the first line is

abbrev pub ends : ℕ → Bool
ends b = eqb b newline

pub line_within : (text : List ℕ) → line_length text ≤ length text
unfolding line_length
line_within [] = omega arith
line_within (b ∷ bs) = go (eqb b newline) (line_within bs)
  where
    go : (q : Bool) → line_length bs ≤ length bs → (elim q [ true ↦ 0 | false ↦ suc (line_length bs) ]) ≤ suc (length bs)
    go true h = omega arith
    go false h = omega arith

steps : (b : ℕ) (bs : List ℕ) → line_length (b ∷ bs) ≡ cond (ends b) 0 (1 + line_length bs)
unfolding line_length
steps b bs = go (ends b)
  where
    go : (t : Bool) → (elim t [ true ↦ 0 | false ↦ suc (line_length bs) ]) ≡ cond t 0 (1 + line_length bs)
    go true = refl
    go false = omega arith

pub line_is : (text : List ℕ) (r : Option ℕ) → r ≡ position ends text → unwrap_or r (length text) ≡ line_length text
unfolding line_length
line_is text r e = ap (λ (r : Option ℕ). unwrap_or r (length text)) e ∙ go (ltb (position_or_len ends text) (length text)) refl
  where
    same : line_length text ≡ position_or_len ends text
    same = is_position_or_len line_length ends refl steps text

    go : (t : Bool) → ltb (position_or_len ends text) (length text) ≡ t → unwrap_or (cond t (Some (position_or_len ends text)) None) (length text) ≡ line_length text
    go true h = sym same
    go false h = omega (arith, ltb-false (position_or_len ends text) (length text) h, same, line_within text)

-- ---- the first line is the first key

pub line_key : (word text : List ℕ) → line_length text < length text
    → keys_from word text ≡ key_of (word ++ take (line_length text) text) ∷ keys_from [] (drop (suc (line_length text)) text)
unfolding line_length keys_from
line_key word [] h = absurd (omega arith)
line_key word (b ∷ bs) h = go (eqb b newline) refl (line_key (word ++ (b ∷ [])) bs)
  where
    m : ℕ
    m = line_length bs

    go : (q : Bool) → eqb b newline ≡ q → (m < length bs → keys_from (word ++ (b ∷ [])) bs ≡ key_of ((word ++ (b ∷ [])) ++ take m bs) ∷ keys_from [] (drop (suc m) bs))
        → keys_from word (b ∷ bs) ≡ key_of (word ++ take (line_length (b ∷ bs)) (b ∷ bs)) ∷ keys_from [] (drop (suc (line_length (b ∷ bs))) (b ∷ bs))
    go true q more = rw (q, keys_from, line_length) (ap (λ (l : List ℕ). key_of l ∷ keys_from [] bs) (sym (append-nil word)))
    go false q more =
        let z : line_length (b ∷ bs) ≡ suc m = rw (q, line_length) in
        rw (q, keys_from, line_length) (more (omega (arith, h)) ∙ ap (λ (l : List ℕ). key_of l ∷ keys_from [] (drop (suc m) bs)) (append_assoc word (b ∷ []) (take m bs)))

-- a last line that no newline ends
pub line_unended : (word text : List ℕ) → 0 < length word + length text → length text ≤ line_length text → keys_from word text ≡ no_key ∷ []
unfolding line_length keys_from
line_unended word [] h l = rw (ne_eqb (length word) 0 (λ (z : length word ≡ 0). omega arith), keys_from)
line_unended word (b ∷ bs) h l = go (eqb b newline) refl (line_unended (word ++ (b ∷ [])) bs (omega (arith, length-append word (b ∷ []))))
  where
    go : (q : Bool) → eqb b newline ≡ q → (length bs ≤ line_length bs → keys_from (word ++ (b ∷ [])) bs ≡ no_key ∷ []) → keys_from word (b ∷ bs) ≡ no_key ∷ []
    go true q more = let z : line_length (b ∷ bs) ≡ 0 = rw (q, line_length) in absurd (omega (arith, l))
    go false q more = let z : line_length (b ∷ bs) ≡ suc (line_length bs) = rw (q, line_length) in rw (q, keys_from) (more (omega (arith, l)))

-- ---- each line is a key

-- a word in front of the first line
abbrev front : List ℕ → List (List ℕ) → List (List ℕ)
front word [] = word ∷ []
front word (l ∷ ls) = (word ++ l) ∷ ls

front_none : (xs : List ℕ) → front [] (slice_split ends xs) ≡ slice_split ends xs
front_none [] = refl
front_none (x ∷ xs) = go (ends x) (slice_split ends xs)
  where
    go : (t : Bool) (ls : List (List ℕ)) → front [] (cond t ([] ∷ ls) (onto_first x ls)) ≡ cond t ([] ∷ ls) (onto_first x ls)
    go true ls = refl
    go false [] = refl
    go false (l ∷ ls) = refl

lines_from : (word xs : List ℕ) → keys_from word (xs ++ (newline ∷ [])) ≡ map key_of (front word (slice_split ends xs))
unfolding keys_from
lines_from word [] = ap (λ (l : List ℕ). key_of l ∷ []) (sym (append-nil word))
lines_from word (x ∷ xs) = go (ends x) (lines_from [] xs) (lines_from (word ++ (x ∷ [])) xs)
  where
    onto : (ls : List (List ℕ)) → front (word ++ (x ∷ [])) ls ≡ front word (onto_first x ls)
    onto [] = refl
    onto (l ∷ ls) = ap (λ (m : List ℕ). m ∷ ls) (append_assoc word (x ∷ []) l)

    go : (t : Bool) → keys_from [] (xs ++ (newline ∷ [])) ≡ map key_of (front [] (slice_split ends xs)) → keys_from (word ++ (x ∷ [])) (xs ++ (newline ∷ [])) ≡ map key_of (front (word ++ (x ∷ [])) (slice_split ends xs))
        → (elim t [ true ↦ key_of word ∷ keys_from [] (xs ++ (newline ∷ [])) | false ↦ keys_from (word ++ (x ∷ [])) (xs ++ (newline ∷ [])) ]) ≡ map key_of (front word (cond t ([] ∷ slice_split ends xs) (onto_first x (slice_split ends xs))))
    go true a b = ap₂ (λ (l : List ℕ) (ks : List Key). key_of l ∷ ks) (sym (append-nil word)) (a ∙ ap (map key_of) (front_none xs))
    go false a b = b ∙ ap (map key_of) (onto (slice_split ends xs))

-- a text that ends with a newline
pub lines_keys : (text lines : List ℕ) → text ≡ lines ++ (newline ∷ []) → keys_in text ≡ map key_of (slice_split ends lines)
unfolding keys_in
lines_keys text lines e = ap (keys_from []) e ∙ lines_from [] lines ∙ ap (map key_of) (front_none lines)

-- a last line that no newline ends
unended : (word text : List ℕ) → 0 < length word + length text → (0 < length text → get_or text (length text - 1) 0 ≡ newline → ⊥) → every (λ (k : Key). k.good) (keys_from word text) ≡ false
unfolding keys_from every
unended word [] h n = rw (ne_eqb (length word) 0 (λ (z : length word ≡ 0). omega arith), keys_from, every)
unended word (b ∷ []) h n = rw (ne_eqb b newline (n (omega arith)), keys_from) (unended (word ++ (b ∷ [])) [] (omega (arith, length-append word (b ∷ []))) (λ l. absurd (omega arith)))
unended word (b ∷ c ∷ bs) h n = go (eqb b newline) (key_of word).good (unended [] (c ∷ bs) (omega arith) later) (unended (word ++ (b ∷ [])) (c ∷ bs) (omega arith) later)
  where
    later : 0 < length (c ∷ bs) → get_or (c ∷ bs) (length (c ∷ bs) - 1) 0 ≡ newline → ⊥
    later l e = let p : length (b ∷ c ∷ bs) - 1 ≡ suc (length (c ∷ bs) - 1) = omega arith in n (omega arith) (ap (λ (i : ℕ). get_or (b ∷ c ∷ bs) i 0) p ∙ e)

    go : (t g : Bool) → every (λ (k : Key). k.good) (keys_from [] (c ∷ bs)) ≡ false → every (λ (k : Key). k.good) (keys_from (word ++ (b ∷ [])) (c ∷ bs)) ≡ false
        → every (λ (k : Key). k.good) (elim t [ true ↦ key_of word ∷ keys_from [] (c ∷ bs) | false ↦ keys_from (word ++ (b ∷ [])) (c ∷ bs) ]) ≡ false
    go true g p q = go' (key_of word).good p
      where
        go' : (g : Bool) → every (λ (k : Key). k.good) (keys_from [] (c ∷ bs)) ≡ false → (g && every (λ (k : Key). k.good) (keys_from [] (c ∷ bs))) ≡ false
        go' true p = p
        go' false p = refl
    go false g p q = q

-- ---- texts that are not good

module _ (text : List ℕ) where
  pub keys_long : max_bytes < length text → false ≡ good_keys text
  unfolding good_keys
  keys_long h = rw (lt-leb (length text) max_bytes h, good_keys)

  pub good_few : good_keys text ≡ true → length text ≤ max_bytes
  unfolding good_keys
  good_few g = leb-true (length text) max_bytes (and_true (leb (length text) max_bytes) _ g).0

  with_bad : every (λ (k : Key). k.good) (keys_in text) ≡ false → false ≡ good_keys text
  unfolding good_keys
  with_bad e = rw (e, good_keys) (go (leb (length text) max_bytes))
    where
      go : (a : Bool) → false ≡ (a && false)
      go true = refl
      go false = refl

  with_many : max_keys < length (keys_in text) → false ≡ good_keys text
  unfolding good_keys
  with_many h = rw (lt-leb (length (keys_in text)) max_keys h, good_keys) (go (leb (length text) max_bytes) (every (λ (k : Key). k.good) (keys_in text)) (ltb 0 (length (keys_in text))))
    where
      go : (a b c : Bool) → false ≡ (a && (b && (c && false)))
      go true true true = refl
      go true true false = refl
      go true false c = refl
      go false b c = refl

  with_none : length (keys_in text) ≡ 0 → false ≡ good_keys text
  unfolding good_keys
  with_none h = rw (le-ltb 0 (length (keys_in text)) (omega (arith, h)), good_keys) (go (leb (length text) max_bytes) (every (λ (k : Key). k.good) (keys_in text)))
    where
      go : (a b : Bool) → false ≡ (a && (b && false))
      go true true = refl
      go true false = refl
      go false b = refl

  with_all : length text ≤ max_bytes → every (λ (k : Key). k.good) (keys_in text) ≡ true → 0 < length (keys_in text) → length (keys_in text) ≤ max_keys → true ≡ good_keys text
  unfolding good_keys
  with_all a b c d = rw (le-leb (length text) max_bytes a, b, lt-ltb 0 (length (keys_in text)) c, le-leb (length (keys_in text)) max_keys d, good_keys)

  -- a text that is empty, or that does not end with a newline
  pub keys_unended : (0 < length text → get_or text (length text - 1) 0 ≡ newline → ⊥) → false ≡ good_keys text
  unfolding keys_in keys_from
  keys_unended n = go (le_or_lt (length text) 0)
    where
      go : (length text ≤ 0) ⊎ (0 < length text) → false ≡ good_keys text
      go (inl z) = with_none (none text (omega arith))
        where
          none : (l : List ℕ) → length l ≡ 0 → length (keys_in l) ≡ 0
          none [] e = refl
          none (b ∷ bs) e = absurd (omega arith)
      go (inr l) = with_bad (unended [] text (omega arith) n)

-- ---- the keys read so far: those of the first lines

module _ (ls : List (List ℕ)) where
  pub record Reading (words : List ℕ) (count : ℕ) : Type 0 where
    pub size : length words ≡ max_keys
    pub few : count ≤ max_keys
    pub within : count ≤ length ls
    pub good : every (λ (k : Key). k.good) (map key_of ls) ≡ every (λ (k : Key). k.good) (map key_of (drop count ls))
    pub stored : take count words ≡ take count (map (λ (k : Key). k.value) (map key_of ls))

  pub reading_none : (words : List ℕ) → length words ≡ max_keys → Reading words 0
  reading_none words e = record { size = e; few = omega arith; within = omega arith; good = refl; stored = refl }

  module _ (words : List ℕ) (count : ℕ) (w : Reading words count) (h : count < length ls) where
    value_at : get_or (map (λ (k : Key). k.value) (map key_of ls)) count 0 ≡ (key_of (get_or ls count [])).value
    value_at =
        get_d_map (λ (k : Key). k.value) (map key_of ls) count (key_of []) 0 (omega (arith, length-map ls key_of))
        ∙ ap (λ (k : Key). k.value) (get_d_map key_of ls count [] (key_of []) h)

    good_at : every (λ (k : Key). k.good) (map key_of ls) ≡ ((key_of (get_or ls count [])).good && every (λ (k : Key). k.good) (map key_of (drop (suc count) ls)))
    unfolding every
    good_at = w.good ∙ rw (drop-cons ls count [] h)

    pub reading_bad : told None ≡ key_of (get_or ls count []) → every (λ (k : Key). k.good) (map key_of ls) ≡ false
    reading_bad e = good_at ∙ ap (λ (k : Key). k.good && every (λ (k : Key). k.good) (map key_of (drop (suc count) ls))) (sym e)

    pub reading_more : count < length words → (x : ℕ) → told (Some x) ≡ key_of (get_or ls count []) → Reading (set words count x) (count + 1)
    reading_more l x e =
        record {
          size = length-set words count x ∙ w.size;
          few = omega (arith, w.size);
          within = omega arith;
          good = rw (add-one count) (good_at ∙ ap (λ (k : Key). k.good && every (λ (k : Key). k.good) (map key_of (drop (suc count) ls))) (sym e));
          stored = written_more words (map (λ (k : Key). k.value) (map key_of ls)) count count x refl l (omega (arith, length-map ls key_of, length-map (map key_of ls) (λ (k : Key). k.value))) w.stored (ap (λ (k : Key). k.value) e ∙ sym value_at);
        }

module _ (text lines words : List ℕ) (count : ℕ) (e : text ≡ lines ++ (newline ∷ [])) (w : Reading (slice_split ends lines) words count) where
  keys_are : keys_in text ≡ map key_of (slice_split ends lines)
  keys_are = lines_keys text lines e

  pub read_bad : every (λ (k : Key). k.good) (map key_of (slice_split ends lines)) ≡ false → ReadAs text None words
  read_bad b = record { size = w.size; is = sym (with_bad text (ap (every (λ (k : Key). k.good)) keys_are ∙ b)) }

  pub read_many : count < length (slice_split ends lines) → length words ≤ count → ReadAs text None words
  read_many h l = record { size = w.size; is = sym (with_many text (omega (arith, w.size, ap length keys_are, length-map (slice_split ends lines) key_of))) }

  pub read_all : length (slice_split ends lines) ≤ count → length text ≤ max_bytes → ReadAs text (Some count) words
  unfolding every
  read_all h l =
      let n : length (keys_in text) ≡ count = omega (arith, w.within, ap length keys_are, length-map (slice_split ends lines) key_of) in
      let some : 0 < length (slice_split ends lines) = omega (arith, length-slice_split ends lines) in
      let good : every (λ (k : Key). k.good) (keys_in text) ≡ true = ap (every (λ (k : Key). k.good)) keys_are ∙ w.good ∙ ap (λ (l : List (List ℕ)). every (λ (k : Key). k.good) (map key_of l)) (drop_of_length-le (slice_split ends lines) {i = count} h) in
      record {
        size = w.size;
        is = (
          sym (with_all text l good (omega (arith, w.within)) (omega (arith, w.few))),
          w.few,
          w.stored ∙ take_all count (map (λ (k : Key). k.value) (map key_of (slice_split ends lines))) (omega (arith, h, length-map (slice_split ends lines) key_of, length-map (map key_of (slice_split ends lines)) (λ (k : Key). k.value))) ∙ sym (ap (map (λ (k : Key). k.value)) keys_are),
        );
      }

-- a good text has a key
pub values_some : (text : List ℕ) → good_keys text ≡ true → 0 < length (values_in text)
unfolding good_keys
values_some text g =
    let a = and_true (leb (length text) max_bytes) _ g in
    let b = and_true (every (λ (k : Key). k.good) (keys_in text)) _ a.1 in
    omega (arith, ltb-true 0 (length (keys_in text)) (and_true (ltb 0 (length (keys_in text))) _ b.1).0, length-map (keys_in text) (λ (k : Key). k.value))

-- nothing is read of a text that is not good
pub read_not : (text words : List ℕ) → length words ≡ max_keys → false ≡ good_keys text → ReadAs text None words
read_not text words s e = record { size = s; is = sym e }

-- the keys handed on: the words past them emptied
module _ (text words : List ℕ) where
  pub given_none : ReadAs text None words → record { good = false; count = 0; words = replicate max_keys 0 } ≡ given_of text
  unfolding given_of
  given_none r = rw (r.is, given_of)

  pub given_all : (n : ℕ) → ReadAs text (Some n) words → (ys : List ℕ) → ys ≡ replicate (length (mid_of n (max_keys - n) words)) 0
      → record { good = true; count = n; words = put_mid n (max_keys - n) words ys } ≡ given_of text
  unfolding given_of
  given_all n r ys e = rw (r.is.0, given_of) (ap (λ (l : List ℕ). record { good = true; count = n; words = take n words ++ l }) rest ∙ ap₂ (λ (l : List ℕ) (m : ℕ). record { good = true; count = m; words = l ++ replicate (max_keys - m) 0 }) r.is.2 (sym sure))
    where
      few : length (drop n words) ≡ max_keys - n
      few = length-drop n words ∙ ap (λ (m : ℕ). m - n) r.size

      sure : length (values_in text) ≡ n
      sure = ap length (sym r.is.2) ∙ length-take-le n words (omega (arith, r.is.1, r.size))

      rest : ys ++ post_of n (max_keys - n) words ≡ replicate (max_keys - n) 0
      rest =
          ap₂ (λ (a b : List ℕ). a ++ b) (e ∙ ap (λ (m : ℕ). replicate m 0) (length-take-le (max_keys - n) (drop n words) (omega (arith, few))))
          (drop_of_length-le (drop n words) {i = max_keys - n} (omega (arith, few)))
          ∙ append-nil (replicate (max_keys - n) 0)

-- what the keys handed on say of a text
module _ (text : List ℕ) (r : Given) (e : r ≡ given_of text) where
  pub given_good : {b : Bool} → r.good ≡ b → good_keys text ≡ b
  unfolding given_of
  given_good {b} p = go (good_keys text) refl
    where
      go : (q : Bool) → good_keys text ≡ q → good_keys text ≡ b
      go true q = q ∙ sym (ap (λ (x : Given). x.good) e ∙ rw (q, given_of)) ∙ p
      go false q = q ∙ sym (ap (λ (x : Given). x.good) e ∙ rw (q, given_of)) ∙ p

  module _ (g : good_keys text ≡ true) where
    is : r ≡ record { good = true; count = length (values_in text); words = values_in text ++ replicate (max_keys - length (values_in text)) 0 }
    unfolding given_of
    is = e ∙ rw (g, given_of)

    pub given_fits : r.count ≤ length r.words
    given_fits = rw is (omega (arith, length-append (values_in text) (replicate (max_keys - length (values_in text)) 0)))

    pub given_values : take r.count r.words ≡ values_in text
    given_values = rw is (take_at (values_in text) (replicate (max_keys - length (values_in text)) 0) (length (values_in text)) refl)

-- a text in front of its final newline
pub lines_of : (text : List ℕ) → 0 < length text → get_or text (length text - 1) 0 ≡ newline → text ≡ take (length text - 1) text ++ (newline ∷ [])
lines_of text h e =
    let k : length text - 1 + 1 ≡ length text = omega arith in
    sym (take_all (length text) text (omega arith)) ∙ ap (λ (n : ℕ). take n text) (sym k) ∙ rw add-one (take-suc text (length text - 1) 0 (omega arith)) ∙ ap (λ (x : ℕ). take (length text - 1) text ++ (x ∷ [])) e
