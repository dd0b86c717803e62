-- The lines of a text read one after the other. Assumes nothing.
use Prim.Native.Nat.{ℕ, suc, ◌+◌, ◌-◌, ◌≤◌, ◌<◌}
use native.Mathlib.Omega.{arith}
use native.Mathlib.Numerals.{add-one}
use mathlib.Core.Path.{◌≡◌, refl, sym, ap, ap₂, ◌∙◌}
use mathlib.Core.Bool.{Bool, true, false, not, ◌&&◌, ◌||◌}
use mathlib.Core.List.{List, [], ◌∷◌, ◌++◌, append-nil, append_assoc, map}
use borrow.Author.Tests.{ne_eqb, le-leb, lt-leb}
use lib.Dec.{eqb}
use lib.ListN.{length, take, drop, set, length-append, length-drop, length-set, drop_of_length-le}
use lib.Seq.{drop-drop, take_all, take-suc-set}
use Rattle.lists.specs.Members.{every}
use Rattle.print.specs.Line.{newline}
use Rattle.input.specs.Input.{max_listed}
use Rattle.find.specs.Keys.{line_length}
use Rattle.find.proofs.Lines.{line_within}
use Rattle.dated.specs.Dated.{Dated}
use Rattle.dated.specs.Dated.{good_line, dated_of}
use Rattle.dated.proofs.Lines.{dated_good}
use Rattle.keys.specs.Keys.{lines_from, lines_in, good_lines}
use Rattle.keys.specs.Inner.{all_narrow, Words}

-- the first line, and those after it
pub line_first : (word text : List ℕ) → 0 < length word + length text
    → lines_from word text ≡ (word ++ take (line_length text) text) ∷ lines_from [] (drop (suc (line_length text)) text)
unfolding line_length lines_from
line_first word [] h = rw (ne_eqb (length word) 0 (λ (z : length word ≡ 0). omega arith), lines_from) (ap (λ (l : List ℕ). l ∷ []) (sym (append-nil word)))
line_first word (b ∷ bs) h = go (eqb b newline) refl (line_first (word ++ (b ∷ [])) bs (omega (arith, length-append word (b ∷ []))))
  where
    m : ℕ
    m = line_length bs

    go : (q : Bool) → eqb b newline ≡ q → lines_from (word ++ (b ∷ [])) bs ≡ ((word ++ (b ∷ [])) ++ take m bs) ∷ lines_from [] (drop (suc m) bs)
        → lines_from word (b ∷ bs) ≡ (word ++ take (line_length (b ∷ bs)) (b ∷ bs)) ∷ lines_from [] (drop (suc (line_length (b ∷ bs))) (b ∷ bs))
    go true q more = rw (q, lines_from, line_length) (ap (λ (l : List ℕ). l ∷ lines_from [] bs) (sym (append-nil word)))
    go false q more =
        rw (q, lines_from, line_length) (more ∙ ap (λ (l : List ℕ). l ∷ lines_from [] (drop (suc m) bs)) (append_assoc word (b ∷ []) (take m bs)))

-- ---- tests of all lines

module _ (p : List ℕ → Bool) where
  one_bad : (ls rest : List (List ℕ)) (l : List ℕ) → p l ≡ false → every p (ls ++ l ∷ rest) ≡ false
  unfolding every
  one_bad [] rest l e = rw e
  one_bad (x ∷ ls) rest l e = go (p x) (one_bad ls rest l e)
    where
      go : (a : Bool) → every p (ls ++ l ∷ rest) ≡ false → (a && every p (ls ++ l ∷ rest)) ≡ false
      go true h = h
      go false h = refl

  one_more : (ls : List (List ℕ)) (l : List ℕ) → every p (ls ++ (l ∷ [])) ≡ (every p ls && p l)
  unfolding every
  one_more [] l = go (p l)
    where
      go : (a : Bool) → (a && true) ≡ a
      go true = refl
      go false = refl
  one_more (x ∷ ls) l = go (p x) (one_more ls l)
    where
      go : (a : Bool) → every p (ls ++ (l ∷ [])) ≡ (every p ls && p l) → (a && every p (ls ++ (l ∷ []))) ≡ ((a && every p ls) && p l)
      go true h = h
      go false h = refl

map_snoc : (f : List ℕ → ℕ) (ls : List (List ℕ)) (l : List ℕ) → map f (ls ++ (l ∷ [])) ≡ map f ls ++ (f l ∷ [])
map_snoc f [] l = refl
map_snoc f (x ∷ ls) l = ap (λ (r : List ℕ). f x ∷ r) (map_snoc f ls l)

abbrev narrow : List ℕ → Bool
narrow l = not (dated_of l).wide

abbrev word : List ℕ → ℕ
word l = (dated_of l).word

-- a field that is not over its width, and one that is
pub or_none : (x : Bool) → x ≡ (x || false)
or_none true = refl
or_none false = refl

pub or_all : (x : Bool) → true ≡ (x || true)
or_all true = refl
or_all false = refl

lines_end : (bytes : List ℕ) (at : ℕ) → length bytes ≤ at → lines_from [] (drop at bytes) ≡ []
unfolding lines_from
lines_end bytes at h = ap (λ (l : List ℕ). lines_from [] l) (drop_of_length-le bytes h)

-- ---- the lines read so far

pub record Reading (bytes words : List ℕ) (wide : Bool) (count at : ℕ) : Type 0 where
  pub size : length words ≡ max_listed
  pub few : count ≤ max_listed
  pub within : at ≤ length bytes + 1
  pub done : List (List ℕ)
  pub split : lines_in bytes ≡ done ++ lines_from [] (drop at bytes)
  pub good : every good_line done ≡ true
  pub number : length done ≡ count
  pub narrows : not wide ≡ every narrow done
  pub stored : take count words ≡ map word done

module _ (bytes words : List ℕ) where
  pub reading_none : length words ≡ max_listed → Reading bytes words false 0 0
  unfolding every
  reading_none e =
      record { size = e; few = omega arith; within = omega arith; done = []; split = refl; good = refl; number = refl; narrows = refl; stored = refl }

  module _ (wide : Bool) (count at : ℕ) (w : Reading bytes words wide count at) where
    module _ (size : ℕ) (h : at < length bytes) (ep : size ≡ line_length (take (length bytes - at) (drop at bytes))) where
      es : size ≡ line_length (drop at bytes)
      es = ep ∙ ap line_length (take_all (length bytes - at) (drop at bytes) (omega (arith, length-drop at bytes)))

      -- the line ends within the text
      pub reading_within : at + size ≤ length bytes
      reading_within = omega (arith, es, line_within (drop at bytes), length-drop at bytes)

      abbrev line : List ℕ
      line = take (at + size - at) (drop at bytes)

      next : lines_in bytes ≡ w.done ++ line ∷ lines_from [] (drop (at + size + 1) bytes)
      next =
          let m : line_length (drop at bytes) ≡ at + size - at = omega (arith, es) in
          let n : at + suc (line_length (drop at bytes)) ≡ at + size + 1 = omega (arith, es) in
          w.split
          ∙ ap (λ (l : List (List ℕ)). w.done ++ l) (line_first [] (drop at bytes) (omega (arith, length-drop at bytes)))
          ∙ ap₂ (λ (x r : List ℕ). w.done ++ x ∷ lines_from [] r)
          (ap (λ (j : ℕ). take j (drop at bytes)) m)
          (drop-drop (suc (line_length (drop at bytes))) at bytes ∙ ap (λ (j : ℕ). drop j bytes) n)

      module _ (d : Dated) (ed : d ≡ dated_of line) where
        pub reading_bad : d.good ≡ false → good_lines bytes ≡ false
        unfolding good_lines
        reading_bad b =
            let g : good_line line ≡ false = sym (dated_good line) ∙ ap (λ (x : Dated). x.good) (sym ed) ∙ b in
            let e : every good_line (lines_in bytes) ≡ false = ap (every good_line) next ∙ one_bad good_line w.done (lines_from [] (drop (at + size + 1) bytes)) line g in
            rw (e, good_lines)

        pub reading_many : length words ≤ count → good_lines bytes ≡ false
        unfolding good_lines
        reading_many m =
            let n : max_listed < length (lines_in bytes) =
            omega (arith, ap length next, length-append w.done (line ∷ lines_from [] (drop (at + size + 1) bytes)), w.number, w.size) in
            rw (lt-leb (length (lines_in bytes)) max_listed n, good_lines) (go (every good_line (lines_in bytes)))
          where
            go : (a : Bool) → (a && false) ≡ false
            go true = refl
            go false = refl

        pub reading_more : (v : Bool) → d.good ≡ true → count < length words → v ≡ (wide || d.wide) → Reading bytes (set words count d.word) v (count + 1) (at + size + 1)
        reading_more v b m ev =
            let g : good_line line ≡ true = sym (dated_good line) ∙ ap (λ (x : Dated). x.good) (sym ed) ∙ b in
            record {
              size = length-set words count d.word ∙ w.size;
              few = omega (arith, w.size);
              within = omega (arith, reading_within);
              done = w.done ++ (line ∷ []);
              split = next ∙ sym (append_assoc w.done (line ∷ []) (lines_from [] (drop (at + size + 1) bytes)));
              good = one_more good_line w.done line ∙ rw (w.good, g);
              number = length-append w.done (line ∷ []) ∙ omega (arith, w.number);
              narrows =
                  ap not ev ∙ both wide d.wide
                  ∙ ap₂ (λ (x y : Bool). x && y) w.narrows (ap (λ (x : Dated). not x.wide) ed)
                  ∙ sym (one_more narrow w.done line);
              stored =
                  ap (λ (j : ℕ). take j (set words count d.word)) (add-one count)
                  ∙ take-suc-set words count d.word m
                  ∙ ap₂ (λ (l : List ℕ) (x : ℕ). l ++ (x ∷ [])) w.stored (ap (λ (x : Dated). x.word) ed)
                  ∙ sym (map_snoc word w.done line);
            }
          where
            both : (x y : Bool) → not (x || y) ≡ (not x && not y)
            both true y = refl
            both false y = refl

    module _ (h : length bytes ≤ at) where
      all : lines_in bytes ≡ w.done
      unfolding lines_from
      all = w.split ∙ ap (λ (l : List (List ℕ)). w.done ++ l) (lines_end bytes at h) ∙ append-nil w.done

      is_good : good_lines bytes ≡ true
      unfolding good_lines
      is_good =
          let e : every good_line (lines_in bytes) ≡ true = ap (every good_line) all ∙ w.good in
          rw (e, le-leb (length (lines_in bytes)) max_listed (omega (arith, ap length all, w.number, w.few)), good_lines)

      pub reading_wide : wide ≡ true → (good_lines bytes ≡ true) × (all_narrow bytes ≡ false)
      reading_wide y = (is_good, ap (every narrow) all ∙ sym w.narrows ∙ ap not y)

      pub reading_end : wide ≡ false → Words bytes count words
      reading_end n =
          record {
            few = w.few;
            good = is_good;
            narrow = ap (every narrow) all ∙ sym w.narrows ∙ ap not n;
            number = sym (ap length all ∙ w.number);
            values = w.stored ∙ ap (map word) (sym all);
          }
