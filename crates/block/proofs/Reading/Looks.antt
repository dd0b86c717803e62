-- What is looked at in a block: its check, its opening, the bytes that are not used, its words. Assumes nothing.
use mathlib.Core.Path.{◌≡◌, refl, sym, ap, ap₂, ◌∙◌}
use mathlib.Core.Bool.{Bool, true, false, ◌&&◌}
use mathlib.Core.List.{List, [], ◌∷◌, ◌++◌}
use Prim.Native.Nat.{ℕ, ◌+◌, ◌-◌, ◌*◌, ◌%◌, ◌^◌, ◌≤◌, ◌<◌, min}
use native.Mathlib.Nat.{mod-eq_of_lt}
use native.Mathlib.Omega.{arith}
use lib.Dec.{eqb}
use lib.ListN.{length, get_or, take, drop, set, length-take, length-drop}
use lib.Seq.{sets, take_all, take-add, drop-drop, length-take-le}
use lib.Pointwise.{pointwise}
use Rattle.std.proofs.lemmas.List.{drop_min}
use Rattle.std.proofs.lemmas.Slice.{between_is}
use borrow.Author.Tests.{eqb-true, eqb-false, eq-eqb, ne_eqb}
use Rattle.lists.specs.Members.{every}
use Rattle.lists.proofs.Tests.{true_iff}
use Rattle.lists.proofs.Entries.Alls.{all_take, all_drop}
use Rattle.lists.proofs.Entries.Members.{take_more}
use Rattle.lists.proofs.Entries.Parts.{take_least}
use Rattle.lists.proofs.Writing.Storing.{Storing, storing_more, storing_end}
use Rattle.block.specs.declared.Opening.{Opening}
use Rattle.block.specs.Bytes.{little_of, value_of, number_at, words_at}
use Rattle.block.specs.Block.{block_size, payload_at, check_at, modulus, sum_of, weigh, opening_of, check_of, same, right_check}
use Rattle.block.specs.Look.{blank_from, laid_out, words_over}
use Rattle.block.proofs.Check.Sums.{sum_end}
use Rattle.block.proofs.Laying.Words.{length_little, length_opening, length_check}
use Rattle.block.proofs.Reading.Same.{same_is, same_true, same_other, same_append, same_pointwise}
use Rattle.block.proofs.Reading.Numbers.{Bytes, value_little, little_value}
use Rattle.block.proofs.Reading.Places.{length_words_at, word_at}

-- ---- the check

-- bytes are those of a number where they make it
little_same : (m : ℕ) (b : List ℕ) (w : ℕ) → length b ≡ m → Bytes b → w < 256 ^ m → same b (little_of m w) ≡ eqb (value_of b) w
little_same m b w n a low =
    true_iff (same b (little_of m w)) (eqb (value_of b) w)
    (λ h. eq-eqb (value_of b) w (ap value_of (same_true b (little_of m w) h) ∙ value_little m w ∙ mod-eq_of_lt low))
    (λ h. same_is b (little_of m w) (sym (little_value m b n a) ∙ ap (little_of m) (eqb-true (value_of b) w h)))

module _ (b : List ℕ) where
  abbrev body : List ℕ
  body = take check_at b

  -- a slice of another length
  pub not_right : (length b ≡ block_size → ⊥) → right_check b ≡ false
  unfolding right_check
  not_right h = same_other (drop check_at b) (check_of body) (λ e. h (omega (arith, length-drop check_at b, length_check body)))

  module _ (n : length b ≡ block_size) (a : Bytes b) where
    -- the check is right where both its numbers are
    pub right_is : right_check b ≡ (eqb (number_at 2 check_at b) (sum_of body % modulus) && eqb (number_at 2 (check_at + 2) b) (weigh check_at body % modulus))
    unfolding right_check check_of number_at
    right_is =
        let l : length (drop check_at b) ≡ 4 = omega (arith, length-drop check_at b) in
        let p : List ℕ = take 2 (drop check_at b) in
        let q : List ℕ = take 2 (drop (check_at + 2) b) in
        let np : length p ≡ 2 = length-take-le 2 (drop check_at b) (omega arith) in
        let nq : length q ≡ 2 = length-take-le 2 (drop (check_at + 2) b) (omega (arith, length-drop (check_at + 2) b)) in
        let e : drop check_at b ≡ p ++ q = sym (take_all 4 (drop check_at b) (omega arith)) ∙ take-add 2 2 (drop check_at b) ∙ ap (λ (x : List ℕ). p ++ take 2 x) (drop-drop 2 check_at b) in
        ap (λ (x : List ℕ). same x (little_of 2 (sum_of body % modulus) ++ little_of 2 (weigh check_at body % modulus))) e
        ∙ same_append p q (little_of 2 (sum_of body % modulus)) (little_of 2 (weigh check_at body % modulus)) (np ∙ sym (length_little 2 (sum_of body % modulus)))
        ∙ ap₂ ◌&&◌ (little_same 2 p (sum_of body % modulus) np (all_take _ 2 (drop check_at b) (all_drop _ check_at b a)) (below (sum_of body)))
        (little_same 2 q (weigh check_at body % modulus) nq (all_take _ 2 (drop (check_at + 2) b) (all_drop _ (check_at + 2) b a)) (below (weigh check_at body)))
      where
        below : (x : ℕ) → x % modulus < 256 ^ 2
        below x = omega arith

-- ---- the bytes that are not used

none_in_sum : (l : List ℕ) → eqb (sum_of l) 0 ≡ every (λ b. eqb b 0) l
unfolding sum_of every
none_in_sum [] = refl
none_in_sum (b ∷ l) = go (eqb b 0) refl (none_in_sum l)
  where
    go : (t : Bool) → eqb b 0 ≡ t → eqb (sum_of l) 0 ≡ every (λ b. eqb b 0) l → eqb (b + sum_of l) 0 ≡ (t && every (λ b. eqb b 0) l)
    go true e r = let z : b + sum_of l ≡ sum_of l = omega (arith, eqb-true b 0 e) in rw z r
    go false e r = ne_eqb (b + sum_of l) 0 (λ z. eqb-false b 0 e (omega arith))

-- the loop at byte i of l
pub record Summing (l : List ℕ) (s i : ℕ) : Type 0 where
  pub is : s ≡ sum_of (take i l)
  pub low : s ≤ 255 * i

pub summing_none : (l : List ℕ) → Summing l 0 0
unfolding sum_of
summing_none l = record { is = refl; low = omega arith }

pub summing_more : (l : List ℕ) (s i x : ℕ) → i < length l → x ≡ get_or l i 0 → x ≤ 255 → Summing l s i → Summing l (s + x) (i + 1)
summing_more l s i x h e low k =
    let t : take (i + 1) l ≡ take i l ++ (get_or l i 0 ∷ []) = take_more l i 0 h in
    record { is = omega (arith, e, k.is, ap sum_of t, sum_end (take i l) (get_or l i 0)); low = omega (arith, k.low) }

module _ (b : List ℕ) (at end from : ℕ) (e : end ≡ min check_at (length b)) (f : from ≡ min at end) where
  -- the bytes that are summed
  abbrev pub looked_at : List ℕ
  looked_at = take (end - from) (drop from b)

  looked_is : looked_at ≡ drop at (take check_at b)
  looked_is =
      let l : List ℕ = take check_at b in
      let t : take end b ≡ l = ap (λ (i : ℕ). take i b) e ∙ take_least check_at b (length b) refl in
      let n : from ≡ min at (length l) = f ∙ ap (min at) (e ∙ sym (length-take check_at b)) in
      between_is b from end ∙ ap (drop from) t ∙ ap (λ (i : ℕ). drop i l) n ∙ drop_min at l

  pub summing_end : (s i : ℕ) → length looked_at ≤ i → Summing looked_at s i → eqb s 0 ≡ blank_from at b
  unfolding blank_from
  summing_end s i h k =
      let w : take i looked_at ≡ drop at (take check_at b) = take_all i looked_at h ∙ looked_is in
      ap (λ (n : ℕ). eqb n 0) (k.is ∙ ap sum_of w) ∙ none_in_sum (drop at (take check_at b))

-- ---- the opening

module _ (o : Opening) (at : ℕ) (b : List ℕ) where
  -- a block without room for an opening
  pub laid_short : length b < payload_at → laid_out o at b ≡ false
  unfolding laid_out
  laid_short h =
      let no : same (opening_of o) (take payload_at b) ≡ false = same_other (opening_of o) (take payload_at b) (λ e. omega (arith, length_opening o, length-take payload_at b)) in
      rw no

pub laid_is : (o : Opening) (at : ℕ) (b bytes : List ℕ) → bytes ≡ opening_of o → laid_out o at b ≡ (pointwise eqb bytes (take (length bytes) b) && blank_from at b)
unfolding laid_out
laid_is o at b bytes e =
    let n : length bytes ≡ payload_at = ap length e ∙ length_opening o in
    ap₂ (λ (x : List ℕ) (i : ℕ). same x (take i b) && blank_from at b) (sym e) (sym n)
    ∙ ap (λ (t : Bool). t && blank_from at b) (sym (same_pointwise bytes (take (length bytes) b)))

-- ---- the words

module _ (size per : ℕ) (b lent : List ℕ) where
  pub words_none : (length b ≡ block_size → ⊥) → lent ≡ words_over size per b lent
  words_none h = let no : eqb (length b) block_size ≡ false = ne_eqb (length b) block_size h in sym (rw (words_over, no))

  -- the words that are taken
  abbrev pub taken : ℕ → List ℕ
  taken last = words_at size last (drop payload_at b)

  pub words_more : (last i v : ℕ) (l : List ℕ) → i < last → v ≡ number_at size (payload_at + size * i) b → Storing (taken last) lent 0 l i → Storing (taken last) lent 0 (set l i v) (i + 1)
  unfolding number_at
  words_more last i v l h e s =
      let z : 0 + i ≡ i = omega arith in
      let w : get_or (taken last) i 0 ≡ v = word_at size last i (drop payload_at b) h ∙ ap (λ (x : List ℕ). value_of (take size x)) (drop-drop (size * i) payload_at b) ∙ sym e in
      rw z at (storing_more (taken last) lent 0 0 v l i (omega (arith, length_words_at size last (drop payload_at b))) (sym w) s)

  pub words_end : (last i : ℕ) (l : List ℕ) → length b ≡ block_size → last ≡ min per (length lent) → last ≤ i → Storing (taken last) lent 0 l i → l ≡ words_over size per b lent
  words_end last i l n e h s =
      let yes : eqb (length b) block_size ≡ true = eq-eqb (length b) block_size n in
      storing_end (taken last) lent 0 l i (omega (arith, length_words_at size last (drop payload_at b))) s
      ∙ ap (λ (m : ℕ). sets lent 0 (taken m)) e
      ∙ sym (rw (words_over, yes))
