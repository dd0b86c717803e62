-- A stage's loop, pair of words after pair of words. Assumes nothing.
use Prim.Native.Nat.{ℕ, zero, suc, ◌+◌, ◌-◌, ◌*◌, ◌/◌, ◌%◌, ◌≤◌, ◌<◌}
use native.Mathlib.Nat.{add-zero}
use native.Mathlib.Numerals.{add-one}
use native.Mathlib.Omega.{arith}
use mathlib.Core.Path.{◌≡◌, refl, sym, ap, ap₂, ◌∙◌}
use mathlib.Core.Bool.{Bool, true, false}
use mathlib.Core.List.{List}
use mathlib.Core.Logic.{◌⊎◌, inl, inr}
use lib.Arith.{lt_of_le-ne}
use lib.Dec.{eqb}
use borrow.Author.Tests.{eqb-true, eqb-false}
use lib.ListN.{length, get_or, set, length-set}
use lib.Seq.{get_or-set_same, get_or-set_other}
use Rattle.vectors.specs.Bits.{bit}
use Rattle.transpose.specs.Stage.{Distance, Exchanged, beside, bit_at, swapped, swapped_words, low_word, high_word}
use Rattle.transpose.proofs.Places.{pair_of, low_of, even_or_odd, same, up, down, low_pair, high_pair, pair_low, pair_high, low_at, block_next, block_le, high_lt, pair_lt}
use Rattle.transpose.proofs.Fitting.{Words, words_fit}
use Rattle.transpose.proofs.Crossing.{low_even, low_odd, high_even, high_odd}

-- the bits of word r come from where a stage takes them
abbrev pub From : ℕ → List ℕ → ℕ → ℕ → Type 0
From j xs r word = (c : ℕ) → c < 64 → bit word c ≡ bit_at xs (beside j r c) (beside j c r)

-- the first k pairs of words are exchanged
pub record Part (j k : ℕ) (xs ys : List ℕ) : Type 0 where
  pub long : length ys ≡ 64
  pub done : (r : ℕ) → r < 64 → pair_of j r < k → From j xs r (get_or ys r 0)
  pub left : (r : ℕ) → r < 64 → k ≤ pair_of j r → get_or ys r 0 ≡ get_or xs r 0

-- a stage after k pairs, whole blocks of words
pub record Blocks (j k : ℕ) (xs ys : List ℕ) : Type 0 where
  pub low : k ≤ 32
  pub whole : k / j * j ≡ k
  pub part : Part j k xs ys
  pub words : Words ys

-- ---- two stores

module _ (ys : List ℕ) (l h a b : ℕ) where
  stored_other : (r : ℕ) → (r ≡ l → ⊥) → (r ≡ h → ⊥) → get_or (set (set ys l a) h b) r 0 ≡ get_or ys r 0
  stored_other r m n = get_or-set_other (set ys l a) h r b 0 n ∙ get_or-set_other ys l r a 0 m

  stored_first : (l ≡ h → ⊥) → l < length ys → get_or (set (set ys l a) h b) l 0 ≡ a
  stored_first n m = get_or-set_other (set ys l a) h l b 0 n ∙ get_or-set_same ys l a 0 m

  stored_last : h < length ys → get_or (set (set ys l a) h b) h 0 ≡ b
  stored_last m = get_or-set_same (set ys l a) h b 0 (rw length-set m)

module _ (j mask : ℕ) (d : Distance j mask) (xs : List ℕ) where
  from_low : (r : ℕ) → r / j % 2 ≡ 0 → From j xs r (low_word j mask (get_or xs r 0) (get_or xs (r + j) 0))
  from_low r e c h = go (even_or_odd (c / j))
    where
      go : (c / j % 2 ≡ 0) ⊎ (c / j % 2 ≡ 1) → bit (low_word j mask (get_or xs r 0) (get_or xs (r + j) 0)) c ≡ bit_at xs (beside j r c) (beside j c r)
      go (inl z) =
          low_even j mask d (get_or xs r 0) (get_or xs (r + j) 0) c h z
          ∙ ap₂ (bit_at xs) (sym (same j d.pos r c (e ∙ sym z))) (sym (same j d.pos c r (z ∙ sym e)))
      go (inr o) =
          let s : c - j ≡ beside j c r = omega (arith, down j d.pos c r o e) in
          low_odd j mask d (get_or xs r 0) (get_or xs (r + j) 0) c h o ∙ ap₂ (bit_at xs) (sym (up j d.pos r c e o)) s

  from_high : (r l : ℕ) → r / j % 2 ≡ 1 → l + j ≡ r → From j xs r (high_word j mask (get_or xs l 0) (get_or xs r 0))
  from_high r l e q c h = go (even_or_odd (c / j))
    where
      go : (c / j % 2 ≡ 0) ⊎ (c / j % 2 ≡ 1) → bit (high_word j mask (get_or xs l 0) (get_or xs r 0)) c ≡ bit_at xs (beside j r c) (beside j c r)
      go (inl z) =
          let s : l ≡ beside j r c = omega (arith, down j d.pos r c e z) in
          high_even j mask d (get_or xs l 0) (get_or xs r 0) c h z ∙ ap₂ (bit_at xs) s (sym (up j d.pos c r z e))
      go (inr o) =
          high_odd j mask d (get_or xs l 0) (get_or xs r 0) c h o
          ∙ ap₂ (bit_at xs) (sym (same j d.pos r c (e ∙ sym o))) (sym (same j d.pos c r (o ∙ sym e)))

  module _ (k : ℕ) (h : k < 32) (ys : List ℕ) (p : Part j k xs ys) where
    l : ℕ
    l = low_of j k

    bound : l + j < 64
    unfolding l
    bound = high_lt j d.pos d.blocks k h

    at_low : get_or ys l 0 ≡ get_or xs l 0
    unfolding l
    at_low = p.left l (omega (arith, bound)) (omega (arith, low_pair j d.pos k))

    at_high : get_or ys (l + j) 0 ≡ get_or xs (l + j) 0
    unfolding l
    at_high = p.left (l + j) bound (omega (arith, high_pair j d.pos k))

    a : ℕ
    a = low_word j mask (get_or ys l 0) (get_or ys (l + j) 0)

    b : ℕ
    b = high_word j mask (get_or ys l 0) (get_or ys (l + j) 0)

    other : (r : ℕ) → (pair_of j r ≡ k → ⊥) → get_or (swapped j mask l ys) r 0 ≡ get_or ys r 0
    unfolding l a b
    other r n =
        stored_other ys l (l + j) a b r (λ e. n (ap (pair_of j) e ∙ low_pair j d.pos k)) (λ e. n (ap (pair_of j) e ∙ high_pair j d.pos k))

    new_low : get_or (swapped j mask l ys) l 0 ≡ low_word j mask (get_or xs l 0) (get_or xs (l + j) 0)
    unfolding a b
    new_low =
        stored_first ys l (l + j) a b (λ e. absurd (omega (arith, d.pos))) (omega (arith, bound, p.long)) ∙ ap₂ (low_word j mask) at_low at_high

    new_high : get_or (swapped j mask l ys) (l + j) 0 ≡ high_word j mask (get_or xs l 0) (get_or xs (l + j) 0)
    unfolding a b
    new_high = stored_last ys l (l + j) a b (omega (arith, bound, p.long)) ∙ ap₂ (high_word j mask) at_low at_high

    here : (r : ℕ) → pair_of j r ≡ k → From j xs r (get_or (swapped j mask l ys) r 0)
    unfolding l
    here r e c u = go (even_or_odd (r / j))
      where
        go : (r / j % 2 ≡ 0) ⊎ (r / j % 2 ≡ 1) → bit (get_or (swapped j mask l ys) r 0) c ≡ bit_at xs (beside j r c) (beside j c r)
        go (inl z) =
            let q : r ≡ l = pair_low j d.pos k r e z in
            ap (λ (t : ℕ). bit (get_or (swapped j mask l ys) t 0) c) q ∙ ap (λ (n : ℕ). bit n c) new_low
            ∙ ap (λ (t : ℕ). bit (low_word j mask (get_or xs t 0) (get_or xs (t + j) 0)) c) (sym q) ∙ from_low r z c u
        go (inr o) =
            let q : r ≡ l + j = pair_high j d.pos k r e o in
            ap (λ (t : ℕ). bit (get_or (swapped j mask l ys) t 0) c) q ∙ ap (λ (n : ℕ). bit n c) new_high
            ∙ ap (λ (t : ℕ). bit (high_word j mask (get_or xs l 0) (get_or xs t 0)) c) (sym q) ∙ from_high r l o (sym q) c u

    part_more : Part j (k + 1) xs (swapped j mask (low_of j k) ys)
    unfolding l
    part_more =
        record {
          long = simp length-set p.long;
          done = λ r u n. now r u n (eqb (pair_of j r) k) refl;
          left = λ r u n. other r (λ e. absurd (omega arith)) ∙ p.left r u (omega arith);
        }
      where
        now : (r : ℕ) → r < 64 → pair_of j r < k + 1 → (t : Bool) → eqb (pair_of j r) k ≡ t → From j xs r (get_or (swapped j mask l ys) r 0)
        now r u n true e = here r (eqb-true _ _ e)
        now r u n false e =
            let ne : pair_of j r ≡ k → ⊥ = eqb-false _ _ e in
            λ c w. ap (λ (x : ℕ). bit x c) (other r ne) ∙ p.done r u (lt_of_le-ne (omega arith) ne) c w

  -- n words more, from the first word of a block
  part_some : (k : ℕ) (ys : List ℕ) → k / j * j ≡ k → k + j ≤ 32 → Part j k xs ys → (n : ℕ) → n ≤ j → Part j (k + n) xs (swapped_words j mask (2 * k) n ys)
  unfolding swapped_words
  part_some k ys q h p zero l = rw add-zero p
  part_some k ys q h p (suc n) l =
      let e : k + suc n ≡ k + n + 1 = omega arith in
      rw (e, ← low_at j d.pos k n q) (part_more (k + n) (omega arith) (swapped_words j mask (2 * k) n ys) (part_some k ys q h p n (omega arith)))

  pub blocks_fit : (k : ℕ) (ys : List ℕ) → k < 32 → Blocks j k xs ys → k + j ≤ 32
  blocks_fit k ys h s = block_le j d.pos d.blocks k h s.whole

  -- a turn of the loop: ys at its head, zs at its end
  pub blocks_turn : (k : ℕ) (ys zs : List ℕ) → k < 32 → Blocks j k xs ys → zs ≡ swapped_words j mask (2 * k) j ys
      → Blocks j (k + j) xs zs
  blocks_turn k ys zs h s e =
      record {
        low = blocks_fit k ys h s;
        whole = block_next j d.pos k s.whole;
        part = rw e (part_some k ys s.whole (blocks_fit k ys h s) s.part j (omega arith));
        words = rw e (words_fit j mask (2 * k) j ys s.words);
      }

  pub blocks_all : (k : ℕ) (ys : List ℕ) → 32 ≤ k → Blocks j k xs ys → Exchanged j xs ys
  blocks_all k ys h s =
      record { words = s.words; bits = λ r c u v. s.part.done r u (omega (arith, pair_lt j d.pos d.blocks r u)) c v }

-- one word more: ys at a turn's head, zs at its end
pub words_more : (j mask first t : ℕ) (xs ys zs : List ℕ) → ys ≡ swapped_words j mask first t xs → zs ≡ swapped j mask (first + t) ys
    → zs ≡ swapped_words j mask first (t + 1) xs
unfolding swapped_words
words_more j mask first t xs ys zs p e = rw (e, p, add-one)
