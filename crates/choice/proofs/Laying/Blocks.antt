-- What a candidate gains, by the tallies of the blocks. Assumes nothing.
use Prim.Native.Nat.{ℕ, zero, suc, ◌+◌, ◌-◌, ◌*◌, ◌≤◌, ◌<◌}
use native.Mathlib.Nat.{zero-add, add-zero, add_assoc}
use native.Mathlib.Numerals.{add-one}
use native.Mathlib.Omega.{arith}
use mathlib.Core.Path.{◌≡◌, refl, sym, ap, ap₂, ◌∙◌}
use mathlib.Core.List.{List, [], ◌∷◌, ◌++◌, append_assoc}
use mathlib.Core.Logic.{◌⊎◌, inl, inr}
use lib.ListN.{length, take, drop, replicate, length-append, take-append-drop}
use lib.Seq.{take-add, drop-drop, take_at, drop_at, take-append-add, drop-append-le}
use borrow.Author.Tests.{ne_eqb}
use Rattle.choice.specs.Inner.Split.{tally}
use Rattle.choice.proofs.Choice.Squares.{tally_le, tally_append, tally_few, tally_none}
use Rattle.vectors.proofs.Bits.Xor.{Linear}
use Rattle.choice.specs.Inner.Layout.{blocks_of, padded, pairs_of, whole_items, ends_of, pair_items, items_of, block}
use Rattle.choice.specs.Inner.Gain.{splits, gains, whole_gain, pair_gain, Counts}
use Rattle.choice.proofs.Counting.Splits.{pairs_splits}
use Rattle.choice.proofs.Laying.Laid.{Small, Large, laid, padded_length, padded_tally, whole_length}

-- the items of block w at which f is 1
abbrev pub counted : (ℕ → ℕ) → List ℕ → ℕ → ℕ
counted f items w = tally f (block w items)

-- n blocks of the items, from w on
abbrev stretch : ℕ → ℕ → List ℕ → List ℕ
stretch n w items = take (64 * n) (drop (64 * w) items)

module _ (f : ℕ → ℕ) (items : List ℕ) where
  abbrev t : ℕ → ℕ
  t w = counted f items w

  -- one block more
  more : (n w : ℕ) → t w + tally f (stretch n (suc w) items) ≡ tally f (stretch (suc n) w items)
  more n w =
      let e : 64 * suc n ≡ 64 + 64 * n = omega arith in
      let d : 64 * w + 64 ≡ 64 * suc w = omega arith in
      let l : List ℕ = drop (64 * w) items in
      sym (ap (λ m. tally f (take m l)) e ∙ ap (tally f) (take-add 64 (64 * n) l) ∙ tally_append f (take 64 l) (take (64 * n) (drop 64 l))
      ∙ ap (λ l. t w + tally f (take (64 * n) l)) (drop-drop 64 (64 * w) items ∙ ap (λ m. drop m items) d))

  pair_run : (d w : ℕ) → pair_gain d t w ≡ tally f (stretch d w items)
  unfolding pair_gain tally
  pair_run zero w = refl
  pair_run (suc d) w = ap (λ n. t w + n) (pair_run d (suc w)) ∙ more d w

  -- a group that ends with the n-th block after w
  module _ (e : ℕ) (es : List ℕ) (some : e ≡ 0 → ⊥) where
    whole_run : (n w a : ℕ) → whole_gain (replicate n 0 ++ (e ∷ es)) t w a ≡ splits (a + tally f (stretch (suc n) w items)) e + whole_gain es t (w + suc n) 0
    unfolding whole_gain
    whole_run zero w a = rw (ne_eqb e 0 some, add-one w)
    whole_run (suc n) w a =
        let s : suc w + suc n ≡ w + suc (suc n) = omega arith in
        let c : a + t w + tally f (stretch (suc n) (suc w) items) ≡ a + tally f (stretch (suc (suc n)) w items) =
        add_assoc a (t w) (tally f (stretch (suc n) (suc w) items)) ∙ ap (λ m. a + m) (more (suc n) w) in
        whole_run n (suc w) (a + t w) ∙ ap₂ (λ m v. splits m e + whole_gain es t v 0) c s

    counts_run : (n w a : ℕ) → a + tally f (stretch (suc n) w items) ≤ e → Counts es t (w + suc n) 0 → Counts (replicate n 0 ++ (e ∷ es)) t w a
    counts_run zero w a h c = (λ z. absurd (some z), λ z. (h, rw (add-one w) at c))
    counts_run (suc n) w a h c =
        let s : suc w + suc n ≡ w + suc (suc n) = omega arith in
        (λ z. counts_run n (suc w) (a + t w) (omega (arith, more (suc n) w)) (rw s c), λ z. absurd (z refl))

  -- a group that is laid whole from block w on: its blocks, and where they end
  module _ (g after : List ℕ) (w : ℕ) (here : drop (64 * w) items ≡ padded g ++ after) (some : 0 < length g) where
    abbrev size : ℕ
    size = suc (blocks_of (length g) - 1)

    size_is : length (padded g) ≡ 64 * size
    size_is = omega (arith, padded_length g)

    group_tally : f 0 ≡ 0 → tally f (stretch size w items) ≡ tally f g
    group_tally e = ap (λ l. tally f (take (64 * size) l)) here ∙ ap (tally f) (take_at (padded g) after (64 * size) size_is) ∙ padded_tally f e g

    group_after : drop (64 * (w + size)) items ≡ after
    group_after =
        let e : 64 * (w + size) ≡ 64 * w + 64 * size = omega arith in
        ap (λ m. drop m items) e ∙ sym (drop-drop (64 * size) (64 * w) items) ∙ ap (drop (64 * size)) here ∙ drop_at (padded g) after (64 * size) size_is

module _ (f : ℕ → ℕ) (l : Linear f) (items rest : List ℕ) where
  -- the large groups from block w on, and the small ones by their pairs
  abbrev Whole : List (List ℕ) → Type 0
  Whole gs = (w : ℕ) → drop (64 * w) items ≡ whole_items gs ++ rest
      → (whole_gain (ends_of gs) (counted f items) w 0 + tally f (pair_items gs) ≡ gains f gs) × Counts (ends_of gs) (counted f items) w 0

  wholes : (gs : List (List ℕ)) → Whole gs
  unfolding whole_gain ends_of pair_items tally gains
  wholes [] w here = (refl, tt)
  wholes (g ∷ gs) w here = go (laid g gs) (wholes gs)
    where
      go : Small g gs ⊎ Large g gs → Whole gs
          → (whole_gain (ends_of (g ∷ gs)) (counted f items) w 0 + tally f (pair_items (g ∷ gs)) ≡ splits (tally f g) (length g) + gains f gs)
          × Counts (ends_of (g ∷ gs)) (counted f items) w 0
      go (inl s) r =
          let d = r w (here ∙ ap (λ x. x ++ rest) s.whole) in
          rw (s.ends, s.pairs) (omega (arith, tally_append f (pairs_of g) (pair_items gs), pairs_splits f l g, d.0), d.1)
      go (inr s) r =
          let after : List ℕ = whole_items gs ++ rest in
          let at : drop (64 * w) items ≡ padded g ++ after = here ∙ ap (λ x. x ++ rest) s.whole ∙ append_assoc (padded g) (whole_items gs) rest in
          let some : 0 < length g = omega (arith, s.many) in
          let n : ℕ = blocks_of (length g) - 1 in
          let e : 0 + tally f (stretch (suc n) w items) ≡ tally f g = zero-add _ ∙ group_tally f items g after w at some l.zero in
          let d = r (w + suc n) (group_after f items g after w at some) in
          rw (s.ends, s.pairs) (
            rw (whole_run f items (length g) (ends_of gs) (λ z. omega arith) n w 0, e) (omega (arith, d.0)),
            counts_run f items (length g) (ends_of gs) (λ z. omega arith) n w 0 (omega (arith, tally_le f l.low g)) d.1,
          )

-- ---- over the items of all groups, with zeros after them

module _ (f : ℕ → ℕ) (l : Linear f) (gs : List (List ℕ)) (zeros : ℕ) where
  abbrev items : List ℕ
  items = items_of gs ++ replicate zeros 0

  starts : items ≡ whole_items gs ++ (pair_items gs ++ replicate zeros 0)
  starts = append_assoc (whole_items gs) (pair_items gs) (replicate zeros 0)

  paired : pair_gain (blocks_of (length (items_of gs)) - length (ends_of gs)) (λ w. tally f (block w (items_of gs ++ replicate zeros 0))) (length (ends_of gs)) ≡ tally f (pair_items gs)
  paired =
      let p : List ℕ = pair_items gs in
      let w : ℕ = length (ends_of gs) in
      let d : ℕ = blocks_of (length (items_of gs)) - w in
      let here : drop (64 * w) items ≡ p ++ replicate zeros 0 =
      ap (drop (64 * w)) starts ∙ drop_at (whole_items gs) (p ++ replicate zeros 0) (64 * w) (whole_length gs) in
      let e : 64 * d ≡ length p + (64 * d - length p) = omega (arith, length-append (whole_items gs) p, whole_length gs) in
      pair_run f items d w ∙ ap (λ x. tally f (take (64 * d) x)) here ∙ ap (λ m. tally f (take m (p ++ replicate zeros 0))) e
      ∙ ap (tally f) (take-append-add p (replicate zeros 0) (64 * d - length p)) ∙ tally_append f p (take (64 * d - length p) (replicate zeros 0))
      ∙ ap (λ m. tally f p + m) (tally_few f l.zero (64 * d - length p) zeros) ∙ add-zero (tally f p)

  -- what the blocks say is what the candidate gains
  pub blocks_gain : whole_gain (ends_of gs) (λ w. tally f (block w (items_of gs ++ replicate zeros 0))) 0 0
      + pair_gain (blocks_of (length (items_of gs)) - length (ends_of gs)) (λ w. tally f (block w (items_of gs ++ replicate zeros 0))) (length (ends_of gs))
      ≡ gains f gs
  blocks_gain = ap (λ n. whole_gain (ends_of gs) (counted f items) 0 0 + n) paired ∙ (wholes f l items (pair_items gs ++ replicate zeros 0) gs 0 starts).0

  -- and no group's members are counted beyond its size
  pub blocks_count : Counts (ends_of gs) (λ w. tally f (block w (items_of gs ++ replicate zeros 0))) 0 0
  blocks_count = (wholes f l items (pair_items gs ++ replicate zeros 0) gs 0 starts).1

  -- the blocks from w on have no more than the items from there on
  pub pairs_high : (w : ℕ) → w < blocks_of (length (items_of gs))
      → pair_gain (blocks_of (length (items_of gs)) - w) (λ w. tally f (block w (items_of gs ++ replicate zeros 0))) w ≤ tally f (drop (64 * w) (items_of gs))
  pairs_high w h =
      let n : ℕ = 64 * (blocks_of (length (items_of gs)) - w) in
      let l' : List ℕ = drop (64 * w) items in
      let in_it : 64 * w ≤ length (items_of gs) = omega arith in
      let e : tally f l' ≡ tally f (drop (64 * w) (items_of gs)) + tally f (replicate zeros 0) =
      ap (tally f) (drop-append-le (64 * w) (items_of gs) (replicate zeros 0) in_it) ∙ tally_append f (drop (64 * w) (items_of gs)) (replicate zeros 0) in
      omega (arith, pair_run f items (blocks_of (length (items_of gs)) - w) w, tally_append f (take n l') (drop n l'), ap (tally f) (take-append-drop n l'), e, tally_none f l.zero zeros)
