-- The pairs of the small groups, laid by a loop. Assumes nothing.
use Prim.Native.Nat.{ℕ, ◌+◌, ◌-◌, ◌*◌, ◌/◌, ◌≤◌, ◌<◌}
use native.Mathlib.Omega.{arith}
use native.Mathlib.Nat.{eq-or-lt_of_le}
use mathlib.Core.Path.{◌≡◌, sym, ap, ◌∙◌}
use mathlib.Core.List.{List, [], ◌++◌}
use mathlib.Core.Logic.{◌⊎◌, inl, inr}
use lib.ListN.{length, get_or, set, take, drop, length-set, take-append-drop}
use lib.Seq.{sets, drop-append-add, get_or-set_same, get_or-set_other}
use Rattle.lists.specs.Cut.{cut, total}
use Rattle.lists.proofs.Writing.Over.{Over, Filling, over_start, filling_start, filling_length, filling_room, filling_same, filling_sets, filling_end}
use Rattle.lists.proofs.Entries.Walk.{Walk, rest, lent, walk_start, walk_end, walk_next, walk_cut, walk_length}
use Rattle.choice.specs.Inner.Split.{tally}
use Rattle.choice.proofs.Choice.Squares.{tally_append}
use Rattle.vectors.proofs.Bits.Xor.{Linear}
use Rattle.choice.specs.Inner.Layout.{pairs_of, whole_items, ends_of, pair_items, items_of, paired_most, blocks_of, max_blocks}
use Rattle.choice.specs.Inner.Gain.{small_most}
use Rattle.choice.specs.Inner.Laid.{Bounds}
use Rattle.choice.proofs.Counting.Halves.{pairs_most}
use Rattle.choice.proofs.Laying.Laid.{Small, Large, small, large, whole_length}
use Rattle.choice.proofs.Laying.Room.{pairs_few}

-- the items from a place on have no more with value 1 than all
tally_drop : (f : ℕ → ℕ) (n : ℕ) (l : List ℕ) → tally f (drop n l) ≤ tally f l
tally_drop f n l = omega (arith, tally_append f (take n l) (drop n l), ap (tally f) (take-append-drop n l))

-- one block more has its rest
bounds_more : (gs : List (List ℕ)) (rests : List ℕ) (b v : ℕ) → b < max_blocks → ((f : ℕ → ℕ) → Linear f → tally f (drop (64 * b) (items_of gs)) ≤ v) → v ≤ small_most gs
    → Bounds gs rests b → Bounds gs (set rests b v) (b + 1)
bounds_more gs rests b v fit high low o = record { size = length-set rests b v ∙ o.size; high = high'; low = low' }
  where
    here : get_or (set rests b v) b 0 ≡ v
    here = get_or-set_same rests b v 0 (omega (arith, o.size))

    before : (w : ℕ) → w < b → get_or (set rests b v) w 0 ≡ get_or rests w 0
    before w h = get_or-set_other rests b w v 0 (λ e. omega arith)

    high' : (f : ℕ → ℕ) → Linear f → (w : ℕ) → length (ends_of gs) ≤ w → w < b + 1 → tally f (drop (64 * w) (items_of gs)) ≤ get_or (set rests b v) w 0
    high' f l w m n = let k : w ≤ b = omega arith in go (eq-or-lt_of_le k)
      where
        go : (w ≡ b) ⊎ (w < b) → tally f (drop (64 * w) (items_of gs)) ≤ get_or (set rests b v) w 0
        go (inl e) = rw (e, here) (high f l)
        go (inr h) = rw (before w h) (o.high f l w m h)

    low' : (w : ℕ) → length (ends_of gs) ≤ w → w < b + 1 → get_or (set rests b v) w 0 ≤ small_most gs
    low' w m n = let k : w ≤ b = omega arith in go (eq-or-lt_of_le k)
      where
        go : (w ≡ b) ⊎ (w < b) → get_or (set rests b v) w 0 ≤ small_most gs
        go (inl e) = rw (e, here) low
        go (inr h) = rw (before w h) (o.low w m h)

-- the pairs of the small groups before group g are laid, up to place w; old is what stood there. Left is what the other small groups have at
-- most, and b the next block without its rest
pub record Adding (old sizes words items rests : List ℕ) (left b w from g : ℕ) : Type 0 where
  pub walk : Walk sizes words from g
  pub items_are : Filling old (items_of (cut sizes words)) (pair_items (rest sizes words from g)) items w
  pub left_is : left ≡ small_most (rest sizes words from g)
  pub left_low : left ≤ small_most (cut sizes words)
  pub next : w ≤ 64 * b
  pub few : b ≤ max_blocks
  pub bounds : Bounds (cut sizes words) rests b

module _ (old sizes words : List ℕ) where
  pub adding_none : (rests : List ℕ) (at left : ℕ) → total sizes ≡ length words → take at old ≡ whole_items (cut sizes words) → at ≡ length (whole_items (cut sizes words))
      → at ≤ 64 * max_blocks → length rests ≡ max_blocks → left ≡ small_most (cut sizes words) → Adding old sizes words old rests left (at / 64) at 0 0
  adding_none rests at left h f e m n q =
      let o : Over old (whole_items (cut sizes words)) old = over_start (whole_items (cut sizes words)) old (rw (← e) f) in
      let k : at ≡ 64 * length (ends_of (cut sizes words)) = e ∙ whole_length (cut sizes words) in
      record {
        walk = walk_start sizes words h;
        items_are = filling_start (pair_items (cut sizes words)) at o (sym e);
        left_is = q;
        left_low = omega arith;
        next = omega arith;
        few = omega arith;
        bounds = record { size = n; high = λ f l w a b. absurd (omega arith); low = λ w a b. absurd (omega arith) };
      }

  module _ (items rests : List ℕ) (left b w from g : ℕ) (l : Adding old sizes words items rests left b w from g) where
    pub adding_end : length sizes ≤ g → (take w items ≡ items_of (cut sizes words)) × (w ≡ length (items_of (cut sizes words)))
    unfolding pair_items
    adding_end h = filling_end (filling_same [] (ap pair_items (walk_end sizes words from g h)) l.items_are)

    -- each block has its rest
    pub adding_bounds : length sizes ≤ g → Bounds (cut sizes words) rests (blocks_of (length (items_of (cut sizes words))))
    adding_bounds h =
        let e = (adding_end h).1 in
        let o = l.bounds in
        let n = l.next in
        record { size = o.size; high = λ f k v a c. o.high f k v a (omega arith); low = λ v a c. o.low v a (omega arith) }

    -- the items from block b on are pairs of the groups from g on
    tail_high : (f : ℕ → ℕ) → Linear f → tally f (drop (64 * b) (items_of (cut sizes words))) ≤ left
    tail_high f k =
        let r : List ℕ = pair_items (rest sizes words from g) in
        let i = l.items_are in
        let e : 64 * b ≡ length i.done + (64 * b - w) = omega (arith, i.size, l.next) in
        let q : drop (64 * b) (items_of (cut sizes words)) ≡ drop (64 * b - w) r =
        ap (drop (64 * b)) (sym i.joined) ∙ ap (λ (n : ℕ). drop n (i.done ++ r)) e ∙ drop-append-add i.done r (64 * b - w) in
        omega (arith, ap (tally f) q, tally_drop f (64 * b - w) r, pairs_most f k (rest sizes words from g), l.left_is)

    module _ (d : ℕ) (h : g < length sizes) where
      abbrev group : List ℕ
      group = lent from (from + get_or sizes g d) words

      abbrev others : List (List ℕ)
      others = rest sizes words (from + get_or sizes g d) (g + 1)

      size : length group ≡ get_or sizes g d
      size = walk_length l.walk d h

      pub adding_large : paired_most < get_or sizes g d → Adding old sizes words items rests left b w (from + get_or sizes g d) (g + 1)
      adding_large s =
          let p : Large group others = large group others (omega (arith, size)) in
          record {
            walk = walk_next l.walk d h;
            items_are = filling_same (pair_items others) (ap pair_items (walk_cut l.walk d h) ∙ p.pairs) l.items_are;
            left_is = l.left_is ∙ ap small_most (walk_cut l.walk d h) ∙ p.most;
            left_low = l.left_low;
            next = l.next;
            few = l.few;
            bounds = l.bounds;
          }

      module _ (s : get_or sizes g d ≤ paired_most) (room : length (items_of (cut sizes words)) ≤ length old) where
        few_in : Small group others
        few_in = small group others (omega (arith, size))

        next : Filling old (items_of (cut sizes words)) (pairs_of group ++ pair_items others) items w
        next = filling_same (pairs_of group ++ pair_items others) (ap pair_items (walk_cut l.walk d h) ∙ few_in.pairs) l.items_are

        pub adding_part : w + length (pairs_of group) ≤ length items
        adding_part = omega (arith, filling_room (pairs_of group) (pair_items others) next room, filling_length l.items_are)

        left_parts : left ≡ get_or sizes g d * get_or sizes g d / 4 + small_most others
        left_parts = l.left_is ∙ ap small_most (walk_cut l.walk d h) ∙ few_in.most ∙ ap (λ (n : ℕ). n * n / 4 + small_most others) size

        pub adding_left : get_or sizes g d * get_or sizes g d / 4 ≤ left
        adding_left = omega (arith, left_parts)

        module _ (items' : List ℕ) (w' : ℕ) (e : items' ≡ sets items w (pairs_of group)) (q : w' ≡ w + length (pairs_of group)) where
          adding_small : (rests' : List ℕ) (b' : ℕ) → w' ≤ 64 * b' → b' ≤ max_blocks → Bounds (cut sizes words) rests' b'
              → Adding old sizes words items' rests' (left - get_or sizes g d * get_or sizes g d / 4) b' w' (from + get_or sizes g d) (g + 1)
          adding_small rests' b' m n o =
              record {
                walk = walk_next l.walk d h;
                items_are = rw (e, q) (filling_sets (pairs_of group) (pair_items others) next room);
                left_is = omega (arith, left_parts);
                left_low = omega (arith, l.left_low);
                next = m;
                few = n;
                bounds = o;
              }

          -- no new block is reached
          pub adding_within : w' ≤ 64 * b → Adding old sizes words items' rests (left - get_or sizes g d * get_or sizes g d / 4) b w' (from + get_or sizes g d) (g + 1)
          adding_within m = adding_small rests b m l.few l.bounds

          -- block b is, and has what was left as its rest
          module _ (m : 64 * b < w') (fit : length old ≡ 64 * max_blocks) where
            pub adding_block : b < max_blocks
            adding_block = omega (arith, adding_part, filling_length l.items_are)

            pub adding_next : Adding old sizes words items' (set rests b left) (left - get_or sizes g d * get_or sizes g d / 4) (b + 1) w' (from + get_or sizes g d) (g + 1)
            adding_next =
                let few : length (pairs_of group) ≤ 5 * length group = pairs_few group (omega (arith, size)) in
                adding_small (set rests b left) (b + 1) (omega (arith, l.next, size)) (omega (arith, adding_block))
                (bounds_more (cut sizes words) rests b left adding_block tail_high l.left_low l.bounds)
