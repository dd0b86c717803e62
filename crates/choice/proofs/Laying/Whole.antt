-- The large groups, laid by a loop. Assumes nothing.
use Prim.Native.Nat.{ℕ, ◌+◌, ◌-◌, ◌*◌, ◌/◌, ◌≤◌, ◌<◌}
use native.Mathlib.Omega.{arith}
use mathlib.Core.Path.{◌≡◌, refl, ap, ◌∙◌}
use mathlib.Core.List.{List, [], ◌∷◌, ◌++◌, map, map-id, append_assoc}
use lib.Bits.{bit_xor}
use lib.ListN.{length, get_or, take, set, replicate, length-replicate}
use lib.Seq.{sets}
use Rattle.lists.specs.Cut.{cut, total}
use Rattle.lists.proofs.Writing.Over.{Filling, over_start, filling_start, filling_length, filling_room, filling_same, filling_sets, filling_zeros, filling_end}
use Rattle.lists.proofs.Entries.Walk.{Walk, rest, lent, walk_start, walk_end, walk_next, walk_cut, walk_length}
use Rattle.choice.specs.Inner.Layout.{padded, whole_items, ends_of, paired_most}
use Rattle.choice.proofs.Laying.Laid.{Large, small, large}

-- the large groups before group g are laid, in whole blocks; old is what stood among the items, and m blocks have room
pub record Laying (old : List ℕ) (m : ℕ) (sizes words items ends : List ℕ) (whole from g : ℕ) : Type 0 where
  pub walk : Walk sizes words from g
  pub items_are : Filling old (whole_items (cut sizes words)) (whole_items (rest sizes words from g)) items (64 * whole)
  pub ends_are : Filling (replicate m 0) (ends_of (cut sizes words)) (ends_of (rest sizes words from g)) ends whole

module _ (old : List ℕ) (m : ℕ) (sizes words : List ℕ) where
  pub laying_none : (ends : List ℕ) → total sizes ≡ length words → ends ≡ replicate m 0 → Laying old m sizes words old ends 0 0 0
  laying_none ends h e =
      record {
        walk = walk_start sizes words h;
        items_are = filling_start (whole_items (cut sizes words)) 0 (over_start [] old refl) refl;
        ends_are = rw e (filling_start (ends_of (cut sizes words)) 0 (over_start [] (replicate m 0) refl) refl);
      }

  module _ (items ends : List ℕ) (whole from g : ℕ) (l : Laying old m sizes words items ends whole from g) where
    pub laying_end : length sizes ≤ g → (take (64 * whole) items ≡ whole_items (cut sizes words)) × (take whole ends ≡ ends_of (cut sizes words)) × (whole ≡ length (ends_of (cut sizes words)))
    unfolding whole_items ends_of
    laying_end h =
        let r : rest sizes words from g ≡ [] = walk_end sizes words from g h in
        let i = filling_end (filling_same [] (ap whole_items r) l.items_are) in
        let e = filling_end (filling_same [] (ap ends_of r) l.ends_are) in
        (i.0, e.0, e.1)

    module _ (d : ℕ) (h : g < length sizes) where
      abbrev group : List ℕ
      group = lent from (from + get_or sizes g d) words

      abbrev others : List (List ℕ)
      others = rest sizes words (from + get_or sizes g d) (g + 1)

      size : length group ≡ get_or sizes g d
      size = walk_length l.walk d h

      pub laying_small : get_or sizes g d ≤ paired_most → Laying old m sizes words items ends whole (from + get_or sizes g d) (g + 1)
      laying_small s =
          let p : length group ≤ paired_most = omega (arith, size) in
          record {
            walk = walk_next l.walk d h;
            items_are = filling_same (whole_items others) (ap whole_items (walk_cut l.walk d h) ∙ (small group others p).whole) l.items_are;
            ends_are = filling_same (ends_of others) (ap ends_of (walk_cut l.walk d h) ∙ (small group others p).ends) l.ends_are;
          }

      module _ (s : paired_most < get_or sizes g d) (i_room : length (whole_items (cut sizes words)) ≤ length old) (e_room : length (ends_of (cut sizes words)) ≤ m) where
        abbrev blocks : ℕ
        blocks = (get_or sizes g d + 63) / 64

        abbrev zeros : List ℕ
        zeros = replicate (64 * blocks - get_or sizes g d) 0

        many : Large group others
        many = large group others (omega (arith, size))

        items_next : Filling old (whole_items (cut sizes words)) (group ++ (zeros ++ whole_items others)) items (64 * whole)
        unfolding padded
        items_next =
            filling_same (group ++ (zeros ++ whole_items others))
            (ap whole_items (walk_cut l.walk d h) ∙ many.whole ∙ rw size (append_assoc group zeros (whole_items others))) l.items_are

        ends_next : Filling (replicate m 0) (ends_of (cut sizes words)) (replicate (blocks - 1) 0 ++ ((get_or sizes g d ∷ []) ++ ends_of others)) ends whole
        ends_next =
            filling_same (replicate (blocks - 1) 0 ++ ((get_or sizes g d ∷ []) ++ ends_of others))
            (ap ends_of (walk_cut l.walk d h) ∙ many.ends ∙ rw size) l.ends_are

        pub laying_part : 64 * whole + length group ≤ length items
        laying_part = omega (arith, filling_room group (zeros ++ whole_items others) items_next i_room, filling_length l.items_are)

        ends_zero : Filling (replicate m 0) (ends_of (cut sizes words)) ((get_or sizes g d ∷ []) ++ ends_of others) ends (whole + (blocks - 1))
        ends_zero = filling_zeros m (blocks - 1) ((get_or sizes g d ∷ []) ++ ends_of others) ends_next e_room

        pub laying_room : whole + blocks ≤ length ends
        laying_room =
            let n : length (replicate {A = ℕ} m 0) ≡ m = length-replicate m 0 in
            omega (arith, filling_room (get_or sizes g d ∷ []) (ends_of others) ends_zero (omega arith), filling_length l.ends_are)

        -- the zeros have room too
        pub laying_zeros : 64 * (whole + blocks) ≤ length items
        laying_zeros =
            let z : length zeros ≡ 64 * blocks - get_or sizes g d = length-replicate (64 * blocks - get_or sizes g d) 0 in
            omega (arith, filling_room zeros (whole_items others) (filling_sets group (zeros ++ whole_items others) items_next i_room) i_room, filling_length l.items_are, size)

        -- the group is stored as it is, XOR 0
        pub laying_large : (items' items'' : List ℕ) → items' ≡ sets items (64 * whole) (map (bit_xor 0) group)
            → items'' ≡ sets items' (64 * whole + get_or sizes g d) (replicate (64 * (whole + blocks) - (64 * whole + get_or sizes g d)) 0)
            → Laying old m sizes words items'' (set ends (whole + blocks - 1) (get_or sizes g d)) (whole + blocks) (from + get_or sizes g d) (g + 1)
        laying_large items' items'' e e'' =
            let z : length zeros ≡ 64 * blocks - get_or sizes g d = length-replicate (64 * blocks - get_or sizes g d) 0 in
            let a : 64 * whole + length group + length zeros ≡ 64 * (whole + blocks) = omega (arith, size) in
            let c : 64 * (whole + blocks) - (64 * whole + get_or sizes g d) ≡ 64 * blocks - get_or sizes g d = omega arith in
            let b : whole + (blocks - 1) ≡ whole + blocks - 1 = omega arith in
            let k : whole + (blocks - 1) + 1 ≡ whole + blocks = omega arith in
            let f = filling_sets zeros (whole_items others) (filling_sets group (zeros ++ whole_items others) items_next i_room) i_room in
            let p : items'' ≡ sets (sets items (64 * whole) group) (64 * whole + length group) zeros = rw (e'', e, c, size, map-id group) in
            let q : Filling (replicate m 0) (ends_of (cut sizes words)) (ends_of others) (set ends (whole + (blocks - 1)) (get_or sizes g d)) (whole + (blocks - 1) + 1) =
            filling_sets (get_or sizes g d ∷ []) (ends_of others) ends_zero (omega (arith, length-replicate {A = ℕ} m 0)) in
            record { walk = walk_next l.walk d h; items_are = rw (p, ← a) f; ends_are = rw (← b, ← k) q }
