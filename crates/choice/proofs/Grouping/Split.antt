-- Groups split by a value: a half listed, a half kept, and all groups one after the other. Assumes nothing.
use Prim.Native.Nat.{ℕ, ◌+◌, ◌-◌, ◌*◌, ◌≤◌, ◌<◌}
use native.Mathlib.Omega.{arith}
use native.Mathlib.Numerals.{add-one}
use native.Mathlib.Nat.{add-zero}
use mathlib.Core.Path.{◌≡◌, refl, sym, ap, ◌∙◌}
use mathlib.Core.Bool.{Bool, true, false}
use mathlib.Core.List.{List, [], ◌∷◌, ◌++◌, map-append, flatten, append-nil, append_assoc}
use lib.Dec.{eqb}
use lib.ListN.{length, get_or, take, drop, set, length-append, length-set, drop_of_length-le}
use lib.Seq.{take-set-le, take-suc-set, take-take, take_at, drop-cons, append_snoc, length-take-le}
use mir.Val.{bool_byte}
use borrow.Author.Tests.{eqb-true, eqb-false}
use Rattle.lists.specs.Members.{All}
use Rattle.lists.proofs.Entries.Joined.{all_append}
use Rattle.lists.proofs.Entries.Alls.{all_take, all_drop}
use Rattle.choice.specs.Inner.Split.{part, pushed, refined, members}
use Rattle.choice.proofs.Choice.Groups.{part_yes, part_no, parts_length, pushed_append, pushed_few, pushed_many, pushed_all, pushed_members, members_append, members_many}
use Rattle.choice.specs.declared.groups.Groups.{Groups}
use Rattle.vectors.specs.Bounds.{max_vectors}
use Rattle.choice.specs.Inner.Groups.{cut, total, Holds, Room, Adds, Sized}
use Rattle.lists.proofs.Entries.Walk.{Walk, rest, lent, walk_length, walk_start, walk_end, walk_next, walk_cut}

-- the list stands from place at on, up to r
pub record Listed (l : List ℕ) (before : List ℕ) (at : ℕ) (after : List ℕ) (r : ℕ) : Type 0 where
  pub place : r ≡ at + length l
  pub is : take r after ≡ take at before ++ l

-- ---- the members of one value, listed from place at on: those before i are looked at

module _ (b : ℕ → ℕ) (v : ℕ) (group before : List ℕ) (at : ℕ) where
  abbrev all : List ℕ
  all = part b v group

  abbrev left : ℕ → List ℕ
  left i = part b v (drop i group)

  pub record Listing (out : List ℕ) (w i : ℕ) : Type 0 where
    pub size : length out ≡ length before
    pub within : i ≤ length group
    pub place : w + length (left i) ≡ at + length all
    pub is : take w out ++ left i ≡ take at before ++ all

  pub listing_none : Listing before at 0
  listing_none = record { size = refl; within = omega arith; place = refl; is = refl }

  pub listing_end : (out : List ℕ) (w i : ℕ) → length group ≤ i → Listing out w i → Listed all before at out w
  unfolding part
  listing_end out w i h s =
      let e : left i ≡ [] = ap (part b v) (drop_of_length-le group h) in
      record { place = omega (arith, s.place, ap length e); is = sym (append-nil (take w out)) ∙ ap (λ (l : List ℕ). take w out ++ l) (sym e) ∙ s.is }

  module _ (d : ℕ) (out : List ℕ) (w i : ℕ) (h : i < length group) (s : Listing out w i) where
    left_cons : left i ≡ part b v (get_or group i d ∷ drop (i + 1) group)
    left_cons = ap (part b v) (drop-cons group i d h ∙ rw (add-one i))

    module _ (r : at + length all < length before) where
      pub listing_room : w < length out
      listing_room = omega (arith, s.place, s.size)

      listing_yes : b (get_or group i d) ≡ v → Listing (set out w (get_or group i d)) (w + 1) (i + 1)
      listing_yes q =
          let e : left i ≡ get_or group i d ∷ left (i + 1) = left_cons ∙ part_yes b v (get_or group i d) (drop (i + 1) group) q in
          record {
            size = length-set out w (get_or group i d) ∙ s.size;
            within = omega arith;
            place = omega (arith, ap length e, s.place);
            is =
                rw (add-one w, take-suc-set out w (get_or group i d) listing_room, append_snoc)
                (ap (λ (l : List ℕ). take w out ++ l) (sym e) ∙ s.is);
          }

      -- the member is written after those that count
      listing_no : (b (get_or group i d) ≡ v → ⊥) → Listing (set out w (get_or group i d)) w (i + 1)
      listing_no n =
          let e : left i ≡ left (i + 1) = left_cons ∙ part_no b v (get_or group i d) (drop (i + 1) group) n in
          record {
            size = length-set out w (get_or group i d) ∙ s.size;
            within = omega arith;
            place = omega (arith, ap length e, s.place);
            is = rw (take-set-le w out w (get_or group i d) (omega arith)) (ap (λ (l : List ℕ). take w out ++ l) (sym e) ∙ s.is);
          }

      -- either way, where x is the value of the member
      pub listing_next : (x : ℕ) → x ≡ b (get_or group i d) → Listing (set out w (get_or group i d)) (w + bool_byte (eqb x v)) (i + 1)
      listing_next x e = go (eqb x v) refl
        where
          go : (t : Bool) → eqb x v ≡ t → Listing (set out w (get_or group i d)) (w + bool_byte t) (i + 1)
          go true q = listing_yes (sym e ∙ eqb-true x v q)
          go false q = rw (add-zero w) (listing_no (λ p. eqb-false x v q (e ∙ p)))

-- ---- a half kept after the groups that are held

flatten_snoc : (gs : List (List ℕ)) (p : List ℕ) → flatten (gs ++ (p ∷ [])) ≡ flatten gs ++ p
unfolding flatten
flatten_snoc [] p = append-nil p
flatten_snoc (g ∷ gs) p = ap (λ (l : List ℕ). g ++ l) (flatten_snoc gs p) ∙ sym (append_assoc g (flatten gs) p)

-- g' is g with a list written
module _ (p : List ℕ) (g g' : Groups) (to : ℕ) (m : g'.members ≡ g.members) (c : g'.count ≡ g.count) (z : g'.sizes ≡ g.sizes)
    (l : Listed p g.order g.members g'.order to) (room : Room p g) where
  pub adds_none : to - g.members < 2 → Adds p g g'
  adds_none h gs s =
      let n : pushed p [] ≡ [] = pushed_few p (omega (arith, l.place)) in
      let q : take g.members g'.order ≡ take g.members g.order =
      sym (take-take g.members to g'.order (omega (arith, l.place)))
      ∙ ap (take g.members) l.is
      ∙ take_at (take g.members g.order) p g.members (length-take-le g.members g.order (omega (arith, room.order_room))) in
      rw (n, append-nil gs) (record { total_is = m ∙ s.total_is; count_is = c ∙ s.count_is; order_is = rw (m, q) s.order_is; sizes_are = rw (c, z) s.sizes_are })

  pub adds_one : 2 ≤ to - g.members → Adds p g (record { order = g'.order; sizes = set g'.sizes g'.count (to - g.members); members = to; count = g'.count + 1 })
  unfolding members
  adds_one h gs s =
      let n : length p ≡ to - g.members = omega (arith, l.place) in
      let q : pushed p [] ≡ p ∷ [] = pushed_many p (omega arith) in
      rw (q, c, z)
      (record {
        total_is = omega (arith, l.place, s.total_is, members_append gs (p ∷ []));
        count_is = omega (arith, s.count_is, length-append gs (p ∷ []));
        order_is = l.is ∙ ap (λ (u : List ℕ). u ++ p) s.order_is ∙ sym (flatten_snoc gs p);
        sizes_are =
            rw (add-one g.count, take-suc-set g.sizes g.count (to - g.members) room.sizes_room, s.sizes_are, ← n)
            (sym (map-append length gs (p ∷ [])));
      })

room_of : {gs : List (List ℕ)} {g : Groups} (p : List ℕ) → Holds gs g → All (λ g. 2 ≤ length g) gs → length p ≤ max_vectors
    → members gs + length p < length g.order → members gs < 2 * length g.sizes → Room p g
room_of {gs} p s a few r q =
    record { few = few; order_room = omega (arith, s.total_is); sizes_room = omega (arith, s.count_is, members_many gs a) }

-- ---- all groups split, one after the other

module _ (b : ℕ → ℕ) (sizes order : List ℕ) where
  pub record Splitting (out : Groups) (from g : ℕ) : Type 0 where
    pub walk : Walk sizes order from g
    pub done : List (List ℕ)
    pub many : All (λ g. 2 ≤ length g) done
    pub few : members done + total (drop g sizes) ≤ length order
    pub holds : Holds done out
    pub same : done ++ refined b (rest sizes order from g) ≡ refined b (cut sizes order)
    pub out_room : length order < length out.order
    pub sizes_room : length order < 2 * length out.sizes

  pub splitting_none : (o z : List ℕ) → total sizes ≡ length order → length order < length o → length order < 2 * length z
      → Splitting (record { order = o; sizes = z; members = 0; count = 0 }) 0 0
  unfolding members flatten
  splitting_none o z h r q =
      record {
        walk = walk_start sizes order h;
        done = [];
        many = tt;
        few = omega arith;
        holds = record { total_is = refl; count_is = refl; order_is = refl; sizes_are = refl };
        same = refl;
        out_room = r;
        sizes_room = q;
      }

  pub splitting_end : {out : Groups} {from g : ℕ} → length sizes ≤ g → Splitting out from g → Holds (refined b (cut sizes order)) out
  unfolding refined
  splitting_end {out} {from} {g} h s =
      let d : s.done ≡ refined b (cut sizes order) =
      sym (append-nil s.done) ∙ ap (λ (r : List (List ℕ)). s.done ++ refined b r) (sym (walk_end sizes order from g h)) ∙ s.same in
      rw d at s.holds

  module _ {out : Groups} {from g : ℕ} (s : Splitting out from g) (d : ℕ) (h : g < length sizes) where
    -- the members of the group
    abbrev pub here : List ℕ
    here = lent from (from + get_or sizes g d) order

    next_few : members s.done + get_or sizes g d + total (drop (g + 1) sizes) ≤ length order
    unfolding total
    next_few = rw (add-one g) (omega (arith, s.few, ap total (drop-cons sizes g d h)))

    pub splitting_low : (k : ℕ) → All (λ i. i < k) order → All (λ i. i < k) here
    splitting_low k a = all_take (λ i. i < k) (from + get_or sizes g d - from) (drop from order) (all_drop (λ i. i < k) from order a)

    pub splitting_room : length order ≤ max_vectors → Room (part b 0 here) out
    splitting_room m =
        let n = next_few in
        let p = parts_length b here in
        let l = walk_length s.walk d h in
        room_of (part b 0 here) s.holds s.many (omega arith) (omega (arith, s.out_room)) (omega (arith, s.sizes_room))

    module _ (out₁ : Groups) (a : Adds (part b 0 here) out out₁) (z : Sized out out₁) where
      mid : List (List ℕ)
      mid = s.done ++ pushed (part b 0 here) []

      mid_many : All (λ g. 2 ≤ length g) mid
      unfolding mid
      mid_many = all_append (λ g. 2 ≤ length g) s.done (pushed (part b 0 here) []) s.many (pushed_all (λ g. 2 ≤ length g) (part b 0 here) [] (λ q. q) tt)

      mid_members : members mid ≤ members s.done + length (part b 0 here)
      unfolding mid members
      mid_members = omega (arith, members_append s.done (pushed (part b 0 here) []), pushed_members (part b 0 here) [])

      pub splitting_room_2 : length order ≤ max_vectors → Room (part b 1 here) out₁
      unfolding mid
      splitting_room_2 m =
          let n = next_few in
          let p = parts_length b here in
          let l = walk_length s.walk d h in
          let q = mid_members in
          room_of (part b 1 here) (a s.done s.holds) mid_many (omega arith) (omega (arith, s.out_room, z.order)) (omega (arith, s.sizes_room, z.sizes))

      pub splitting_more : (out₂ : Groups) → Adds (part b 1 here) out₁ out₂ → Sized out₁ out₂ → Splitting out₂ (from + get_or sizes g d) (g + 1)
      unfolding mid members refined
      splitting_more out₂ a₂ z₂ =
          let r = rest sizes order (from + get_or sizes g d) (g + 1) in
          let p₀ = pushed (part b 0 here) [] in
          let p₁ = pushed (part b 1 here) [] in
          record {
            walk = walk_next s.walk d h;
            done = mid ++ p₁;
            many = all_append (λ g. 2 ≤ length g) mid p₁ mid_many (pushed_all (λ g. 2 ≤ length g) (part b 1 here) [] (λ q. q) tt);
            few = omega (arith, next_few, mid_members, members_append mid p₁, pushed_members (part b 1 here) [], parts_length b here, walk_length s.walk d h);
            holds = a₂ mid (a s.done s.holds);
            same =
                append_assoc mid p₁ (refined b r)
                ∙ ap (λ (l : List (List ℕ)). mid ++ l) (sym (pushed_append (part b 1 here) (refined b r)))
                ∙ append_assoc s.done p₀ (pushed (part b 1 here) (refined b r))
                ∙ ap (λ (l : List (List ℕ)). s.done ++ l) (sym (pushed_append (part b 0 here) (pushed (part b 1 here) (refined b r))))
                ∙ ap (λ (l : List (List ℕ)). s.done ++ refined b l) (sym (walk_cut s.walk d h))
                ∙ s.same;
            out_room = omega (arith, s.out_room, z.order, z₂.order);
            sizes_room = omega (arith, s.sizes_room, z.sizes, z₂.sizes);
          }
