-- Groups held in the arrays: the shape of a result, the group of all, and the groups split. Assumes nothing.
use Prim.Native.Nat.{ℕ, zero, suc, ◌+◌, ◌-◌, ◌*◌, ◌≤◌, ◌<◌}
use native.Mathlib.Omega.{arith}
use mathlib.Core.Path.{◌≡◌, refl, sym, ap, subst, ◌∙◌}
use mathlib.Core.List.{List, [], ◌∷◌, flatten, append-nil}
use lib.ListN.{length, get_or, take, drop}
use lib.Seq.{take-take, length-take-le}
use Rattle.lists.proofs.Entries.Walk.{lent, walk_fits}
use Rattle.vectors.specs.Bounds.{max_vectors}
use Rattle.lists.specs.Members.{All}
use Rattle.choice.specs.Inner.Split.{part, refined, numbers, whole, members}
use Rattle.choice.proofs.Choice.Groups.{part_all, pushed_few, pushed_many, members_many, refined_all, refined_members}
use Rattle.choice.proofs.Choice.Grouped.{numbers_length, numbers_all}
use Rattle.choice.specs.declared.groups.Groups.{Groups}
use Rattle.choice.specs.Inner.Groups.{cut, total, sizes_of, order_of, Cuts, Shape, GroupsAre, Holds, Room, Adds, Sized}
use Rattle.choice.proofs.Grouping.Split.{Splitting, here, splitting_low, splitting_room, splitting_room_2, splitting_more}
use Rattle.choice.proofs.Grouping.Cut.{cut_flatten, cut_members, cut_many, cut_all, cuts_groups}

-- ---- the groups of the result

pub holds_are : (k : ℕ) (gs : List (List ℕ)) (g : Groups) → Holds gs g
    → All (λ l. 2 ≤ length l) gs → All (All (λ i. i < k)) gs → members gs ≤ k → k < length g.order → k < 2 * length g.sizes → GroupsAre k gs g
holds_are k gs g s many low few o z =
    record {
      shape = record {
        room = omega (arith, s.total_is);
        places = omega (arith, s.count_is, members_many gs many);
        cuts = rw (s.sizes_are, s.order_is) (cuts_groups k gs many low few);
      };
      are = rw (s.sizes_are, s.order_is) (cut_flatten gs);
    }

pub refined_are : (b : ℕ → ℕ) (k : ℕ) (sizes order : List ℕ) (g : Groups) → Cuts k sizes order
    → Holds (refined b (cut sizes order)) g → k < length g.order → k < 2 * length g.sizes
    → GroupsAre k (refined b (cut sizes order)) g
refined_are b k sizes order g c s o z =
    let gs = cut sizes order in
    let h : total sizes ≤ length order = omega (arith, c.sum) in
    holds_are k (refined b gs) g s
    (refined_all (λ l. 2 ≤ length l) (λ l. 2 ≤ length l) b (λ l v p q. q) gs (cut_many sizes order h c.many))
    (refined_all (All (λ i. i < k)) (All (λ i. i < k)) b (λ l v p q. part_all (λ i. i < k) b v l p) gs (cut_all (λ i. i < k) sizes order c.low))
    (omega (arith, refined_members b gs, cut_members sizes order h, c.sum, c.few))
    o z

-- ---- the group of all

pub all_none : (k : ℕ) (order sizes : List ℕ) → k < 2 → k < length order → k < 2 * length sizes
    → GroupsAre k (whole k) (record { order = order; sizes = sizes; members = 0; count = 0 })
unfolding members flatten
all_none k order sizes h o z =
    rw (pushed_few (numbers k 0) (omega (arith, numbers_length k 0)))
    (holds_are k [] (record { order = order; sizes = sizes; members = 0; count = 0 }) (record { total_is = refl; count_is = refl; order_is = refl; sizes_are = refl }) tt tt
    (omega arith) o z)

pub all_one : (k : ℕ) (order sizes : List ℕ) → 2 ≤ k → take k order ≡ numbers k 0 → take 1 sizes ≡ k ∷ [] → k < length order → k < 2 * length sizes
    → GroupsAre k (whole k) (record { order = order; sizes = sizes; members = k; count = 1 })
unfolding members flatten
all_one k order sizes h e f o z =
    let n = numbers_length k 0 in
    rw (pushed_many (numbers k 0) (omega arith))
    (holds_are k (numbers k 0 ∷ []) (record { order = order; sizes = sizes; members = k; count = 1 })
    (record { total_is = omega arith; count_is = refl; order_is = e ∙ sym (append-nil (numbers k 0)); sizes_are = f ∙ ap (λ (s : ℕ). s ∷ []) (sym n) })
    (omega arith, tt) (numbers_all (λ i. i < k) k 0 (λ j a c. omega arith), tt) (omega arith) o z)

-- ---- the groups of the arrays, split one after the other

-- what is lent of a list's beginning
lent_take : (from n m : ℕ) (l : List ℕ) → from + n ≤ m → take n (drop from (take m l)) ≡ take n (drop from l)
lent_take zero n m l h = take-take n m l (omega arith)
lent_take (suc from) n zero l h = absurd (omega arith)
lent_take (suc from) n (suc m) [] h = refl
lent_take (suc from) n (suc m) (x ∷ l) h = lent_take from n m l (omega arith)

-- the groups are half as many as their members at most
sizes_few : (ss : List ℕ) → All (λ s. 2 ≤ s) ss → 2 * length ss ≤ total ss
unfolding total
sizes_few [] a = omega arith
sizes_few (s ∷ ss) a = omega (arith, a.0, sizes_few ss a.1)

pub groups_few : {k : ℕ} {g : Groups} → Shape k g → 2 * g.count ≤ k
groups_few {k} {g} shape =
    omega (arith, length-take-le g.count g.sizes shape.places, sizes_few (sizes_of g) shape.cuts.many, shape.cuts.sum, shape.cuts.few)

module _ (b : ℕ → ℕ) {k : ℕ} {g : Groups} (shape : Shape k g) {out : Groups} {from i : ℕ}
    (s : Splitting b (sizes_of g) (order_of g) out from i) (h : i < length (sizes_of g)) where
  -- the size of the group, and its members
  abbrev size : ℕ
  size = get_or (sizes_of g) i 0

  abbrev group : List ℕ
  group = lent from (from + size) g.order

  pub split_fits : from + size ≤ g.members
  split_fits = omega (arith, walk_fits s.walk 0 h, length-take-le g.members g.order shape.room)

  group_is : here b (sizes_of g) (order_of g) s 0 h ≡ group
  group_is = let n : from + size - from ≡ size = omega arith in rw n (lent_take from size g.members g.order split_fits)

  pub split_low : All (λ x. x < k) group
  split_low = subst (All (λ x. x < k)) group_is (splitting_low b (sizes_of g) (order_of g) s 0 h k shape.cuts.low)

  module _ (few : length (order_of g) ≤ max_vectors) where
    pub split_room : Room (part b 0 group) out
    split_room = subst (λ (l : List ℕ). Room (part b 0 l) out) group_is (splitting_room b (sizes_of g) (order_of g) s 0 h few)

    module _ (out₁ : Groups) (a : Adds (part b 0 group) out out₁) (z : Sized out out₁) where
      first : Adds (part b 0 (here b (sizes_of g) (order_of g) s 0 h)) out out₁
      first = subst (λ (l : List ℕ). Adds (part b 0 l) out out₁) (sym group_is) a

      pub split_room_2 : Room (part b 1 group) out₁
      split_room_2 = subst (λ (l : List ℕ). Room (part b 1 l) out₁) group_is (splitting_room_2 b (sizes_of g) (order_of g) s 0 h out₁ first z few)

      pub split_more : (out₂ : Groups) → Adds (part b 1 group) out₁ out₂ → Sized out₁ out₂ → Splitting b (sizes_of g) (order_of g) out₂ (from + size) (i + 1)
      split_more out₂ a₂ z₂ =
          splitting_more b (sizes_of g) (order_of g) s 0 h out₁ first z out₂
          (subst (λ (l : List ℕ). Adds (part b 1 l) out₁ out₂) (sym group_is) a₂) z₂
