-- Tags: the labels of what is joined are merged, and what two nodes of one label are apart by stays. Assumes nothing.
use Prim.Native.Nat.{ℕ, zero, suc, ◌+◌, ◌*◌, ◌/◌, ◌%◌, ◌<◌}
use native.Mathlib.Omega.{arith}
use mathlib.Core.Path.{◌≡◌, refl, sym, ap, ap₂, ◌∙◌}
use mathlib.Core.Bool.{Bool, true, false, cond}
use mathlib.Core.List.{List, [], ◌∷◌, map}
use borrow.Author.Tests.{eqb-true, eqb-false, eq-eqb, ne_eqb}
use lib.Bits.{bit_xor, xor_zero_r}
use lib.Dec.{eqb}
use lib.ListN
use lib.ListN.{length, get_or, length-map}
use Rattle.std.proofs.lemmas.List.{get_or-map}
use Rattle.lists.proofs.Entries.Members.{map_map}
use Rattle.vectors.specs.declared.Kind.{Kind}
use Rattle.vectors.specs.Variable.{earlier, later}
use Rattle.vectors.proofs.Bits.Laws.{xor_half, xor_low}
use Rattle.vectors.proofs.Bits.Xor.{xor_cancel}
use Rattle.span.specs.Inner.Tags.{nodes_from, start_tags, half, met, turn, joined, tags_on, grounded_on, relabel, merged}
use Rattle.span.proofs.Labels.Edges.{labels_on, length_nodes}

-- ---- the labels of tags

pub half_at : (c : List ℕ) (u : ℕ) → get_or (map half c) u 0 ≡ get_or c u 0 / 2
half_at c u = ListN.get_or-map half c u 0

-- what turns the tags of x's label to that of y
turn_half : (x y v : ℕ) → v < 2 → bit_xor (bit_xor x y) v / 2 ≡ bit_xor (x / 2) (y / 2)
turn_half x y v h = let z : v / 2 ≡ 0 = omega arith in xor_half (bit_xor x y) v ∙ rw (z, xor_zero_r) (xor_half x y)

turn_low : (x y v : ℕ) → bit_xor (bit_xor x y) v % 2 ≡ (x + y + v) % 2
turn_low x y v = xor_low (bit_xor x y) v ∙ omega (arith, xor_low x y)

half_turn : (x y v z : ℕ) → v < 2 → half (turn (x / 2) (bit_xor (bit_xor x y) v) z) ≡ relabel (x / 2) (y / 2) (half z)
half_turn x y v z h = go (eqb (z / 2) (x / 2)) refl
  where
    go : (e : Bool) → eqb (z / 2) (x / 2) ≡ e → cond e (bit_xor z (bit_xor (bit_xor x y) v)) z / 2 ≡ cond e (y / 2) (z / 2)
    go true e = xor_half z _ ∙ rw (turn_half x y v h, eqb-true (z / 2) (x / 2) e) (xor_cancel (x / 2) (y / 2))
    go false e = refl

map_same : (f g : ℕ → ℕ) → ((x : ℕ) → f x ≡ g x) → (l : List ℕ) → map f l ≡ map g l
map_same f g h [] = refl
map_same f g h (x ∷ xs) = ap₂ ◌∷◌ (h x) (map_same f g h xs)

relabel_same : (p x : ℕ) → relabel p p x ≡ x
relabel_same p x = go (eqb x p) refl
  where
    go : (y : Bool) → eqb x p ≡ y → cond y p x ≡ x
    go true e = sym (eqb-true x p e)
    go false e = refl

map_none : (f : ℕ → ℕ) → ((x : ℕ) → f x ≡ x) → (l : List ℕ) → map f l ≡ l
map_none f h [] = refl
map_none f h (x ∷ xs) = ap₂ ◌∷◌ (h x) (map_none f h xs)

pub merged_same : (c : List ℕ) (a b : ℕ) → get_or c a 0 ≡ get_or c b 0 → merged c a b ≡ c
merged_same c a b e = rw e (map_none _ (relabel_same (get_or c b 0)) c)

-- the labels of what is joined are merged
pub half_joined : (c : List ℕ) (a b v : ℕ) → v < 2 → map half (joined c a b v) ≡ merged (map half c) a b
half_joined c a b v h = rw (half_at c a, half_at c b) (go (met c a b) refl)
  where
    go : (y : Bool) → met c a b ≡ y
        → map half (cond y c (map (turn (get_or c a 0 / 2) (bit_xor (bit_xor (get_or c a 0) (get_or c b 0)) v)) c))
        ≡ map (relabel (get_or c a 0 / 2) (get_or c b 0 / 2)) (map half c)
    go true e = rw (eqb-true (get_or c a 0 / 2) (get_or c b 0 / 2) e) (sym (map_none _ (relabel_same (get_or c b 0 / 2)) (map half c)))
    go false e =
        map_map half (turn (get_or c a 0 / 2) (bit_xor (bit_xor (get_or c a 0) (get_or c b 0)) v)) c
        ∙ map_same _ (λ (x : ℕ). relabel (get_or c a 0 / 2) (get_or c b 0 / 2) (half x)) (λ x. half_turn (get_or c a 0) (get_or c b 0) v x h) c
        ∙ sym (map_map (relabel (get_or c a 0 / 2) (get_or c b 0 / 2)) half c)

pub half_start : (d : ℕ) → map half (start_tags d) ≡ nodes_from d 0
half_start d = map_map half (λ (x : ℕ). 2 * x) (nodes_from d 0) ∙ map_none _ (λ x. twice x) (nodes_from d 0)
  where
    twice : (x : ℕ) → 2 * x / 2 ≡ x
    twice x = omega arith

pub half_tags : (ks : List Kind) (v : ℕ) (c : List ℕ) → map half (tags_on ks v c) ≡ labels_on ks (map half c)
unfolding tags_on labels_on
half_tags [] v c = refl
half_tags (k ∷ ks) v c =
    half_tags ks (v / 2) (joined c (earlier k) (later k) (v % 2)) ∙ ap (labels_on ks) (half_joined c (earlier k) (later k) (v % 2) (omega arith))

-- ---- as many as before

pub length_start : (d : ℕ) → length (start_tags d) ≡ d
length_start d = length-map (nodes_from d 0) (λ (x : ℕ). 2 * x) ∙ length_nodes d 0

pub length_joined : (c : List ℕ) (a b v : ℕ) → length (joined c a b v) ≡ length c
length_joined c a b v = go (met c a b)
  where
    go : (y : Bool) → length (cond y c (map (turn (get_or c a 0 / 2) (bit_xor (bit_xor (get_or c a 0) (get_or c b 0)) v)) c)) ≡ length c
    go true = refl
    go false = length-map c (turn (get_or c a 0 / 2) (bit_xor (bit_xor (get_or c a 0) (get_or c b 0)) v))

pub length_tags : (ks : List Kind) (v : ℕ) (c : List ℕ) → length (tags_on ks v c) ≡ length c
unfolding tags_on
length_tags [] v c = refl
length_tags (k ∷ ks) v c =
    length_tags ks (v / 2) (joined c (earlier k) (later k) (v % 2)) ∙ length_joined c (earlier k) (later k) (v % 2)

-- ---- two tags are of one label, and apart by z

abbrev Near : ℕ → ℕ → ℕ → Type 0
Near x y z = (x / 2 ≡ y / 2) × ((x + y) % 2 ≡ z)

-- .. of the nodes u and w
abbrev pub Says : List ℕ → ℕ → ℕ → ℕ → Type 0
Says c u w z = Near (get_or c u 0) (get_or c w 0) z

near_turn : (p d x y z : ℕ) → Near x y z → Near (turn p d x) (turn p d y) z
near_turn p d x y z s = go (eqb (x / 2) p) (eqb (y / 2) p) refl refl
  where
    go : (e f : Bool) → eqb (x / 2) p ≡ e → eqb (y / 2) p ≡ f → Near (cond e (bit_xor x d) x) (cond f (bit_xor y d) y) z
    go true true ex ey = (xor_half x d ∙ ap (λ (t : ℕ). bit_xor t (d / 2)) s.0 ∙ sym (xor_half y d), omega (arith, xor_low x d, xor_low y d, s.1))
    go false false ex ey = s
    go true false ex ey = absurd (eqb-false (y / 2) p ey (sym s.0 ∙ eqb-true (x / 2) p ex))
    go false true ex ey = absurd (eqb-false (x / 2) p ex (s.0 ∙ eqb-true (y / 2) p ey))

near_new : (x y v : ℕ) → v < 2 → (x / 2 ≡ y / 2 → ⊥)
    → Near (turn (x / 2) (bit_xor (bit_xor x y) v) x) (turn (x / 2) (bit_xor (bit_xor x y) v) y) v
near_new x y v h n =
    rw (eq-eqb (x / 2) (x / 2) refl, ne_eqb (y / 2) (x / 2) (λ e. n (sym e)))
    (xor_half x _ ∙ rw (turn_half x y v h) (xor_cancel (x / 2) (y / 2)), omega (arith, xor_low x (bit_xor (bit_xor x y) v), turn_low x y v))

module _ (c : List ℕ) (a b v : ℕ) where
  abbrev turned : List ℕ
  turned = map (turn (get_or c a 0 / 2) (bit_xor (bit_xor (get_or c a 0) (get_or c b 0)) v)) c

  turned_at : (u : ℕ) → u < length c → get_or turned u 0 ≡ turn (get_or c a 0 / 2) (bit_xor (bit_xor (get_or c a 0) (get_or c b 0)) v) (get_or c u 0)
  turned_at u h = get_or-map (turn (get_or c a 0 / 2) (bit_xor (bit_xor (get_or c a 0) (get_or c b 0)) v)) c u 0 0 h

  pub says_keep : (u w z : ℕ) → u < length c → w < length c → Says c u w z → Says (joined c a b v) u w z
  says_keep u w z hu hw s = go (met c a b)
    where
      go : (y : Bool) → Says (cond y c turned) u w z
      go true = s
      go false = rw (turned_at u hu, turned_at w hw) (near_turn _ _ (get_or c u 0) (get_or c w 0) z s)

  pub says_new : a < length c → b < length c → v < 2 → met c a b ≡ false → Says (joined c a b v) a b v
  says_new ha hb hv n = rw n (rw (turned_at a ha, turned_at b hb) (near_new (get_or c a 0) (get_or c b 0) v hv (eqb-false _ _ n)))

-- ---- through the variables and the inputs

pub says_tags : (ks : List Kind) (v : ℕ) (c : List ℕ) (u w z : ℕ) → u < length c → w < length c → Says c u w z → Says (tags_on ks v c) u w z
unfolding tags_on
says_tags [] v c u w z hu hw s = s
says_tags (k ∷ ks) v c u w z hu hw s =
    let l : length (joined c (earlier k) (later k) (v % 2)) ≡ length c = length_joined c (earlier k) (later k) (v % 2) in
    says_tags ks (v / 2) (joined c (earlier k) (later k) (v % 2)) u w z (omega arith) (omega arith)
    (says_keep c (earlier k) (later k) (v % 2) u w z hu hw s)

pub says_grounded : (d j x : ℕ) (c : List ℕ) (u w z : ℕ) → u < length c → w < length c → Says c u w z → Says (grounded_on d j x c) u w z
unfolding grounded_on
says_grounded zero j x c u w z hu hw s = s
says_grounded (suc d) j x c u w z hu hw s =
    let l : length (joined c (suc j) 0 (x % 2)) ≡ length c = length_joined c (suc j) 0 (x % 2) in
    says_grounded d (suc j) (cond (met c (suc j) 0) x (x / 2)) (joined c (suc j) 0 (x % 2)) u w z (omega arith) (omega arith)
    (says_keep c (suc j) 0 (x % 2) u w z hu hw s)
