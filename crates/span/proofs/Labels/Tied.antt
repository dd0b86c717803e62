-- Labels of the nodes of a graph say which pairs of nodes are an XOR of the edges' masks. Assumes nothing.
use Prim.Native.Nat.{ℕ, zero, suc, ◌+◌, ◌%◌, ◌^◌, ◌<◌}
use native.Mathlib.Omega.{arith}
use mathlib.Core.Path.{◌≡◌, refl, sym, ap, ap₂, ◌∙◌}
use mathlib.Core.Bool.{Bool, true, false, cond}
use mathlib.Core.List.{List, [], ◌∷◌, map}
use mathlib.Core.Logic.{⊎_elim}
use borrow.Author.Tests.{eqb-true, eqb-false, eq-eqb}
use lib.Dec.{eqb}
use lib.Bits.{bit_xor, xor_comm, xor_self, xor_zero_r}
use lib.ListN.{length, get_or, length-map}
use Rattle.std.proofs.lemmas.List.{get_or-map}
use Rattle.lists.proofs.Entries.Members.{map_map}
use Rattle.vectors.specs.Bits.{place_of}
use Rattle.span.specs.Span.{spans}
use Rattle.span.specs.Inner.Tags.{relabel, merged}
use Rattle.vectors.proofs.Bits.Xor.{xor_medial, Linear, parity, parity_linear, parity_bit, numeral, numeral_bit}
use Rattle.span.proofs.Spans.{spans_cons, spans_more, spans_with, spans_xor}

-- the nodes are 0, the ground, and the inputs; the mask of an edge between two of them
abbrev pub pair : ℕ → ℕ → ℕ
pair a b = bit_xor (place_of a) (place_of b)

pub length_merged : (c : List ℕ) (a b : ℕ) → length (merged c a b) ≡ length c
length_merged c a b = length-map c (relabel (get_or c a 0) (get_or c b 0))

pub merged_at : (c : List ℕ) (a b u : ℕ) → u < length c → get_or (merged c a b) u 0 ≡ relabel (get_or c a 0) (get_or c b 0) (get_or c u 0)
merged_at c a b u h = get_or-map (relabel (get_or c a 0) (get_or c b 0)) c u 0 0 h

pub relabel_from : (p q : ℕ) → relabel p q p ≡ q
relabel_from p q = rw (eq-eqb p p refl)

pub relabel_to : (p q : ℕ) → relabel p q q ≡ q
relabel_to p q = go (eqb q p)
  where
    go : (x : Bool) → cond x q q ≡ q
    go true = refl
    go false = refl

-- ---- a number for each label gives each input a digit, that of its label against the ground's

unfoldable pub colour : (ℕ → ℕ) → List ℕ → ℕ → ℕ
unfolding parity numeral
colour g [] w = 0
colour g (c ∷ cs) w = parity (numeral (map (λ (l : ℕ). g l + g c) cs)) w

colour_linear : (g : ℕ → ℕ) (c : List ℕ) → Linear (colour g c)
unfolding colour
colour_linear g [] = record { low = λ u. omega arith; zero = refl; xor = λ u v. refl }
colour_linear g (c ∷ cs) = parity_linear (numeral (map (λ (l : ℕ). g l + g c) cs))

pub twice_even : (n : ℕ) → (n + n) % 2 ≡ 0
twice_even n = omega arith

colour_node : (g : ℕ → ℕ) (c : List ℕ) (v : ℕ) → v < length c → colour g c (place_of v) ≡ (g (get_or c v 0) + g (get_or c 0 0)) % 2
unfolding colour
colour_node g [] v h = absurd (omega arith)
colour_node g (c ∷ cs) zero h = (colour_linear g (c ∷ cs)).zero ∙ sym (twice_even (g c))
colour_node g (c ∷ cs) (suc i) h =
    parity_bit (numeral (map (λ (l : ℕ). g l + g c) cs)) i
    ∙ numeral_bit (map (λ (l : ℕ). g l + g c) cs) i
    ∙ ap (λ (n : ℕ). n % 2) (get_or-map (λ (l : ℕ). g l + g c) cs i 0 0 (omega arith))

-- what two sums share falls out
pub shared_out : (a b z : ℕ) → ((a + z) % 2 + (b + z) % 2) % 2 ≡ (a + b) % 2
shared_out a b z = omega arith

colour_pair : (g : ℕ → ℕ) (c : List ℕ) (a b : ℕ) → a < length c → b < length c
    → colour g c (pair a b) ≡ (g (get_or c a 0) + g (get_or c b 0)) % 2
colour_pair g c a b ha hb =
    (colour_linear g c).xor (place_of a) (place_of b)
    ∙ ap₂ (λ (p q : ℕ). (p + q) % 2) (colour_node g c a ha) (colour_node g c b hb)
    ∙ shared_out (g (get_or c a 0)) (g (get_or c b 0)) (g (get_or c 0 0))

colour_map : (g r : ℕ → ℕ) (c : List ℕ) (w : ℕ) → colour g (map r c) w ≡ colour (λ (x : ℕ). g (r x)) c w
unfolding colour
colour_map g r [] w = refl
colour_map g r (c ∷ cs) w = ap (λ (t : List ℕ). parity (numeral t) w) (map_map (λ (l : ℕ). g l + g (r c)) r cs)

-- ---- c labels the nodes by the span of ms: nodes of one label are joined, and what is spanned crosses between labels evenly

pub record Tied (ms c : List ℕ) : Type 0 where
  pub reach : (a b : ℕ) → a < length c → b < length c → get_or c a 0 ≡ get_or c b 0 → spans ms (pair a b) ≡ true
  pub cut : (g : ℕ → ℕ) (w : ℕ) → spans ms w ≡ true → colour g c w ≡ 0

module _ (ms c : List ℕ) (t : Tied ms c) (a b : ℕ) (ha : a < length c) (hb : b < length c) where
  tied_eq : spans ms (pair a b) ≡ true → get_or c a 0 ≡ get_or c b 0
  tied_eq h = go (eqb (get_or c b 0) (get_or c a 0)) refl even
    where
      is_class : ℕ → ℕ
      is_class x = cond (eqb x (get_or c a 0)) 1 0

      even : (1 + is_class (get_or c b 0)) % 2 ≡ 0
      even =
          ap (λ (y : Bool). (cond {A = ℕ} y 1 0 + is_class (get_or c b 0)) % 2) (sym (eq-eqb (get_or c a 0) (get_or c a 0) refl))
          ∙ sym (colour_pair is_class c a b ha hb) ∙ t.cut is_class (pair a b) h

      go : (y : Bool) → eqb (get_or c b 0) (get_or c a 0) ≡ y → (1 + cond {A = ℕ} y 1 0) % 2 ≡ 0 → get_or c a 0 ≡ get_or c b 0
      go true e f = sym (eqb-true _ _ e)
      go false e f = absurd (omega arith)

  -- two nodes have one label exactly when their pair is spanned
  pub tied : spans ms (pair a b) ≡ eqb (get_or c a 0) (get_or c b 0)
  tied = go (eqb (get_or c a 0) (get_or c b 0)) (spans ms (pair a b)) refl refl
    where
      go : (x y : Bool) → eqb (get_or c a 0) (get_or c b 0) ≡ x → spans ms (pair a b) ≡ y → y ≡ x
      go true y ex ey = sym ey ∙ t.reach a b ha hb (eqb-true _ _ ex)
      go false false ex ey = refl
      go false true ex ey = absurd (eqb-false _ _ ex (tied_eq ey))

-- ---- an edge more

module _ (ms c : List ℕ) (a b : ℕ) (ha : a < length c) (hb : b < length c) (t : Tied ms c) where
  merge_reach : (u v : ℕ) → u < length c → v < length c
      → relabel (get_or c a 0) (get_or c b 0) (get_or c u 0) ≡ relabel (get_or c a 0) (get_or c b 0) (get_or c v 0)
      → spans (pair a b ∷ ms) (pair u v) ≡ true
  merge_reach u v hu hv e = go (eqb (get_or c u 0) (get_or c a 0)) (eqb (get_or c v 0) (get_or c a 0)) refl refl e
    where
      go : (x y : Bool) → eqb (get_or c u 0) (get_or c a 0) ≡ x → eqb (get_or c v 0) (get_or c a 0) ≡ y
          → cond x (get_or c b 0) (get_or c u 0) ≡ cond y (get_or c b 0) (get_or c v 0) → spans (pair a b ∷ ms) (pair u v) ≡ true
      go true true ex ey e = spans_more _ ms _ (t.reach u v hu hv (eqb-true _ _ ex ∙ sym (eqb-true _ _ ey)))
      go false false ex ey e = spans_more _ ms _ (t.reach u v hu hv e)
      go true false ex ey e =
          spans_with _ ms _
          (rw (xor_medial (place_of a) (place_of u) (place_of b) (place_of v)) at
          (spans_xor ms (pair a u) (pair b v) (t.reach a u ha hu (sym (eqb-true _ _ ex))) (t.reach b v hb hv e)))
      go false true ex ey e =
          spans_with _ ms _
          (rw (xor_medial (place_of a) (place_of v) (place_of b) (place_of u), xor_comm (place_of v) (place_of u)) at
          (spans_xor ms (pair a v) (pair b u) (t.reach a v ha hv (sym (eqb-true _ _ ey))) (t.reach b u hb hu (sym e))))

  merge_cut : (g : ℕ → ℕ) (w : ℕ) → spans (pair a b ∷ ms) w ≡ true → colour g (merged c a b) w ≡ 0
  merge_cut g w h =
      colour_map g r c w
      ∙ ⊎_elim
      (λ s. t.cut g' w s)
      (λ s. alone (colour g' c (pair a b)) (colour g' c w) edge ((colour_linear g' c).low w) (sym ((colour_linear g' c).xor (pair a b) w) ∙ t.cut g' (bit_xor (pair a b) w) s))
      (spans_cons (pair a b) ms w h)
    where
      r : ℕ → ℕ
      r x = relabel (get_or c a 0) (get_or c b 0) x

      g' : ℕ → ℕ
      g' x = g (r x)

      alone : (p q : ℕ) → p ≡ 0 → q < 2 → (p + q) % 2 ≡ 0 → q ≡ 0
      alone p q e l f = omega arith

      edge : colour g' c (pair a b) ≡ 0
      edge =
          colour_pair g' c a b ha hb
          ∙ ap₂ (λ (x y : ℕ). (g x + g y) % 2) (relabel_from (get_or c a 0) (get_or c b 0)) (relabel_to (get_or c a 0) (get_or c b 0))
          ∙ twice_even (g (get_or c b 0))

  pub tied_merge : Tied (pair a b ∷ ms) (merged c a b)
  tied_merge =
      record {
        reach = λ u v hu hv e.
            let hu' : u < length c = rw (length_merged c a b) at hu in
            let hv' : v < length c = rw (length_merged c a b) at hv in
            merge_reach u v hu' hv' (sym (merged_at c a b u hu') ∙ e ∙ merged_at c a b v hv');
        cut = merge_cut;
      }

-- every node by itself
pub tied_start : (c : List ℕ) → ((v : ℕ) → v < length c → get_or c v 0 ≡ v) → Tied [] c
unfolding spans
tied_start c h =
    record {
      reach = λ a b ha hb e.
          let s : a ≡ b = sym (h a ha) ∙ e ∙ h b hb in
          rw (s, xor_self (place_of b));
      cut = λ g w s. rw (eqb-true w 0 s) (colour_linear g c).zero;
    }

-- only what is spanned counts
pub tied_same : (ms ms' c : List ℕ) → ((w : ℕ) → spans ms w ≡ spans ms' w) → Tied ms c → Tied ms' c
tied_same ms ms' c e t =
    record {
      reach = λ a b ha hb h. sym (e (pair a b)) ∙ t.reach a b ha hb h;
      cut = λ g w h. t.cut g w (e w ∙ h);
    }

-- ---- an input, as an edge to the ground

pub spans_node : (ms c : List ℕ) → Tied ms c → (j : ℕ) → suc j < length c → spans ms (2 ^ j) ≡ eqb (get_or c (suc j) 0) (get_or c 0 0)
spans_node ms c t j h = ap (spans ms) (sym (xor_zero_r (2 ^ j))) ∙ tied ms c t (suc j) 0 h (omega arith)

pub tied_node : (ms c : List ℕ) → Tied ms c → (j : ℕ) → suc j < length c → Tied (2 ^ j ∷ ms) (merged c (suc j) 0)
tied_node ms c t j h = rw (xor_zero_r (2 ^ j)) at (tied_merge ms c (suc j) 0 h (omega arith) t)
