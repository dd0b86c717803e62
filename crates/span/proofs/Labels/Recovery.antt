-- The vector read off from the tags has the values and the kept inputs given. Assumes nothing.
use Prim.Native.Nat.{ℕ, zero, suc, ◌+◌, ◌*◌, ◌/◌, ◌%◌, ◌^◌, ◌≤◌, ◌<◌}
use native.Mathlib.Nat.{add_comm, add-zero, add-suc, suc-add, zero-add, div-one, pow-suc}
use native.Mathlib.Omega.{arith}
use mathlib.Core.Path.{◌≡◌, refl, sym, ap, ap₂, ◌∙◌}
use mathlib.Core.Bool.{Bool, true, false, cond}
use mathlib.Core.List.{List, [], ◌∷◌, map}
use lib.Count.{ones}
use lib.Dec.{eqb}
use lib.ListN.{length, get_or, length-map}
use Rattle.lists.specs.First.{first_in, first_of}
use Rattle.lists.specs.Members.{All}
use Rattle.lists.proofs.Finding.NonePass.{none_head}
use Rattle.vectors.specs.declared.Kind.{Kind}
use Rattle.vectors.specs.declared.Kind.TheVariants.{One, Two}
use Rattle.vectors.specs.Bits.{bit, input}
use Rattle.vectors.specs.Variable.{earlier, later, mask_of, value_of, number_of}
use Rattle.vectors.specs.Word.{pack_in}
use Rattle.vectors.proofs.Bits.Laws.{bit_suc, half_lt}
use Rattle.vectors.proofs.Words.Packing.{pack_even, pack_odd}
use Rattle.span.specs.Span.{spans, kept_in, kept, first_dependent}
use Rattle.span.specs.Inner.Tags.{start_tags, half, met, joined, tags_on, grounded_on, read_off}
use Rattle.span.proofs.Spans.{kept_yes, kept_no, ones_even, ones_odd}
use Rattle.span.proofs.Labels.Tied.{twice_even, shared_out, Tied, spans_node, tied_node}
use Rattle.span.proofs.Labels.Edges.{Edge, tied_kind, spans_kind, tied_nodes, tied_labels}
use Rattle.span.proofs.Labels.Tags.{half_at, half_joined, half_start, half_tags, length_start, length_joined, length_tags, Says, says_new, says_tags, says_grounded}

read_lt : (d j : ℕ) (c : List ℕ) → read_off d j c < 2 ^ d
unfolding read_off
read_lt zero j c = omega arith
read_lt (suc d) j c = rw (pow-suc 2 d) (omega (arith, read_lt d (suc j) c))

read_half : (d j : ℕ) (c : List ℕ) → read_off (suc d) j c / 2 ≡ read_off d (suc j) c
unfolding read_off
read_half d j c = omega arith

read_low : (d j : ℕ) (c : List ℕ) → read_off (suc d) j c % 2 ≡ (get_or c (suc j) 0 + get_or c 0 0) % 2
unfolding read_off
read_low d j c = omega arith

read_at : (d j : ℕ) (c : List ℕ) (i : ℕ) → i < d → bit (read_off d j c) i ≡ (get_or c (suc (j + i)) 0 + get_or c 0 0) % 2
read_at zero j c i h = absurd (omega arith)
read_at (suc d) j c zero h = rw (div-one, add-zero) (read_low d j c)
read_at (suc d) j c (suc i) h =
    bit_suc (read_off (suc d) j c) i ∙ ap (λ (n : ℕ). bit n i) (read_half d j c) ∙ read_at d (suc j) c i (omega arith)
    ∙ rw (add-suc j i, suc-add j i)

input_read : (n : ℕ) (c : List ℕ) (i : ℕ) → i ≤ n → input (read_off n 0 c) i ≡ (get_or c i 0 + get_or c 0 0) % 2
input_read n c zero h = sym (twice_even (get_or c 0 0))
input_read n c (suc i) h = read_at n 0 c i (omega arith) ∙ rw (zero-add i)

value_read : (n : ℕ) (c : List ℕ) (k : Kind) (z : ℕ) → Edge n k → Says c (earlier k) (later k) z → value_of (read_off n 0 c) k ≡ z
unfolding value_of
value_read n c (One i) z e s = input_read n c i e.later_in ∙ rw add_comm s.1
value_read n c (Two i j) z e s = rw (input_read n c i e.earlier_in, input_read n c j e.later_in) (shared_out (get_or c i 0) (get_or c j 0) (get_or c 0 0) ∙ s.1)

-- ---- every variable's value holds

abbrev Hold : List ℕ → List Kind → ℕ → Type 0
Hold c [] v = v ≡ 0
Hold c (k ∷ ks) v = Says c (earlier k) (later k) (v % 2) × Hold c ks (v / 2)

hold_number : (n : ℕ) (c : List ℕ) (ks : List Kind) (v : ℕ) → All (Edge n) ks → Hold c ks v → number_of ks (read_off n 0 c) ≡ v
unfolding number_of
hold_number n c [] v f h = sym h
hold_number n c (k ∷ ks) v f h = omega (arith, value_read n c k (v % 2) f.0 h.0, hold_number n c ks (v / 2) f.1 h.1)

hold_grounded : (n d j w : ℕ) (c : List ℕ) (ks : List Kind) (v : ℕ) → All (Edge n) ks → n < length c → Hold c ks v → Hold (grounded_on d j w c) ks v
hold_grounded n d j w c [] v f l h = h
hold_grounded n d j w c (k ∷ ks) v f l h =
    let e : Edge n k = f.0 in (
      says_grounded d j w c (earlier k) (later k) (v % 2) (omega (arith, e.earlier_in)) (omega (arith, e.later_in)) h.0,
      hold_grounded n d j w c ks (v / 2) f.1 l h.1,
    )

-- nodes that the labels do not tie have not met
module _ (ms c : List ℕ) (t : Tied ms (map half c)) where
  met_kind : (n : ℕ) (k : Kind) → Edge n k → n < length c → spans ms (mask_of k) ≡ met c (earlier k) (later k)
  met_kind n k e l =
      let m : length (map half c) ≡ length c = length-map c half in
      spans_kind n k ms (map half c) e (omega arith) t ∙ ap₂ eqb (half_at c (earlier k)) (half_at c (later k))

  met_node : (j : ℕ) → suc j < length c → spans ms (2 ^ j) ≡ met c (suc j) 0
  met_node j l =
      let m : length (map half c) ≡ length c = length-map c half in
      spans_node ms (map half c) t j (omega arith) ∙ ap₂ eqb (half_at c (suc j)) (half_at c 0)

tags_hold : (n : ℕ) (ks : List Kind) (ms : List ℕ) (v : ℕ) (c : List ℕ) (i : ℕ) → All (Edge n) ks → first_in spans ms (map mask_of ks) (suc i) ≡ 0
    → n < length c → v < 2 ^ length ks → Tied ms (map half c) → Hold (tags_on ks v c) ks v
unfolding tags_on
tags_hold n [] ms v c i f e l h t = omega arith
tags_hold n (k ∷ ks) ms v c i f e l h t =
    let g : Edge n k = f.0 in
    let d = none_head spans ms (mask_of k) (map mask_of ks) i e in
    let a : earlier k < length c = omega (arith, g.earlier_in) in
    let b : later k < length c = omega (arith, g.later_in) in
    let m : length (map half c) ≡ length c = length-map c half in
    let c' : List ℕ = joined c (earlier k) (later k) (v % 2) in
    let l' : length c' ≡ length c = length_joined c (earlier k) (later k) (v % 2) in
    let apart : met c (earlier k) (later k) ≡ false = sym (met_kind ms c t n k g l) ∙ d.0 in (
      says_tags ks (v / 2) c' (earlier k) (later k) (v % 2) (omega arith) (omega arith)
          (says_new c (earlier k) (later k) (v % 2) a b (omega arith) apart),
      tags_hold n ks (mask_of k ∷ ms) (v / 2) c' (suc i) f.1 d.1 (omega arith) (half_lt (length ks) h)
          (rw (half_joined c (earlier k) (later k) (v % 2) (omega arith)) (tied_kind n k ms (map half c) g (omega arith) t)),
    )

-- ---- the kept inputs hold

tied_joined : (ms c : List ℕ) → Tied ms (map half c) → (j v : ℕ) → suc j < length c → v < 2 → Tied (2 ^ j ∷ ms) (map half (joined c (suc j) 0 v))
tied_joined ms c t j v l h =
    let m : length (map half c) ≡ length c = length-map c half in
    rw (half_joined c (suc j) 0 v h) (tied_node ms (map half c) t j (omega arith))

ground_yes : (d j w : ℕ) (c : List ℕ) → met c (suc j) 0 ≡ true → grounded_on (suc d) j w c ≡ grounded_on d (suc j) w c
unfolding grounded_on
ground_yes d j w c e = rw e

ground_no : (d j w : ℕ) (c : List ℕ) → met c (suc j) 0 ≡ false → grounded_on (suc d) j w c ≡ grounded_on d (suc j) (w / 2) (joined c (suc j) 0 (w % 2))
unfolding grounded_on
ground_no d j w c e = rw (ap (λ (y : Bool). cond y w (w / 2)) e)

grounded_word : (d j : ℕ) (ms : List ℕ) (w : ℕ) (c : List ℕ) → Tied ms (map half c) → j + d < length c → w < 2 ^ ones (kept_in d j ms)
    → pack_in d (kept_in d j ms) (read_off d j (grounded_on d j w c)) ≡ w
unfolding pack_in kept_in ones grounded_on
grounded_word zero j ms w c t l h = omega arith
grounded_word (suc d) j ms w c t l h =
    go (spans ms (2 ^ j)) refl (λ ms' w' c' t' l' h'. grounded_word d (suc j) ms' w' c' t' l' h')
  where
    go : (y : Bool) → spans ms (2 ^ j) ≡ y
        → ((ms : List ℕ) (w : ℕ) (c : List ℕ) → Tied ms (map half c) → suc j + d < length c → w < 2 ^ ones (kept_in d (suc j) ms)
        → pack_in d (kept_in d (suc j) ms) (read_off d (suc j) (grounded_on d (suc j) w c)) ≡ w)
        → pack_in (suc d) (kept_in (suc d) j ms) (read_off (suc d) j (grounded_on (suc d) j w c)) ≡ w
    go true e ih =
        rw (kept_yes d j ms e)
        (pack_even d (kept_in d (suc j) ms) _ ∙ rw (ground_yes d j w c (sym (met_node ms c t j (omega arith)) ∙ e), read_half)
        (ih ms w c t (omega arith) (rw (kept_yes d j ms e, ones_even) at h)))
    go false e ih =
        let k : ℕ = kept_in d (suc j) (2 ^ j ∷ ms) in
        let c' : List ℕ = joined c (suc j) 0 (w % 2) in
        let l' : length c' ≡ length c = length_joined c (suc j) 0 (w % 2) in
        let apart : met c (suc j) 0 ≡ false = sym (met_node ms c t j (omega arith)) ∙ e in
        let h' : w < 2 ^ ones k * 2 = rw (kept_no d j ms e, ones_odd, pow-suc 2 (ones k)) at h in
        let g : List ℕ = grounded_on d (suc j) (w / 2) c' in
        let s : Says g (suc j) 0 (w % 2) =
        says_grounded d (suc j) (w / 2) c' (suc j) 0 (w % 2) (omega arith) (omega arith)
        (says_new c (suc j) 0 (w % 2) (omega arith) (omega arith) (omega arith) apart) in
        let r : pack_in d k (read_off d (suc j) g) ≡ w / 2 =
        ih (2 ^ j ∷ ms) (w / 2) c' (tied_joined ms c t j (w % 2) (omega arith) (omega arith)) (omega arith) (omega arith) in
        rw (kept_no d j ms e)
        (pack_odd d k _ ∙ rw (ground_no d j w c apart, read_half, read_low) (omega (arith, s.1)))

-- ---- the whole

-- the vector read off after the variables' values v and the kept inputs w, with d tags
abbrev pub read_with : ℕ → List Kind → ℕ → ℕ → ℕ → ℕ
read_with n ks d v w = read_off n 0 (grounded_on n 0 w (tags_on ks v (start_tags d)))

pub record Recovered (n : ℕ) (ks : List Kind) (v w r : ℕ) : Type 0 where
  pub below : r < 2 ^ n
  pub values : number_of ks r ≡ v
  pub rest : pack_in n (kept n ks) r ≡ w

-- the labels of the tags after the variables say what those span
pub tied_tags : (n : ℕ) (ks : List Kind) (v d : ℕ) → All (Edge n) ks → n < d → Tied (map mask_of ks) (map half (tags_on ks v (start_tags d)))
tied_tags n ks v d f h = rw (half_tags ks v (start_tags d), half_start d) (tied_labels n ks d f h)

-- with independent variables, the vector read off has the values and the kept inputs given
pub recovered : (n : ℕ) (ks : List Kind) (d v w : ℕ) → n < d → All (Edge n) ks → first_dependent ks ≡ 0
    → v < 2 ^ length ks → w < 2 ^ ones (kept n ks) → Recovered n ks v w (read_with n ks d v w)
unfolding kept first_dependent first_of
recovered n ks d v w h f e hv hw =
    let c : List ℕ = tags_on ks v (start_tags d) in
    let s : length (start_tags d) ≡ d = length_start d in
    let l : length c ≡ d = length_tags ks v (start_tags d) ∙ s in
    record {
      below = read_lt n 0 _;
      values = hold_number n _ ks v f
          (hold_grounded n n 0 w c ks v f (omega arith)
          (tags_hold n ks [] v (start_tags d) 0 f e (omega arith) hv (rw (half_start d) (tied_nodes d))));
      rest = grounded_word n 0 (map mask_of ks) w c (tied_tags n ks v d f h) (omega arith) hw;
    }
