-- A variable that is not faulty is an edge between two nodes; the labels after all of the variables' edges. Assumes nothing.
use Prim.Native.Nat.{ℕ, ◌+◌, ◌≤◌, ◌<◌}
use native.Mathlib.Nat.{min-eq_left}
use native.Mathlib.Omega.{arith}
use mathlib.Core.Path.{◌≡◌, refl, ap, ap₂, ◌∙◌}
use mathlib.Core.Bool.{Bool, true, false, cond, ◌||◌}
use mathlib.Core.List.{List, [], ◌∷◌, ◌++◌, map, append-nil}
use borrow.Author.Tests.{leb-false, ltb-false, le-ltb}
use lib.Dec.{eqb, leb, ltb}
use lib.ListN.{length, get_or, take}
use Rattle.std.proofs.lemmas.Bool.{or_parts}
use Rattle.lists.specs.Members.{All}
use Rattle.vectors.specs.declared.Kind.{Kind}
use Rattle.vectors.specs.declared.Kind.TheVariants.{One, Two}
use Rattle.vectors.specs.declared.Variable.{Variable}
use Rattle.vectors.specs.Bounds.{max_inputs}
use Rattle.vectors.specs.Variable.{earlier, later, mask_of, faulty, kinds_of}
use Rattle.span.specs.Within.{place_within, within, inputs_in, kinds_within}
use Rattle.span.specs.Span.{spans}
use Rattle.span.specs.Inner.Tags.{nodes_from, merged}
use Rattle.std.proofs.lemmas.List.FromFn.{length-range_with_len, get_or-range_with_len}
use Rattle.span.proofs.Spans.{spans_middle}
use Rattle.span.proofs.Labels.Tied.{pair, length_merged, Tied, tied, tied_merge, tied_start, tied_same}

pub mask_pair : (k : Kind) → mask_of k ≡ pair (earlier k) (later k)
mask_pair (One i) = refl
mask_pair (Two i j) = refl

-- both ends are among the nodes 0 to n
pub record Edge (n : ℕ) (k : Kind) : Type 0 where
  pub earlier_in : earlier k ≤ n
  pub later_in : later k ≤ n

pub edge : (n : ℕ) (k : Kind) → faulty n k ≡ false → Edge n k
edge n (One i) h = record { earlier_in = omega arith; later_in = ltb-false n i (or_parts (eqb i 0) (ltb n i) h).1 }
edge n (Two i j) h =
    let f = or_parts (eqb i 0 || leb j i) (ltb n j) h in
    let l : i < j = leb-false j i (or_parts (eqb i 0) (leb j i) f.0).1 in
    let m : j ≤ n = ltb-false n j f.1 in
    record { earlier_in = omega arith; later_in = m }

pub all_edges : (n : ℕ) (ks : List Kind) → All (λ k. faulty n k ≡ false) ks → All (Edge n) ks
all_edges n [] f = tt
all_edges n (k ∷ ks) f = (edge n k f.0, all_edges n ks f.1)

-- ---- variables among n inputs

place_low : (n i : ℕ) → place_within n i ≤ n
place_low n i = go (ltb n i) refl
  where
    go : (y : Bool) → ltb n i ≡ y → cond y 0 i ≤ n
    go true e = omega arith
    go false e = ltb-false n i e

pub edge_within : (n : ℕ) (k : Kind) → Edge n (within n k)
edge_within n (One i) = record { earlier_in = omega arith; later_in = place_low n i }
edge_within n (Two i j) = record { earlier_in = place_low n i; later_in = place_low n j }

pub edges_within : (n : ℕ) (ks : List Kind) → All (Edge n) (map (within n) ks)
edges_within n [] = tt
edges_within n (k ∷ ks) = (edge_within n k, edges_within n ks)

-- an edge among the nodes 0 to n counts as it is
within_same : (n : ℕ) (k : Kind) → Edge n k → within n k ≡ k
within_same n (One i) e = rw (le-ltb n i e.later_in)
within_same n (Two i j) e = rw (le-ltb n i e.earlier_in, le-ltb n j e.later_in)

pub all_same : (n : ℕ) (ks : List Kind) → All (Edge n) ks → map (within n) ks ≡ ks
all_same n [] f = refl
all_same n (k ∷ ks) f = ap₂ ◌∷◌ (within_same n k f.0) (all_same n ks f.1)

pub inputs_same : (n : ℕ) → n ≤ max_inputs → inputs_in n ≡ n
inputs_same n h = min-eq_left h

-- variables that are not faulty count as they are
pub kinds_same : (n p : ℕ) (vs : List Variable) → n ≤ max_inputs → All (λ k. faulty n k ≡ false) (kinds_of (take p vs)) → kinds_within n p vs ≡ kinds_of (take p vs)
kinds_same n p vs h f =
    ap (λ (m : ℕ). map (within m) (kinds_of (take p vs))) (inputs_same n h) ∙ all_same n (kinds_of (take p vs)) (all_edges n (kinds_of (take p vs)) f)

-- ---- one variable

module _ (n : ℕ) (k : Kind) (ms c : List ℕ) (e : Edge n k) (l : n < length c) (t : Tied ms c) where
  pub tied_kind : Tied (mask_of k ∷ ms) (merged c (earlier k) (later k))
  tied_kind = rw (mask_pair k) (tied_merge ms c (earlier k) (later k) (omega (arith, e.earlier_in)) (omega (arith, e.later_in)) t)

  pub spans_kind : spans ms (mask_of k) ≡ eqb (get_or c (earlier k) 0) (get_or c (later k) 0)
  spans_kind = rw (mask_pair k) (tied ms c t (earlier k) (later k) (omega (arith, e.earlier_in)) (omega (arith, e.later_in)))

-- ---- all of the variables

-- the labels after the variables' edges
unfoldable pub labels_on : List Kind → List ℕ → List ℕ
labels_on [] c = c
labels_on (k ∷ ks) c = labels_on ks (merged c (earlier k) (later k))

-- the labels after the edges say what the variables span
pub tied_kinds : (n : ℕ) (ks : List Kind) (ms c : List ℕ) → All (Edge n) ks → n < length c → Tied ms c
    → Tied (map mask_of ks ++ ms) (labels_on ks c)
unfolding labels_on
tied_kinds n [] ms c f l t = t
tied_kinds n (k ∷ ks) ms c f l t =
    tied_same (map mask_of ks ++ (mask_of k ∷ ms)) (mask_of k ∷ (map mask_of ks ++ ms)) _ (spans_middle (map mask_of ks) (mask_of k) ms)
    (tied_kinds n ks (mask_of k ∷ ms) (merged c (earlier k) (later k)) f.1 (rw (length_merged c (earlier k) (later k)) l)
    (tied_kind n k ms c f.0 l t))

pub length_nodes : (d s : ℕ) → length (nodes_from d s) ≡ d
unfolding nodes_from
length_nodes d s = length-range_with_len s d

pub nodes_at : (d s v : ℕ) → v < d → get_or (nodes_from d s) v 0 ≡ s + v
unfolding nodes_from
nodes_at d s v h = get_or-range_with_len s d v 0 h

pub tied_nodes : (d : ℕ) → Tied [] (nodes_from d 0)
tied_nodes d = tied_start (nodes_from d 0) (λ v h. nodes_at d 0 v (rw (length_nodes d 0) at h) ∙ omega arith)

pub tied_labels : (n : ℕ) (ks : List Kind) (d : ℕ) → All (Edge n) ks → n < d → Tied (map mask_of ks) (labels_on ks (nodes_from d 0))
tied_labels n ks d f h =
    rw (append-nil (map mask_of ks)) at (tied_kinds n ks [] (nodes_from d 0) f (rw (length_nodes d 0) h) (tied_nodes d))
