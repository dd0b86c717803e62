-- What the checks ask of short lists and of sound variables. Assumes nothing.
use Prim.Native.Nat.{ℕ, ◌^◌, ◌≤◌}
use native.Mathlib.Omega.{arith}
use mathlib.Core.Path.{◌≡◌, ap, ◌∙◌}
use mathlib.Core.Bool.{false}
use mathlib.Core.List.{List, map}
use lib.Dec.{leb}
use lib.ListN.{length, take, length-map, length-take}
use Rattle.std.proofs.Common.{position}
use Rattle.std.proofs.lemmas.List.{map-id}
use Rattle.lists.specs.First.{has, first_of, repeated, place_number}
use Rattle.lists.proofs.Finding.Firsts.{first_length}
use Rattle.lists.proofs.Finding.NonePass.{none_all}
use Rattle.lists.proofs.Finding.Places.{place_first}
use Rattle.vectors.specs.Bounds.{max_inputs, max_vectors, outside}
use Rattle.vectors.specs.declared.Kind.{Kind}
use Rattle.vectors.specs.declared.Variable.{Variable}
use Rattle.vectors.specs.Variable.{mask_of, faulty, first_faulty, number_of, kinds_of}
use Rattle.span.specs.Within.{kinds_within}
use Rattle.repeats.specs.Repeats.{repeated_in}
use Rattle.repeats.proofs.Limit.{few}
use Rattle.span.specs.Span.{spans, first_dependent}
use Rattle.span.proofs.Labels.Edges.{kinds_same}
use Rattle.record.proofs.Formed.{inside}
use Rattle.build.specs.Refusals.{first_beyond}

-- ---- vectors

pub beyond_place : (n : ℕ) (vs : List ℕ) → place_number (position (λ v. leb (2 ^ n) v) vs) ≡ first_beyond n vs
beyond_place n vs = place_first (λ v. v) (leb (2 ^ n)) vs ∙ ap (first_of (λ before v. leb (2 ^ n) v)) (map-id vs)

-- places are those of entries
pub beyond_low : (n : ℕ) (vs : List ℕ) → first_beyond n vs ≤ length vs
beyond_low n vs = first_length (λ before v. leb (2 ^ n) v) vs

pub repeats_low : (vs : List ℕ) → repeated vs ≤ length vs
unfolding repeated
repeats_low vs = first_length (λ before x. has x before) vs

-- past check 3 all of the list is looked at
pub repeats_few : (vs : List ℕ) → outside 1 max_vectors (length vs) ≡ false → repeated_in vs ≡ repeated vs
repeats_few vs h = few vs (inside 1 max_vectors (length vs) h).1

-- ---- variables

pub faulty_low : (n p : ℕ) (variables : List Variable) → first_faulty n (kinds_of (take p variables)) ≤ p
faulty_low n p variables = omega (arith, first_length (λ before k. faulty n k) (kinds_of (take p variables)), length-map (take p variables) (λ (v : Variable). v.kind), length-take p variables)

pub dependent_low : (p : ℕ) (variables : List Variable) → first_dependent (kinds_of (take p variables)) ≤ p
unfolding first_dependent
dependent_low p variables =
    omega (arith, first_length spans (map mask_of (kinds_of (take p variables))), length-map (kinds_of (take p variables)) mask_of, length-map (take p variables) (λ (v : Variable). v.kind), length-take p variables)

pub alike_low : (ks : List Kind) (vs : List ℕ) → repeated (map (number_of ks) vs) ≤ length vs
alike_low ks vs = omega (arith, repeats_low (map (number_of ks) vs), length-map vs (number_of ks))

-- past check 8 they count as they are
pub dependent_same : (n p : ℕ) (variables : List Variable) → n ≤ max_inputs → first_faulty n (kinds_of (take p variables)) ≡ 0
    → first_dependent (kinds_within n p variables) ≡ first_dependent (kinds_of (take p variables))
dependent_same n p variables h e = ap first_dependent (kinds_same n p variables h (none_all (faulty n) (kinds_of (take p variables)) e))
