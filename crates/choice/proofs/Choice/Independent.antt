-- A variable that lowers the number of pairs is no XOR of those taken: dependence never arises in the chosen build. Assumes nothing.
use Prim.Native.Nat.{ℕ, suc, ◌<◌}
use native.Mathlib.Omega.{arith}
use mathlib.Core.Path.{◌≡◌, refl, sym, ◌∙◌}
use mathlib.Core.Bool.{Bool, true, false}
use mathlib.Core.List.{List, [], ◌∷◌, ◌++◌, map, append-nil}
use Rattle.lists.specs.First.{first_in, first_of}
use Rattle.lists.proofs.Finding.Firsts.{first_on}
use Rattle.lists.proofs.Finding.NonePass.{none_head}
use Rattle.vectors.specs.declared.Kind.{Kind}
use Rattle.vectors.specs.Variable.{mask_of, value_of, number_of}
use Rattle.span.specs.Span.{spans, first_dependent}
use Rattle.choice.specs.Choice.{left}
use Rattle.choice.proofs.Choice.Pairs.{pairs_finer}
use Rattle.choice.proofs.Choice.Numbers.{snoc_join}
use Rattle.vectors.proofs.Bits.Xor.{parity_value}
use Rattle.span.proofs.Spans.{spans_middle}
use Rattle.span.proofs.Unique.{number_alike, alike_span}

-- what the variables span has the same value on vectors that agree on them
value_alike : (x y : ℕ) (ks : List Kind) (k : Kind) → spans (map mask_of ks) (mask_of k) ≡ true → number_of ks x ≡ number_of ks y → value_of x k ≡ value_of y k
value_alike x y ks k s h =
    sym (parity_value x k) ∙ alike_span x y (map mask_of ks) (mask_of k) (number_alike ks x y h) s ∙ parity_value y k

-- so vectors that agree on the variables agree on the longer list
number_alike_snoc : (ks : List Kind) (k : Kind) → spans (map mask_of ks) (mask_of k) ≡ true → (x y : ℕ) → number_of ks x ≡ number_of ks y
    → number_of (ks ++ (k ∷ [])) x ≡ number_of (ks ++ (k ∷ [])) y
number_alike_snoc ks k s x y p = snoc_join ks k x y p (value_alike x y ks k s p)

-- ---- one more variable

first_snoc : (ks : List Kind) (k : Kind) (ms : List ℕ) (i : ℕ) → first_in spans ms (map mask_of ks) (suc i) ≡ 0 → spans (map mask_of ks ++ ms) (mask_of k) ≡ false
    → first_in spans ms (map mask_of (ks ++ (k ∷ []))) (suc i) ≡ 0
unfolding first_in
first_snoc [] k ms i h s = first_on spans ms (mask_of k) [] (suc i) s
first_snoc (l ∷ ks) k ms i h s =
    let d = none_head spans ms (mask_of l) (map mask_of ks) i h in
    first_on spans ms (mask_of l) (map mask_of (ks ++ (k ∷ []))) (suc i) d.0
    ∙ first_snoc ks k (mask_of l ∷ ms) (suc i) d.1 (spans_middle (map mask_of ks) (mask_of l) ms (mask_of k) ∙ s)

-- SCOPE 4.6: a variable that lowers the pairs left keeps the variables independent
pub lowers_independent : (vs : List ℕ) (ks : List Kind) (k : Kind) → first_dependent ks ≡ 0
    → left vs (ks ++ (k ∷ [])) < left vs ks → first_dependent (ks ++ (k ∷ [])) ≡ 0
unfolding first_dependent first_of left
lowers_independent vs ks k d h = go (spans (map mask_of ks) (mask_of k)) refl
  where
    go : (b : Bool) → spans (map mask_of ks) (mask_of k) ≡ b → first_in spans [] (map mask_of (ks ++ (k ∷ []))) 1 ≡ 0
    go true s = absurd (omega (arith, pairs_finer (number_of (ks ++ (k ∷ []))) (number_of ks) (number_alike_snoc ks k s) vs))
    go false s = first_snoc ks k [] 0 d (rw (append-nil (map mask_of ks)) s)
