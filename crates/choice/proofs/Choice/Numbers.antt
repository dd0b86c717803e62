-- Numbers over one more variable. Assumes nothing.
use Prim.Native.Nat.{ℕ, ◌+◌, ◌*◌, ◌^◌}
use native.Mathlib.Omega.{arith}
use mathlib.Core.Path.{◌≡◌, refl, ap₂, sym, ◌∙◌}
use mathlib.Core.List.{List, [], ◌∷◌, ◌++◌}
use lib.ListN.{length}
use Rattle.vectors.specs.declared.Kind.{Kind}
use Rattle.vectors.specs.Variable.{value_of, number_of}
use Rattle.vectors.proofs.Variables.Numbers.{value_lt, number_append}

pub snoc_split : (ws : List Kind) (c : Kind) (u v : ℕ) → number_of (ws ++ (c ∷ [])) u ≡ number_of (ws ++ (c ∷ [])) v
    → (number_of ws u ≡ number_of ws v) × (value_of u c ≡ value_of v c)
unfolding number_of
snoc_split [] c u v e = (refl, omega arith)
snoc_split (w ∷ ws) c u v e =
    let a = value_lt u w in
    let b = value_lt v w in
    let r = snoc_split ws c u v (omega arith) in
    (omega arith, r.1)

pub snoc_join : (ws : List Kind) (c : Kind) (u v : ℕ) → number_of ws u ≡ number_of ws v → value_of u c ≡ value_of v c
    → number_of (ws ++ (c ∷ [])) u ≡ number_of (ws ++ (c ∷ [])) v
unfolding number_of
snoc_join ws c u v e g = number_append ws (c ∷ []) u ∙ ap₂ (λ x y. x + 2 ^ length ws * (y + 2 * 0)) e g ∙ sym (number_append ws (c ∷ []) v)
