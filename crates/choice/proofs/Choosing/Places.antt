-- The variables chosen: none past the bounds, and what a caller knows of them within. Assumes nothing.
use Prim.Native.Nat.{ℕ, ◌≤◌, ◌<◌}
use mathlib.Core.Path.{◌≡◌, refl, sym, ap, ◌∙◌}
use mathlib.Core.Bool.{Bool, true, false, cond, ◌||◌, or-true}
use mathlib.Core.List.{List, map, map-id}
use borrow.Author.Tests.{le-ltb, ltb-false}
use lib.Dec.{ltb}
use lib.ListN.{length, take, length-map}
use lib.Seq.{take_at}
use Rattle.lists.proofs.Tests.{or_false}
use Rattle.lists.proofs.Entries.Members.{map_map}
use Rattle.vectors.specs.declared.Kind.{Kind}
use Rattle.vectors.specs.Bounds.{max_inputs, max_vectors, max_variables, outside}
use Rattle.vectors.specs.Variable.{kinds_of}
use Rattle.choice.specs.Choice.{candidates, choose, apart}
use Rattle.choice.proofs.Choice.Steps.{choice_few}
use Rattle.choice.specs.Choosing.{Chosen, row_variable, placed, chosen_by, none_chosen, chosen_in}

-- ---- the bounds

pub within : (n : ℕ) → outside 1 max_inputs n ≡ false → (0 < n) × (n ≤ max_inputs)
within n e = let o = or_false (ltb n 1) (ltb max_inputs n) e in (ltb-false n 1 o.0, ltb-false max_inputs n o.1)

module _ (vs : List ℕ) (n degree : ℕ) where
  chosen_if : (b : Bool) → (outside 1 max_inputs n || ltb max_vectors (length vs)) ≡ b → chosen_in vs n degree ≡ cond b none_chosen (chosen_by vs n degree)
  unfolding chosen_in
  chosen_if b e = ap (λ (b : Bool). cond b none_chosen (chosen_by vs n degree)) e

  pub past_inputs : outside 1 max_inputs n ≡ true → none_chosen ≡ chosen_in vs n degree
  past_inputs e = sym (chosen_if true (rw e))

  pub past_vectors : ltb max_vectors (length vs) ≡ true → none_chosen ≡ chosen_in vs n degree
  past_vectors e = sym (chosen_if true (rw (e, or-true (outside 1 max_inputs n))))

  module _ (some : 0 < n) (inputs : n ≤ max_inputs) (few : length vs ≤ max_vectors) where
    pub by_rule : chosen_by vs n degree ≡ chosen_in vs n degree
    by_rule = sym (chosen_if false (rw (le-ltb n 1 some, le-ltb max_inputs n inputs, le-ltb max_vectors (length vs) few)))

-- ---- what a caller knows

-- the variables of the rule, in their places
pub record ChosenIs (vs : List ℕ) (n degree : ℕ) (r : Chosen) : Type 0 where
  pub kinds : kinds_of (take r.p r.variables) ≡ choose max_variables n degree vs
  pub many : r.p ≡ length (choose max_variables n degree vs)
  pub within : r.p ≤ max_variables
  pub apart : r.apart ≡ apart vs (choose max_variables n degree vs)

kinds_placed : (ks : List Kind) → kinds_of (take (length ks) (placed ks)) ≡ ks
kinds_placed ks =
    ap kinds_of (take_at (map row_variable ks) _ (length ks) (length-map ks row_variable)) ∙ map_map (λ v. v.kind) row_variable ks ∙ map-id ks

pub chosen_is : (vs : List ℕ) (n degree : ℕ) (r : Chosen) → 0 < n → n ≤ max_inputs → length vs ≤ max_vectors → r ≡ chosen_in vs n degree → ChosenIs vs n degree r
unfolding choose
chosen_is vs n degree r some inputs few e =
    rw (e ∙ sym (by_rule vs n degree some inputs few))
    record { kinds = kinds_placed (choose max_variables n degree vs); many = refl; within = choice_few (candidates n degree) vs max_variables; apart = refl }
