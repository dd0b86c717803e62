use Prim.Native.Nat.{◌≤◌, ◌<◌}
use native.Mathlib.Omega.{arith}
use mathlib.Core.Path.{refl, sym, ◌∙◌}
use lib.ListN.{length}
use Rattle.rows.specs.Inner.Chains as tried
use Rattle.rows.specs.Inner.Chains.{chain}
use Rattle.rows.proofs.Fits.First.{fit_inside, fit_low, none_low}
use Rattle.rows.proofs.Chains.Walks.{chain_pos}
use Rattle.rows.proofs.Answers.Owned.{owned_fit}
use Rattle.rows.proofs.sweep.place_row.Goals as goal
use Rattle.rows.proofs.sweep.place_row.Goals.{In-Ok, In-Err}

low : (c : In-Ok) → c.in-Ok.d < length c.args.g.now
low c = let m = c.args.chain in fit_low _ _ _ (chain_pos _ m.rises _ m.some.0 m.some.1) (sym c.in-Ok.ensures)

few : (c : In-Err) → c.in-Err.field-0.tried ≤ length c.args.g.now
few c = let m = c.args.chain in none_low _ _ _ _ (chain_pos _ m.rises _ m.some.0 m.some.1) (sym c.in-Err.ensures)

pub put-requires-clause-inside : goal.put-requires-clause-inside
put-requires-clause-inside c = fit_inside _ _ _ (sym c.in-Ok.ensures)

pub overflow_cast-h : goal.overflow_cast-h
overflow_cast-h c = omega (arith, low (goal.at.overflow_cast-h c).In-Ok, c.requires.taken.few)

pub overflow_add-more : goal.overflow_add-more
overflow_add-more c = omega (arith, low (goal.at.overflow_add-more c).In-Ok, c.requires.taken.few)

pub overflow_add-more-in-Ok : goal.overflow_add-more-in-Ok
overflow_add-more-in-Ok c = omega (arith, low (goal.at.overflow_add-more-in-Ok c).In-Ok, c.requires)

pub overflow_add-tries : goal.overflow_add-tries
overflow_add-tries c = omega (arith, few c, c.requires)

pub returns-then-allowance-more-clause-row_tried : goal.returns-then-allowance-more-clause-row_tried
returns-then-allowance-more-clause-row_tried c =
    tried.over _ (owned_fit _ _ _ ∙ sym c.in-Ok.ensures) refl c.put.ensures.g_after c.if-allowance-more.true refl

pub returns-else-allowance-more-clause-row_tried : goal.returns-else-allowance-more-clause-row_tried
returns-else-allowance-more-clause-row_tried c =
    tried.placed _ (owned_fit _ _ _ ∙ sym c.in-Ok.ensures) refl c.put.ensures.g_after c.if-allowance-more.false refl

pub returns-then-allowance-tries-clause-row_tried : goal.returns-then-allowance-tries-clause-row_tried
returns-then-allowance-tries-clause-row_tried c =
    tried.stuck_over _ _ (owned_fit _ _ _ ∙ sym c.in-Err.ensures) refl refl c.if-allowance-tries.true refl

pub returns-else-allowance-tries-clause-row_tried : goal.returns-else-allowance-tries-clause-row_tried
returns-else-allowance-tries-clause-row_tried c =
    tried.stuck _ _ (owned_fit _ _ _ ∙ sym c.in-Err.ensures) refl refl c.if-allowance-tries.false refl
