use native.Mathlib.Omega.{arith}
use native.Mathlib.Numerals.{add-one}
use mathlib.Core.Path.{◌≡◌, ◌∙◌}
use Rattle.std.proofs.Common.{Err}
use Rattle.build.specs.Built.{told}
use Rattle.why.specs.Why.{first_equal}
use Rattle.why.proofs.Saying.{equal_low, built_said}
use Rattle.why.proofs.say_refused.Goals as goal
use Rattle.why.proofs.say_refused.Goals.{in-Some, in-None}

pub overflow_add-first : goal.overflow_add-first
overflow_add-first c = record { fits = omega (arith, c.in-Some.ensures, equal_low c.vector_at-vector.result c.args.vectors.now, c.well_formed) }

pub returns : goal.returns
returns c =
    let first : c.match-first_equal.first ≡ first_equal c.vector_at-vector.result c.args.vectors.now =
    elim c.match-first_equal.branch [
      | in-Some w ↦ w.first-is ∙ add-one w.in-Some.i ∙ w.in-Some.ensures
      | in-None w ↦ w.first-is ∙ w.in-None.ensures
    ] in
    c.say_refusal.ensures
    ∙ built_said (told (Err c.args.refused)) c.args.list.n c.args.list.degree c.args.list.cells c.args.vectors.now c.args.out.now _ _ _ (c.from.ensures ∙ c.number.ensures) c.vector_at-vector.ensures first
