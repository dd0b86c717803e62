use Prim.Native.Nat.{ℕ, ◌<◌, ◌^◌}
use native.Mathlib.Omega.{arith}
use mathlib.Core.Path.{ap, ◌∙◌}
use mathlib.Core.List.{List, map}
use lib.ListN.{take, length-map}
use Rattle.lists.proofs.Entries.Alls.{at_all}
use Rattle.repeats.specs.Repeats.{repeated_in}
use Rattle.repeats.proofs.Limit.{few}
use Rattle.vectors.specs.Bounds.{max_inputs}
use Rattle.vectors.specs.Masks.{number_by}
use Rattle.vectors.proofs.Variables.Masking.{numbers_masks, masks_all}
use Rattle.build.proofs.checks.first_alike.Goals as goal

pub returns : goal.returns
returns c =
    let p = c.args.p in
    let vs = c.args.vectors.now in
    let f = at_all (λ v. v < 2 ^ max_inputs) vs 0 (λ i h. (c.type_inv.vectors i).fits) in
    let a = ap (take p) c.masks-masks.ensures ∙ masks_all c.args.variables p (omega (arith, c.requires.0, c.well_formed)) in
    let m = ap (λ (ms : List ℕ). map (number_by ms) vs) a ∙ numbers_masks _ vs f in
    c.first_repeat.ensures ∙ ap repeated_in (c.numbers.ensures ∙ m) ∙ few _ (rw length-map c.requires.1)
