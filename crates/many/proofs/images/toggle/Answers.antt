use Prim.Native.Nat.{ℕ, ◌%◌, ◌^◌}
use mathlib.Core.Path.{ap}
use Rattle.std.proofs.Common.{inl, inr}
use Rattle.vectors.specs.Bits.{place_of}
use Rattle.vectors.specs.Bounds.{max_inputs}
use Rattle.vectors.proofs.Bits.Laws.{place_out}
use Rattle.many.proofs.Inputs.{toggled_input, toggled_none}
use Rattle.many.proofs.images.toggle.Goals as goal

pub returns-then-b-eq0 : goal.returns-then-b-eq0
returns-then-b-eq0 c =
    λ ms m e o. toggled_none ms m c.args.images.now c.requires o c.args.i
    (elim c.then-b-eq0.either [ inl h ↦ ap (λ (i : ℕ). place_of i % 2 ^ max_inputs) h | inr h ↦ place_out max_inputs c.args.i h.1 ])

pub returns : goal.returns
returns c =
    λ ms m e o. toggled_input ms m c.args.images.now c.requires o c.args.i c.args.bit c.if-b-eq0.false c.if-b-gt-MAX_INPUTS.false e
