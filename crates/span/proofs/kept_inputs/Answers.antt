use native.Mathlib.Omega.{arith}
use Prim.Native.Nat.{◌+◌}
use mathlib.Core.Path.{◌∙◌}
use lib.ListN.{take}
use Rattle.vectors.specs.Bounds.{max_inputs}
use Rattle.vectors.specs.Variable.{kinds_of}
use Rattle.span.specs.Within.{inputs_in, kinds_within}
use Rattle.span.proofs.Labels.Edges.{edges_within}
use Rattle.span.proofs.Fixed.{kept_read}
use Rattle.span.proofs.kept_inputs.Goals as goal

pub returns : goal.returns
returns c =
    let a = c.args in
    c.by_inputs.ensures.0 ∙ rw (c.min.ensures, c.by_variables-w.ensures.1)
    (kept_read (inputs_in a.n) (kinds_within a.n a.p a.variables) 0 (max_inputs + 1)
    (edges_within (inputs_in a.n) (kinds_of (take a.p a.variables))) (omega arith))
