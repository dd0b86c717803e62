use Rattle.std.proofs.Common.{◌≤◌, length, arith, ap, ap₂, ◌∙◌}
use Rattle.vectors.proofs.Variables.Numbers.{kinds_length}
use Rattle.span.specs.Fixed.{found_by}
use Rattle.span.proofs.Labels.Edges.{inputs_same, kinds_same}
use Rattle.recover.specs.Recover.{told}
use Rattle.recover.proofs.Recovery.{told_found, vector_found}
use Rattle.recover.proofs.fixed.Goals as goal

pub returns : goal.returns
returns c =
    let a = c.args in
    let u = a.unit in
    let b = c.requires.0 in
    let few : u.p ≤ length u.variables = omega (arith, b.few, c.well_formed.0.1.1.1.1.1.1.1.1.1.1.0.1.0.1) in
    ap told c.ok_or.ensures.value ∙ told_found c.vector.result
    ∙ vector_found u a.word a.column (kinds_length u.variables u.p few) b.rows_in c.vector.result
    (c.vector.ensures
    ∙ ap₂ (λ n ks. found_by n u.n1 ks u.kept a.word a.column) (inputs_same u.n b.inputs)
    (kinds_same u.n u.p u.variables b.inputs c.requires.1.right))
