use Prim.Native.Nat.{ℕ}
use mathlib.Core.Path.{refl, ap, ◌∙◌}
use mathlib.Core.List.{List}
use Rattle.refusal.specs.declared.Refusal.{Refusal}
use Rattle.refusal.specs.Refusal.{number_of}
use Rattle.why.specs.Why.{form_in, built_forms, other_form}
use Rattle.why.proofs.Saying.{form_other, said}
use Rattle.why.proofs.say_refusal.Goals as goal

-- the form of a refusal
abbrev found : Refusal → List ℕ
found refusal = form_in built_forms other_form (number_of refusal)

pub returns-in-Inputs : goal.returns-in-Inputs
unfolding form_in
returns-in-Inputs c =
    c.sentence.ensures ∙ said c.args.numbers.now c.args.out.now _ (found c.args.refusal) (ap found c.in-Inputs.is) refl

pub returns-in-Degree : goal.returns-in-Degree
unfolding form_in
returns-in-Degree c =
    c.sentence-in-Degree.ensures ∙ said c.args.numbers.now c.args.out.now _ (found c.args.refusal) (ap found c.in-Degree.is) refl

pub returns-in-Vectors : goal.returns-in-Vectors
unfolding form_in
returns-in-Vectors c =
    c.sentence-in-Vectors.ensures ∙ said c.args.numbers.now c.args.out.now _ (found c.args.refusal) (ap found c.in-Vectors.is) refl

pub returns-in-Cells : goal.returns-in-Cells
unfolding form_in
returns-in-Cells c =
    c.sentence-in-Cells.ensures ∙ said c.args.numbers.now c.args.out.now _ (found c.args.refusal) (ap found c.in-Cells.is) refl

pub returns-in-Beyond : goal.returns-in-Beyond
unfolding form_in
returns-in-Beyond c =
    c.sentence-in-Beyond.ensures ∙ said c.args.numbers.now c.args.out.now _ (found c.args.refusal) (ap found c.in-Beyond.is) refl

pub returns-in-Repeated : goal.returns-in-Repeated
unfolding form_in
returns-in-Repeated c =
    c.sentence-in-Repeated.ensures ∙ said c.args.numbers.now c.args.out.now _ (found c.args.refusal) (ap found c.in-Repeated.is) refl

pub returns-in-NotApart : goal.returns-in-NotApart
unfolding form_in
returns-in-NotApart c =
    c.sentence-in-NotApart.ensures ∙ said c.args.numbers.now c.args.out.now _ (found c.args.refusal) (ap found c.in-NotApart.is) refl

pub returns-in-NoPlace : goal.returns-in-NoPlace
unfolding form_in
returns-in-NoPlace c =
    c.sentence-in-NoPlace.ensures ∙ said c.args.numbers.now c.args.out.now _ (found c.args.refusal) (ap found c.in-NoPlace.is) refl

pub returns-in_default : goal.returns-in_default
returns-in_default c =
    let d = c.in_default in
    c.sentence-in_default.ensures
    ∙ said c.args.numbers.now c.args.out.now _ (found c.args.refusal)
    (form_other c.args.refusal (record { not_inputs = d.not-Inputs; not_degree = d.not-Degree; not_vectors = d.not-Vectors; not_cells = d.not-Cells; not_beyond = d.not-Beyond; not_repeated = d.not-Repeated; not_apart = d.not-NotApart; placed = d.not-NoPlace }))
    refl
