use Rattle.std.proofs.Common.{◌≡◌, position, take, rules, tests, ◌∙◌, ap}
use Rattle.std.proofs.lemmas.Iterator.{YieldsList-from_slice, YieldsList-from_take}
use Rattle.std.proofs.lemmas.Iterator.Search.{position_from_yields_List}
use Rattle.lists.specs.First.{place_number}
use Rattle.lists.proofs.Finding.Places.{place_first}
use Rattle.vectors.specs.declared.Variable.{Variable}
use Rattle.vectors.specs.Variable.{faulty}
use Rattle.vectors.proofs.first_faulty.Goals as goal

pub returns : goal.returns
returns c =
    let a = c.args in
    let e : c.position.result ≡ position (λ v. faulty a.n v.kind) (take a.p a.variables) =
    position_from_yields_List {B = Variable} (λ v. faulty a.n v.kind) _ _ c.position.result c.position.ensures.ran (YieldsList-from_take a.p (YieldsList-from_slice a.variables (cc)) (cc)) (λ x b q k. search (rules, tests)) in
    ap place_number e ∙ place_first (λ (v : Variable). v.kind) (faulty a.n) (take a.p a.variables)
