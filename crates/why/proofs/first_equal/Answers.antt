use Rattle.std.proofs.Common.{◌≡◌, ℕ, position, rules, tests, ◌∙◌, ap}
use lib.Dec.{eqb}
use Rattle.std.proofs.lemmas.Iterator.{YieldsList-from_slice}
use Rattle.std.proofs.lemmas.Iterator.Search.{position_from_yields_List}
use Rattle.lists.specs.First.{place_number}
use Rattle.why.proofs.Saying.{first_place}
use Rattle.why.proofs.first_equal.Goals as goal

pub returns : goal.returns
returns c =
    let a = c.args in
    let e : c.position.result ≡ position (λ x. eqb x a.v) a.vectors.now =
    position_from_yields_List {B = ℕ} (λ x. eqb x a.v) _ _ c.position.result c.position.ensures.ran (YieldsList-from_slice a.vectors.now (cc)) (λ x b q k. search (rules, tests)) in
    ap place_number e ∙ first_place a.v a.vectors.now
