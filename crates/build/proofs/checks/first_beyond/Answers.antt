use Rattle.std.proofs.Common.{◌≡◌, ℕ, ◌^◌, position, rules, tests, ◌∙◌, ap}
use lib.Dec.{leb}
use Rattle.std.proofs.lemmas.Iterator.{YieldsList-from_slice}
use Rattle.std.proofs.lemmas.Iterator.Search.{position_from_yields_List}
use Rattle.lists.specs.First.{place_number}
use Rattle.build.proofs.Refusing.Checks.{beyond_place}
use Rattle.build.proofs.checks.first_beyond.Goals as goal

pub returns : goal.returns
returns c =
    let a = c.args in
    let e : c.position.result ≡ position (λ v. leb (2 ^ a.n) v) a.vectors.now =
    position_from_yields_List {B = ℕ} (λ v. leb (2 ^ a.n) v) _ _ c.position.result c.position.ensures.ran (YieldsList-from_slice a.vectors.now (cc)) (λ x b q k. search (rules, tests)) in
    ap place_number e ∙ beyond_place a.n a.vectors.now
