use Rattle.std.proofs.lemmas.Bool.{and_cases}
use Rattle.std.proofs.Common.{◌≡◌, ◌&&◌, false, nat_le, sym, ⊎_elim, leb-false, rules, arith}
use Rattle.vectors.proofs.Bits.Laws.{place_out}
use Rattle.vectors.specs.Bounds.{max_inputs}
use Rattle.vectors.proofs.place.Goals as goal

pub returns-else-contains : goal.returns-else-contains
returns-else-contains c =
    let i = c.args.i in
    let out : (nat_le 1 i && nat_le i max_inputs) ≡ false = search rules in
    ⊎_elim
    (λ h. let e : i ≡ 0 = omega (arith, leb-false 1 i h) in rw e)
    (λ h. sym (place_out max_inputs i (leb-false i max_inputs h))) (and_cases (nat_le 1 i) (nat_le i max_inputs) out)
