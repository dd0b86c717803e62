use mathlib.Core.Path.{ap, ◌∙◌}
use Rattle.find.specs.Given.{told}
use Rattle.find.proofs.Lines.{given_none, given_all}
use Rattle.find.proofs.keys_in.Goals as goal

pub returns-in_err-count : goal.returns-in_err-count
returns-in_err-count c = ap told c.from_residual.ensures ∙ given_none c.args.text.now _ c.in_err-count.ensures

pub returns : goal.returns
returns c = given_all c.args.text.now _ c.in_ok-count.count c.in_ok-count.ensures c.fill.new.self (c.fill.ensures.after (λ y h. h))
