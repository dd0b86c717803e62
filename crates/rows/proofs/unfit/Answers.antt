use mathlib.Core.Path.{◌≡◌, ap, ◌∙◌}
use lib.ListN.{drop}
use Rattle.std.proofs.Common.{rules}
use Rattle.rows.specs.Answer.{astray, unfit}
use Rattle.rows.proofs.Chains.Steps.{tail_is}
use Rattle.rows.proofs.unfit.Goals as goal

pub returns-then-owner-gt0 : goal.returns-then-owner-gt0
unfolding unfit
returns-then-owner-gt0 c = search rules

pub returns-else-owner-gt0 : goal.returns-else-owner-gt0
unfolding unfit
returns-else-owner-gt0 c =
    let e : c.astray.result ≡ astray c.args.rows (drop 1 c.args.aux.now) = c.astray.ensures ∙ ap (astray c.args.rows) (tail_is c.args.aux.now) in
    search rules
