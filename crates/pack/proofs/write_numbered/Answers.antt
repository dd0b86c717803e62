use mathlib.Core.Path.{◌∙◌}
use Rattle.record.specs.Tables.{lent}
use Rattle.pack.proofs.Packs.{unit_packed, built_refused}
use borrow.Author.Rules.{rules}
use Rattle.pack.proofs.write_numbered.Goals as goal

pub returns-then-refusal-eq0 : goal.returns-then-refusal-eq0
returns-then-refusal-eq0 c =
    unit_packed (lent c.args.h.now c.args.g.now c.args.aux.now) c.args.out.now _ (search rules) c.write.result _ _ c.unwrap_or.ensures c.write.ensures

pub returns : goal.returns
returns c =
    c.refused_number.ensures ∙ built_refused _ (lent c.args.h.now c.args.g.now c.args.aux.now) c.args.out.now (search rules)
