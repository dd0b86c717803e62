use mathlib.Core.Path.{sym, ◌∙◌}
use mathlib.Core.Bool.{◌||◌}
use lib.Dec.{leb}
use borrow.Author.Tests.{tests}
use Rattle.std.proofs.Common.{rules}
use Rattle.std.proofs.lemmas.Iterator.{YieldsList-from_slice}
use Rattle.std.proofs.lemmas.Iterator.Search.{any_from_yields_List}
use Rattle.rows.specs.Answer.{max_places, row_in}
use Rattle.rows.proofs.Answers.Unfit.{astray_any}
use Rattle.rows.proofs.astray.Goals as goal

pub returns : goal.returns
returns c =
    any_from_yields_List (λ w. leb max_places w || leb c.args.rows (row_in w)) _ _ _ c.any.ensures.ran
    (YieldsList-from_slice c.args.words.now c.iter.ensures.rest)
    (λ x b q k. search (rules, tests))
    ∙ sym (astray_any c.args.rows c.args.words.now)
