use Rattle.std.proofs.Common.{arith, map, sym, ap, ◌∙◌}
use lib.Seq.{take_all}
use Rattle.flat.specs.Flat.{variable_word}
use Rattle.flat.proofs.write_variables.Goals as goal

pub returns : goal.returns
returns c = let l = c.loop-i in sym (take_all l.i l.words (omega arith)) ∙ l.invariant ∙ ap (map variable_word) (take_all l.i c.args.variables (omega arith))
