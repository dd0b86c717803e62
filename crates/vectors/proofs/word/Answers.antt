use Rattle.vectors.proofs.Variables.Masking.{word_full}
use Rattle.vectors.proofs.word.Goals as goal

pub returns-then-rows-ge-MAX_INPUTS : goal.returns-then-rows-ge-MAX_INPUTS
returns-then-rows-ge-MAX_INPUTS c = word_full _ c.args.kept _ _ c.if-rows-ge-MAX_INPUTS.true c.number-row.ensures
