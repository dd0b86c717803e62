use Rattle.choice.proofs.Counting.Judging.{crossed_one, crossed_two}
use Rattle.choice.proofs.judge.crossed.Goals as goal

pub returns-then-i-eq0 : goal.returns-then-i-eq0
returns-then-i-eq0 c = crossed_one c.args.columns.now _ _ c.args.w c.requires.4 c.if-i-eq0.true

pub returns : goal.returns
returns c = crossed_two c.args.columns.now _ _ c.args.w c.requires.4 c.if-i-eq0.false
