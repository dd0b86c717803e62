use lib.ListN.{get_or}
use borrow.Author.Tests.{eq-eqb, ne_eqb}
use Rattle.many.proofs.find.matched.Goals as goal

pub returns-then-held-word : goal.returns-then-held-word
returns-then-held-word c = let a = c.args in rw (eq-eqb (get_or a.aux.now a.i 0) a.word c.if-held-word.true)

pub returns : goal.returns
returns c = let a = c.args in rw (ne_eqb (get_or a.aux.now a.i 0) a.word c.if-held-word.false)
