use Rattle.print.specs.Sentence.{sentence}
use Rattle.why.specs.Why.{form_in, built_text}
use Rattle.why.proofs.say_built.Goals as goal

pub returns-in-Ok : goal.returns-in-Ok
unfolding built_text form_in sentence
returns-in-Ok c = rw c.in-Ok.is c.text.ensures
