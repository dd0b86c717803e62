use Prim.Native.Nat.{ℕ}
use mathlib.Core.List.{List}
use mathlib.Core.Path.{refl, ap, ◌∙◌}
use Rattle.std.proofs.Common.{Err}
use Rattle.fault.specs.Fault.{number_of, told}
use Rattle.fault.specs.declared.Cause.{Cause}
use Rattle.why.specs.Why.{form_in, fault_forms, long_form}
use Rattle.why.proofs.Saying.{fault_said}
use Rattle.why.proofs.say_fault.Goals as goal

-- the form of a cause
abbrev found : Cause → List ℕ
found cause = form_in fault_forms long_form (number_of cause)

pub returns-in-NoDigit : goal.returns-in-NoDigit
unfolding form_in
returns-in-NoDigit c = c.sentence.ensures ∙ fault_said (told (Err c.args.fault)) c.args.out.now _ refl _ c.from.ensures (ap found c.in-NoDigit.is)

pub returns-in-EndBefore : goal.returns-in-EndBefore
unfolding form_in
returns-in-EndBefore c = c.sentence-in-EndBefore.ensures ∙ fault_said (told (Err c.args.fault)) c.args.out.now _ refl _ c.from.ensures (ap found c.in-EndBefore.is)

pub returns-in-OtherByte : goal.returns-in-OtherByte
unfolding form_in
returns-in-OtherByte c = c.sentence-in-OtherByte.ensures ∙ fault_said (told (Err c.args.fault)) c.args.out.now _ refl _ c.from.ensures (ap found c.in-OtherByte.is)

pub returns-in-LargeNumber : goal.returns-in-LargeNumber
unfolding form_in
returns-in-LargeNumber c = c.sentence-in-LargeNumber.ensures ∙ fault_said (told (Err c.args.fault)) c.args.out.now _ refl _ c.from.ensures (ap found c.in-LargeNumber.is)

pub returns-in-FewNumbers : goal.returns-in-FewNumbers
unfolding form_in
returns-in-FewNumbers c = c.sentence-in-FewNumbers.ensures ∙ fault_said (told (Err c.args.fault)) c.args.out.now _ refl _ c.from.ensures (ap found c.in-FewNumbers.is)

pub returns-in-ManyVectors : goal.returns-in-ManyVectors
unfolding form_in
returns-in-ManyVectors c = c.sentence-in-ManyVectors.ensures ∙ fault_said (told (Err c.args.fault)) c.args.out.now _ refl _ c.from.ensures (ap found c.in-ManyVectors.is)

pub returns-in-LongText : goal.returns-in-LongText
unfolding form_in
returns-in-LongText c = c.sentence-in-LongText.ensures ∙ fault_said (told (Err c.args.fault)) c.args.out.now _ refl _ c.from.ensures (ap found c.in-LongText.is)
