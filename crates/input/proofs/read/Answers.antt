use Prim.Native.Nat.{ℕ, ◌-◌, ◌≤◌}
use native.Mathlib.Omega.{arith}
use mathlib.Core.Path.{◌≡◌, refl, sym, ap, ◌∙◌}
use mathlib.Core.List.{List, map}
use lib.ListN.{length, take, drop}
use lib.Seq.{length-take-le}
use Rattle.std.proofs.Common.{Option}
use Rattle.input.specs.Fields.{fields}
use Rattle.input.specs.Decimal.{value_of}
use mathlib.Core.Bool.{false}
use Rattle.input.specs.Input.{body_length, body, good_text, input_from}
use Rattle.input.specs.Inner.{count_of}
use Rattle.input.proofs.Reading.Texts.{counted, bad_long, bad_field, bad_few, bad_many, bad_room, good_text_lem, read_bad, read_good}
use Rattle.input.proofs.read.Goals as goal
use Rattle.input.proofs.read.Goals.{then-listed-gt-MAX_LISTED-via-then-listed-gt-MAX_LISTED, then-listed-gt-MAX_LISTED-via-else-listed-gt-MAX_LISTED+then-vectors-listed}

-- what was counted is the text without its final newline
body_is : (text : List ℕ) (m : ℕ) (r : Option ℕ) → r ≡ count_of (fields (take m text)) → m ≡ body_length text → r ≡ count_of (fields (body text))
body_is text m r e k = e ∙ ap (λ (m : ℕ). count_of (fields (take m text))) k

pub returns-then-text-gt-MAX_TEXT : goal.returns-then-text-gt-MAX_TEXT
returns-then-text-gt-MAX_TEXT c =
    let r = read_bad c.args.text.now c.args.vectors.now _ (bad_long _ _ c.if-text-gt-MAX_TEXT.true) refl in
    record { value = r.0; vectors_after = r.1 }

pub returns-in_err-count : goal.returns-in_err-count
returns-in_err-count c =
    let e = sym (body_is _ _ _ c.count.ensures c.body_length.ensures) ∙ c.in_err-count.was in
    let r = read_bad c.args.text.now c.args.vectors.now _ (bad_field _ _ c.if-text-gt-MAX_TEXT.false e) c.from_residual.ensures in
    record { value = r.0; vectors_after = r.1 }

pub returns-in_err-listed : goal.returns-in_err-listed
returns-in_err-listed c =
    let e = sym (body_is _ _ _ c.count.ensures c.body_length.ensures) ∙ c.in_ok-count.was in
    let few : 3 ≤ c.in_ok-count.field-0 → ⊥ = c.in_err-listed.ensures in
    let r = read_bad c.args.text.now c.args.vectors.now _ (bad_few _ _ c.if-text-gt-MAX_TEXT.false _ e (omega arith)) c.from_residual-in_err-listed.ensures in
    record { value = r.0; vectors_after = r.1 }

pub returns-then-listed-gt-MAX_LISTED : goal.returns-then-listed-gt-MAX_LISTED
returns-then-listed-gt-MAX_LISTED c =
    let e = sym (body_is _ _ _ c.count.ensures c.body_length.ensures) ∙ c.in_ok-count.was in
    let n = c.in_ok-listed.ensures in
    let bad : good_text c.args.text.now (length c.args.vectors.now) ≡ false = elim c.then-listed-gt-MAX_LISTED.branch [
      | then-listed-gt-MAX_LISTED-via-then-listed-gt-MAX_LISTED w ↦ bad_many _ _ c.if-text-gt-MAX_TEXT.false _ e (omega arith) (omega arith)
      | then-listed-gt-MAX_LISTED-via-else-listed-gt-MAX_LISTED+then-vectors-listed w ↦ bad_room _ _ c.if-text-gt-MAX_TEXT.false _ e (omega arith) (omega arith) (omega arith)
    ] in
    let r = read_bad c.args.text.now c.args.vectors.now _ bad refl in
    record { value = r.0; vectors_after = r.1 }

pub numbers-requires : goal.numbers-requires
numbers-requires c =
    let k = counted _ _ (sym c.count.ensures ∙ c.in_ok-count.was) in
    let n = c.in_ok-listed.ensures in
    record { good = k.0; size = omega (arith, k.1, length-take-le c.in_ok-listed.listed c.args.vectors.now c.if-vectors-listed.false) }

pub returns : goal.returns
returns c =
    let text = c.args.text.now in
    let e = sym (body_is _ _ _ c.count.ensures c.body_length.ensures) ∙ c.in_ok-count.was in
    let n = c.in_ok-listed.ensures in
    let k = counted _ _ e in
    let m = c.body_length.ensures in
    let z : c.in_ok-count.field-0 - 3 ≡ c.in_ok-listed.listed = omega arith in
    let r = read_good text c.args.vectors.now _ c.in_ok-count.field-0 _
    (good_text_lem _ _ c.if-text-gt-MAX_TEXT.false _ e (omega arith) (omega arith) (omega arith))
    k.1
    (c.numbers.ensures.0 ∙ ap (λ (m : ℕ). input_from (map value_of (fields (take m text)))) m)
    (c.numbers.ensures.1 ∙ ap (λ (m : ℕ). drop 3 (map value_of (fields (take m text)))) m) in
    record { value = r.0; vectors_after = rw z at r.1 }
