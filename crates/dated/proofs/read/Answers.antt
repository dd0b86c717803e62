use Prim.Native.Nat.{ℕ}
use mathlib.Core.Path.{◌≡◌, refl, ap, ◌∙◌}
use mathlib.Core.List.{List, [], ◌∷◌, ◌++◌}
use lib.ListN.{length, take}
use lib.Seq.{take_at}
use Rattle.input.specs.Input.{Input, input_of, vectors_of}
use Rattle.profiles.specs.Key.{word_of}
use Rattle.dated.specs.Dated.{spaced, told}
use Rattle.dated.proofs.Lines.{spaced_length, line_long, line_other, line_count, line_read, told_word}
use Rattle.dated.proofs.read.Goals as goal

-- what was written in front is the line with its commas exchanged
text_is : (line out rest : List ℕ) → out ≡ spaced line → take (length line) (out ++ rest) ≡ spaced line
text_is line out rest e = take_at out rest (length line) (ap length e ∙ spaced_length line) ∙ e

said : (line text : List ℕ) (i : Input) → i ≡ input_of text 2 → text ≡ spaced line → i ≡ input_of (spaced line) 2
said line text i e t = e ∙ ap (λ (t : List ℕ). input_of t 2) t

pub returns-then-size-gt-MAX_LINE : goal.returns-then-size-gt-MAX_LINE
returns-then-size-gt-MAX_LINE c = line_long c.args.line.now c.if-size-gt-MAX_LINE.true

pub returns-in_default : goal.returns-in_default
returns-in_default c = line_other c.args.line.now _ (said c.args.line.now _ _ c.in_default.ensures.value (text_is c.args.line.now _ _ c.space.ensures)) refl

pub returns-then-numbers-ne2 : goal.returns-then-numbers-ne2
returns-then-numbers-ne2 c =
    line_count c.args.line.now _ (said c.args.line.now _ _ c.in-Some.ensures.value (text_is c.args.line.now _ _ c.space.ensures)) refl c.if-numbers-ne2.true

pub returns : goal.returns
returns c =
    let t = text_is c.args.line.now _ _ c.space.ensures in
    let i = said c.args.line.now _ _ c.in-Some.ensures.value t in
    let l = c.read.ensures.vectors_after ∙ ap (λ (t : List ℕ). vectors_of t (0 ∷ 0 ∷ [])) t in
    ap told c.ok_or.ensures.value
    ∙ told_word c.word_of.result
    ∙ line_read c.args.line.now _ i refl c.if-size-gt-MAX_LINE.false c.if-numbers-ne2.false _ l _
    (c.word_of.ensures ∙ ap word_of (rw (c.capped.ensures, c.capped-2.ensures, c.capped-3.ensures, c.capped-4.ensures, c.capped-5.ensures)))
