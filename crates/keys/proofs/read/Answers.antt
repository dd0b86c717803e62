use native.Mathlib.Omega.{arith}
use mathlib.Core.Path.{◌≡◌, refl, sym, ap, ◌∙◌}
use Rattle.std.proofs.Common.{Err}
use Rattle.dated.specs.Dated.{told}
use Rattle.dated.specs.declared.NoWord.TheVariants.{NoKey, Wide}
use Rattle.keys.proofs.Lines.{or_none, or_all, reading_none, reading_within, reading_bad, reading_many, reading_more, reading_wide, reading_end}
use Rattle.keys.proofs.read.Goals as goal
use Rattle.keys.proofs.read.Goals.{in-Ok, in-Err-Wide}

pub loop-at-init : goal.loop-at-init
loop-at-init c = reading_none _ _ c.requires.0

pub overflow_add-end : goal.overflow_add-end
overflow_add-end c = record { fits = omega (arith, reading_within _ _ _ _ _ c.loop-at.invariant _ c.loop-at-test.true c.line_length-size.ensures, c.requires.1) }

pub slice_bounds-read-end : goal.slice_bounds-read-end
slice_bounds-read-end c = reading_within _ _ _ _ _ c.loop-at.invariant _ c.loop-at-test.true c.line_length-size.ensures

pub returns-in-Err-NoKey : goal.returns-in-Err-NoKey
returns-in-Err-NoKey c =
    let e : c.read.result ≡ Err NoKey = c.in-Err-NoKey.is ∙ ap Err c.in-Err-NoKey.field-0-is in
    reading_bad _ _ _ _ _ c.loop-at.invariant _ c.loop-at-test.true c.line_length-size.ensures (told (Err NoKey)) (sym (ap told e) ∙ c.read.ensures) refl

pub returns-then-words-count : goal.returns-then-words-count
returns-then-words-count c = reading_many _ _ _ _ _ c.loop-at.invariant _ c.loop-at-test.true c.line_length-size.ensures _ c.read.ensures c.if-words-count.true

pub overflow_add-at : goal.overflow_add-at
overflow_add-at c = record { fits = omega (arith, reading_within _ _ _ _ _ c.loop-at.invariant _ c.loop-at-test.true c.line_length-size.ensures, c.requires.1) }

pub loop-at-smaller : goal.loop-at-smaller
loop-at-smaller c = omega (arith, reading_within _ _ _ _ _ c.loop-at.invariant _ c.loop-at-test.true c.line_length-size.ensures)

pub loop-at-preserved : goal.loop-at-preserved
loop-at-preserved c =
    elim c.match-read.branch [
      | in-Ok w ↦ rw (w.word-is, w.wide-is) (reading_more _ _ _ _ _ c.loop-at.invariant _ c.loop-at-test.true c.line_length-size.ensures _ w.in-Ok.ensures _ refl c.if-words-count.false (or_none c.loop-at.wide))
      | in-Err-Wide w ↦
          let e : c.read.result ≡ Err Wide = w.in-Err-Wide.is ∙ ap Err w.in-Err-Wide.field-0-is in
          rw (w.word-is, w.wide-is) (reading_more _ _ _ _ _ c.loop-at.invariant _ c.loop-at-test.true c.line_length-size.ensures (told (Err Wide)) (sym (ap told e) ∙ c.read.ensures) _ refl c.if-words-count.false (or_all c.loop-at.wide))
    ]

pub returns-then-wide : goal.returns-then-wide
returns-then-wide c = reading_wide _ _ _ _ _ c.loop-at.invariant c.loop-at-test.false c.if-wide.true

pub returns : goal.returns
returns c = reading_end _ _ _ _ _ c.loop-at.invariant c.loop-at-test.false c.if-wide.false
