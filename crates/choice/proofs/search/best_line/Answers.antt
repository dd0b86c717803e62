use native.Mathlib.Omega.{arith}
use mathlib.Core.Path.{sym, ◌∙◌}
use mathlib.Core.Logic.{inr}
use borrow.Author.Tests.{eqb-true}
use Rattle.choice.specs.Inner.Sheets.{gain_of}
use Rattle.choice.proofs.Counting.Judging.{gain_most}
use Rattle.choice.proofs.Searching.Best.{lineing_start, lineing_more, lineing_end, tied_line, top_line, above_tied}
use Rattle.choice.proofs.search.best_line.Goals as goal
use Rattle.choice.proofs.search.best_line.Goals.{then-sheet-best-via-then-sheet-best, then-sheet-best-via-else-sheet-best+then-is_tied}

pub returns-then-sheet-best : goal.returns-then-sheet-best
returns-then-sheet-best c =
    let s = c.args.sheet.now in
    elim c.then-sheet-best.branch [
      | then-sheet-best-via-then-sheet-best w ↦
          top_line (gain_of s) s.n c.args.best (λ i j h m. omega (arith, gain_most _ _ _ _ i j (s.judged i j h m), w.if-sheet-best.true)) c.args.i c.requires.line
      | then-sheet-best-via-else-sheet-best+then-is_tied w ↦
          tied_line (gain_of s) s.n s.inputs _ s.beaten _ (eqb-true _ 1 (sym w.is_tied.ensures ∙ w.if-is_tied.true)) c.args.best c.requires.line c.requires.high
    ]

pub loop-j-init : goal.loop-j-init
loop-j-init c = lineing_start (gain_of c.args.sheet.now) c.args.sheet.now.n c.args.i c.args.best c.requires.line c.requires.high

pub better-b-requires : goal.better-b-requires
better-b-requires c =
    let l = c.loop-j in
    let s = c.args.sheet.now in
    (l.invariant.after, omega arith, λ t. above_tied (gain_of s) s.n _ s.beaten l.b c.args.i l.j l.invariant.after (omega arith) l.invariant.high (inr t))

pub loop-j-preserved : goal.loop-j-preserved
loop-j-preserved c =
    let s = c.args.sheet.now in
    lineing_more (gain_of s) s.n s.inputs _ _ _ c.loop-j.j _ (omega arith) c.better-b.ensures c.loop-j.invariant

pub returns : goal.returns
returns c = lineing_end (gain_of c.args.sheet.now) c.args.sheet.now.n _ _ _ c.loop-j.j (omega (arith, c.requires.line)) c.loop-j.invariant
