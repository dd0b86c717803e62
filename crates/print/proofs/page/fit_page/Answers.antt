use Prim.Native.Nat.{ℕ}
use mathlib.Core.Path.{◌≡◌, ap, ◌∙◌}
use mathlib.Core.List.{List}
use lib.IntN.{ℤ}
use mir.Facts.{to_z-of_z}
use mir.Syntax.{w64}
use mir.Val.{to_z, of_z}
use Rattle.print.specs.Print.{fitted, page_of}
use Rattle.print.proofs.Pages.Fitting.{measured_short, measured_written}
use Rattle.print.proofs.page.fit_page.Goals as goal
use Rattle.print.proofs.page.fit_page.Goals.{After-write_page-total, Start}

abbrev page : Start → ℤ → List ℕ
page s excess = page_of s.args.numbers.now excess s.args.masks.now s.args.kept s.args.h.now s.args.g.now s.args.aux.now

-- the excess as it is handed on
abbrev handed : Start → ℤ
handed s = to_z w64 (of_z w64 s.args.excess)

page_handed : (s : Start) → fitted (page s (handed s)) s.args.out.now ≡ fitted (page s s.args.excess) s.args.out.now
page_handed s = ap (λ (excess : ℤ). fitted (page s excess) s.args.out.now) (to_z-of_z s.ranges.excess)

-- the empty front after it was written to
abbrev front : After-write_page-total → List ℕ
front c = c.write_page-total.new.out

pub returns-then-out-total : goal.returns-then-out-total
returns-then-out-total c =
    measured_short (page (goal.at.returns-then-out-total c).Start (handed (goal.at.returns-then-out-total c).Start)) (front (goal.at.returns-then-out-total c).After-write_page-total) c.args.out.now c.write_page-total.ensures.size c.write_page-total.ensures.place c.if-out-total.true
    ∙ page_handed (goal.at.returns-then-out-total c).Start

pub returns : goal.returns
returns c =
    measured_written (page (goal.at.returns c).Start (handed (goal.at.returns c).Start)) (front (goal.at.returns c).After-write_page-total) c.args.out.now c.write_page-total.ensures.size c.write_page-total.ensures.place c.if-out-total.false
    c.write_page.ensures
    ∙ page_handed (goal.at.returns c).Start
