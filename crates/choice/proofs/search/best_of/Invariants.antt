use Rattle.choice.specs.Inner.Search.{best_lines, none_best}
use Rattle.choice.specs.Inner.Sheets.{gain_of}
use Rattle.choice.proofs.Searching.Best.{Going}
use Rattle.choice.proofs.search.best_of.Given as goal

abbrev pub invariant-loop-i : goal.invariant-loop-i
invariant-loop-i l = Going (gain_of l.sheet) l.sheet.n (best_lines (gain_of l.sheet) l.sheet.n none_best 0 l.lines) l.b l.lines l.i
