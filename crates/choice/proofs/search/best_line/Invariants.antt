use Rattle.choice.specs.Inner.Sheets.{gain_of}
use Rattle.choice.proofs.Searching.Best.{Lineing}
use Rattle.choice.proofs.search.best_line.Given as goal

abbrev pub invariant-loop-j : goal.invariant-loop-j
invariant-loop-j l = Lineing (gain_of l.sheet) l.sheet.n l.i l.initial.b l.b l.j
