use borrow.Author.Rules.{rules}
use Prim.Native.Nat.{ℕ}
use native.Mathlib.Omega.{arith}
use mathlib.Core.Path.{sym, ap, ◌∙◌}
use mathlib.Core.List.{List}
use lib.Seq.{length-take-le}
use Rattle.print.specs.Line.{line}
use Rattle.print.specs.Print.{fitted}
use Rattle.print.proofs.Writing.Pieces.{written_more}
use Rattle.print.proofs.Writing.Words.{as_they_are}
use Rattle.print.proofs.Pages.Fitting.{front_taken}
use Rattle.print.proofs.page.refused_number.Goals as goal
use Rattle.print.proofs.page.refused_number.Goals.{After-shown-4-1}

pub slice_bounds-shown-end : goal.slice_bounds-shown-end
slice_bounds-shown-end c = search rules

pub slice_bounds-text-end : goal.slice_bounds-text-end
slice_bounds-text-end c = sym (length-take-le _ _ (slice_bounds-shown-end (goal.at.slice_bounds-text-end c).After-shown-4-1))

pub returns : goal.returns
unfolding line
returns c =
    c.text.ensures
    ∙ ap (λ (text : List ℕ). fitted text c.args.out.now) (front_taken (written_more (as_they_are c.words-named.ensures.written) c.byte-end.ensures) (omega (arith, c.words-named.ensures.upper_bound, c.byte-end.ensures.place)))
