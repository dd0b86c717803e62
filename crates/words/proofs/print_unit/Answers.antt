use mathlib.Core.Path.{sym, ◌∙◌}
use Rattle.record.specs.Tables.{lent}
use Rattle.words.proofs.Writing.{unit_shown, unit_listed, find_long, unit_found}
use Rattle.words.proofs.print_unit.Goals as goal

pub returns-then-says : goal.returns-then-says
returns-then-says c =
    let t = lent c.args.h.now c.args.g.now c.args.aux.now in
    c.print.ensures ∙ unit_shown c.args.given.now c.args.unit t c.args.out.now (sym c.says.ensures ∙ c.if-says.true)

pub returns-then-says-2 : goal.returns-then-says-2
returns-then-says-2 c =
    let t = lent c.args.h.now c.args.g.now c.args.aux.now in
    c.list.ensures
    ∙ unit_listed c.args.given.now c.args.unit t c.args.out.now (sym c.says.ensures ∙ c.if-says.false) (sym c.says-2.ensures ∙ c.if-says-2.true)

pub slice_bounds-find-count : goal.slice_bounds-find-count
slice_bounds-find-count c = find_long c.args.given.now c.args.unit (lent c.args.h.now c.args.g.now c.args.aux.now) c.args.out.now (sym c.says.ensures ∙ c.if-says.false) (sym c.says-2.ensures ∙ c.if-says-2.false) c.requires.0 c.requires.1

pub slice_bounds-find-start : goal.slice_bounds-find-start
slice_bounds-find-start c = slice_bounds-find-count c

pub returns : goal.returns
returns c =
    let t = lent c.args.h.now c.args.g.now c.args.aux.now in
    c.find.ensures
    ∙ unit_found c.args.given.now c.args.unit t c.args.out.now (sym c.says.ensures ∙ c.if-says.false) (sym c.says-2.ensures ∙ c.if-says-2.false) c.requires.0 c.requires.1
