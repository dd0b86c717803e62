use mir.Facts.{to_z-of_z}
use Rattle.print.proofs.Writing.Pieces.{written_more}
use Rattle.print.proofs.Writing.Words.{as_they_are}
use Rattle.print.proofs.Pages.Lines.{page_written}
use Rattle.print.proofs.page.write_page.Goals as goal

pub returns : goal.returns
returns c =
    let first = written_more (as_they_are c.words-counts.ensures.written) c.signed_field-head.ensures.written in
    let second = written_more first (as_they_are c.words-vars.ensures.written) in
    let third = written_more second (as_they_are c.words-inputs.ensures.written) in
    let fourth = written_more third (as_they_are c.words-rows.ensures.written) in
    let fifth = written_more fourth (as_they_are c.words-cells.ensures.written) in
    let sixth = written_more fifth (as_they_are c.words-last.ensures.written) in
    page_written c.args.numbers.now c.args.excess c.args.masks.now c.args.kept c.args.h.now c.args.g.now c.args.aux.now (to_z-of_z c.ranges.excess)
    (written_more sixth c.byte.ensures)

pub shape_of-out : goal.shape_of-out
shape_of-out c = (returns c).size
