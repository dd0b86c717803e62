use Rattle.print.proofs.Sentences.{piece_low, piece_number, piece_other}
use Rattle.print.proofs.form.piece.Goals as goal

pub returns-then-b-lt-FIRST_LETTER : goal.returns-then-b-lt-FIRST_LETTER
returns-then-b-lt-FIRST_LETTER c = rw (piece_low _ _ c.if-b-lt-FIRST_LETTER.true) c.byte.ensures

pub returns-then-i-numbers : goal.returns-then-i-numbers
returns-then-i-numbers c = rw (piece_number _ _ c.if-b-lt-FIRST_LETTER.false c.if-i-numbers.true) c.put.ensures

pub returns : goal.returns
returns c = rw (piece_other _ _ c.if-b-lt-FIRST_LETTER.false c.if-i-numbers.false) c.byte-2.ensures
