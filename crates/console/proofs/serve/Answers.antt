use Rattle.std.proofs.Common.{ℕ, List, sym, ◌∙◌}
use Rattle.std.specs.Io.KnownBytes.{Appends}
use Rattle.words.specs.Words.{words_of}
use Rattle.console.proofs.Inputs.{whole_input}
use Rattle.console.proofs.serve.Goals as goal

pub returns-in_ok-answer-in-Ok-clause-all : goal.returns-in_ok-answer-in-Ok-clause-all
returns-in_ok-answer-in-Ok-clause-all g c q =
    let read = c.in-Ok.ensures in
    let P : List ℕ → Type 0 = λ text. Appends (g.W.Write.contents c.args.to.now) (g.W.Write.contents c.answer.new.to) (words_of c.args.given.now text) in
    whole_input _ _ c.read_all.new.buf _ 65537 P (c.room-buf.ensures ∙ sym read.same_length) read.prefix_len.0 read.bytes read.end c.in_ok-answer-in-Ok.ensures
