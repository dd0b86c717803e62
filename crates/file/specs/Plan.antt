-- Where the tables lie in a file.
use Rattle.std.specs.Prelude.{ℕ, ◌+◌}
use Rattle.block.specs.Block.{short_words, long_words}
use Rattle.file.specs.declared.layout.Starts.{Starts}
use Rattle.file.specs.File.{blocks_for, h_first}

-- SCOPE 20.7: the first blocks of G and AUX, and the block past the last, with so many words of H, G and AUX
abbrev pub plan_of : ℕ → ℕ → ℕ → Starts
plan_of rows cells words =
    let g = h_first + blocks_for short_words rows in
    let aux = g + blocks_for short_words cells in
    record { g = g; aux = aux; past = aux + blocks_for long_words words }
