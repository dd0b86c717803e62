-- Whether the blocks of a file are laid out as its head implies, whatever their words are.
use Rattle.std.specs.Prelude.{ℕ, zero, suc, ◌+◌, ◌-◌, ◌*◌, min, Bool, true, ◌&&◌, List, eqb, leb, length, get_or, take, drop}
use Rattle.record.specs.declared.Record.{Record}
use Rattle.block.specs.Block.{block_size, payload_at, check_at, same, short_word, long_word, short_words, long_words}
use Rattle.block.specs.Look.{blank_from, laid_out}
use Rattle.file.specs.Layout.{head_kind, h_kind, g_kind, aux_kind, letters, letters_at, variables_at, mark_at, free_at}
use Rattle.file.specs.File.{opening, blocks_for, rows_in, words_in, h_first, g_first, aux_first, size_of}

-- block i
abbrev pub block_in : ℕ → List ℕ → List ℕ
block_in i file = take block_size (drop (block_size * i) file)

-- the bytes of a payload
abbrev pub payload_size : ℕ
payload_size = check_at - payload_at

-- m blocks of a kind, from number `first` on, and zeros past so many bytes
unfoldable pub table_laid : ℕ → ℕ → ℕ → ℕ → List ℕ → Bool
unfolding laid_out
table_laid zero kind first bytes file = true
table_laid (suc m) kind first bytes file =
    laid_out (opening kind first) (payload_at + min payload_size bytes) (block_in first file) && table_laid m kind (suc first) (bytes - payload_size) file

unfoldable pub has_letters : List ℕ → Bool
unfolding same
has_letters file = same letters (take 4 (drop letters_at file))

-- a head with the letters; zeros past p variables, but for the mark, which is 0 or 1
unfoldable pub head_laid : ℕ → List ℕ → Bool
unfolding laid_out blank_from has_letters
head_laid p file =
    laid_out (opening head_kind 0) free_at (take block_size file)
    && has_letters file
    && blank_from (variables_at + 2 * p) (take mark_at file)
    && leb (get_or file mark_at 0) 1

-- as many blocks as the record has, the head and those of the tables
unfoldable pub laid_by : Record → List ℕ → Bool
unfolding head_laid table_laid
laid_by u file =
    eqb (length file) (size_of u)
    && head_laid u.p file
    && table_laid (blocks_for short_words (rows_in u)) h_kind h_first (short_word * rows_in u) file
    && table_laid (blocks_for short_words u.cells) g_kind (g_first u) (short_word * u.cells) file
    && table_laid (blocks_for long_words (words_in u)) aux_kind (aux_first u) (long_word * words_in u) file
