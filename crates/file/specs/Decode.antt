-- A file taken apart: a record and tables, whatever the bytes are (SCOPE 20.11).
use Rattle.std.specs.Prelude.{ℕ, zero, suc, ◌+◌, ◌-◌, ◌*◌, min, cond, List, [], ◌∷◌, ◌++◌, eqb, get_or, drop}
use Rattle.vectors.specs.declared.Kind.{Kind}
use Rattle.vectors.specs.declared.Kind.TheVariants.{One, Two}
use Rattle.record.specs.declared.Record.{Record}
use Rattle.record.specs.Record.{mark_of, record_of}
use Rattle.record.specs.Tables.{Tables}
use Rattle.block.specs.Bytes.{number_at, words_at}
use Rattle.block.specs.Block.{block_size, payload_at, short_word, long_word, short_words, long_words}
use Rattle.file.specs.Layout.{n_at, p_at, n1_at, k_at, cells_at, tries_at, variables_at, mark_at}
use Rattle.file.specs.File.{blocks_for, rows_in, words_in, h_first, g_first, aux_first}

-- a variable of two bytes
abbrev pub kind_of : ℕ → ℕ → Kind
kind_of i j = cond (eqb j 0) (One i) (Two i j)

-- so many variables, from a place on
unfoldable pub kinds_from : ℕ → ℕ → List ℕ → List Kind
kinds_from zero at file = []
kinds_from (suc p) at file = kind_of (get_or file at 0) (get_or file (suc at) 0) ∷ kinds_from p (suc (suc at)) file

-- the record that the head says; the kept inputs and the excess are worked out anew
unfoldable pub record_in : List ℕ → Record
unfolding record_of number_at kinds_from
record_in file =
    record_of (mark_of (number_at 1 mark_at file)) (number_at 1 n_at file) (number_at 1 n1_at file) (number_at 2 k_at file) (kinds_from (number_at 1 p_at file) variables_at file) (number_at 2 cells_at file) (number_at 4 tries_at file)

-- so many words of a table, the first block of them being number `first` of the file; m blocks are looked at
unfoldable pub table_from : ℕ → ℕ → ℕ → ℕ → ℕ → List ℕ → List ℕ
unfolding words_at
table_from zero size per first count file = []
table_from (suc m) size per first count file =
    words_at size (min per count) (drop (block_size * first + payload_at) file) ++ table_from m size per (suc first) (count - per) file

unfoldable pub table_in : ℕ → ℕ → ℕ → ℕ → List ℕ → List ℕ
unfolding table_from
table_in size per first count file = table_from (blocks_for per count) size per first count file

-- the tables that lie behind a head
unfoldable pub tables_in : Record → List ℕ → Tables
unfolding table_in
tables_in u file =
    record {
      h = table_in short_word short_words h_first (rows_in u) file;
      g = table_in short_word short_words (g_first u) u.cells file;
      aux = table_in long_word long_words (aux_first u) (words_in u) file;
    }
