-- What was read, written again, is the same bytes. Assumes nothing.
use mathlib.Core.Path.{◌≡◌, refl, sym, ap, ◌∙◌}
use mathlib.Core.Bool.{true}
use mathlib.Core.List.{List}
use Prim.Native.Nat.{ℕ, zero, suc, ◌+◌, ◌-◌, ◌*◌, ◌≤◌, min}
use native.Mathlib.Omega.{arith}
use lib.ListN.{length, take, drop, length-append}
use lib.Seq.{take_at, take_all}
use borrow.Author.Tests.{le-leb, lt-ltb}
use Rattle.record.specs.declared.Record.{Record}
use Rattle.record.specs.Tables.{Tables, over}
use Rattle.record.specs.Formed.{long_enough}
use Rattle.block.specs.Bytes.{words_at}
use Rattle.block.specs.Block.{block_size, payload_at, short_word, long_word, short_words, long_words}
use Rattle.file.specs.File.{blocks_for, rows_in, words_in, h_first, g_first, aux_first, file_of}
use Rattle.file.specs.Decode.{table_from, table_in, record_in, tables_in}
use Rattle.file.specs.Read.{Reading, loaded_read, read_of}
use Rattle.file.specs.Facts.{WritesAgain}
use Rattle.file.proofs.Decoding.Words.{blocks_hold}
use Rattle.file.proofs.Loading.Accepts.{read_passed, passed_read, is_says}

-- ---- as many words are read as the head implies

length_words_at : (m count : ℕ) (bytes : List ℕ) → length (words_at m count bytes) ≡ count
unfolding words_at
length_words_at m zero bytes = refl
length_words_at m (suc count) bytes = ap suc (length_words_at m count (drop m bytes))

length_from : (m size per first count : ℕ) (file : List ℕ) → count ≤ per * m → length (table_from m size per first count file) ≡ count
unfolding table_from
length_from zero size per first count file h = omega arith
length_from (suc m) size per first count file h =
    let b : List ℕ = drop (block_size * first + payload_at) file in
    length-append (words_at size (min per count) b) (table_from m size per (suc first) (count - per) file)
    ∙ omega (arith, length_words_at size (min per count) b, length_from m size per (suc first) (count - per) file (omega arith))

pub length_table_in : (size per first count : ℕ) (file : List ℕ) → 1 ≤ per → length (table_in size per first count file) ≡ count
unfolding table_in
length_table_in size per first count file h = length_from (blocks_for per count) size per first count file (blocks_hold per count h)

-- ---- the words lie in front of the lent tables

over_range : (count : ℕ) (words lent : List ℕ) → length words ≡ count → take count (over words lent) ≡ take count words
over_range count words lent e = take_at words (drop (length words) lent) count e ∙ sym (take_all count words (omega arith))

module _ (u : Record) (file : List ℕ) (t : Tables) where
  pub h_range : take (rows_in u) (loaded_read u (tables_in u file) t).tables.h ≡ take (rows_in u) (tables_in u file).h
  unfolding tables_in
  h_range = over_range (rows_in u) (table_in short_word short_words h_first (rows_in u) file) t.h (length_table_in short_word short_words h_first (rows_in u) file (omega arith))

  pub g_range : take u.cells (loaded_read u (tables_in u file) t).tables.g ≡ take u.cells (tables_in u file).g
  unfolding tables_in
  g_range = over_range u.cells (table_in short_word short_words (g_first u) u.cells file) t.g (length_table_in short_word short_words (g_first u) u.cells file (omega arith))

  pub aux_range : take (words_in u) (loaded_read u (tables_in u file) t).tables.aux ≡ take (words_in u) (tables_in u file).aux
  unfolding tables_in
  aux_range = over_range (words_in u) (table_in long_word long_words (aux_first u) (words_in u) file) t.aux (length_table_in long_word long_words (aux_first u) (words_in u) file (omega arith))

  -- and the tables stay long enough
  pub over_long : long_enough u (loaded_read u (tables_in u file) t).tables ≡ true
  unfolding tables_in
  over_long =
      let h : List ℕ = table_in short_word short_words h_first (rows_in u) file in
      let g : List ℕ = table_in short_word short_words (g_first u) u.cells file in
      let aux : List ℕ = table_in long_word long_words (aux_first u) (words_in u) file in
      rw (
        le-leb (rows_in u) (length (over h t.h)) (omega (arith, length-append h (drop (length h) t.h), length_table_in short_word short_words h_first (rows_in u) file (omega arith))),
        le-leb u.cells (length (over g t.g)) (omega (arith, length-append g (drop (length g) t.g), length_table_in short_word short_words (g_first u) u.cells file (omega arith))),
        lt-ltb u.k (length (over aux t.aux)) (omega (arith, length-append aux (drop (length aux) t.aux), length_table_in long_word long_words (aux_first u) (words_in u) file (omega arith))),
      )

  over_file : file_of u (loaded_read u (tables_in u file) t).tables ≡ file_of u (tables_in u file)
  unfolding file_of
  over_file = rw (h_range, g_range, aux_range)

pub read_again : WritesAgain read_of
read_again file t e =
    let p = read_passed file t e in
    ap (λ (r : Reading). file_of r.unit r.tables) (passed_read file t p) ∙ over_file (record_in file) file t ∙ (is_says file t p.is).1
