-- A sound unit read back from its file. Assumes nothing.
use mathlib.Core.Path.{◌≡◌, refl, sym, ap, ap₂, ◌∙◌}
use mathlib.Core.Bool.{true}
use mathlib.Core.List.{List, [], ◌++◌, append_assoc, append-nil}
use Prim.Native.Nat.{ℕ, ◌*◌}
use native.Mathlib.Omega.{arith}
use lib.ListN.{length, take, length-append}
use Rattle.record.specs.declared.Record.{Record}
use Rattle.record.specs.Record.{mark_of, record_of, kinds_in}
use Rattle.record.specs.Tables.{Tables, lent}
use Rattle.record.specs.Inner.Formed.{WellFormed}
use Rattle.record.specs.Formed.{sound}
use Rattle.record.proofs.Formed.{well_formed_facts}
use Rattle.record.proofs.Soundness.{Sound, sound_says}
use Rattle.record.proofs.MarkNumbers.{mark_back}
use Rattle.block.specs.Bytes.{number_at}
use Rattle.block.specs.Block.{block_size, short_word, long_word, short_words, long_words}
use Rattle.block.proofs.Reading.Words.{low_words}
use Rattle.file.specs.Layout.{h_kind, g_kind, aux_kind, n_at, p_at, n1_at, k_at, cells_at, variables_at, mark_at}
use Rattle.file.specs.File.{head_of, table_of, blocks_for, rows_in, words_in, h_first, g_first, aux_first, file_with, file_of}
use Rattle.file.specs.Decode.{kinds_from, record_in, table_in, tables_in}
use Rattle.file.specs.Facts.{carried_record, carried_tables}
use Rattle.file.proofs.Laying.Files.{Whole, length_head, length_table}
use Rattle.file.proofs.Outcomes.{Ranges, ranges, whole}
use Rattle.file.proofs.Decoding.Fields.{Opens, opens, n_read, p_read, n1_read, k_read, cells_read, tries_read, mark_read, variables_read}
use Rattle.file.proofs.Decoding.Words.{table_read}

-- ---- the tables

module _ (u : Record) (h g aux : List ℕ) (w : Whole u h g aux) where
  before_g : length (head_of u ++ table_of h_kind short_word short_words h_first h) ≡ block_size * g_first u
  before_g =
      length-append (head_of u) (table_of h_kind short_word short_words h_first h)
      ∙ omega (arith, length_head u w.variables_few, length_table h_kind short_word short_words h_first h (omega arith), ap (blocks_for short_words) w.rows)

  before_aux : length (head_of u ++ table_of h_kind short_word short_words h_first h ++ table_of g_kind short_word short_words (g_first u) g) ≡ block_size * aux_first u
  before_aux =
      length-append (head_of u ++ table_of h_kind short_word short_words h_first h) (table_of g_kind short_word short_words (g_first u) g)
      ∙ omega (arith, before_g, length_table g_kind short_word short_words (g_first u) g (omega arith), ap (blocks_for short_words) w.cells)

  -- H behind the head, G behind H, AUX behind G
  tables_in_lem : tables_in u (file_with u h g aux) ≡ lent (low_words short_word h) (low_words short_word g) (low_words long_word aux)
  unfolding tables_in file_with
  tables_in_lem =
      let a : List ℕ = head_of u in
      let p : List ℕ = table_of h_kind short_word short_words h_first h in
      let q : List ℕ = table_of g_kind short_word short_words (g_first u) g in
      let r : List ℕ = table_of aux_kind long_word long_words (aux_first u) aux in
      let f : List ℕ = a ++ p ++ q ++ r in
      let eh : table_in short_word short_words h_first (rows_in u) f ≡ low_words short_word h =
      ap₂ (table_in short_word short_words h_first) (sym w.rows) (append_assoc (a ++ p) q r ∙ append_assoc a p (q ++ r))
      ∙ table_read h_kind short_word short_words (omega arith) h_first h a (q ++ r) (omega arith) (length_head u w.variables_few) in
      let eg : table_in short_word short_words (g_first u) u.cells f ≡ low_words short_word g =
      ap₂ (table_in short_word short_words (g_first u)) (sym w.cells) (append_assoc (a ++ p) q r)
      ∙ table_read g_kind short_word short_words (omega arith) (g_first u) g (a ++ p) r (omega arith) before_g in
      let ex : table_in long_word long_words (aux_first u) (words_in u) f ≡ low_words long_word aux =
      ap₂ (table_in long_word long_words (aux_first u)) (sym w.words) (ap (λ (l : List ℕ). a ++ p ++ q ++ l) (sym (append-nil r)))
      ∙ table_read aux_kind long_word long_words (omega arith) (aux_first u) aux (a ++ p ++ q) [] (omega arith) before_aux in
      cc

-- ---- the whole

module _ (u : Record) (t : Tables) (h : sound u t ≡ true) where
  begins : Opens u (file_of u t)
  unfolding file_of
  begins = opens u (take (rows_in u) t.h) (take u.cells t.g) (take (words_in u) t.aux)

  pub record_read : record_in (file_of u t) ≡ carried_record u
  unfolding record_in
  record_read =
      let f : List ℕ = file_of u t in
      let s : Sound u t = sound_says u t h in
      let w : WellFormed u t = well_formed_facts u t s.well_formed_lem in
      let r : Ranges u t = ranges u t h in
      let n : number_at 1 n_at f ≡ u.n = omega (arith, n_read u f begins) in
      let p : number_at 1 p_at f ≡ length (kinds_in u) = omega (arith, p_read u f begins) in
      let n1 : number_at 1 n1_at f ≡ u.n1 = omega (arith, n1_read u f begins) in
      let k : number_at 2 k_at f ≡ u.k = omega (arith, k_read u f begins) in
      let c : number_at 2 cells_at f ≡ u.cells = omega (arith, cells_read u f begins) in
      let ks : kinds_from (number_at 1 p_at f) variables_at f ≡ kinds_in u = ap (λ (i : ℕ). kinds_from i variables_at f) p ∙ variables_read u f begins w.inputs.right in
      let m : mark_of (number_at 1 mark_at f) ≡ u.mark = ap mark_of (mark_read u f begins r.variables_few) ∙ mark_back u.mark in
      cc (tries_read u f begins)

  tables_are : tables_in u (file_of u t) ≡ carried_tables u t
  unfolding file_of
  tables_are = tables_in_lem u (take (rows_in u) t.h) (take u.cells t.g) (take (words_in u) t.aux) (whole u t h)

  -- of the record only n1, k and L matter
  same_ranges : tables_in (carried_record u) (file_of u t) ≡ tables_in u (file_of u t)
  unfolding tables_in record_of
  same_ranges = refl

  pub tables_read : tables_in (record_in (file_of u t)) (file_of u t) ≡ carried_tables u t
  tables_read = ap (λ (v : Record). tables_in v (file_of u t)) record_read ∙ same_ranges ∙ tables_are
