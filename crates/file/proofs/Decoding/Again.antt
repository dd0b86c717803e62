-- A file read is a sound unit, and written again it is the same bytes. Assumes nothing.
use mathlib.Core.Path.{◌≡◌, refl, sym, ap, ap₂, ◌∙◌}
use mathlib.Core.Bool.{true, ◌&&◌}
use mathlib.Core.List.{List, [], ◌∷◌, ◌++◌}
use Prim.Native.Nat.{ℕ, ◌+◌, ◌*◌, ◌%◌, ◌^◌}
use native.Mathlib.Nat.{mod-mod}
use native.Mathlib.Omega.{arith}
use borrow.Author.Tests.{lt-ltb, le-leb}
use lib.ListN.{length, take, drop, length-map}
use lib.Seq.{take_all}
use Rattle.lists.proofs.Entries.Members.{map_take, map_drop}
use Rattle.lists.proofs.Tests.{and_true}
use Rattle.vectors.specs.declared.Kind.{Kind}
use Rattle.vectors.specs.Bounds.{max_variables}
use Rattle.vectors.specs.Variable.{first_faulty}
use Rattle.span.specs.Span.{sound_of}
use Rattle.record.specs.declared.Mark.{Mark}
use Rattle.record.specs.declared.Record.{Record}
use Rattle.record.specs.Record.{mark_number, record_of, kinds_in}
use Rattle.record.specs.Tables.{Tables}
use Rattle.record.specs.Formed.{is_in_bounds, right_inputs, long_enough, well_formed, sound}
use Rattle.record.proofs.Soundness.{Sound, sound_says}
use Rattle.block.specs.Bytes.{little_of, words_of}
use Rattle.block.specs.Block.{padded, block_of, short_word, long_word, short_words, long_words}
use Rattle.block.proofs.Reading.Numbers.{little_mod}
use Rattle.block.proofs.Reading.Words.{low_words, words_low}
use Rattle.file.specs.Layout.{head_kind, h_kind, g_kind, aux_kind}
use Rattle.file.specs.File.{opening, variables_bytes, head_of, blocks_for, stack, table_block, table_of, rows_in, words_in, h_first, g_first, aux_first, file_with, file_of}
use Rattle.file.specs.Decode.{record_in, tables_in}
use Rattle.file.specs.Facts.{SameRecord, carried_record, carried_tables, ReadsBack}
use Rattle.file.proofs.Laying.Files.{Whole}
use Rattle.file.proofs.Laying.Heads.{fields_of, mark_bytes, fields_are}
use Rattle.file.proofs.Outcomes.{whole}
use Rattle.file.proofs.Decoding.Words.{stack_same}
use Rattle.file.proofs.Decoding.Units.{record_read, tables_read}
use Rattle.file.proofs.Decoding.Same.{kinds_carried}

-- ---- the record

pub record_same : (u : Record) (t : Tables) → sound u t ≡ true → SameRecord u (carried_record u)
unfolding record_of
record_same u t h =
    let s : Sound u t = sound_says u t h in
    record {
      n = refl;
      p = sym s.variables;
      n1 = refl;
      k = refl;
      cells = refl;
      tries = sym (mod-mod u.tries (2 ^ 32));
      variables = sym (kinds_carried u);
      mark = refl;
      kept = s.kept_is;
    }

module _ (u v : Record) (e : SameRecord u v) where
  bounds_same : is_in_bounds u ≡ is_in_bounds v
  bounds_same = cc

  inputs_same : right_inputs u ≡ right_inputs v
  inputs_same =
      let f : first_faulty u.n (kinds_in u) ≡ first_faulty v.n (kinds_in v) = ap₂ first_faulty e.n e.variables in
      cc

  -- sound records stay so where the tables are long enough
  pub sound_same : (s t : Tables) → sound u s ≡ true → long_enough v t ≡ true → sound v t ≡ true
  unfolding sound well_formed
  sound_same s t h l =
      let a = and_true (well_formed u s) (sound_of u.n (kinds_in u) u.kept) h in
      let b = and_true (is_in_bounds u && right_inputs u) (long_enough u s) a.0 in
      let c = and_true (is_in_bounds u) (right_inputs u) b.0 in
      let o : sound_of v.n (kinds_in v) v.kept ≡ true = cc a.1 in
      let p : is_in_bounds v ≡ true = cc (bounds_same, c.0) in
      let q : right_inputs v ≡ true = cc (inputs_same, c.1) in
      rw (p, q, l, o)

  fields_same : fields_of u ≡ fields_of v
  unfolding little_of
  fields_same =
      let t : little_of 4 u.tries ≡ little_of 4 v.tries = sym (little_mod 4 u.tries) ∙ ap (little_of 4) e.tries ∙ little_mod 4 v.tries in
      cc

  -- the head is the same
  pub head_same : head_of u ≡ head_of v
  unfolding head_of
  head_same =
      ap (block_of (opening head_kind 0))
      (fields_are u
      ∙ ap₂ (λ (f : List ℕ) (ks : List Kind). f ++ padded (2 * max_variables) (variables_bytes ks) ++ mark_bytes u) fields_same e.variables
      ∙ ap (λ (m : Mark). fields_of v ++ padded (2 * max_variables) (variables_bytes (kinds_in v)) ++ (mark_number m % 256 ∷ [])) e.mark
      ∙ sym (fields_are v))

-- ---- the tables

table_low : (kind size per first : ℕ) (words : List ℕ) → table_of kind size per first (low_words size words) ≡ table_of kind size per first words
unfolding table_of table_block
table_low kind size per first words =
    let n : length (low_words size words) ≡ length words = length-map words (λ (w : ℕ). w % 256 ^ size) in
    ap (λ (m : ℕ). stack (table_block kind size per first (low_words size words)) (blocks_for per m)) n
    ∙ stack_same _ _ each (blocks_for per (length words))
  where
    each : (i : ℕ) → table_block kind size per first (low_words size words) i ≡ table_block kind size per first words i
    each i =
        let f : ℕ → ℕ = λ w. w % 256 ^ size in
        let p : take per (drop (per * i) (low_words size words)) ≡ low_words size (take per (drop (per * i) words)) =
        ap (take per) (sym (map_drop f (per * i) words)) ∙ sym (map_take f per (drop (per * i) words)) in
        ap (block_of (opening kind (first + i))) (ap (words_of size) p ∙ words_low size (take per (drop (per * i) words)))

-- words that were read are as many
low_length : (size : ℕ) (ws : List ℕ) {m : ℕ} → length ws ≡ m → length (low_words size ws) ≡ m
low_length size ws e = length-map ws (λ (x : ℕ). x % 256 ^ size) ∙ e

-- written again, all of them give the same blocks
blocks_again : (kind size per first m : ℕ) (ws : List ℕ) → length ws ≡ m → table_of kind size per first (take m (low_words size ws)) ≡ table_of kind size per first ws
blocks_again kind size per first m ws e =
    ap (table_of kind size per first) (take_all m (low_words size ws) (omega (arith, low_length size ws e))) ∙ table_low kind size per first ws

-- ---- the whole

joined : {a a' p p' q q' r r' : List ℕ} → a ≡ a' → p ≡ p' → q ≡ q' → r ≡ r' → a ++ p ++ q ++ r ≡ a' ++ p' ++ q' ++ r'
joined ea ep eq er = cc

module _ (u : Record) (t : Tables) (h : sound u t ≡ true) where
  abbrev w : Whole u (take (rows_in u) t.h) (take u.cells t.g) (take (words_in u) t.aux)
  w = whole u t h

  pub carried_sound : sound (carried_record u) (carried_tables u t) ≡ true
  unfolding record_of
  carried_sound = sound_same u (carried_record u) (record_same u t h) t (carried_tables u t) h long
    where
      long : long_enough (carried_record u) (carried_tables u t) ≡ true
      long = rw (
        le-leb (rows_in u) (length (carried_tables u t).h) (omega (arith, low_length 2 (take (rows_in u) t.h) w.rows)),
        le-leb u.cells (length (carried_tables u t).g) (omega (arith, low_length 2 (take u.cells t.g) w.cells)),
        lt-ltb u.k (length (carried_tables u t).aux) (omega (arith, low_length 8 (take (words_in u) t.aux) w.words)),
      )

  pub carried_file : file_of (carried_record u) (carried_tables u t) ≡ file_of u t
  unfolding file_of file_with record_of
  carried_file =
      joined (sym (head_same u (carried_record u) (record_same u t h)))
      (blocks_again h_kind short_word short_words h_first (rows_in u) (take (rows_in u) t.h) w.rows)
      (blocks_again g_kind short_word short_words (g_first u) u.cells (take u.cells t.g) w.cells)
      (blocks_again aux_kind long_word long_words (aux_first u) (words_in u) (take (words_in u) t.aux) w.words)

  pub file_reads_back : ReadsBack (file_of u t)
  file_reads_back =
      let r : record_in (file_of u t) ≡ carried_record u = record_read u t h in
      let s : tables_in (record_in (file_of u t)) (file_of u t) ≡ carried_tables u t = tables_read u t h in
      record { is_sound = rw (s, r) carried_sound; again = rw (s, r) carried_file }
