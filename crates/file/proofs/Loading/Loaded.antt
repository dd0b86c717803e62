-- A unit that was read is sound, and its words are words of 16 and 64 bits. Assumes nothing.
use mathlib.Core.Path.{◌≡◌, sym, ap, ◌∙◌}
use mathlib.Core.Bool.{Bool, true, false}
use mathlib.Core.List.{List, [], ◌∷◌, map}
use Prim.Native.Nat.{ℕ, ◌/◌, ◌%◌, ◌^◌, ◌≤◌, ◌<◌}
use native.Mathlib.Omega.{arith}
use native.Mathlib.Nat.{mod-lt}
use lib.ListN.{length, take}
use mir.Syntax.{w64}
use mir.Val.{SFits}
use Rattle.lists.specs.Members.{All}
use Rattle.lists.proofs.Entries.Alls.{all_take}
use Rattle.record.specs.declared.Record.{Record}
use Rattle.record.specs.Record.{record_of, excess_of, kinds_in}
use Rattle.record.specs.Tables.{Tables}
use Rattle.record.specs.Formed.{sound, long_enough}
use Rattle.block.specs.Block.{block_size}
use Rattle.record.proofs.Excesses.{excess_fits}
use Rattle.file.specs.File.{rows_in, words_in, file_of}
use Rattle.file.specs.Decode.{record_in, tables_in}
use Rattle.file.specs.Read.{no_blocks, right_checks, is_file, loaded_read, read_of}
use Rattle.file.specs.Facts.{WordsFit, carried_record, carried_tables}
use Rattle.file.proofs.Outcomes.{ranges}
use Rattle.file.proofs.Decoding.Units.{record_read, tables_read}
use Rattle.file.proofs.Decoding.Again.{sound_same}
use Rattle.file.proofs.Loading.Accepts.{reading, read_is, read_passed, passed_read, is_says}
use Rattle.file.proofs.Loading.Again.{h_range, g_range, aux_range, over_long}
use Rattle.file.proofs.Loading.Carried.{same_record}

low_all : (m : ℕ) (ws : List ℕ) → 1 ≤ m → All (λ (w : ℕ). w < m) (map (λ (w : ℕ). w % m) ws)
low_all m [] h = tt
low_all m (w ∷ ws) h = (mod-lt w {m = m} h, low_all m ws h)

-- what is known of a unit that was read
pub record Loaded (u : Record) (t : Tables) : Type 0 where
  pub is_sound : sound u t ≡ true
  pub words : WordsFit u t
  pub tries : u.tries < 2 ^ 32
  pub excess : SFits w64 u.excess

module _ (file : List ℕ) (t : Tables) (e : (read_of file t).refusal ≡ 0) where
  abbrev unit : Record
  unit = record_in file

  abbrev words : Tables
  words = tables_in unit file

  said : (sound unit words ≡ true) × (file_of unit words ≡ file)
  said = is_says file t (read_passed file t e).is

  -- the file is that of its own unit
  record_is : unit ≡ carried_record unit
  record_is = ap record_in (sym said.1) ∙ record_read unit words said.0

  tables_are : words ≡ carried_tables unit words
  tables_are = ap (λ (f : List ℕ). tables_in (record_in f) f) (sym said.1) ∙ tables_read unit words said.0

  excess_is : unit.excess ≡ excess_of (length (kinds_in unit)) unit.k
  unfolding record_of
  excess_is = ap (λ (u : Record). u.excess) record_is

  tries_are : unit.tries ≡ unit.tries % 2 ^ 32
  unfolding record_of
  tries_are = ap (λ (u : Record). u.tries) record_is

  words_fit : WordsFit unit (loaded_read unit words t).tables
  words_fit =
      record {
        h = rw (h_range unit file t, ap (λ (s : Tables). s.h) tables_are) (all_take (λ (w : ℕ). w < 2 ^ 16) (rows_in unit) (carried_tables unit words).h (low_all (2 ^ 16) (take (rows_in unit) words.h) (omega arith)));
        g = rw (g_range unit file t, ap (λ (s : Tables). s.g) tables_are) (all_take (λ (w : ℕ). w < 2 ^ 16) unit.cells (carried_tables unit words).g (low_all (2 ^ 16) (take unit.cells words.g) (omega arith)));
        aux = rw (aux_range unit file t, ap (λ (s : Tables). s.aux) tables_are) (all_take (λ (w : ℕ). w < 2 ^ 64) (words_in unit) (carried_tables unit words).aux (low_all (2 ^ 64) (take (words_in unit) words.aux) (omega arith)));
      }

  loaded : Loaded unit (loaded_read unit words t).tables
  loaded =
      let r = ranges unit words said.0 in
      record {
        is_sound = sound_same unit unit (same_record unit) words (loaded_read unit words t).tables said.0 (over_long unit file t);
        words = words_fit;
        tries = omega (arith, tries_are);
        excess = rw excess_is (excess_fits (length (kinds_in unit)) unit.k (omega (arith, r.variables_few)) (omega (arith, r.vectors_few)));
      }

  pub read_loaded : Loaded (read_of file t).unit (read_of file t).tables
  read_loaded = rw (passed_read file t (read_passed file t e)) loaded

-- ---- every answer

module _ (file : List ℕ) (t : Tables) where
  -- the refusals are below 25, and the place is 0
  pub read_number : ((read_of file t).refusal ≤ 24) × ((read_of file t).place ≤ 0)
  read_number = rw (read_is file t) (go (no_blocks file) (right_checks (length file / block_size) file) (is_file file) (long_enough (record_in file) t))
    where
      go : (a b c d : Bool) → ((reading file t a b c d).refusal ≤ 24) × ((reading file t a b c d).place ≤ 0)
      go true b c d = (omega arith, omega arith)
      go false false c d = (omega arith, omega arith)
      go false true false d = (omega arith, omega arith)
      go false true true true = (omega arith, omega arith)
      go false true true false = (omega arith, omega arith)
