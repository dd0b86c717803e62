-- A unit that was written and read is the unit that was written. Assumes nothing.
use mathlib.Core.Path.{◌≡◌, refl, ◌∙◌}
use mathlib.Core.Bool.{true}
use mathlib.Core.List.{List}
use Prim.Native.Nat.{ℕ}
use native.Mathlib.Omega.{arith}
use lib.ListN.{length}
use borrow.Author.Tests.{le-leb, lt-ltb}
use Rattle.record.specs.declared.Record.{Record}
use Rattle.record.specs.Tables.{Tables}
use Rattle.record.specs.Formed.{sound, long_enough}
use Rattle.file.specs.File.{rows_in, file_of}
use Rattle.file.specs.Decode.{record_in, tables_in}
use Rattle.file.specs.Read.{loaded_read, read_of}
use Rattle.file.specs.Facts.{SameRecord, SameUnit, SameAnswers, AnswersAlike, Roomy}
use Rattle.file.proofs.Outcomes.{Ranges, ranges}
use Rattle.file.proofs.Decoding.Again.{file_reads_back, sound_same}
use Rattle.file.proofs.Decoding.Answers.{same_answers, carried_answers}
use Rattle.file.proofs.Loading.Accepts.{passed_read, written_passed}
use Rattle.file.proofs.Loading.Again.{h_range, g_range, aux_range, over_long}

-- tables for any unit are long enough for this one
pub roomy_long : (u : Record) (s t : Tables) → sound u s ≡ true → Roomy t → long_enough u t ≡ true
roomy_long u s t h r =
    let k : Ranges u s = ranges u s h in
    rw (
      le-leb (rows_in u) (length t.h) (omega (arith, k.rows_few, r.rows)),
      le-leb u.cells (length t.g) (omega (arith, k.cells_few, r.cells)),
      lt-ltb u.k (length t.aux) (omega (arith, k.vectors_few, r.words)),
    )

pub same_record : (u : Record) → SameRecord u u
same_record u = record { n = refl; p = refl; n1 = refl; k = refl; cells = refl; tries = refl; variables = refl; mark = refl; kept = refl }

module _ (u : Record) (s t : Tables) (h : sound u s ≡ true) where
  abbrev file : List ℕ
  file = file_of u s

  abbrev unit : Record
  unit = record_in file

  abbrev words : Tables
  words = tables_in unit file

  -- the words lie in front of the lent tables, and no others matter
  pub front_answers : SameAnswers unit (loaded_read unit words t).tables unit words
  front_answers =
      let e : SameUnit unit (loaded_read unit words t).tables unit words = record { fields = same_record unit; h = h_range unit file t; g = g_range unit file t; aux = aux_range unit file t } in
      let sound_words : sound unit words ≡ true = (file_reads_back u s h).is_sound in
      same_answers unit unit (loaded_read unit words t).tables words e (sound_same unit unit (same_record unit) words (loaded_read unit words t).tables sound_words (over_long unit file t)) sound_words

  pub read_written : long_enough u t ≡ true → read_of file t ≡ loaded_read unit words t
  read_written l = passed_read file t (written_passed u s h t l)

pub read_answers : AnswersAlike read_of
read_answers u s t h fit l =
    let a = front_answers u s t h in
    let b = carried_answers u s h fit in
    rw (read_written u s t h l) (record { lookups = λ x. a.lookups x ∙ b.lookups x; recoveries = λ i. a.recoveries i ∙ b.recoveries i })
