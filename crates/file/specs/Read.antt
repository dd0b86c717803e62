-- What a call of `read` leaves (SCOPE 20.12, 20.13).
use Rattle.std.specs.Prelude.{ℕ, zero, suc, ◌/◌, ◌%◌, Bool, true, false, not, ◌&&◌, ◌||◌, List, eqb, length, take, drop}
use Rattle.record.specs.declared.Record.{Record}
use Rattle.record.specs.Record.{blank_record}
use Rattle.record.specs.Tables.{Tables, over}
use Rattle.record.specs.Formed.{sound, long_enough}
use Rattle.block.specs.Block.{block_size, same, right_check}
use Rattle.file.specs.File.{file_of}
use Rattle.file.specs.Decode.{record_in, tables_in}

-- the answer, a refusal, its place and the record; and the tables after the call
pub record Reading : Type 0 where
  pub refusal : ℕ
  pub place : ℕ
  pub unit : Record
  pub tables : Tables

-- SCOPE 20.12, No. 21: no byte, or no whole number of blocks
abbrev pub no_blocks : List ℕ → Bool
no_blocks file = eqb (length file) 0 || not (eqb (length file % block_size) 0)

-- SCOPE 20.12, No. 22: each of m blocks ends in its check
unfoldable pub right_checks : ℕ → List ℕ → Bool
unfolding right_check
right_checks zero file = true
right_checks (suc m) file = right_check (take block_size file) && right_checks m (drop block_size file)

-- SCOPE 20.12, No. 23: the bytes are those that `write` gives for the unit that they say
unfoldable pub is_file : List ℕ → Bool
unfolding sound same file_of record_in tables_in
is_file file = sound (record_in file) (tables_in (record_in file) file) && same (file_of (record_in file) (tables_in (record_in file) file)) file

-- a refusal writes nothing, and the record beside it is blank
abbrev pub refused_read : ℕ → Tables → Reading
refused_read number t = record { refusal = number; place = 0; unit = blank_record; tables = t }

-- the unit's words in front of each table, and the words past them as they were
abbrev pub loaded_read : Record → Tables → Tables → Reading
loaded_read u new t = record { refusal = 0; place = 0; unit = u; tables = record { h = over new.h t.h; g = over new.g t.g; aux = over new.aux t.aux } }

-- SCOPE 20.12, No. 24: the tables are long enough for the unit
abbrev pub read_unit : Record → List ℕ → Tables → Reading
read_unit u file t = elim (long_enough u t) [ true ↦ loaded_read u (tables_in u file) t | false ↦ refused_read 24 t ]

-- SCOPE 20.12: the refusals by rising number
unfoldable pub read_of : List ℕ → Tables → Reading
unfolding right_checks is_file record_in tables_in
read_of file t =
    elim (no_blocks file) [
      | true ↦ refused_read 21 t
      | false ↦ elim (right_checks (length file / block_size) file) [
        | false ↦ refused_read 22 t
        | true ↦ elim (is_file file) [ true ↦ read_unit (record_in file) file t | false ↦ refused_read 23 t ]
      ]
    ]
