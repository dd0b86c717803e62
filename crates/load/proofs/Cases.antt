-- What `read` leaves in each case. Assumes nothing.
use mathlib.Core.Path.{◌≡◌, refl, sym, ap₂, ◌∙◌}
use mathlib.Core.Bool.{Bool, true, false}
use mathlib.Core.List.{List}
use Prim.Native.Nat.{ℕ, ◌/◌, ◌%◌}
use lib.ListN.{length}
use borrow.Author.Tests.{eq-eqb, ne_eqb}
use Rattle.record.specs.Tables.{Tables}
use Rattle.record.specs.Formed.{long_enough}
use Rattle.block.specs.Block.{block_size}
use Rattle.file.specs.Decode.{record_in, tables_in}
use Rattle.file.specs.Read.{Reading, no_blocks, right_checks, is_file, refused_read, loaded_read, read_of}

module _ (file : List ℕ) (t : Tables) where
  -- by the four tests
  abbrev reading : Bool → Bool → Bool → Bool → Reading
  reading none right is long =
      elim none [
        | true ↦ refused_read 21 t
        | false ↦ elim right [
          | false ↦ refused_read 22 t
          | true ↦ elim is [ true ↦ elim long [ true ↦ loaded_read (record_in file) (tables_in (record_in file) file) t | false ↦ refused_read 24 t ] | false ↦ refused_read 23 t ]
        ]
      ]

  read_is : read_of file t ≡ reading (no_blocks file) (right_checks (length file / block_size) file) (is_file file) (long_enough (record_in file) t)
  unfolding read_of
  read_is = refl

  read_by : (a b c d : Bool) → no_blocks file ≡ a → right_checks (length file / block_size) file ≡ b → is_file file ≡ c → long_enough (record_in file) t ≡ d → reading a b c d ≡ read_of file t
  read_by a b c d ea eb ec ed =
      sym (read_is ∙ ap₂ (λ (x y : Bool). reading x y (is_file file) (long_enough (record_in file) t)) ea eb ∙ ap₂ (reading a b) ec ed)

  pub read_none : no_blocks file ≡ true → refused_read 21 t ≡ read_of file t
  read_none e = read_by true _ _ _ e refl refl refl

  module _ (some : length file ≡ 0 → ⊥) (whole : length file % block_size ≡ 0) where
    blocks : no_blocks file ≡ false
    blocks = rw (ne_eqb _ _ some, eq-eqb _ _ whole)

    pub read_wrong : right_checks (length file / block_size) file ≡ false → refused_read 22 t ≡ read_of file t
    read_wrong c = read_by false false _ _ blocks c refl refl

    module _ (right : right_checks (length file / block_size) file ≡ true) where
      pub read_other : is_file file ≡ false → refused_read 23 t ≡ read_of file t
      read_other i = read_by false true false _ blocks right i refl

      pub read_short : is_file file ≡ true → long_enough (record_in file) t ≡ false → refused_read 24 t ≡ read_of file t
      read_short i l = read_by false true true false blocks right i l

      pub read_whole : is_file file ≡ true → long_enough (record_in file) t ≡ true → loaded_read (record_in file) (tables_in (record_in file) file) t ≡ read_of file t
      read_whole i l = read_by false true true true blocks right i l
