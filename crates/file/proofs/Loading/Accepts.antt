-- Reading accepts the files that writing gives, and no others. Assumes nothing.
use mathlib.Core.Path.{◌≡◌, refl, sym, ap, ◌∙◌}
use mathlib.Core.Bool.{Bool, true, false}
use mathlib.Core.List.{List}
use Prim.Native.Nat.{ℕ, ◌*◌, ◌/◌, ◌%◌}
use native.Mathlib.Omega.{arith}
use lib.Dec.{eqb}
use lib.ListN.{length}
use borrow.Author.Tests.{eq-eqb, ne_eqb}
use Rattle.lists.proofs.Tests.{and_true}
use Rattle.record.specs.declared.Record.{Record}
use Rattle.record.specs.Record.{record_of}
use Rattle.record.specs.Tables.{Tables}
use Rattle.record.specs.Formed.{sound, long_enough}
use Rattle.block.specs.Block.{block_size, same}
use Rattle.file.specs.File.{blocks_in, file_of}
use Rattle.file.specs.Decode.{record_in, tables_in}
use Rattle.file.specs.Read.{Reading, no_blocks, right_checks, is_file, refused_read, loaded_read, read_of}
use Rattle.file.specs.Facts.{AcceptsFiles}
use Rattle.file.proofs.Outcomes.{file_length}
use Rattle.file.proofs.Decoding.Units.{record_read}
use Rattle.file.proofs.Decoding.Again.{file_reads_back}
use Rattle.file.proofs.Loading.Checks.{same_self, same_is, file_right}

module _ (file : List ℕ) (t : Tables) where
  -- the four tests
  abbrev pub reading : Bool → Bool → Bool → Bool → Reading
  reading none right is long =
      elim none [
        | true ↦ refused_read 21 t
        | false ↦ elim right [
          | false ↦ refused_read 22 t
          | true ↦ elim is [ true ↦ elim long [ true ↦ loaded_read (record_in file) (tables_in (record_in file) file) t | false ↦ refused_read 24 t ] | false ↦ refused_read 23 t ]
        ]
      ]

  pub read_is : read_of file t ≡ reading (no_blocks file) (right_checks (length file / block_size) file) (is_file file) (long_enough (record_in file) t)
  unfolding read_of
  read_is = refl

  -- all passed
  pub record Passed : Type 0 where
    pub blocks : no_blocks file ≡ false
    pub checks : right_checks (length file / block_size) file ≡ true
    pub is : is_file file ≡ true
    pub long : long_enough (record_in file) t ≡ true

  pub passed_read : Passed → read_of file t ≡ loaded_read (record_in file) (tables_in (record_in file) file) t
  passed_read p = read_is ∙ rw (p.blocks, p.checks, p.is, p.long)

  no_pass : (a b c d : Bool) → (reading a b c d).refusal ≡ 0 → ((a ≡ false) × (b ≡ true)) × ((c ≡ true) × (d ≡ true))
  no_pass true b c d e = absurd (omega arith)
  no_pass false false c d e = absurd (omega arith)
  no_pass false true false d e = absurd (omega arith)
  no_pass false true true false e = absurd (omega arith)
  no_pass false true true true e = ((refl, refl), (refl, refl))

  pub read_passed : (read_of file t).refusal ≡ 0 → Passed
  read_passed e =
      let p = no_pass _ _ _ _ (ap (λ (r : Reading). r.refusal) (sym read_is) ∙ e) in
      record { blocks = p.0.0; checks = p.0.1; is = p.1.0; long = p.1.1 }

  pub is_says : is_file file ≡ true → (sound (record_in file) (tables_in (record_in file) file) ≡ true) × (file_of (record_in file) (tables_in (record_in file) file) ≡ file)
  unfolding is_file
  is_says e =
      let u : Record = record_in file in
      let p = and_true (sound u (tables_in u file)) (same (file_of u (tables_in u file)) file) e in
      (p.0, same_is (file_of u (tables_in u file)) file p.1)

-- ---- a written file

module _ (u : Record) (s : Tables) (h : sound u s ≡ true) where
  pub whole_blocks : no_blocks (file_of u s) ≡ false
  whole_blocks =
      let n : length (file_of u s) ≡ block_size * blocks_in u = file_length u s h in
      let a : eqb (length (file_of u s)) 0 ≡ false = ne_eqb (length (file_of u s)) 0 (λ (z : length (file_of u s) ≡ 0). omega arith) in
      let b : eqb (length (file_of u s) % block_size) 0 ≡ true = eq-eqb (length (file_of u s) % block_size) 0 (omega arith) in
      rw (a, b)

  whole_checks : right_checks (length (file_of u s) / block_size) (file_of u s) ≡ true
  whole_checks =
      let n : length (file_of u s) / block_size ≡ blocks_in u = let m : length (file_of u s) ≡ block_size * blocks_in u = file_length u s h in omega arith in
      rw n (file_right u s h)

  pub is_file_lem : is_file (file_of u s) ≡ true
  unfolding is_file
  is_file_lem = let r = file_reads_back u s h in rw r.is_sound (ap (λ (l : List ℕ). same l (file_of u s)) r.again ∙ same_self (file_of u s))

  pub written_passed : (t : Tables) → long_enough u t ≡ true → Passed (file_of u s) t
  unfolding record_of
  written_passed t l = record {
    blocks = whole_blocks;
    checks = whole_checks;
    is = is_file_lem;
    long = ap (λ (v : Record). long_enough v t) (record_read u s h) ∙ l;
  }

pub read_accepts : AcceptsFiles read_of
read_accepts = record {
  all_written = λ u s t h l. ap (λ (r : Reading). r.refusal) (passed_read (file_of u s) t (written_passed u s h t l));
  only_written = λ file t e.
      let p = is_says file t (read_passed file t e).is in
      record { unit = record_in file; tables = tables_in (record_in file) file; is_sound = p.0; is = p.1 };
}
