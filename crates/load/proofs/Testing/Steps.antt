-- The tests one after the other, over the record that the head says. Assumes nothing.
use mathlib.Core.Path.{◌≡◌, sym, ap, ◌∙◌}
use mathlib.Core.Bool.{true, false}
use mathlib.Core.List.{List}
use Prim.Native.Nat.{ℕ, ◌/◌, ◌≤◌}
use lib.ListN.{length}
use Rattle.lists.proofs.Tests.{and_true}
use Rattle.record.specs.declared.Record.{Record}
use Rattle.record.specs.Tables.{Tables}
use Rattle.record.specs.Formed.{is_in_bounds, right_record, sound}
use Rattle.record.proofs.Soundness.{right_says, sound_right}
use Rattle.block.specs.Block.{block_size, same}
use Rattle.block.proofs.Reading.Same.{same_true}
use Rattle.block.proofs.Reading.Numbers.{Bytes}
use Rattle.file.specs.File.{size_of, file_of}
use Rattle.file.specs.Decode.{record_in, tables_in}
use Rattle.file.proofs.Outcomes.{file_length}
use Rattle.file.specs.Read.{right_checks, is_file}
use Rattle.load.specs.Inner.Said.{said_in}
use Rattle.load.specs.Inner.Laid.{laid_by}
use Rattle.load.proofs.Testing.Said.{said_right, said_is}
use Rattle.load.proofs.Testing.Files.{file_unright, file_laid}

module _ (file : List ℕ) (unit : Record) (said : unit ≡ said_in file) where
  right_same : right_record unit ≡ right_record (record_in file)
  right_same = ap right_record said ∙ said_right file

  pub unit_is : right_record unit ≡ true → unit ≡ record_in file
  unit_is h = said ∙ said_is file (sym (ap right_record said) ∙ h)

  module _ (long : block_size ≤ length file) (checks : right_checks (length file / block_size) file ≡ true) (bytes : Bytes file) where
    pub not_right : right_record unit ≡ false → false ≡ is_file file
    not_right h = sym (file_unright file long checks bytes (sym right_same ∙ h))

    pub is_laid : right_record unit ≡ true → is_file file ≡ laid_by unit file
    is_laid h = file_laid file long checks bytes (sym right_same ∙ h) ∙ ap (λ (u : Record). laid_by u file) (sym (unit_is h))

-- what a unit's file tells of the record that its head says
pub record Told (file : List ℕ) (unit : Record) : Type 0 where
  pub is : unit ≡ record_in file
  pub bounds : is_in_bounds unit ≡ true
  pub size : length file ≡ size_of unit

pub file_told : (file : List ℕ) (unit : Record) → unit ≡ said_in file → is_file file ≡ true → Told file unit
unfolding is_file
file_told file unit said h =
    let u : Record = record_in file in
    let t : Tables = tables_in u file in
    let a = and_true (sound u t) (same (file_of u t) file) h in
    let r : right_record u ≡ true = sound_right u t a.0 in
    let e : unit ≡ u = unit_is file unit said (right_same file unit said ∙ r) in
    record {
      is = e;
      bounds = ap is_in_bounds e ∙ (right_says u r).in_bounds;
      size = ap length (sym (same_true (file_of u t) file a.1)) ∙ file_length u t a.0 ∙ ap size_of (sym e);
    }
