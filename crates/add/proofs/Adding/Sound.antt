-- An accepted addition leaves a sound unit, whatever unit it was made to, and place and needed are 0. Assumes nothing.
use Prim.Native.Nat.{ℕ, suc, ◌<◌}
use mathlib.Core.Path.{◌≡◌}
use mathlib.Core.Bool.{true}
use mathlib.Core.Logic.{◌⊎◌, inl, inr}
use lib.ListN.{length}
use Rattle.record.specs.declared.Record.{Record}
use Rattle.record.specs.Tables.{Tables}
use Rattle.record.specs.Formed.{sound}
use Rattle.recover.proofs.Every.{listed_sound}
use Rattle.build.specs.Build.{accepted}
use Rattle.add.specs.Add.{add_of}
use Rattle.add.proofs.Adding.Ends as ends
use Rattle.add.proofs.Adding.Ends.{Passed, Room, Moved}
use Rattle.add.proofs.Adding.Amended.{amended_sound}
use Rattle.add.proofs.Adding.Staying.{add_changes_little}

module _ (u : Record) (t : Tables) (x : ℕ) (z : (add_of u t x).built.refusal ≡ 0) where
  pub added_built : (add_of u t x).built ≡ accepted (add_of u t x).built.unit
  added_built = by (ends.accepted u t x z)
    where
      by : Room u t x ⊎ Moved u t x → (add_of u t x).built ≡ accepted (add_of u t x).built.unit
      by (inl r) = rw r.is
      by (inr m) = rw m.is

  passes : Room u t x ⊎ Moved u t x → Passed u t x
  passes (inl r) = r.passes
  passes (inr m) = m.passes

  -- the cells number as many as before
  cells : Room u t x ⊎ Moved u t x → length (add_of u t x).tables.g ≡ length t.g
  cells (inl r) = ((add_changes_little u t x).room_cell r.has_room).size
  cells (inr m) = ((add_changes_little u t x).moved_cells m.no_room).size

  pub added_sound : sound (add_of u t x).built.unit (add_of u t x).tables ≡ true
  added_sound =
      let a = ends.accepted u t x z in
      let p = passes a in
      let s = add_changes_little u t x in
      let long : suc u.k < length (add_of u t x).tables.aux = rw s.one_word.size p.word_fits in
      rw (ends.accepted_record u t x z)
      (amended_sound u t (add_of u t x).tables (listed_sound u t p.is_listed) p.few record { h = s.one_row.size; g = cells a; aux = long })
