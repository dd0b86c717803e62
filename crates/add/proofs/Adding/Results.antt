-- What an accepted addition leaves, where the unit held a list: the list with the vector at its end, in words that fit. Assumes nothing.
use Prim.Native.Nat.{ℕ, ◌^◌, ◌<◌}
use native.Mathlib.Omega.{arith}
use mathlib.Core.Path.{◌≡◌, refl, ap}
use mathlib.Core.Bool.{Bool, true, false}
use mathlib.Core.List.{List, [], ◌∷◌, ◌++◌}
use mathlib.Core.Logic.{◌⊎◌, inl, inr}
use lib.Dec.{eqb}
use lib.ListN.{length, get_or, take, length-append}
use lib.Seq.{get_or-append_seam, get_or-take, length-take-le}
use borrow.Author.Tests.{eqb-true, eqb-false}
use Rattle.lists.proofs.Entries.Alls.{all_at}
use Rattle.vectors.specs.Variable.{row_of}
use Rattle.record.specs.declared.Record.{Record}
use Rattle.record.specs.Record.{kinds_in}
use Rattle.record.specs.Tables.{Tables}
use Rattle.record.specs.Leads.{cell_in}
use Rattle.record.specs.Holds.{Holds}
use Rattle.record.proofs.Formed.{well_formed_facts, few_words}
use Rattle.record.proofs.Soundness.{Sound, sound_says}
use Rattle.recover.proofs.Every.{holds_list}
use Rattle.file.specs.File.{rows_in, words_in}
use Rattle.file.specs.Facts.{WordsFit}
use Rattle.file.proofs.Decoding.Fitting.{holds_fits}
use Rattle.add.specs.Add.{amended, add_of}
use Rattle.add.specs.Facts.{Stays, Appends}
use Rattle.add.proofs.Adding.Ends.{Room, Moved, accepted, accepted_record}
use Rattle.add.proofs.Adding.InRoom.{room_holds}
use Rattle.add.proofs.Adding.Moving.{moved_holds}
use Rattle.add.proofs.Adding.Staying.{add_changes_little}

-- the unit holds the list with the vector at its end
pub add_appends : Appends add_of
add_appends u t vs H x z = go (accepted u t x z)
  where
    go : Room u t x ⊎ Moved u t x → Holds (add_of u t x).built.unit (add_of u t x).tables (vs ++ (x ∷ []))
    go (inl r) = rw r.is (room_holds u t x vs H r.passes r.has_room)
    go (inr m) = let e = holds_list u t vs H in rw m.is (rw e at (moved_holds u t x (rw e H) m.passes m.d m.fits))

module _ (u : Record) (t : Tables) (vs : List ℕ) (H : Holds u t vs) (fit : WordsFit u t) (x : ℕ) (z : (add_of u t x).built.refusal ≡ 0) where
  abbrev t' : Tables
  t' = (add_of u t x).tables

  abbrev row : ℕ
  row = row_of u.n1 (kinds_in u) x

  S : Sound u t
  S = sound_says u t H.is_sound

  stays : Stays u t x (add_of u t x)
  stays = add_changes_little u t x

  H' : Holds (amended u) t' (vs ++ (x ∷ []))
  H' = rw (accepted_record u t x z) at (add_appends u t vs H x z)

  -- the row of x reaches no further than its cell
  row_low : get_or t'.h row 0 < u.cells
  row_low =
      let l = (H'.lies (length vs) (omega (arith, length-append vs (x ∷ [])))).0 in
      let c : cell_in u t' x < u.cells = rw (get_or-append_seam vs x [] 0) at l in
      omega arith

  h_low : (r : ℕ) → r < rows_in u → get_or t'.h r 0 < 2 ^ 16
  h_low r h = go (eqb r row) refl
    where
      go : (b : Bool) → eqb r row ≡ b → get_or t'.h r 0 < 2 ^ 16
      go true e = omega (arith, ap (λ (i : ℕ). get_or t'.h i 0) (eqb-true r row e), row_low, (few_words u t S.well_formed_lem).1)
      go false e =
          let l : r < length (take (rows_in u) t.h) = rw (length-take-le (rows_in u) t.h (well_formed_facts u t S.well_formed_lem).rows_held) h in
          rw (stays.one_row.same r (eqb-false r row e), ← get_or-take (rows_in u) t.h r 0 h) (all_at (λ (w : ℕ). w < 2 ^ 16) (take (rows_in u) t.h) r 0 fit.h l)

  zero_low : get_or t'.aux 0 0 < 2 ^ 64
  zero_low =
      let k : u.k < length t.aux = (well_formed_facts u t S.well_formed_lem).words_held in
      let l : 0 < length (take (words_in u) t.aux) = rw (length-take-le (words_in u) t.aux k) (omega arith) in
      rw (stays.one_word.same 0 (λ e. omega arith), ← get_or-take (words_in u) t.aux 0 0 (omega arith)) (all_at (λ (w : ℕ). w < 2 ^ 64) (take (words_in u) t.aux) 0 0 fit.aux l)

  -- words of 16 and 64 bits stay so
  pub add_fits : WordsFit (add_of u t x).built.unit t'
  add_fits = rw (accepted_record u t x z) (holds_fits (amended u) t' (vs ++ (x ∷ [])) H' h_low zero_low)
