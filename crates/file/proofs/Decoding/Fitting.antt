-- The words that an accepted build leaves fit 16 and 64 bits, and those of a unit that holds a list. Assumes nothing.
use mathlib.Core.Path.{◌≡◌, refl, sym, ap, ◌∙◌}
use mathlib.Core.Bool.{Bool, true, false}
use mathlib.Core.List.{List}
use Prim.Native.Nat.{ℕ, zero, suc, ◌+◌, ◌^◌, ◌≤◌, ◌<◌}
use native.Mathlib.Omega.{arith}
use borrow.Author.Tests.{eqb-true, eqb-false}
use lib.Count.{ones}
use lib.Dec.{eqb}
use lib.ListN.{length, get_or, take, drop, replicate, length-take, get_or-append}
use lib.Seq.{get_or-take}
use Rattle.lists.specs.First.{has}
use Rattle.lists.specs.Members.{All}
use Rattle.lists.proofs.Entries.Alls.{at_all}
use Rattle.lists.proofs.Entries.Members.{get_d_in}
use Rattle.vectors.specs.declared.Kind.{Kind}
use Rattle.vectors.specs.Variable.{row_of}
use Rattle.vectors.proofs.Words.Laws.{word_lt}
use Rattle.rows.specs.Care.{Care, in_row, weight_of}
use Rattle.rows.specs.Place.{State}
use Rattle.rows.specs.End as ends
use Rattle.rows.proofs.Demand3 as placing
use Rattle.rows.proofs.Fits.Cells.{in_row_lem}
use Rattle.rows.proofs.Fits.Filled.{blank_zero}
use Rattle.record.specs.declared.Record.{Record}
use Rattle.record.specs.Record.{mark_built, record_of, kinds_in}
use Rattle.record.specs.Tables.{Tables}
use Rattle.record.specs.Holds.{Holds}
use Rattle.record.specs.Leads.{word_in, cell_in}
use Rattle.record.proofs.Formed.{well_formed_facts, few_words}
use Rattle.record.proofs.Soundness.{Sound, sound_says}
use Rattle.record.proofs.Marks.{kinds_in_lem}
use Rattle.build.specs.Built.{Refusal}
use Rattle.build.specs.Build.{cares_from, placing_of, Outcome, written, outcome}
use Rattle.build.proofs.Holding.Built.{accepted_holds}
use Rattle.build.proofs.Holding.Cares.{cares_entry}
use Rattle.build.proofs.Holding.Ends.{placing_rows, outcome_accepted}
use Rattle.build.proofs.Holding.Passed.{Passed}
use Rattle.file.specs.File.{rows_in, words_in}
use Rattle.file.specs.Facts.{WordsFit}

-- entries below a bound, of the first m
first_low : (bound m : ℕ) (l : List ℕ) → ((i : ℕ) → i < m → get_or l i 0 < bound) → All (λ (w : ℕ). w < bound) (take m l)
first_low bound m l f = at_all (λ (w : ℕ). w < bound) (take m l) 0 (λ i h. let j : i < m = omega (arith, length-take m l) in rw (get_or-take m l i 0 j) (f i j))

-- of a unit that holds a list: the cells and the words of its vectors fit, so that its displacements and AUX[0] decide
module _ (u : Record) (t : Tables) (vs : List ℕ) (H : Holds u t vs) where
  S : Sound u t
  S = sound_says u t H.is_sound

  g_low : (i : ℕ) → i < u.cells → get_or t.g i 0 < 2 ^ 16
  g_low i l = go (eqb (get_or t.g i 0) 0) refl
    where
      go : (b : Bool) → eqb (get_or t.g i 0) 0 ≡ b → get_or t.g i 0 < 2 ^ 16
      go true q = omega (arith, eqb-true (get_or t.g i 0) 0 q)
      go false q =
          let p = H.leads i l (eqb-false (get_or t.g i 0) 0 q) in
          omega (arith, p.holds, p.listed, H.vectors, (few_words u t S.well_formed_lem).0)

  aux_low : get_or t.aux 0 0 < 2 ^ 64 → (i : ℕ) → i < words_in u → get_or t.aux i 0 < 2 ^ 64
  aux_low z zero l = z
  aux_low z (suc i) l =
      let v : ℕ = get_or vs i 0 in
      let r : u.n1 + ones u.kept ≤ 64 = omega (arith, S.kept_count, S.rows_in, S.variables, (well_formed_facts u t S.well_formed_lem).bounds.inputs) in
      let w : word_in u v < 2 ^ 64 = word_lt u.n u.n1 (kinds_in u) u.kept v S.rows_in 64 S.kept_in r in
      rw (H.words i (omega (arith, H.vectors))) w

  pub holds_fits : ((r : ℕ) → r < rows_in u → get_or t.h r 0 < 2 ^ 16) → get_or t.aux 0 0 < 2 ^ 64 → WordsFit u t
  holds_fits f z =
      record {
        h = first_low (2 ^ 16) (rows_in u) t.h f;
        g = first_low (2 ^ 16) u.cells t.g g_low;
        aux = first_low (2 ^ 64) (words_in u) t.aux (aux_low z);
      }

module _ (n n1 : ℕ) (second : Refusal) (ks : List Kind) (cells : ℕ) (vs : List ℕ) (t : Tables) (R : Passed n n1 second ks cells vs t)
    (e : (placing_of n1 ks cells vs).end ≡ ends.All) where
  abbrev u : Record
  u = record_of mark_built n n1 (length vs) ks cells (placing_of n1 ks cells vs).state.tries

  abbrev T : Tables
  T = written n n1 ks vs (placing_of n1 ks cells vs) t

  H : Holds u T vs
  H = accepted_holds n n1 second ks cells vs t R e

  -- the displacements, and the rows that were placed
  abbrev P : State
  P = (placing_of n1 ks cells vs).state

  -- a row that was not placed has displacement 0
  left_out : (r : ℕ) → has r P.order ≡ false → get_or P.h r 0 ≡ 0
  unfolding placing_of
  left_out r m = placing.others_zero (cares_from 1 n1 ks vs) (replicate (2 ^ n1) 0) (replicate cells 0) (blank_zero (2 ^ n1)) r m

  -- one that was has a vector
  occupied : (r : ℕ) → has r P.order ≡ true → (i : ℕ) × (i < length vs) × (row_of n1 ks (get_or vs i 0) ≡ r)
  unfolding placing_of weight_of
  occupied r m =
      let cs : List Care = cares_from 1 n1 ks vs in
      let d : Care = record { index = 0; row = 0; column = 0 } in
      let c : Care = get_or (in_row r cs) 0 d in
      let j = in_row_lem r c cs (get_d_in (in_row r cs) 0 d (placing.placed_weighs cs (replicate (2 ^ n1) 0) (replicate cells 0) r m)) in
      let q = cares_entry n1 ks 1 vs c j.0 in
      (q.at, q.below, ap (λ (x : Care). x.row) (sym q.is) ∙ j.1)

  -- whose cell is below L
  placed_low : (r : ℕ) → has r P.order ≡ true → get_or T.h r 0 < cells
  unfolding record_of
  placed_low r m =
      let o = occupied r m in
      let v : ℕ = get_or vs o.0 0 in
      let e : row_of u.n1 (kinds_in u) v ≡ r = ap (λ (l : List Kind). row_of n1 l v) (kinds_in_lem n1 ks) ∙ o.2 in
      let l : cell_in u T v < cells = (H.lies o.0 o.1).0 in
      omega (arith, ap (λ (i : ℕ). get_or T.h i 0) e)

  h_low : (r : ℕ) → r < 2 ^ n1 → get_or T.h r 0 < 2 ^ 16
  h_low r l = go (has r P.order) refl
    where
      go : (b : Bool) → has r P.order ≡ b → get_or T.h r 0 < 2 ^ 16
      go true m = omega (arith, placed_low r m, R.list.few_cells)
      go false m =
          let j : r < length P.h = omega (arith, placing_rows n1 ks cells vs) in
          omega (arith, get_or-append P.h (drop (length P.h) t.h) 0 r j, left_out r m)

  accepted_fits : WordsFit u T
  unfolding record_of
  accepted_fits = holds_fits u T vs H h_low (omega arith)

-- of either build
module _ (r : Refusal) (n n1 : ℕ) (second : Refusal) (ks : List Kind) (cells allowance : ℕ) (vs : List ℕ) (t : Tables)
    (pass : r.number ≡ 0 → Passed n n1 second ks cells vs t) where
  abbrev o : Outcome
  o = outcome r n n1 ks cells allowance vs t

  pub outcome_fits : o.built.refusal ≡ 0 → WordsFit o.built.unit o.tables
  outcome_fits z = let a = outcome_accepted n n1 ks cells allowance vs t r z in rw a.is (accepted_fits n n1 second ks cells vs t (pass a.passed) a.placed)
