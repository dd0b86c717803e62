-- A vector added in its free cell: the unit holds the list with the vector at its end. Assumes nothing.
use Prim.Native.Nat.{ℕ, suc, ◌<◌}
use native.Mathlib.Omega.{arith}
use mathlib.Core.Path.{◌≡◌, refl, sym, ap, ◌∙◌}
use mathlib.Core.Bool.{Bool, true, false}
use mathlib.Core.List.{List, [], ◌∷◌, ◌++◌}
use lib.Dec.{eqb, ltb}
use lib.ListN.{length, get_or, set, length-append, length-set, get_or-append}
use lib.Seq.{get_or-set_same, get_or-set_other, get_or-append_seam}
use borrow.Author.Tests.{ltb-true, eqb-true, eqb-false}
use Rattle.lists.proofs.Tests.{and_true}
use Rattle.rows.specs.Fit.{is_free}
use Rattle.record.specs.declared.Record.{Record}
use Rattle.record.specs.Tables.{Tables}
use Rattle.record.specs.Leads.{cell_in}
use Rattle.record.specs.Holds.{Leads, Holds}
use Rattle.record.proofs.Soundness.{sound_says}
use Rattle.add.specs.Add.{amended, has_room_for, amended_to}
use Rattle.add.proofs.Adding.Ends.{Passed}
use Rattle.add.proofs.Adding.Appended.{each_appended}
use Rattle.add.proofs.Adding.Amended.{amended_holds}

module _ (u : Record) (t : Tables) (x : ℕ) (vs : List ℕ) (H : Holds u t vs) (P : Passed u t x) (room : has_room_for u t x ≡ true) where
  abbrev cell : ℕ
  cell = cell_in u t x

  abbrev t' : Tables
  t' = (amended_to u t x t.h (set t.g cell (suc u.k))).tables

  abbrev ws : List ℕ
  ws = vs ++ (x ∷ [])

  below : cell < u.cells
  below = ltb-true _ _ (and_true (ltb cell u.cells) (is_free t.g cell) room).0

  free : get_or t.g cell 0 ≡ 0
  free = eqb-true _ _ (and_true (ltb cell u.cells) (is_free t.g cell) room).1

  filled : get_or t'.g cell 0 ≡ suc u.k
  filled = get_or-set_same t.g cell (suc u.k) 0 (omega (arith, below, (sound_says u t H.is_sound).cells_held))

  -- the other cells keep their word
  kept : (c : ℕ) → (c ≡ cell → ⊥) → get_or t'.g c 0 ≡ get_or t.g c 0
  kept c n = get_or-set_other t.g cell c (suc u.k) 0 n

  lies : (i : ℕ) → i < length ws → (cell_in u t' (get_or ws i 0) < u.cells) × (get_or t'.g (cell_in u t' (get_or ws i 0)) 0 ≡ suc i)
  lies =
      each_appended (λ i v. (cell_in u t' v < u.cells) × (get_or t'.g (cell_in u t' v) 0 ≡ suc i)) vs x
      (λ i h.
      let c = H.lies i h in
      (c.0, kept _ (λ e. omega (arith, c.1, ap (λ (a : ℕ). get_or t.g a 0) e, free)) ∙ c.1))
      (below, filled ∙ ap suc H.vectors)

  leads : (c : ℕ) → c < u.cells → (get_or t'.g c 0 ≡ 0 → ⊥) → Leads (amended u) t' ws c
  leads c l n = go (eqb c cell) refl
    where
      go : (b : Bool) → eqb c cell ≡ b → Leads (amended u) t' ws c
      go true e =
          let q : c ≡ cell = eqb-true c cell e in
          record {
            entry = length vs;
            listed = omega (arith, length-append vs (x ∷ []));
            holds = ap (λ (a : ℕ). get_or t'.g a 0) q ∙ filled ∙ ap suc H.vectors;
            there = ap (cell_in u t') (get_or-append_seam vs x [] 0) ∙ sym q;
          }
      go false e =
          let k = kept c (eqb-false c cell e) in
          let p = H.leads c l (λ z. n (k ∙ z)) in
          record {
            entry = p.entry;
            listed = omega (arith, p.listed, length-append vs (x ∷ []));
            holds = k ∙ p.holds;
            there = ap (cell_in u t') (get_or-append vs (x ∷ []) 0 p.entry p.listed) ∙ p.there;
          }

  pub room_holds : Holds (amended u) t' ws
  room_holds =
      amended_holds u t t' H.is_sound P.few
      (record { h = refl; g = length-set t.g cell (suc u.k); aux = rw length-set P.word_fits })
      vs x H P.within refl lies leads
