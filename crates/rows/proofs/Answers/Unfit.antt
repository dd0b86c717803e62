-- What cannot be placed: the test of the words, and what is known where none fails. Assumes nothing.
use Prim.Native.Nat.{ℕ, zero, suc, ◌+◌, ◌-◌, ◌%◌, ◌≤◌, ◌<◌}
use native.Mathlib.Omega.{arith}
use mathlib.Core.Path.{◌≡◌, refl, sym, ap, ◌∙◌}
use mathlib.Core.Bool.{Bool, true, false, ◌||◌}
use mathlib.Core.List.{List, [], ◌∷◌}
use lib.Dec.{leb}
use Rattle.std.specs.List.{list_any}
use Rattle.std.proofs.Math.Bool.{or_assoc}
use lib.ListN.{length, get_or, drop, length-drop}
use lib.Seq.{get_or-drop}
use borrow.Author.Tests.{eqb-false, ltb-false, leb-false, lt-leb, ne_eqb, le-ltb}
use Rattle.lists.proofs.Tests.{or_false}
use Rattle.lists.specs.Members.{All}
use Rattle.vectors.specs.Bounds.{max_cells, max_words, max_rows}
use Rattle.rows.specs.Care.{cares_by}
use Rattle.rows.specs.Answer.{cares_from, cares_in, cares_of, astray, unfit, left, settled, placed, max_places, row_in, owner_bit}
use Rattle.rows.specs.Inner.Chains.{Packed}
use Rattle.rows.specs.End.{Unfit}

-- ---- the test

pub astray_any : (rows : ℕ) (ws : List ℕ) → astray rows ws ≡ list_any (λ w. leb max_places w || leb rows (row_in w)) ws
unfolding astray
astray_any rows [] = refl
astray_any rows (w ∷ ws) =
    sym (or_assoc (leb max_places w) (leb rows (row_in w)) (astray rows ws))
    ∙ ap (λ (b : Bool). (leb max_places w || leb rows (row_in w)) || b) (astray_any rows ws)

-- ---- where none fails

both : (rows w : ℕ) (ws : List ℕ) → astray rows (w ∷ ws) ≡ false → (w < max_places) × (row_in w < rows) × (astray rows ws ≡ false)
unfolding astray
both rows w ws h =
    let p = or_false (leb max_places w) _ h in
    let q = or_false (leb rows (row_in w)) (astray rows ws) p.1 in
    (leb-false max_places w p.0, leb-false rows (row_in w) q.0, q.1)

words_in : (rows : ℕ) (ws : List ℕ) → astray rows ws ≡ false → (j : ℕ) → j < length ws → (get_or ws j 0 < max_places) × (row_in (get_or ws j 0) < rows)
words_in rows [] h j l = absurd (omega arith)
words_in rows (w ∷ ws) h zero l = let p = both rows w ws h in (p.0, p.1)
words_in rows (w ∷ ws) h (suc j) l = words_in rows ws (both rows w ws h).2 j (omega arith)

rows_in : (rows i : ℕ) (ws : List ℕ) → astray rows ws ≡ false → All (λ c. c.row < rows) (cares_from i ws)
unfolding cares_by
rows_in rows i [] h = tt
rows_in rows i (w ∷ ws) h = let p = both rows w ws h in (p.1, rows_in rows (suc i) ws p.2)

packed_is : (rows : ℕ) (ws : List ℕ) → astray rows (drop 1 ws) ≡ false → Packed ws rows
packed_is rows ws h = record { words = λ i p l. (at i p l).0; rows_in = λ i p l. (at i p l).1 }
  where
    at : (i : ℕ) → 0 < i → i < length ws → (get_or ws i 0 < max_places) × (row_in (get_or ws i 0) < rows)
    at i p l =
        let e : get_or (drop 1 ws) (i - 1) 0 ≡ get_or ws i 0 = get_or-drop 1 ws (i - 1) 0 ∙ (let q : 1 + (i - 1) ≡ i = omega arith in ap (λ (j : ℕ). get_or ws j 0) q) in
        rw (← e) (words_in rows (drop 1 ws) h (i - 1) (omega (arith, length-drop 1 ws)))

pub record Fits (aux : List ℕ) (rows cells owner : ℕ) : Type 0 where
  pub some : 0 < length aux
  pub few : length aux ≤ max_words
  pub rows_few : rows ≤ max_rows
  pub cells_few : cells ≤ max_cells
  pub owner_is : owner % owner_bit ≡ 0
  pub packed : Packed aux rows
  pub rows_in : All (λ c. c.row < rows) (cares_in aux)

pub fits_are : (aux : List ℕ) (rows cells owner : ℕ) → unfit aux rows cells owner ≡ false → Fits aux rows cells owner
unfolding unfit cares_in
fits_are aux rows cells owner h =
    let a = or_false _ _ h in
    let b = or_false _ _ a.1 in
    let c = or_false _ _ b.1 in
    let d = or_false _ _ c.1 in
    let e = or_false _ _ d.1 in
    record {
      some = omega (arith, eqb-false (length aux) 0 a.0);
      few = ltb-false _ _ b.0;
      rows_few = ltb-false _ _ c.0;
      cells_few = ltb-false _ _ d.0;
      owner_is = omega (arith, ltb-false 0 (owner % owner_bit) e.0);
      packed = packed_is rows aux e.1;
      rows_in = rows_in rows 1 (drop 1 aux) e.1;
    }

-- ---- the tests as a caller passes them

pub astray_none : (rows : ℕ) → astray rows [] ≡ false
unfolding astray
astray_none rows = refl

pub astray_more : (rows w : ℕ) (ws : List ℕ) → w < max_places → row_in w < rows → astray rows ws ≡ false → astray rows (w ∷ ws) ≡ false
unfolding astray
astray_more rows w ws h r e = rw (lt-leb max_places w h, lt-leb rows (row_in w) r) e

pub fit_is : (aux : List ℕ) (rows cells owner : ℕ) → 0 < length aux → length aux ≤ max_words → rows ≤ max_rows → cells ≤ max_cells → owner % owner_bit ≡ 0
    → astray rows (drop 1 aux) ≡ false → unfit aux rows cells owner ≡ false
unfolding unfit
fit_is aux rows cells owner a b c d e f =
    rw
    (ne_eqb (length aux) 0 (λ z. omega arith), le-ltb max_words (length aux) b, le-ltb max_rows rows c, le-ltb max_cells cells d, le-ltb 0 (owner % owner_bit) (omega arith))
    f

-- ---- the answer by the test

module _ (aux h g : List ℕ) (owner a : ℕ) where
  pub placed_unfit : unfit aux (length h) (length g) owner ≡ true → placed aux h g owner a ≡ left (record { end = Unfit; tries = 0 }) h g
  unfolding placed
  placed_unfit e = rw (e, placed)

  pub placed_fit : unfit aux (length h) (length g) owner ≡ false → placed aux h g owner a ≡ settled a (cares_of owner aux) (length h) g
  unfolding placed
  placed_fit e = rw (e, placed)
