-- The links and the marks, as they are made from the last word to the first. Assumes nothing.
use Prim.Native.Nat.{ℕ, zero, suc, ◌+◌, ◌-◌, ◌*◌, ◌≤◌, ◌<◌}
use native.Mathlib.Nat.{eq-or-lt_of_le, add-zero, add-suc, suc-add, suc_inj}
use native.Mathlib.Omega.{arith}
use mathlib.Core.Path.{◌≡◌, refl, sym, ap, ◌∙◌}
use mathlib.Core.Bool.{Bool, true, false}
use mathlib.Core.List.{List, [], ◌∷◌}
use mathlib.Core.Logic.{⊎_elim}
use lib.Dec.{eqb}
use lib.ListN.{length, get_or, set, drop, replicate, length-set, length-drop, get_or-replicate, drop_of_length-le}
use lib.Seq.{get_or-set_same, get_or-set_other, get_or-drop, drop-cons}
use borrow.Author.Tests.{eqb-true, eqb-false, eq-eqb, ne_eqb}
use Rattle.rows.specs.Care.{Care, cares_by, in_row}
use Rattle.rows.specs.Answer.{care_of, cares_from, cares_in, max_places, row_in, column_in}
use Rattle.rows.specs.Inner.Chains.{next_in, weight_in, Packed, chain, Rises, Weighs, Mark, empty, start, LinkedIs, max_links, mark_bit}
use Rattle.rows.proofs.Chains.Steps.{weight_from, head_of, chain_end, chain_step, chain_length, chain_agree, weight_chain, head_none, head_some}
use Rattle.rows.proofs.Chains.Unlinking.{unlinked_is}

-- ---- a word with its link and its weight

abbrev pub linked_word : ℕ → ℕ → ℕ → ℕ
linked_word w n v = w + max_places * n + max_places * max_links * v

module _ (w n v : ℕ) where
  word_row : row_in (linked_word w n v) ≡ row_in w
  word_row = omega arith

  word_column : column_in (linked_word w n v) ≡ column_in w
  word_column = omega arith

  word_care : (i : ℕ) → care_of i (linked_word w n v) ≡ care_of i w
  word_care i = rw (word_row, word_column)

  word_next : w < max_places → n < max_links → next_in (linked_word w n v) ≡ n
  word_next l m = omega arith

  word_weight : w < max_places → n < max_links → weight_in (linked_word w n v) ≡ v
  word_weight l m = omega arith

-- ---- the vectors past b

unfoldable pub rest : List ℕ → ℕ → List Care
unfolding cares_by
rest ws b = cares_from (suc b) (drop (suc b) ws)

rest_step : (ws : List ℕ) (b : ℕ) → suc b < length ws → rest ws b ≡ care_of (suc b) (get_or ws (suc b) 0) ∷ rest ws (suc b)
unfolding rest cares_by
rest_step ws b l = rw (drop-cons ws (suc b) 0 l)

rest_end : (ws : List ℕ) (b : ℕ) → length ws ≤ suc b → rest ws b ≡ []
unfolding rest cares_by
rest_end ws b l = rw (drop_of_length-le ws {i = suc b} l)

none_in : (r : ℕ) → in_row r [] ≡ []
unfolding in_row
none_in r = refl

row_same : (r : ℕ) (c : Care) (cs : List Care) → c.row ≡ r → in_row r (c ∷ cs) ≡ c ∷ in_row r cs
unfolding in_row
row_same r c cs e = rw (eq-eqb _ _ e)

row_other : (r : ℕ) (c : Care) (cs : List Care) → (c.row ≡ r → ⊥) → in_row r (c ∷ cs) ≡ in_row r cs
unfolding in_row
row_other r c cs n = rw (ne_eqb _ _ n)

-- a mark past b stands at a vector past b, or past the end, and at the chain that it marks
mark_head : {b : ℕ} {ws : List ℕ} {m : List Care} {x : ℕ} → b < length ws → Mark b ws m x
    → (b < head_of (length ws) x) × (head_of (length ws) x ≤ length ws) × (chain ws (head_of (length ws) x) ≡ m)
mark_head {b} {ws} {m} {x} l (empty e q) = rw (head_none (length ws) x (omega arith)) (omega arith, omega arith, chain_end ws (length ws) (omega arith) ∙ sym q)
mark_head {b} {ws} {m} {x} l (start p q e) = rw (head_some (length ws) x (omega arith)) (omega arith, omega arith, e)

-- ---- the loop's state, with the words past b linked

pub record Linking (ws₀ : List ℕ) (rows b : ℕ) (ws h : List ℕ) : Type 0 where
  pub size : length ws ≡ length ws₀
  pub all_rows : length h ≡ rows
  pub rises : Rises b ws
  pub weighs : Weighs b ws
  pub low : (j : ℕ) → j ≤ b → get_or ws j 0 ≡ get_or ws₀ j 0
  pub cares : (j : ℕ) → care_of j (get_or ws j 0) ≡ care_of j (get_or ws₀ j 0)
  pub marks : (r : ℕ) → r < rows → Mark b ws (in_row r (rest ws₀ b)) (get_or h r 0)

-- nothing is linked yet
pub linking_start : (ws h : List ℕ) → h ≡ replicate (length h) 0 → Linking ws (length h) (length ws - 1) ws h
linking_start ws h e =
    record {
      size = refl;
      all_rows = refl;
      rises = λ i l m. absurd (omega arith);
      weighs = λ i l m. absurd (omega arith);
      low = λ j l. refl;
      cares = λ j. refl;
      marks = λ r l. empty (ap (λ (x : List ℕ). get_or x r 0) e ∙ get_or-replicate (length h) r 0 0 l) (rw (rest_end ws (length ws - 1) (omega arith)) (none_in r));
    }

module _ (ws₀ : List ℕ) (rows : ℕ) (packed : Packed ws₀ rows) where
  -- the word suc b gets its link and its weight, and its row the mark
  module _ (b : ℕ) (ws h : List ℕ) (at : suc b < length ws₀) (short : length ws₀ < max_links) (go : Linking ws₀ rows (suc b) ws h)
      (w r n v : ℕ) (ew : w ≡ get_or ws (suc b) 0) (er : r ≡ row_in w) (en : n ≡ head_of (length ws) (get_or h r 0)) (ev : v ≡ weight_from ws n) where
    ws' : List ℕ
    ws' = set ws (suc b) (linked_word w n (v + 1))

    h' : List ℕ
    h' = set h r (mark_bit + suc b)

    size' : length ws' ≡ length ws
    unfolding ws'
    size' = length-set ws (suc b) (linked_word w n (v + 1))

    e₀ : w ≡ get_or ws₀ (suc b) 0
    e₀ = ew ∙ go.low (suc b) (omega arith)

    r< : r < rows
    r< = rw (er, e₀) (packed.rows_in (suc b) (omega arith) at)

    w< : w < max_places
    w< = rw e₀ (packed.words (suc b) (omega arith) at)

    here : get_or ws' (suc b) 0 ≡ linked_word w n (v + 1)
    unfolding ws'
    here = get_or-set_same ws (suc b) (linked_word w n (v + 1)) 0 (omega (arith, go.size))

    there : (j : ℕ) → (j ≡ suc b → ⊥) → get_or ws' j 0 ≡ get_or ws j 0
    unfolding ws'
    there j q = get_or-set_other ws (suc b) j (linked_word w n (v + 1)) 0 q

    link : (suc b < n) × (n ≤ length ws) × (chain ws n ≡ in_row r (rest ws₀ (suc b)))
    link = rw en (mark_head (omega (arith, go.size)) (go.marks r r<))

    n< : n < max_links
    n< = omega (arith, link.1, go.size)

    rises' : Rises b ws'
    rises' i l m =
        ⊎_elim
        (λ q. rw (← q, here, word_next w n (v + 1) w< n<) link.0)
        (λ q. rw (there i (λ c. omega arith)) (go.rises i q (omega (arith, size'))))
        (eq-or-lt_of_le l)

    same : (j : ℕ) → suc b < j → chain ws' j ≡ chain ws j
    same = chain_agree (suc b) ws ws' go.rises size' (λ j l. there j (λ c. omega arith))

    own_step : chain ws' (suc b) ≡ care_of (suc b) w ∷ chain ws n
    own_step =
        chain_step b ws' rises' (suc b) (omega arith) (omega (arith, size', go.size))
        ∙ rw (here, word_next w n (v + 1) w< n<, word_care w n (v + 1) (suc b), same n link.0)

    own : chain ws' (suc b) ≡ in_row r (rest ws₀ b)
    own = own_step ∙ rw (link.2, rest_step ws₀ b at, ← e₀) (sym (row_same r (care_of (suc b) w) (rest ws₀ (suc b)) (sym er)))

    weighs' : Weighs b ws'
    weighs' i l m =
        ⊎_elim
        (λ q. rw (← q, here, word_weight w n (v + 1) w< n<, own_step) (omega (arith, ev, weight_chain (suc b) ws go.weighs n link.0)))
        (λ q. rw (there i (λ c. omega arith), same i q) (go.weighs i q (omega (arith, size'))))
        (eq-or-lt_of_le l)

    move : {m m' : List Care} {x : ℕ} → m' ≡ m → Mark (suc b) ws m x → Mark b ws' m' x
    move e (empty p q) = empty p (e ∙ q)
    move e (start p q t) = start (omega arith) (omega (arith, size')) (same _ (omega arith) ∙ t ∙ sym e)

    marks' : (i : ℕ) → i < rows → Mark b ws' (in_row i (rest ws₀ b)) (get_or h' i 0)
    unfolding h'
    marks' i l = by (eqb i r) refl
      where
        by : (t : Bool) → eqb i r ≡ t → Mark b ws' (in_row i (rest ws₀ b)) (get_or (set h r (mark_bit + suc b)) i 0)
        by true e =
            let z : mark_bit + suc b - mark_bit ≡ suc b = omega arith in
            rw (eqb-true i r e, get_or-set_same h r (mark_bit + suc b) 0 (omega (arith, r<, go.all_rows)))
            (start (omega arith) (omega (arith, size', go.size)) (rw z own))
        by false e =
            let q : r ≡ i → ⊥ = λ c. eqb-false i r e (sym c) in
            rw (get_or-set_other h r i (mark_bit + suc b) 0 (eqb-false i r e))
            (move (rw (rest_step ws₀ b at, ← e₀) (row_other i (care_of (suc b) w) (rest ws₀ (suc b)) (λ c. q (er ∙ c)))) (go.marks i l))

    cares' : (j : ℕ) → care_of j (get_or ws' j 0) ≡ care_of j (get_or ws₀ j 0)
    cares' j = by (eqb j (suc b)) refl
      where
        by : (t : Bool) → eqb j (suc b) ≡ t → care_of j (get_or ws' j 0) ≡ care_of j (get_or ws₀ j 0)
        by true e = rw (eqb-true j (suc b) e, here, word_care w n (v + 1) (suc b), e₀)
        by false e = rw (there j (eqb-false j (suc b) e)) (go.cares j)

    linking_turn : Linking ws₀ rows b (set ws (suc b) (linked_word w n (v + 1))) (set h r (mark_bit + suc b))
    unfolding ws' h'
    linking_turn =
        record {
          size = size' ∙ go.size;
          all_rows = length-set h r (mark_bit + suc b) ∙ go.all_rows;
          rises = rises';
          weighs = weighs';
          low = λ j l. there j (λ c. omega arith) ∙ go.low j (omega arith);
          cares = cares';
          marks = marks';
        }

  -- ---- a turn at i

  module _ (i : ℕ) (ws h : List ℕ) (p : 0 < i) (l : i < length ws₀) (go : Linking ws₀ rows i ws h) where
    pub at_row : row_in (get_or ws i 0) < rows
    at_row = rw (go.low i (omega arith)) (packed.rows_in i p l)

    pub at_word : get_or ws i 0 < max_places
    at_word = rw (go.low i (omega arith)) (packed.words i p l)

    pub at_first : mark_bit < get_or h (row_in (get_or ws i 0)) 0 → get_or h (row_in (get_or ws i 0)) 0 < mark_bit + length ws
    at_first m = by (go.marks (row_in (get_or ws i 0)) at_row)
      where
        by : {c : List Care} → Mark i ws c (get_or h (row_in (get_or ws i 0)) 0) → get_or h (row_in (get_or ws i 0)) 0 < mark_bit + length ws
        by (empty z e) = absurd (omega arith)
        by (start b t e) = t

    pub at_link : (n : ℕ) → n ≡ head_of (length ws) (get_or h (row_in (get_or ws i 0)) 0) → n ≤ length ws
    at_link n e = rw e (mark_head (omega (arith, go.size)) (go.marks (row_in (get_or ws i 0)) at_row)).1

    pub at_weight : (n v : ℕ) → n ≡ head_of (length ws) (get_or h (row_in (get_or ws i 0)) 0) → v ≡ weight_from ws n → v ≤ length ws
    at_weight n v e f =
        let a : i < n = rw e (mark_head (omega (arith, go.size)) (go.marks (row_in (get_or ws i 0)) at_row)).0 in
        omega (arith, weight_chain i ws go.weighs n a, chain_length ws n)

  pub linking_next : (i : ℕ) (ws h : List ℕ) → 0 < i → i < length ws₀ → length ws₀ < max_links → Linking ws₀ rows i ws h → (n v : ℕ)
      → n ≡ head_of (length ws) (get_or h (row_in (get_or ws i 0)) 0) → v ≡ weight_from ws n
      → Linking ws₀ rows (i - 1) (set ws i (linked_word (get_or ws i 0) n (v + 1))) (set h (row_in (get_or ws i 0)) (mark_bit + i))
  linking_next zero ws h p l m go n v e f = absurd (omega arith)
  linking_next (suc b) ws h p l m go n v e f =
      let q : suc b - 1 ≡ b = omega arith in
      rw q (linking_turn b ws h l m go (get_or ws (suc b) 0) (row_in (get_or ws (suc b) 0)) n v refl refl e f)

-- ---- the end

-- two lists of words with the same rows and columns have the same vectors
cares_ext : (ws vs : List ℕ) (i : ℕ) → length ws ≡ length vs → ((j : ℕ) → care_of (i + j) (get_or ws j 0) ≡ care_of (i + j) (get_or vs j 0)) → cares_from i ws ≡ cares_from i vs
unfolding cares_by
cares_ext [] [] i l h = refl
cares_ext [] (v ∷ vs) i l h = absurd (omega arith)
cares_ext (w ∷ ws) [] i l h = absurd (omega arith)
cares_ext (w ∷ ws) (v ∷ vs) i l h =
    let e : care_of i w ≡ care_of i v = rw add-zero at (h 0) in
    let t : cares_from (suc i) ws ≡ cares_from (suc i) vs = cares_ext ws vs (suc i) (suc_inj l) (λ j. rw (suc-add, ← add-suc) (h (suc j))) in
    cc

cares_same : (ws vs : List ℕ) → length ws ≡ length vs → ((j : ℕ) → care_of j (get_or ws j 0) ≡ care_of j (get_or vs j 0)) → cares_in ws ≡ cares_in vs
unfolding cares_in
cares_same ws vs l h =
    cares_ext (drop 1 ws) (drop 1 vs) 1 (simp length-drop (omega arith)) (λ j. rw (get_or-drop 1 ws j 0, get_or-drop 1 vs j 0) (h (1 + j)))

pub linking_end : (ws₀ : List ℕ) (rows b : ℕ) (ws h : List ℕ) → Packed ws₀ rows → b ≤ 0 → Linking ws₀ rows b ws h → LinkedIs ws₀ ws h
unfolding rest cares_in
linking_end ws₀ rows b ws h p z go' =
    let e : b ≡ 0 = omega arith in
    let go : Linking ws₀ rows 0 ws h = rw e at go' in
    let q : cares_in ws ≡ cares_in ws₀ = cares_same ws ws₀ go.size go.cares in
    record {
      back = unlinked_is ws₀ ws rows p go.size (go.low 0 (omega arith)) go.cares;
      rises = go.rises;
      weighs = go.weighs;
      cares = q;
      marked = λ r l. rw q (go.marks r (omega (arith, go.all_rows)));
    }
