-- The way back: the cells of the rows that are placed emptied again. Assumes nothing.
use Prim.Native.Nat.{ℕ, ◌+◌, ◌≤◌, ◌<◌}
use native.Mathlib.Numerals.{add-one}
use native.Mathlib.Omega.{arith}
use mathlib.Core.Path.{◌≡◌, refl, sym, ap, ◌∙◌}
use mathlib.Core.Bool.{Bool, true, false}
use mathlib.Core.List.{List, [], ◌∷◌}
use mathlib.Core.Logic.{◌⊎◌, inl, inr, ⊎_elim}
use lib.Dec.{eqb, leb}
use lib.ListN.{length, get_or, set, drop, length-set, drop_of_length-le}
use lib.Seq.{get_or-set_same, get_or-set_other, ext_get_or, drop-cons}
use borrow.Author.Tests.{eqb-true, eqb-false, leb-true, leb-false, le-leb, lt-leb}
use Rattle.lists.specs.Members.{In, All}
use Rattle.rows.specs.Care.{Care, cares_by}
use Rattle.rows.specs.Answer.{column_in, care_of, cares_from, cares_in, row_in}
use Rattle.rows.specs.Inner.Chains.{emptied, undone, Within, mark_bit}

-- ---- what is left when every cell is emptied that a vector leads to

-- a vector of m leads to the cell e
pub record Leads (h : List ℕ) (m : List Care) (e : ℕ) : Type 0 where
  pub care : Care
  pub listed : In care m
  pub placed : get_or h care.row 0 ≤ mark_bit
  pub there : care.column + get_or h care.row 0 ≡ e

-- the cell that a vector leads to is free in g₀
abbrev pub Free : List ℕ → List ℕ → Care → Type 0
Free h g₀ c = get_or h c.row 0 ≤ mark_bit → get_or g₀ (c.column + get_or h c.row 0) 0 ≡ 0

-- a cell has the word that it has in g₀, or one of those left leads there
pub record Undoing (h g₀ : List ℕ) (m : List Care) (g : List ℕ) : Type 0 where
  pub size : length g ≡ length g₀
  pub each : (e : ℕ) → e < length g₀ → (get_or g e 0 ≡ get_or g₀ e 0) ⊎ Leads h m e

module _ (h g₀ : List ℕ) where
  leads_on : {c : Care} {m : List Care} {e : ℕ} → ((get_or h c.row 0 ≤ mark_bit) → c.column + get_or h c.row 0 ≡ e → ⊥) → Leads h (c ∷ m) e → Leads h m e
  leads_on n l =
      record {
        care = l.care;
        listed =
            ⊎_elim
            (λ q. absurd (n (rw q at l.placed) (ap (λ (x : Care). x.column + get_or h x.row 0) (sym q) ∙ l.there)))
            (λ i. i)
            l.listed;
        placed = l.placed;
        there = l.there;
      }

  undoing_turn : (c : Care) (m : List Care) (g : List ℕ) → Free h g₀ c → Undoing h g₀ (c ∷ m) g → Undoing h g₀ m (emptied h c g)
  undoing_turn c m g free u = go (leb (get_or h c.row 0) mark_bit) refl
    where
      cell : ℕ
      cell = c.column + get_or h c.row 0

      by : get_or h c.row 0 ≤ mark_bit → (e : ℕ) → e < length g₀ → (t : Bool) → eqb e cell ≡ t → (get_or (set g cell 0) e 0 ≡ get_or g₀ e 0) ⊎ Leads h m e
      by p e l true q =
          let k : e ≡ cell = eqb-true e cell q in
          inl (rw k (get_or-set_same g cell 0 0 (omega (arith, u.size)) ∙ sym (free p)))
      by p e l false q =
          let n : e ≡ cell → ⊥ = eqb-false e cell q in
          ⊎_elim (λ k. inl (get_or-set_other g cell e 0 0 n ∙ k)) (λ k. inr (leads_on (λ a b. n (sym b)) k)) (u.each e l)

      go : (t : Bool) → leb (get_or h c.row 0) mark_bit ≡ t → Undoing h g₀ m (emptied h c g)
      go true q =
          rw q
          (record { size = length-set g cell 0 ∙ u.size; each = λ e l. by (leb-true (get_or h c.row 0) mark_bit q) e l (eqb e cell) refl })
      go false q =
          rw q
          (record {
            size = u.size;
            each = λ e l. ⊎_elim (λ k. inl k) (λ k. inr (leads_on (λ a b. omega (arith, leb-false (get_or h c.row 0) mark_bit q)) k)) (u.each e l);
          })

  pub undone_is : (m : List Care) (g : List ℕ) → All (Free h g₀) m → Undoing h g₀ m g → undone h m g ≡ g₀
  unfolding undone
  undone_is [] g a u = ext_get_or 0 g g₀ u.size (λ e l. ⊎_elim (λ k. k) (λ k. absurd k.listed) (u.each e (omega (arith, u.size))))
  undone_is (c ∷ m) g a u = undone_is m (emptied h c g) a.1 (undoing_turn c m g a.0 u)

-- ---- the loop's state: the words from i on are left

pub record Emptying (ws h g₀ g : List ℕ) (i : ℕ) : Type 0 where
  pub size : length g ≡ length g₀
  pub low : 0 < i
  pub within : All (Within h (length g₀)) (cares_from i (drop i ws))
  pub is : undone h (cares_from i (drop i ws)) g ≡ undone h (cares_in ws) g₀

pub emptying_none : (ws h g : List ℕ) → All (Within h (length g)) (cares_in ws) → Emptying ws h g g 1
unfolding cares_in
emptying_none ws h g a = record { size = refl; low = omega arith; within = a; is = refl }

pub emptying_end : (ws h g₀ g : List ℕ) (i : ℕ) → Emptying ws h g₀ g i → length ws ≤ i → g ≡ undone h (cares_in ws) g₀
unfolding undone cares_by
emptying_end ws h g₀ g i u l = rw (drop_of_length-le ws {i = i} l) at u.is

module _ (ws h g₀ g : List ℕ) (i : ℕ) (u : Emptying ws h g₀ g i) (l : i < length ws) where
  here : cares_from i (drop i ws) ≡ care_of i (get_or ws i 0) ∷ cares_from (i + 1) (drop (i + 1) ws)
  unfolding cares_by
  here = rw (drop-cons ws i 0 l, add-one)

  both : Within h (length g₀) (care_of i (get_or ws i 0)) × All (Within h (length g₀)) (cares_from (i + 1) (drop (i + 1) ws))
  both = rw here at u.within

  -- the row of the word i is one of the rows, and where it is placed its cell is one of the cells
  pub emptying_at : Within h (length g) (care_of i (get_or ws i 0))
  emptying_at = rw u.size both.0

  emptying_turn : Emptying ws h g₀ (emptied h (care_of i (get_or ws i 0)) g) (i + 1)
  unfolding undone
  emptying_turn =
      record {
        size = same (leb (get_or h (care_of i (get_or ws i 0)).row 0) mark_bit) refl;
        low = omega arith;
        within = both.1;
        is = rw here at u.is;
      }
    where
      same : (t : Bool) → leb (get_or h (care_of i (get_or ws i 0)).row 0) mark_bit ≡ t → length (emptied h (care_of i (get_or ws i 0)) g) ≡ length g₀
      same true q = rw q (length-set g _ 0 ∙ u.size)
      same false q = rw q u.size

  -- its row is placed: the cell is emptied
  module _ (c : ℕ) (e : c ≡ column_in (get_or ws i 0)) (p : get_or h (row_in (get_or ws i 0)) 0 ≤ mark_bit) where
    pub emptying_cell : c + get_or h (row_in (get_or ws i 0)) 0 < length g
    emptying_cell = rw e (emptying_at.1 p)

    pub emptying_yes : Emptying ws h g₀ (set g (c + get_or h (row_in (get_or ws i 0)) 0) 0) (i + 1)
    emptying_yes = rw e (rw (le-leb (get_or h (row_in (get_or ws i 0)) 0) mark_bit p) at emptying_turn)

  -- its row is not placed
  pub emptying_no : mark_bit < get_or h (row_in (get_or ws i 0)) 0 → Emptying ws h g₀ g (i + 1)
  emptying_no p = rw (lt-leb (get_or h (row_in (get_or ws i 0)) 0) mark_bit p) at emptying_turn
