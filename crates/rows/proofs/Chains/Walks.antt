-- The walks along a row's chain: a turn at the vector j, and the end. Assumes nothing.
use Prim.Native.Nat.{ℕ, zero, suc, ◌+◌, ◌-◌, ◌/◌, ◌%◌, ◌^◌, max, ◌≤◌, ◌<◌}
use native.Mathlib.Nat.{mod-lt, zero-lt-suc}
use native.Mathlib.Omega.{arith}
use mathlib.Core.Path.{◌≡◌, refl, sym, ap, ◌∙◌}
use mathlib.Core.Bool.{Bool, true, false, ◌&&◌}
use mathlib.Core.List.{List, [], ◌∷◌}
use lib.Bits.{bit_or}
use lib.Dec.{ltb}
use lib.ListN.{length, get_or, set}
use borrow.Author.Tests.{ltb-true, ltb-false, lt-ltb, le-ltb}
use Rattle.std.specs.Ordering.{ord_max, nat_cmp}
use Rattle.std.proofs.lemmas.Grind.{common_steps}
use Rattle.lists.proofs.Tests.{and_true, and_unit, and_assoc}
use Rattle.vectors.specs.Bits.{bit}
use Rattle.vectors.specs.Bounds.{max_rows}
use Rattle.vectors.proofs.Bits.Sets.{bit_or_lem}
use Rattle.rows.specs.Care.{Care}
use Rattle.rows.specs.Fit.{inside, put}
use Rattle.rows.specs.Answer.{column_in, row_in}
use Rattle.rows.specs.Inner.Chains.{next_in, chain_in, chain, chain_of, Rises, top_from, top_of}
use Rattle.rows.specs.Inner.Taken.{bit_in, shut_row}
use Rattle.rows.proofs.Chains.Steps.{chain_end, chain_step}
use Rattle.rows.proofs.Taken.Words.{ones_bit}

-- what `max` answers
pub larger : (a b : ℕ) → ord_max nat_cmp a b ≡ max a b
larger a b = grind (arith, common_steps)

max_assoc : (a b r : ℕ) → max (max a b) r ≡ max a (max b r)
max_assoc a b r = omega arith

shut_low : (taken : List ℕ) (d : ℕ) (m : List Care) → shut_row taken d m ≤ 1
unfolding shut_row
shut_low taken d [] = omega arith
shut_low taken d (c ∷ m) = omega (arith, shut_low taken d m, mod-lt (get_or taken ((c.column + d) / 64) 0 / 2 ^ ((c.column + d) % 64)) (zero-lt-suc 1))

-- at the vector j, whose word has the column c and the next n
module _ (ws : List ℕ) (rises : Rises 0 ws) (j : ℕ) (p : 0 < j) (l : j < length ws) (c n : ℕ) (ec : c ≡ column_in (get_or ws j 0)) (en : n ≡ next_in (get_or ws j 0)) where
  here : Care
  here = record { index = j; row = row_in (get_or ws j 0); column = c }

  step : chain ws j ≡ here ∷ chain ws n
  unfolding here
  step = rw (ec, en) (chain_step 0 ws rises j p l)

  -- the next is a later vector
  pub next_rises : j < n
  next_rises = rw en (rises j p l)

  -- the largest column is this one or another
  pub top_on : (t : ℕ) → top_from t (chain ws j) ≡ top_from (max t c) (chain ws n)
  unfolding top_from here
  top_on t = rw step

  -- the cell is below the number of cells, and so are those from the next on
  pub inside_on : (cells d : ℕ) → inside cells d (chain ws j) ≡ true → (c + d < cells) × (inside cells d (chain ws n) ≡ true)
  unfolding inside here
  inside_on cells d h =
      let q = and_true (ltb (c + d) cells) (inside cells d (chain ws n)) (rw step at h) in
      (ltb-true (c + d) cells q.0, q.1)

  -- the column's cell and those from the next on
  shut_on : (taken : List ℕ) (d : ℕ) → shut_row taken d (chain ws j) ≡ max (bit_in taken (c + d)) (shut_row taken d (chain ws n))
  unfolding shut_row here
  shut_on taken d = rw step

  -- the window w of the column's cells is added to x
  pub shut_more : (taken : List ℕ) (d x w s t : ℕ) → bit w t ≡ bit_in taken (c + d + t) → max (bit x t) (shut_row taken (d + t) (chain ws j)) ≡ s
      → max (bit (bit_or x w) t) (shut_row taken (d + t) (chain ws n)) ≡ s
  shut_more taken d x w s t e h =
      let q : c + d + t ≡ c + (d + t) = omega arith in
      ap (λ (y : ℕ). max y (shut_row taken (d + t) (chain ws n))) (bit_or_lem x w t ∙ ap (max (bit x t)) (e ∙ ap (bit_in taken) q))
      ∙ max_assoc (bit x t) (bit_in taken (c + (d + t))) (shut_row taken (d + t) (chain ws n))
      ∙ ap (max (bit x t)) (sym (shut_on taken (d + t))) ∙ h

  -- and leaves no displacement
  pub shut_all : (taken : List ℕ) (d x w s t : ℕ) → t < 64 → bit_or x w ≡ 2 ^ 64 - 1 → bit w t ≡ bit_in taken (c + d + t)
      → max (bit x t) (shut_row taken (d + t) (chain ws j)) ≡ s → bit (bit_or x w) t ≡ s
  shut_all taken d x w s t l o e h =
      let q : bit (bit_or x w) t ≡ 1 = ap (λ (y : ℕ). bit y t) o ∙ ones_bit t l in
      omega (arith, shut_more taken d x w s t e h, shut_low taken (d + t) (chain ws n))

  -- the cell is written
  pub put_on : (owner d : ℕ) (g : List ℕ) → put g d (chain_of owner ws j) ≡ put (set g (c + d) (owner + j)) d (chain_of owner ws n)
  unfolding put here
  put_on owner d g = rw step

-- the chain at a vector is not empty
pub chain_pos : (ws : List ℕ) → Rises 0 ws → (j : ℕ) → 0 < j → j < length ws → 0 < length (chain ws j)
chain_pos ws rises j p l = rw (chain_step 0 ws rises j p l) (omega arith)

module _ (ws : List ℕ) (j : ℕ) (l : length ws ≤ j) where
  pub top_end : (t : ℕ) → top_from t (chain ws j) ≡ t
  unfolding top_from
  top_end t = rw (chain_end ws j l)

  pub shut_end : (taken : List ℕ) (d x s : ℕ) → max x (shut_row taken d (chain ws j)) ≡ s → x ≡ s
  unfolding shut_row
  shut_end taken d x s h = let e : shut_row taken d (chain ws j) ≡ 0 = rw (chain_end ws j l) in omega arith

  pub put_end : (owner d : ℕ) (g : List ℕ) → put g d (chain_of owner ws j) ≡ g
  unfolding put
  put_end owner d g = rw (chain_end ws j l)

-- ---- the largest column says whether a row is inside

both_below : (cells d a b : ℕ) → (ltb (a + d) cells && ltb (b + d) cells) ≡ ltb (max a b + d) cells
both_below cells d a b = go (ltb (a + d) cells) refl (ltb (b + d) cells) refl
  where
    go : (s : Bool) → ltb (a + d) cells ≡ s → (t : Bool) → ltb (b + d) cells ≡ t → (s && t) ≡ ltb (max a b + d) cells
    go false e t f = let q : cells ≤ max a b + d = omega (arith, ltb-false (a + d) cells e) in sym (le-ltb (max a b + d) cells q)
    go true e false f = let q : cells ≤ max a b + d = omega (arith, ltb-false (b + d) cells f) in sym (le-ltb (max a b + d) cells q)
    go true e true f =
        let q : max a b + d < cells = omega (arith, ltb-true (a + d) cells e, ltb-true (b + d) cells f) in sym (lt-ltb (max a b + d) cells q)

top_inside : (cells d t : ℕ) (m : List Care) → (ltb (t + d) cells && inside cells d m) ≡ ltb (top_from t m + d) cells
unfolding top_from inside
top_inside cells d t [] = and_unit (ltb (t + d) cells)
top_inside cells d t (c ∷ m) =
    and_assoc (ltb (t + d) cells) (ltb (c.column + d) cells) (inside cells d m)
    ∙ ap (λ (u : Bool). u && inside cells d m) (both_below cells d t c.column)
    ∙ top_inside cells d (max t c.column) m

-- an occupied row is inside where its largest column is
inside_top : (cells d : ℕ) (m : List Care) → 0 < length m → inside cells d m ≡ ltb (top_of m + d) cells
unfolding top_from inside
inside_top cells d [] l = absurd (omega arith)
inside_top cells d (c ∷ m) l =
    let e : max 0 c.column ≡ c.column = omega arith in
    top_inside cells d c.column m ∙ ap (λ (t : ℕ). ltb (top_from t m + d) cells) (sym e)

module _ (cells d t : ℕ) (m : List Care) (p : 0 < length m) (e : t ≡ top_of m) where
  pub inside_yes : t + d < cells → inside cells d m ≡ true
  inside_yes l = inside_top cells d m p ∙ rw (← e) (lt-ltb (t + d) cells l)

  pub inside_no : cells ≤ t + d → inside cells d m ≡ false
  inside_no l = inside_top cells d m p ∙ rw (← e) (le-ltb (t + d) cells l)

-- each column is below the number of rows
top_low_in : (f : ℕ) (ws : List ℕ) (j t : ℕ) → t < max_rows → top_from t (chain_in f ws j) < max_rows
unfolding top_from chain_in
top_low_in zero ws j t l = l
top_low_in (suc f) ws j t l = go (ltb j (length ws)) refl (λ u. top_low_in f ws (next_in (get_or ws j 0)) u)
  where
    go : (b : Bool) → ltb j (length ws) ≡ b → ((u : ℕ) → u < max_rows → top_from u (chain_in f ws (next_in (get_or ws j 0))) < max_rows) → top_from t (chain_in (suc f) ws j) < max_rows
    go true q i = rw (q, chain_in) (i (max t (column_in (get_or ws j 0))) (omega arith))
    go false q i = rw (q, chain_in) l

pub top_low : (ws : List ℕ) (j t : ℕ) → t ≡ top_of (chain ws j) → t < max_rows
unfolding chain
top_low ws j t e = rw e (top_low_in (length ws) ws j 0 (omega arith))
