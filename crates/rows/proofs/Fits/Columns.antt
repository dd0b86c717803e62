-- First fit goes by the columns alone, and of a row and more vectors part by part. Assumes nothing.
use Prim.Native.Nat.{ℕ, zero, suc, ◌+◌, ◌≤◌, ◌<◌, max}
use native.Mathlib.Omega.{arith}
use mathlib.Core.Path.{◌≡◌, refl, sym, ap, ap₂, ◌∙◌}
use mathlib.Core.Bool.{Bool, true, false, ◌&&◌}
use mathlib.Core.List.{List, [], ◌∷◌, ◌++◌, map}
use lib.Dec.{ltb}
use lib.ListN.{length, set}
use borrow.Author.Tests.{lt-ltb}
use Rattle.lists.specs.Members.{All}
use Rattle.lists.proofs.Entries.Members.{all_map}
use Rattle.lists.proofs.Tests.{and_assoc}
use Rattle.rows.specs.Care.{Care, in_row}
use Rattle.rows.specs.Fit.{cell_of, is_free, inside, clear, free_from, reach, needed, fit_from, first_fit, put, None}
use Rattle.rows.specs.Demand.{Columns}
use Rattle.rows.proofs.Fits.First.{step_out, step_here, step_on}
use Rattle.rows.proofs.Fits.Needed.{free_same}
use Rattle.rows.proofs.Fits.Cells.{all_row}

-- ---- vectors changed, but for their columns

module _ (f : Care → Care) (same : (c : Care) → (f c).column ≡ c.column) where
  same_inside : (cells d : ℕ) (m : List Care) → inside cells d (map f m) ≡ inside cells d m
  unfolding inside
  same_inside cells d [] = refl
  same_inside cells d (c ∷ m) = ap₂ (λ (n : ℕ) (b : Bool). ltb (n + d) cells && b) (same c) (same_inside cells d m)

  same_clear : (g : List ℕ) (d : ℕ) (m : List Care) → clear g d (map f m) ≡ clear g d m
  unfolding clear
  same_clear g d [] = refl
  same_clear g d (c ∷ m) = ap₂ (λ (n : ℕ) (b : Bool). is_free g (n + d) && b) (same c) (same_clear g d m)

  same_reach : (d : ℕ) (m : List Care) → reach d (map f m) ≡ reach d m
  unfolding reach
  same_reach d [] = refl
  same_reach d (c ∷ m) = ap₂ (λ (n r : ℕ). max (suc (n + d)) r) (same c) (same_reach d m)

  same_needed : (g : List ℕ) (m : List Care) → needed g (map f m) ≡ needed g m
  unfolding needed
  same_needed g m =
      same_reach (free_from (length g) 0 g (map f m)) m
      ∙ ap (λ (d : ℕ). reach d m) (free_same g g (map f m) m (λ d. same_clear g d m) (length g) 0)

  same_from : (n d : ℕ) (g : List ℕ) (m : List Care) → fit_from n d g (map f m) ≡ fit_from n d g m
  unfolding fit_from
  same_from zero d g m = ap (None d) (same_needed g m)
  same_from (suc n) d g m = go (inside (length g) d m) refl (clear g d m) refl (same_from n (suc d) g m)
    where
      go : (a : Bool) → inside (length g) d m ≡ a → (b : Bool) → clear g d m ≡ b → fit_from n (suc d) g (map f m) ≡ fit_from n (suc d) g m
          → fit_from (suc n) d g (map f m) ≡ fit_from (suc n) d g m
      go false e b q i = step_out g (map f m) n d (same_inside (length g) d m ∙ e) ∙ ap (None d) (same_needed g m) ∙ sym (step_out g m n d e)
      go true e true q i =
          step_here g (map f m) n d (same_inside (length g) d m ∙ e) (same_clear g d m ∙ q) ∙ sym (step_here g m n d e q)
      go true e false q i =
          step_on g (map f m) n d (same_inside (length g) d m ∙ e) (same_clear g d m ∙ q) ∙ i ∙ sym (step_on g m n d e q)

  -- the first fit is the same
  pub same_fit : (g : List ℕ) (m : List Care) → first_fit g (map f m) ≡ first_fit g m
  unfolding first_fit
  same_fit g m = same_from (suc (length g)) 0 g m

-- ---- part by part

pub inside_joined : (cells d : ℕ) (a b : List Care) → inside cells d (a ++ b) ≡ (inside cells d a && inside cells d b)
unfolding inside
inside_joined cells d [] b = refl
inside_joined cells d (c ∷ a) b =
    ap (λ (t : Bool). ltb (cell_of c d) cells && t) (inside_joined cells d a b) ∙ and_assoc (ltb (cell_of c d) cells) (inside cells d a) (inside cells d b)

pub put_joined : (d : ℕ) (a b : List Care) (g : List ℕ) → put g d (a ++ b) ≡ put (put g d a) d b
unfolding put
put_joined d [] b g = refl
put_joined d (c ∷ a) b g = put_joined d a b (set g (cell_of c d) c.index)

-- each cell is below the number of cells
pub inside_all : (cells d : ℕ) (m : List Care) → All (λ c. cell_of c d < cells) m → inside cells d m ≡ true
unfolding inside
inside_all cells d [] a = refl
inside_all cells d (c ∷ m) a = rw (lt-ltb (cell_of c d) cells a.0) (inside_all cells d m a.1)

columns_all : (columns : ℕ) (cs : List Care) → Columns columns cs → All (λ c. c.column < columns) cs
columns_all columns [] q = tt
columns_all columns (c ∷ cs) q = (q.0, columns_all columns cs q.1)

-- it is, with so many cells behind the displacement as there are columns
pub row_inside : (columns cells d : ℕ) → d + columns ≤ cells → (r : ℕ) (cs : List Care) → Columns columns cs → inside cells d (in_row r cs) ≡ true
row_inside columns cells d l r cs q =
    inside_all cells d (in_row r cs)
    (all_map (λ c. c.column < columns) (λ c. cell_of c d < cells) (λ c h. omega arith) (in_row r cs) (all_row (λ c. c.column < columns) r cs (columns_all columns cs q)))
