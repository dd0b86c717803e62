-- What a placing leaves is small: displacements below L, indices of vectors, and at most L tries for each row. Assumes nothing.
use Prim.Native.Nat.{ℕ, zero, suc, ◌+◌, ◌*◌, ◌^◌, ◌≤◌, ◌<◌}
use native.Mathlib.Omega.{arith}
use mathlib.Core.Path.{◌≡◌, ◌∙◌}
use mathlib.Core.List.{List, [], ◌∷◌}
use lib.ListN.{length, set, replicate, length-set}
use Rattle.lists.specs.Members.{All}
use Rattle.vectors.specs.Bounds.{max_cells}
use Rattle.rows.specs.Care.{Care, cares_by, in_row, weight_of, open_weight}
use Rattle.rows.specs.Fit.{cell_of, put}
use Rattle.rows.specs.Place.{State, place_row, place}
use Rattle.rows.proofs.Fits.First.{fit_low}
use Rattle.rows.proofs.Fits.Cells.{all_row, put_length}
use Rattle.rows.proofs.Placing.Open.{open_weight_lem, count_of, count_all, open_less}
use Rattle.rows.proofs.Placing.Turns.{Next, at_end}

-- of a number that two bytes hold
abbrev pub Half : ℕ → Type 0
Half x = x < 2 ^ 16

-- ---- words written

all_set : (l : List ℕ) (i x : ℕ) → Half x → All Half l → All Half (set l i x)
all_set [] i x h a = tt
all_set (y ∷ l) zero x h a = (h, a.1)
all_set (y ∷ l) (suc i) x h a = (a.0, all_set l i x h a.1)

all_blank : (n : ℕ) → All Half (replicate n 0)
all_blank zero = tt
all_blank (suc n) = (omega arith, all_blank n)

all_put : (m : List Care) (g : List ℕ) (d : ℕ) → All (λ c. Half c.index) m → All Half g → All Half (put g d m)
unfolding put
all_put [] g d i a = a
all_put (c ∷ m) g d i a = all_put m (set g (cell_of c d) c.index) d i.1 (all_set g (cell_of c d) c.index i.0 a)

-- entries numbered from i on have small numbers where the last is small
pub cares_low : (row column : ℕ → ℕ) (i : ℕ) (xs : List ℕ) → i + length xs ≤ 2 ^ 16 → All (λ c. Half c.index) (cares_by row column i xs)
unfolding cares_by
cares_low row column i [] h = tt
cares_low row column i (x ∷ xs) h = (omega arith, cares_low row column (suc i) xs (omega arith))

-- ---- the placing

module _ (cs : List Care) (indices : All (λ c. Half c.index) cs) (rows cells : ℕ) (few : cells ≤ max_cells) where
  -- after some turns: each has taken one of the rows that were left
  record Small (s : State) : Type 0 where
    pub displacements : All Half s.h
    pub words : All Half s.g
    pub size : length s.g ≡ cells
    pub turns : length s.order + count_of (open_weight cs s.order) (length s.h) ≤ rows
    pub tries : s.tries ≤ max_cells * length s.order

  -- the row in its turn is not empty
  some : (s : State) (r : ℕ) → Next cs s r → 0 < length (in_row r cs)
  unfolding weight_of
  some s r n = omega (arith, open_weight_lem cs s.order r n.weighs, n.weighs)

  small_turn : (s : State) (r d : ℕ) → Next cs s r → d < length s.g → Small s → Small (place_row cs s r d)
  small_turn s r d n l p =
      let o = open_less cs s.order r (length s.h) n.weighs n.row_in in
      record {
        displacements = all_set s.h r d (omega (arith, p.size)) p.displacements;
        words = all_put (in_row r cs) s.g d (all_row _ r cs indices) p.words;
        size = put_length s.g d (in_row r cs) ∙ p.size;
        turns = rw (length-set s.h r d) (omega (arith, o, p.turns));
        tries = omega (arith, l, p.size, p.tries);
      }

  placed_small : (h g : List ℕ) → length h ≡ rows → length g ≡ cells → All Half h → All Half g → Small (place cs h g).state
  placed_small h g a b i j =
      at_end cs Small (λ s r d n f. small_turn s r d n (fit_low s.g (in_row r cs) d (some s r n) f)) h g
      (record { displacements = i; words = j; size = b; turns = omega (arith, count_all (open_weight cs []) (length h)); tries = omega arith })

-- what is left
pub record Placed (s : State) (rows : ℕ) : Type 0 where
  pub displacements : All Half s.h
  pub words : All Half s.g
  pub tries : s.tries ≤ max_cells * rows

pub placed_low : (cs : List Care) (rows cells : ℕ) → All (λ c. Half c.index) cs → cells ≤ max_cells → length (replicate {A = ℕ} rows 0) ≡ rows
    → length (replicate {A = ℕ} cells 0) ≡ cells → Placed (place cs (replicate rows 0) (replicate cells 0)).state rows
placed_low cs rows cells i few a b =
    let p = placed_small cs i rows cells few (replicate rows 0) (replicate cells 0) a b (all_blank rows) (all_blank cells) in
    record { displacements = p.displacements; words = p.words; tries = omega (arith, p.tries, p.turns) }
