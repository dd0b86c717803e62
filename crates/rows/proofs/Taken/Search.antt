-- The search for a displacement, a block of 64 at a time. Assumes nothing.
use Prim.Native.Nat.{ℕ, ◌+◌, ◌-◌, ◌^◌, max, ◌≤◌, ◌<◌}
use native.Mathlib.Omega.{arith}
use mathlib.Core.Path.{◌≡◌, ap, ◌∙◌}
use mathlib.Core.Bool.{true}
use mathlib.Core.List.{List, [], ◌∷◌}
use mathlib.Core.Logic.{◌⊎◌, inl, inr, ⊎_elim}
use lib.Count.{count_trailing_zeros}
use lib.ListN.{length}
use borrow.Author.Tests.{lt-ltb, le-ltb}
use Rattle.lists.proofs.Tests.{le_or_lt}
use Rattle.vectors.specs.Bits.{bit}
use Rattle.rows.specs.Care.{Care}
use Rattle.rows.specs.Fit.{inside, clear, reach, first_fit, At, None}
use Rattle.rows.specs.Inner.Chains.{top_from, top_of, fit_at}
use Rattle.rows.specs.Inner.Taken.{taken_cells, Taken, shut_row}
use Rattle.rows.proofs.Fits.First.{fits_out, fits_shut, fit_none_is}
use Rattle.rows.proofs.Fits.Needed.{Shut, FirstFree, clear_past, needed_is, fit_enough}
use Rattle.rows.proofs.Chains.Walks.{inside_yes, inside_no}
use Rattle.rows.proofs.Taken.Words.{first_open, all_shut}
use Rattle.rows.proofs.Taken.Bits.{row_open, row_shut}

-- ---- the largest column says how far a row reaches

reach_from : (d t : ℕ) (m : List Care) → max (t + d + 1) (reach d m) ≡ top_from t m + d + 1
unfolding reach top_from
reach_from d t [] = omega arith
reach_from d t (c ∷ m) = omega (arith, reach_from d (max t c.column) m)

reach_top : (d : ℕ) (m : List Care) → 0 < length m → reach d m ≡ top_of m + d + 1
unfolding reach top_from
reach_top d [] p = absurd (omega arith)
reach_top d (c ∷ m) p = omega (arith, reach_from d (max 0 c.column) m)

-- ---- d is the smallest displacement at which the cells of a row with the largest column c are free

module _ (g : List ℕ) (m : List Care) (c d : ℕ) (p : 0 < length m) (top : c ≡ top_of m) (f : FirstFree g m d) where
  reaches : reach d m ≡ c + d + 1
  reaches = rw top (reach_top d m p)

  pub first_at : first_fit g m ≡ fit_at c d (length g)
  unfolding fit_at
  first_at = go (le_or_lt (length g) (c + d))
    where
      go : (length g ≤ c + d) ⊎ (c + d < length g) → first_fit g m ≡ fit_at c d (length g)
      go (inr l) = rw (lt-ltb (c + d) (length g) l, fit_at) (fit_enough g m d f p (omega (arith, reaches)))
      go (inl l) =
          rw (le-ltb (c + d) (length g) l, fit_at)
          (fit_none_is g m (length g - c) p
          (record {
            never = λ u. ⊎_elim (λ q. fits_out g u m (inside_no (length g) u c m p top (omega arith))) (λ q. fits_shut g u m (f.before u q)) (le_or_lt d u);
            within = λ u q. inside_yes (length g) u c m p top (omega arith);
            beyond = λ u q. inside_no (length g) u c m p top (omega arith);
          })
          ∙ ap (None (length g - c)) (needed_is g m d f ∙ reaches))

-- the cases of the code
pub fit_in : (c d cells : ℕ) → c + d < cells → At d ≡ fit_at c d cells
unfolding fit_at
fit_in c d cells l = rw (lt-ltb (c + d) cells l, fit_at)

pub fit_out : (c d cells : ℕ) → cells ≤ c + d → None (cells - c) (c + d + 1) ≡ fit_at c d cells
unfolding fit_at
fit_out c d cells l = rw (le-ltb (c + d) cells l, fit_at)

-- past the cells all are free
pub past_first : (g : List ℕ) (m : List Care) (d : ℕ) → length g ≤ d → Shut g m d → FirstFree g m d
past_first g m d l s = record { free = clear_past g d m l; before = s }

-- ---- the block from d on: bit t of x says that the row has no room at d + t

module _ (g taken : List ℕ) (bits : Taken g taken) (m : List Care) (d : ℕ) (h : inside taken_cells d m ≡ true) (shut : Shut g m d) (x : ℕ) (x< : x < 2 ^ 64)
    (is : (t : ℕ) → t < 64 → bit x t ≡ shut_row taken (d + t) m) where
  through : (n : ℕ) → n ≤ 64 → ((t : ℕ) → t < n → bit x t ≡ 1) → Shut g m (d + n)
  through n l b e k =
      ⊎_elim
      (λ q.
      let s : e ≡ d + (e - d) = omega arith in
      ap (λ (u : ℕ). clear g u m) s ∙ row_shut g taken bits d (e - d) (omega arith) m h x (is (e - d) (omega arith)) (b (e - d) (omega arith)))
      (λ q. shut e q)
      (le_or_lt d e)

  -- the first 0 is the smallest displacement that has room, past the cells or not
  module _ (some : 2 ^ 64 - 1 - x ≡ 0 → ⊥) where
    pub block_low : count_trailing_zeros 64 (2 ^ 64 - 1 - x) < 64
    block_low = (first_open x x<).found (omega (arith, some))

    pub block_first : FirstFree g m (d + count_trailing_zeros 64 (2 ^ 64 - 1 - x))
    block_first =
        let n = count_trailing_zeros 64 (2 ^ 64 - 1 - x) in
        let l = block_low in
        record {
          free = row_open g taken bits d n l m h x (is n l) ((first_open x x<).here l);
          before = through n (omega arith) (first_open x x<).before;
        }

  -- there is no 0
  pub block_none : 2 ^ 64 - 1 - x ≡ 0 → Shut g m (d + 64)
  block_none e = through 64 (omega arith) (λ t l. all_shut x t x< e l)
