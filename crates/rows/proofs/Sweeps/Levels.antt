-- The rows placed by sweeps: a sweep in rising order places the rows whose weight is the level, and the greatest weight below it is the level of the next. Assumes nothing.
use Prim.Native.Nat.{ℕ, zero, suc, ◌+◌, ◌-◌, ◌≤◌, ◌<◌}
use native.Mathlib.Nat.{eq-or-lt_of_le, suc_inj, eq-zero-or-pos}
use native.Mathlib.Numerals.{add-one}
use native.Mathlib.Omega.{arith}
use mathlib.Core.Path.{◌≡◌, refl, sym, ap, ◌∙◌}
use mathlib.Core.List.{List, [], ◌∷◌}
use mathlib.Core.Logic.{⊎_elim}
use lib.ListN.{length, length-set}
use Rattle.lists.specs.First.{has}
use Rattle.lists.proofs.Tests.{le_or_lt}
use Rattle.lists.proofs.Finding.Has.{has_self}
use Rattle.rows.specs.Care.{Care, in_row, open_weight, heaviest}
use Rattle.rows.specs.Fit.{first_fit, At, None}
use Rattle.rows.specs.Place.{State, Placing, place_row, place_in, place}
use Rattle.rows.specs.End.{All, NoFit}
use Rattle.rows.proofs.Placing.Heaviest.{is_heaviest}
use Rattle.rows.proofs.Placing.Open.{count_of, count_all, open_is, open_more, open_shut, open_less}
use Rattle.rows.proofs.Placing.Turns.{next, Next, is_next, place_none, place_stuck, place_more}
use Rattle.rows.proofs.Placing.Spreads.{weight_le}

-- ---- the heaviest row by what it is

module _ (weight : ℕ → ℕ) (n : ℕ) where
  -- a row with a weight that none exceeds and no lower row has is the heaviest
  heaviest_is : (r : ℕ) → r < n → 0 < weight r → ((i : ℕ) → i < n → weight i ≤ weight r) → ((i : ℕ) → i < r → weight i < weight r)
      → ((heaviest weight n).row ≡ r) × (0 < (heaviest weight n).weight)
  heaviest_is r l p most lowest =
      let h = is_heaviest weight n in
      let b = heaviest weight n in
      let q : 0 < b.weight = omega (arith, h.most r l) in
      let w : weight b.row ≡ b.weight = h.weighs q in
      let up : b.row ≤ r = ⊎_elim (λ m. m) (λ m. absurd (omega (arith, h.lowest r m, most b.row (h.row_in q)))) (le_or_lt b.row r) in
      (⊎_elim (λ e. e) (λ m. absurd (omega (arith, lowest b.row m, h.most r l))) (eq-or-lt_of_le up), q)

  -- where no row has a weight
  heaviest_none : ((i : ℕ) → i < n → weight i ≤ 0) → (heaviest weight n).weight ≡ 0
  heaviest_none z =
      let h = is_heaviest weight n in
      ⊎_elim (λ e. e) (λ q. absurd (omega (arith, h.weighs q, z (heaviest weight n).row (h.row_in q)))) (eq-zero-or-pos (heaviest weight n).weight)

-- ---- a sweep

-- at the row i of a sweep for the level: no row left weighs more, and the rows passed weigh at most below
pub record Sweep (cs : List Care) (P : Placing) (s : State) (level below i : ℕ) : Type 0 where
  pub left : ℕ
  pub same : place_in left cs s ≡ P
  pub enough : count_of (open_weight cs s.order) (length s.h) ≤ left
  pub most : (r : ℕ) → r < length s.h → open_weight cs s.order r ≤ level
  pub passed : (r : ℕ) → r < i → r < length s.h → open_weight cs s.order r ≤ below
  pub under : 0 < level → below < level

module _ (cs : List Care) (h g : List ℕ) where
  -- at the start, where the level is the number of the vectors
  pub sweep_start : (level : ℕ) → length cs ≤ level → Sweep cs (place cs h g) (record { h = h; g = g; tries = 0; order = [] }) level 0 0
  unfolding place has
  sweep_start level m =
      record {
        left = length h;
        same = refl;
        enough = count_all (open_weight cs []) (length h);
        most = λ r l. omega (arith, open_is cs [] r refl, weight_le cs r);
        passed = λ r l. absurd (omega arith);
        under = λ l. l;
      }

module _ (cs : List Care) (P : Placing) (s : State) (level below : ℕ) where
  -- no level is left
  pub sweep_end : (i : ℕ) → level ≤ 0 → Sweep cs P s level below i → P ≡ record { end = All; state = s }
  unfolding place_in
  sweep_end i l w = sym w.same ∙ go w.left
    where
      go : (f : ℕ) → place_in f cs s ≡ record { end = All; state = s }
      go zero = refl
      go (suc f) = place_none f cs s (heaviest_none (open_weight cs s.order) (length s.h) (λ r m. omega (arith, w.most r m)))

  module _ (i : ℕ) (w : Sweep cs P s level below i) where
    -- a row of another weight is passed
    pub sweep_pass : (b : ℕ) → below ≤ b → open_weight cs s.order i ≤ b → (0 < level → b < level) → Sweep cs P s level b (i + 1)
    sweep_pass b m o u =
        record {
          left = w.left;
          same = w.same;
          enough = w.enough;
          most = w.most;
          passed = λ r l k. ⊎_elim (λ e. let q : r ≡ i = suc_inj (e ∙ add-one i) in rw q o) (λ q. omega (arith, w.passed r (omega arith) k)) (eq-or-lt_of_le l);
          under = u;
        }

    module _ (l : i < length s.h) (p : 0 < level) (e : open_weight cs s.order i ≡ level) where
      turn : ((next cs s).row ≡ i) × (0 < (next cs s).weight)
      turn =
          heaviest_is (open_weight cs s.order) (length s.h) i l (omega arith)
          (λ r m. omega (arith, w.most r m))
          (λ r m. omega (arith, w.passed r m (omega arith), w.under p))

      -- a row of the level is the next
      pub sweep_turn : Next cs s i
      sweep_turn = is_next cs s i turn.0 turn.1

      fewer : count_of (open_weight cs (i ∷ s.order)) (length s.h) < count_of (open_weight cs s.order) (length s.h)
      fewer = open_less cs s.order i (length s.h) (omega arith) l

      some : w.left ≡ suc (w.left - 1)
      some = omega (arith, fewer, w.enough)

      -- a row of the level has no displacement
      pub sweep_stuck : (tried cells : ℕ) → first_fit s.g (in_row i cs) ≡ None tried cells → P ≡ record { end = NoFit i tried cells; state = s }
      sweep_stuck tried cells q = sym w.same ∙ ap (λ (f : ℕ). place_in f cs s) some ∙ place_stuck (w.left - 1) cs s i turn.0 turn.1 tried cells q

      -- a row of the level is placed
      pub sweep_more : (d : ℕ) → first_fit s.g (in_row i cs) ≡ At d → Sweep cs P (place_row cs s i d) level below (i + 1)
      sweep_more d q =
          record {
            left = w.left - 1;
            same = sym (place_more (w.left - 1) cs s i turn.0 turn.1 d q) ∙ sym (ap (λ (f : ℕ). place_in f cs s) some) ∙ w.same;
            enough = rw length-set (omega (arith, fewer, w.enough));
            most = λ r m. omega (arith, open_more cs s.order r i, w.most r (rw length-set at m));
            passed = λ r m k.
                ⊎_elim
                (λ e. let q : r ≡ i = suc_inj (e ∙ add-one i) in omega (arith, ap (open_weight cs (i ∷ s.order)) q, open_shut cs (i ∷ s.order) i (has_self i s.order)))
                (λ q. omega (arith, open_more cs s.order r i, w.passed r (omega arith) (rw length-set at k)))
                (eq-or-lt_of_le m);
            under = w.under;
          }
