-- The heaviest row, the lowest of equals. Assumes nothing.
use Prim.Native.Nat.{ℕ, zero, suc, ◌≤◌, ◌<◌}
use native.Mathlib.Nat.{eq-or-lt_of_le, suc_inj}
use native.Mathlib.Omega.{arith}
use mathlib.Core.Path.{◌≡◌, refl, ap}
use mathlib.Core.Bool.{Bool, true, false}
use mathlib.Core.Logic.{⊎_elim}
use lib.Dec.{ltb}
use borrow.Author.Tests.{ltb-true, ltb-false}
use Rattle.rows.specs.Care.{Heavy, heavier, heaviest}

-- no row below n weighs more; where it has a weight, it is that of its row; every lower row weighs less
pub record IsHeaviest (weight : ℕ → ℕ) (n : ℕ) (b : Heavy) : Type 0 where
  pub most : (i : ℕ) → i < n → weight i ≤ b.weight
  pub row_in : 0 < b.weight → b.row < n
  pub weighs : 0 < b.weight → weight b.row ≡ b.weight
  pub lowest : (i : ℕ) → i < b.row → weight i < b.weight

pub is_heaviest : (weight : ℕ → ℕ) (n : ℕ) → IsHeaviest weight n (heaviest weight n)
unfolding heaviest
is_heaviest weight zero =
    record { most = λ i l. absurd (omega arith); row_in = λ p. absurd (omega arith); weighs = λ p. absurd (omega arith); lowest = λ i l. absurd (omega arith) }
is_heaviest weight (suc n) = go (heaviest weight n) (is_heaviest weight n) (ltb (heaviest weight n).weight (weight n)) refl
  where
    go : (b : Heavy) → IsHeaviest weight n b → (t : Bool) → ltb b.weight (weight n) ≡ t → IsHeaviest weight (suc n) (heavier n (weight n) b)
    go b h true e =
        let l : b.weight < weight n = ltb-true b.weight (weight n) e in
        rw e
        (record {
          most = λ i m. ⊎_elim (λ q. omega (arith, ap weight (suc_inj q))) (λ q. omega (arith, h.most i (omega arith))) (eq-or-lt_of_le m);
          row_in = λ p. omega arith;
          weighs = λ p. refl;
          lowest = λ i m. omega (arith, h.most i m);
        })
    go b h false e =
        let l : weight n ≤ b.weight = ltb-false b.weight (weight n) e in
        rw e
        (record {
          most = λ i m. ⊎_elim (λ q. omega (arith, ap weight (suc_inj q))) (λ q. h.most i (omega arith)) (eq-or-lt_of_le m);
          row_in = λ p. omega (arith, h.row_in p);
          weighs = h.weighs;
          lowest = h.lowest;
        })
