-- The rows that are not placed, and how many of them have a weight. Assumes nothing.
use Prim.Native.Nat.{ℕ, zero, suc, ◌≤◌, ◌<◌}
use native.Mathlib.Nat.{eq-or-lt_of_le, suc_inj}
use native.Mathlib.Omega.{arith}
use mathlib.Core.Path.{◌≡◌, refl, ap, ◌∙◌}
use mathlib.Core.Bool.{Bool, true, false}
use mathlib.Core.List.{List, ◌∷◌}
use mathlib.Core.Logic.{⊎_elim}
use lib.Dec.{eqb}
use borrow.Author.Tests.{eqb-true, eqb-false}
use Rattle.lists.specs.First.{has}
use Rattle.lists.proofs.Finding.Has.{has_self}
use Rattle.rows.specs.Care.{Care, weight_of, open_weight}
use Rattle.rows.proofs.Fits.Filled.{one, one_le, one_zero, one_pos, sum_to}

-- ---- the weight of a row that is not placed

module _ (cs : List Care) (order : List ℕ) (r : ℕ) where
  pub open_is : has r order ≡ false → open_weight cs order r ≡ weight_of cs r
  unfolding open_weight
  open_is e = rw e

  pub open_shut : has r order ≡ true → open_weight cs order r ≡ 0
  unfolding open_weight
  open_shut e = rw e

  pub open_not : 0 < open_weight cs order r → has r order ≡ false
  open_not l = go (has r order) refl
    where
      go : (t : Bool) → has r order ≡ t → has r order ≡ false
      go true e = absurd (omega (arith, open_shut e))
      go false e = e

  pub open_weight_lem : 0 < open_weight cs order r → open_weight cs order r ≡ weight_of cs r
  open_weight_lem l = open_is (open_not l)

  -- a row with a weight and no open weight is placed
  pub open_none : 0 < weight_of cs r → open_weight cs order r ≡ 0 → has r order ≡ true
  open_none l z = go (has r order) refl
    where
      go : (t : Bool) → has r order ≡ t → has r order ≡ true
      go true e = e
      go false e = absurd (omega (arith, open_is e))

  -- one row more is placed
  pub open_more : (q : ℕ) → open_weight cs (q ∷ order) r ≤ open_weight cs order r
  unfolding open_weight has
  open_more q = go (eqb r q) refl
    where
      go : (t : Bool) → eqb r q ≡ t → open_weight cs (q ∷ order) r ≤ open_weight cs order r
      go true e = rw e (omega arith)
      go false e = rw e (omega arith)

-- ---- how many have a weight

one_mono : (a b : ℕ) → a ≤ b → one a ≤ one b
one_mono a b l = go (eqb b 0) refl
  where
    go : (t : Bool) → eqb b 0 ≡ t → one a ≤ one b
    go true e = let z = eqb-true b 0 e in omega (arith, one_zero a (omega arith))
    go false e = omega (arith, one_le a, one_pos b (eqb-false b 0 e))

abbrev pub count_of : (ℕ → ℕ) → ℕ → ℕ
count_of v n = sum_to (λ i. one (v i)) n

pub count_all : (v : ℕ → ℕ) (n : ℕ) → count_of v n ≤ n
unfolding sum_to
count_all v zero = omega arith
count_all v (suc n) = omega (arith, count_all v n, one_le (v n))

pub count_none : (v : ℕ → ℕ) (n i : ℕ) → count_of v n ≡ 0 → i < n → v i ≡ 0
unfolding sum_to
count_none v zero i z l = absurd (omega arith)
count_none v (suc n) i z l = ⊎_elim (λ q. ap v (suc_inj q) ∙ go (eqb (v n) 0) refl) (λ m. count_none v n i (omega arith) (omega arith)) (eq-or-lt_of_le l)
  where
    go : (t : Bool) → eqb (v n) 0 ≡ t → v n ≡ 0
    go true e = eqb-true (v n) 0 e
    go false e = absurd (omega (arith, one_pos (v n) (eqb-false (v n) 0 e)))

count_mono : (v w : ℕ → ℕ) → ((i : ℕ) → v i ≤ w i) → (n : ℕ) → count_of v n ≤ count_of w n
unfolding sum_to
count_mono v w h zero = omega arith
count_mono v w h (suc n) = omega (arith, count_mono v w h n, one_mono (v n) (w n) (h n))

count_less : (v w : ℕ → ℕ) → ((i : ℕ) → v i ≤ w i) → (r : ℕ) → v r ≡ 0 → 0 < w r → (n : ℕ) → r < n → count_of v n < count_of w n
unfolding sum_to
count_less v w h r z p zero l = absurd (omega arith)
count_less v w h r z p (suc n) l =
    ⊎_elim
    (λ e. let q : r ≡ n = suc_inj e in omega (arith, count_mono v w h n, one_zero (v n) (rw q at z), one_pos (w n) (λ c. omega (arith, ap w q))))
    (λ m. omega (arith, count_less v w h r z p n (omega arith), one_mono (v n) (w n) (h n)))
    (eq-or-lt_of_le l)

-- with each row placed fewer are left
pub open_less : (cs : List Care) (order : List ℕ) (r n : ℕ) → 0 < open_weight cs order r → r < n → count_of (open_weight cs (r ∷ order)) n < count_of (open_weight cs order) n
open_less cs order r n o l =
    count_less (open_weight cs (r ∷ order)) (open_weight cs order) (λ i. open_more cs order i r) r (open_shut cs (r ∷ order) r (has_self r order)) o n l
