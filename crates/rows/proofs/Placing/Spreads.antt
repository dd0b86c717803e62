-- The spread condition: its test, and what it says of rows as heavy as those placed before. Assumes nothing.
use Prim.Native.Nat.{ℕ, zero, suc, ◌*◌, ◌-◌, ◌≤◌, ◌<◌}
use native.Mathlib.Nat.{eq-or-lt_of_le, suc_inj, eq-zero-or-pos, le_trans, mul-le-mul_left}
use native.Mathlib.Omega.{arith}
use mathlib.Core.Path.{◌≡◌, refl}
use mathlib.Core.Bool.{Bool, true, false}
use mathlib.Core.List.{List, [], ◌∷◌}
use mathlib.Core.Logic.{⊎_elim}
use lib.Dec.{eqb, leb}
use lib.ListN.{length}
use borrow.Author.Tests.{leb-true, le-leb, lt-ltb, le-ltb}
use Rattle.lists.specs.First.{has}
use Rattle.lists.proofs.Tests.{and_true, le_or_lt}
use Rattle.rows.specs.Care.{Care, keep, in_row, weight_of}
use Rattle.rows.specs.Demand.{count_in, heavier_in, Spread, spread_in, spread}

-- ---- the test

row_length : (r : ℕ) (cs : List Care) → length (in_row r cs) ≤ length cs
unfolding in_row
row_length r [] = omega arith
row_length r (c ∷ cs) = go (eqb c.row r) (row_length r cs)
  where
    go : (t : Bool) → length (in_row r cs) ≤ length cs → length (keep t c (in_row r cs)) ≤ suc (length cs)
    go true l = omega arith
    go false l = omega arith

-- no row holds more than all the vectors
pub weight_le : (cs : List Care) (r : ℕ) → weight_of cs r ≤ length cs
unfolding weight_of
weight_le cs r = row_length r cs

heavier_none : (j : ℕ) (all : List Care) → length all ≤ j → (cs : List Care) → heavier_in j all cs ≡ 0
unfolding heavier_in
heavier_none j all l [] = refl
heavier_none j all l (c ∷ cs) =
    let b : weight_of all c.row ≤ j = omega (arith, weight_le all c.row) in
    rw (le-ltb j (weight_of all c.row) b) (omega (arith, heavier_none j all l cs))

spread_in_lem : (f k : ℕ) (cs : List Care) → spread_in f k cs ≡ true → (j : ℕ) → j < f → suc j * heavier_in j cs cs ≤ k
unfolding spread_in
spread_in_lem zero k cs h j l = absurd (omega arith)
spread_in_lem (suc f) k cs h j l =
    let p = and_true (leb (suc f * heavier_in f cs cs) k) (spread_in f k cs) h in
    ⊎_elim
    (λ e. let q : j ≡ f = suc_inj e in rw q (leb-true (suc f * heavier_in f cs cs) k p.0))
    (λ m. spread_in_lem f k cs p.1 j (omega arith))
    (eq-or-lt_of_le l)

in_spread : (f k : ℕ) (cs : List Care) → Spread k cs → spread_in f k cs ≡ true
unfolding spread_in
in_spread zero k cs s = refl
in_spread (suc f) k cs s = rw (le-leb (suc f * heavier_in f cs cs) k (s f)) (in_spread f k cs s)

pub spread_says : (k : ℕ) (cs : List Care) → spread k cs ≡ true → Spread k cs
unfolding spread
spread_says k cs h j =
    ⊎_elim
    (λ l. rw (heavier_none j cs l cs) (omega arith))
    (λ l. spread_in_lem (length cs) k cs h j l)
    (le_or_lt (length cs) j)

pub says_spread : (k : ℕ) (cs : List Care) → Spread k cs → spread k cs ≡ true
unfolding spread
says_spread k cs s = in_spread (length cs) k cs s

-- ---- rows as heavy as those placed before

-- the vectors in rows placed are among those in rows of more than j, where each row placed holds more than j
count_heavier : (order : List ℕ) (all : List Care) (j : ℕ) → ((q : ℕ) → has q order ≡ true → j < weight_of all q) → (cs : List Care) → count_in order cs ≤ heavier_in j all cs
unfolding count_in heavier_in
count_heavier order all j h [] = omega arith
count_heavier order all j h (c ∷ cs) = go (has c.row order) refl (count_heavier order all j h cs)
  where
    go : (t : Bool) → has c.row order ≡ t → count_in order cs ≤ heavier_in j all cs → count_in order (c ∷ cs) ≤ heavier_in j all (c ∷ cs)
    go true e i = rw (e, lt-ltb j (weight_of all c.row) (h c.row e)) (omega arith)
    go false e i = rw e (omega arith)

-- the weight of a row that is no heavier than those placed, times the vectors placed, is at most k
pub spread_le : (k : ℕ) (cs : List Care) → Spread k cs → (order : List ℕ) (r : ℕ) → ((q : ℕ) → has q order ≡ true → weight_of cs r ≤ weight_of cs q) → weight_of cs r * count_in order cs ≤ k
spread_le k cs s order r h = ⊎_elim (λ z. rw z (omega arith)) (λ p. by p) (eq-zero-or-pos (weight_of cs r))
  where
    by : 0 < weight_of cs r → weight_of cs r * count_in order cs ≤ k
    by p =
        let w : suc (weight_of cs r - 1) ≡ weight_of cs r = omega arith in
        le_trans
        (mul-le-mul_left (weight_of cs r) (count_heavier order cs (weight_of cs r - 1) (λ q m. omega (arith, h q m)) cs))
        (rw w at (s (weight_of cs r - 1)))
