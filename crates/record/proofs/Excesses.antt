-- The floor of the excess, when the excess is not negative, and the difference that the code makes. Assumes nothing.
use Prim.Native.Nat.{ℕ, zero, suc, ◌-◌, ◌*◌, ◌/◌, ◌^◌, ◌≤◌, ◌<◌, max}
use native.Mathlib.Nat.{pow-suc}
use native.Mathlib.Omega.{arith}
use mathlib.Core.Path.{◌≡◌, refl, sym, ap, ap₂, ◌∙◌}
use mathlib.Core.Bool.{Bool, true, false, cond}
use mathlib.Core.Logic.{⊎_elim}
use lib.Dec.{leb, ltb, le→leb}
use lib.IntN.{ℤ, pos, negsuc, sub_ℕ, ◌-ℤ◌}
use lib.Pow.{pow_pos, pow_mono}
use lib.Signed.{mag, ◌≤ℤ◌, le_z_yes}
use mir.Syntax.{w64}
use mir.Val.{to_z, of_z, SFits}
use mir.Facts.{to_z-of_z}
use borrow.Author.Tests.{leb-true, leb-false, le-ltb}
use Rattle.lists.proofs.Tests.{le_or_lt}
use Rattle.lists.proofs.Finding.Firsts.{FoundFrom, found_from}
use Rattle.record.specs.Record.{log2_up, floor_of, floor_with_zero, excess_of}

pub below_pow : (m : ℕ) → m < 2 ^ m
below_pow zero = omega arith
below_pow (suc m) = rw (pow-suc 2 m) (omega (arith, below_pow m))

-- ---- the smallest q with 2^q at least m

pub log2_enough : (m : ℕ) → m ≤ 2 ^ log2_up m
unfolding log2_up
log2_enough m = go _ (found_from (λ p. leb m (2 ^ p)) m 0)
  where
    go : (r : ℕ) → FoundFrom (λ p. leb m (2 ^ p)) m 0 r → m ≤ 2 ^ r
    go r f = ⊎_elim (λ l. omega (arith, below_pow r)) (λ l. leb-true m (2 ^ r) (f.passes (omega arith))) (le_or_lt m r)

pub log2_least : (m q : ℕ) → m ≤ 2 ^ q → log2_up m ≤ q
unfolding log2_up
log2_least m q h = go _ (found_from (λ p. leb m (2 ^ p)) m 0)
  where
    go : (r : ℕ) → FoundFrom (λ p. leb m (2 ^ p)) m 0 r → r ≤ q
    go r f = ⊎_elim (λ l. l) (λ l. absurd (omega (arith, leb-false m (2 ^ q) (f.before q (omega arith) l)))) (le_or_lt r q)

pub log2_is : (m q : ℕ) → m ≤ 2 ^ q → ((p : ℕ) → p < q → 2 ^ p < m) → q ≡ log2_up m
log2_is m q h below =
    ⊎_elim
    (λ l. omega (arith, log2_least m q h))
    (λ l. absurd (omega (arith, below (log2_up m) l, log2_enough m)))
    (le_or_lt q (log2_up m))

-- a power of two is 2 to its logarithm
log2_of_power : (x q : ℕ) → 2 ^ q ≤ 2 ^ x → 2 ^ x < 2 * 2 ^ q → x ≡ q
log2_of_power x q low high =
    ⊎_elim
    (λ l. ⊎_elim (λ m. omega arith) (λ m. absurd (omega (arith, pow-suc 2 x, pow_mono {i = suc x} {j = q} m, pow_pos x))) (le_or_lt q x))
    (λ l. absurd (omega (arith, pow-suc 2 q, pow_mono {i = suc q} {j = x} l)))
    (le_or_lt x q)

-- from the next power of two
pub log2_next : (m n q x : ℕ) → n ≡ 2 ^ x → m ≤ n → n / 2 < max 1 m → 2 ^ q ≤ n → n < 2 * 2 ^ q → q ≡ log2_up m
log2_next m n q x e low high from under =
    let same : x ≡ q = log2_of_power x q (omega arith) (omega arith) in
    let is : n ≡ 2 ^ q = e ∙ ap (λ (y : ℕ). 2 ^ y) same in
    log2_is m q (omega arith)
    (λ p l.
    let s : suc (q - 1) ≡ q = omega arith in
    let d : 2 ^ q ≡ 2 * 2 ^ (q - 1) = ap (λ (y : ℕ). 2 ^ y) (sym s) ∙ pow-suc 2 (q - 1) ∙ omega arith in
    omega (arith, pow_mono {i = p} {j = q - 1} (omega arith), pow_pos p))

pub log2_le : (m : ℕ) → log2_up m ≤ m
log2_le m = log2_least m m (omega (arith, below_pow m))

-- ---- the floors

-- SCOPE 8.6: variables that make at least k different numbers are no fewer than the floor, so their excess is not negative
pub excess_not_negative : (p k : ℕ) → k ≤ 2 ^ p → pos 0 ≤ℤ excess_of p k
unfolding excess_of
excess_not_negative p k h = rw (le-ltb p (floor_of k) (omega (arith, log2_least k p h))) (le_z_yes (le→leb 0 (p - floor_of k) (omega arith)))

-- SCOPE 8.7: the floor of document 002 is the floor, or one more
pub floors_near : (k : ℕ) → (floor_of k ≤ floor_with_zero k) × (floor_with_zero k ≤ suc (floor_of k))
floors_near k =
    let twice : suc k ≤ 2 ^ suc (floor_of k) = rw (pow-suc 2 (floor_of k)) (omega (arith, log2_enough k, pow_pos (floor_of k))) in
    (log2_least k (floor_with_zero k) (omega (arith, log2_enough (suc k))), log2_least (suc k) (suc (floor_of k)) twice)

-- ---- the difference

-- of two naturals as integers
pub sub_is : (p q : ℕ) → pos p -ℤ pos q ≡ sub_ℕ p q
sub_is p zero = rw (le-ltb p 0 (omega arith)) (ap pos (omega arith))
sub_is p (suc q) = refl

mag_sub : (b p q : ℕ) → p < b → q < b → mag (sub_ℕ p q) < b
mag_sub b p q h g = go (ltb p q)
  where
    go : (t : Bool) → mag (cond t (negsuc (q - suc p)) (pos (p - q))) < b
    go true = omega arith
    go false = omega arith

-- so the excess is a word
pub excess_fits : (p k : ℕ) → p < 2 ^ 63 → k < 2 ^ 63 → SFits w64 (excess_of p k)
unfolding excess_of
excess_fits p k h g = record { sfits = mag_sub (2 ^ 63) p (floor_of k) h (omega (arith, log2_le k)) }

-- as the code has it, of words
pub excess_word : (p k : ℕ) (a b : ℤ) → p < 2 ^ 63 → k < 2 ^ 63 → a ≡ pos p → b ≡ pos (log2_up k)
    → to_z w64 (of_z w64 (to_z w64 (of_z w64 a) -ℤ to_z w64 (of_z w64 b))) ≡ excess_of p k
unfolding excess_of
excess_word p k a b h g e f =
    let P : SFits w64 (pos p) = record { sfits = h } in
    let Q : SFits w64 (pos (floor_of k)) = record { sfits = omega (arith, log2_le k) } in
    let d : to_z w64 (of_z w64 a) -ℤ to_z w64 (of_z w64 b) ≡ sub_ℕ p (floor_of k) =
    rw (e, f) (ap₂ ◌-ℤ◌ (to_z-of_z P) (to_z-of_z Q) ∙ sub_is p (floor_of k)) in
    ap (λ (z : ℤ). to_z w64 (of_z w64 z)) d ∙ to_z-of_z (excess_fits p k h g)
