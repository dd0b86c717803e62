-- A block's columns by their bits. Assumes nothing.
use Prim.Native.Nat.{ℕ, zero, suc, ◌+◌, ◌*◌, ◌/◌, ◌%◌, ◌^◌, ◌<◌}
use native.Mathlib.Nat.{mod-lt, zero-lt-suc, zero-add, zero-div, div-one, pow-suc}
use native.Mathlib.Omega.{arith}
use mathlib.Core.Path.{◌≡◌, refl, sym, ap, ◌∙◌, subst}
use mathlib.Core.Bool.{Bool, cond}
use mathlib.Core.List.{List, [], ◌∷◌}
use borrow.Author.Tests.{eq-eqb, ne_eqb}
use lib.ListN.{length, get_or}
use lib.Seq.{ext_get_or}
use Rattle.vectors.specs.Bits.{bit}
use Rattle.vectors.proofs.Bits.Laws.{bit_suc, ext}
use Rattle.transpose.specs.Stage.{bit_at}
use Rattle.transpose.specs.Turn.{column, columns_from, turned, turned_in}

pub column_lt : (i : ℕ) (xs : List ℕ) → column i xs < 2 ^ length xs
unfolding column
column_lt i [] = zero-lt-suc 0
column_lt i (x ∷ xs) = omega (arith, mod-lt (x / 2 ^ i) (zero-lt-suc 1), column_lt i xs, pow-suc 2 (length xs))

bit_zero : (i : ℕ) → bit 0 i ≡ 0
bit_zero i = ap (λ (n : ℕ). n % 2) (zero-div (2 ^ i))

pub column_bit : (i : ℕ) (xs : List ℕ) (t : ℕ) → bit (column i xs) t ≡ bit (get_or xs t 0) i
unfolding column
column_bit i [] t = bit_zero t ∙ sym (bit_zero i)
column_bit i (x ∷ xs) zero = ap (λ (n : ℕ). n % 2) (div-one (bit x i + 2 * column i xs)) ∙ low (x / 2 ^ i) (column i xs)
  where
    low : (a n : ℕ) → (a % 2 + 2 * n) % 2 ≡ a % 2
    low a n = omega arith
column_bit i (x ∷ xs) (suc t) = bit_suc (bit x i + 2 * column i xs) t ∙ ap (λ (n : ℕ). bit n t) (high (x / 2 ^ i) (column i xs)) ∙ column_bit i xs t
  where
    high : (a n : ℕ) → (a % 2 + 2 * n) / 2 ≡ n
    high a n = omega arith

columns_length : (n i : ℕ) (xs : List ℕ) → length (columns_from n i xs) ≡ n
unfolding columns_from
columns_length zero i xs = refl
columns_length (suc n) i xs = ap suc (columns_length n (suc i) xs)

columns_at : (n i : ℕ) (xs : List ℕ) (k : ℕ) → k < n → get_or (columns_from n i xs) k 0 ≡ column (i + k) xs
unfolding columns_from
columns_at zero i xs k h = absurd (omega arith)
columns_at (suc n) i xs zero h =
    let e : i ≡ i + 0 = omega arith in
    ap (λ (t : ℕ). column t xs) e
columns_at (suc n) i xs (suc k) h =
    let e : suc i + k ≡ i + suc k = omega arith in
    columns_at n (suc i) xs k (omega arith) ∙ ap (λ (t : ℕ). column t xs) e

-- ---- a block turned

pub turned_length : (xs : List ℕ) → length (turned xs) ≡ 64
unfolding turned
turned_length xs = columns_length 64 0 xs

pub turned_at : (i : ℕ) (xs : List ℕ) → i < 64 → get_or (turned xs) i 0 ≡ column i xs
unfolding turned
turned_at i xs h = columns_at 64 0 xs i h ∙ ap (λ (t : ℕ). column t xs) (zero-add i)

-- 64 words whose bits are those of xs turned
pub turned_by : (xs ys : List ℕ) → length xs ≡ 64 → length ys ≡ 64 → ((r : ℕ) → r < 64 → get_or ys r 0 < 2 ^ 64)
    → ((r c : ℕ) → r < 64 → c < 64 → bit_at ys r c ≡ bit_at xs c r) → ys ≡ turned xs
turned_by xs ys m n b e = ext_get_or 0 ys (turned xs) (n ∙ sym (turned_length xs)) (λ r h. word r (omega arith))
  where
    word : (r : ℕ) → r < 64 → get_or ys r 0 ≡ get_or (turned xs) r 0
    word r h =
        ext 64 (b r h) (subst (λ (t : ℕ). column r xs < 2 ^ t) m (column_lt r xs)) (λ c k. e r c h k ∙ sym (column_bit r xs c)) ∙ sym (turned_at r xs h)

-- ---- what a caller meets

-- a block of 64 words is turned
pub turned_in_lem : (xs : List ℕ) → length xs ≡ 64 → turned_in xs ≡ turned xs
unfolding turned_in
turned_in_lem xs e = ap (λ (b : Bool). cond b (turned xs) xs) (eq-eqb (length xs) 64 e)

-- another is not
pub turned_none : (xs : List ℕ) → (length xs ≡ 64 → ⊥) → turned_in xs ≡ xs
unfolding turned_in
turned_none xs e = ap (λ (b : Bool). cond b (turned xs) xs) (ne_eqb (length xs) 64 e)
