-- Bits of a number, their counts, and what a mask picks; places. Each law is over any number of bits. Assumes nothing.
use Rattle.std.proofs.Common.{◌≡◌, ℕ, zero, suc, ◌+◌, ◌-◌, ◌*◌, ◌/◌, ◌%◌, ◌^◌, ◌<◌, ◌≤◌, min, sym, refl, ap, ◌∙◌, subst, ap₂, lt_of_le_of_lt, add-zero, mod-lt, mod-eq_of_lt, zero-lt-suc, mul_assoc, mul_comm, add_comm, one-mul, pow-suc, mul-one, add-one, one-add, arith, pow_pos, pow-add, shl_exact, shr-shr, shr_lt}
use native.Mathlib.Nat.{mul-mod_left}
use lib.Arith.{bin_ind, lt-one, digits_div, digits_mod}
use lib.Pow.{pow-lt, shl-shr, split, field, mod-mod-pow}
use lib.Bits.{bit_and, bit_or, bit_xor, or_shifted_r, and_step, xor_shr, xor_mod, and_mod, and_block, and_mask, and_zero_r, and_le_l}
use lib.Count.{ones, ones_step, ones_cat}
use Rattle.vectors.specs.Bits.{bit, input, place_of}

-- what holds of 0 and of 1 holds of every digit
pub digit : (P : ℕ → Type 0) → P 0 → P 1 → (n : ℕ) → P (n % 2)
digit P p0 p1 n = go (n % 2) (mod-lt n (zero-lt-suc 1))
  where
    go : (r : ℕ) → r < 2 → P r
    go zero h = p0
    go (suc zero) h = p1
    go (suc (suc r)) h = absurd (omega arith)

-- ---- one bit further on

pub pow_next : (j : ℕ) → 2 ^ (j + 1) ≡ 2 ^ j * 2
pow_next j = ap (λ (t : ℕ). 2 ^ t) (add-one j) ∙ pow-suc 2 j

pub shift_next : (j x : ℕ) → 2 ^ j * (2 * x) ≡ 2 ^ (j + 1) * x
shift_next j x = sym (mul_assoc (2 ^ j) 2 x) ∙ ap (λ (t : ℕ). t * x) (sym (pow_next j))

-- ---- two numbers of n bits with the same bits are equal

pub shr_suc : (x i : ℕ) → x / 2 / 2 ^ i ≡ x / 2 ^ suc i
shr_suc x i = shr-shr x 1 i ∙ ap (λ (k : ℕ). x / 2 ^ k) (one-add i)

pub bit_suc : (x i : ℕ) → bit x (suc i) ≡ bit (x / 2) i
bit_suc x i = ap (λ (k : ℕ). k % 2) (sym (shr_suc x i))

pub half_lt : {n : ℕ} (k : ℕ) → n < 2 ^ suc k → n / 2 < 2 ^ k
half_lt {n} k h = shr_lt k 1 (subst (λ (x : ℕ). n < 2 ^ x) (sym (add-one k)) h)

-- two numbers of n bits with the same bits are equal
pub ext : (n : ℕ) {x y : ℕ} → x < 2 ^ n → y < 2 ^ n → ((i : ℕ) → i < n → bit x i ≡ bit y i) → x ≡ y
ext zero hx hy e = lt-one hx ∙ sym (lt-one hy)
ext (suc n) {x} {y} hx hy e =
    let q : x / 2 ≡ y / 2 = ext n (half_lt n hx) (half_lt n hy) (λ i h. sym (bit_suc x i) ∙ e (suc i) (omega arith) ∙ bit_suc y i) in
    let r : x / 1 % 2 ≡ y / 1 % 2 = e 0 (omega arith) in
    omega arith

-- ---- XOR by its lowest digit and the rest

pub xor_half : (a b : ℕ) → bit_xor a b / 2 ≡ bit_xor (a / 2) (b / 2)
xor_half a b = xor_shr a b 1

pub xor_low : (a b : ℕ) → bit_xor a b % 2 ≡ (a + b) % 2
xor_low a b =
    xor_mod a b 1
    ∙ digit (λ p. bit_xor p (b % 2) ≡ (p + b % 2) % 2) (digit (λ q. bit_xor 0 q ≡ (0 + q) % 2) refl refl b) (digit (λ q. bit_xor 1 q ≡ (1 + q) % 2) refl refl b) a
    ∙ sums a b
  where
    sums : (a b : ℕ) → (a % 2 + b % 2) % 2 ≡ (a + b) % 2
    sums a b = omega arith

-- ---- how many bits of x a mask picks

ones_bit : (r : ℕ) → ones (r % 2) ≡ r % 2
unfolding ones
ones_bit = digit (λ r. ones r ≡ r) refl refl

-- one bit
pub ones_at : (x i : ℕ) → ones (bit_and x (2 ^ i)) ≡ bit x i
ones_at x i =
    ap₂ (λ (a b : ℕ). ones (bit_and a b)) (sym (split x i)) (sym (add-zero (1 * 2 ^ i) ∙ one-mul (2 ^ i)))
    ∙ ap ones (and_block i (x / 2 ^ i) 1 (x % 2 ^ i) 0 (mod-lt x (pow_pos i)) (pow_pos i)
    ∙ ap₂ (λ (a b : ℕ). a * 2 ^ i + b) (and_mask (x / 2 ^ i) 1) (and_zero_r (x % 2 ^ i)))
    ∙ ones_cat i (bit x i) 0 (pow_pos i) ∙ ap₂ ◌+◌ (ones_bit (x / 2 ^ i)) (ones_bit 0) ∙ add-zero (bit x i)

-- the lowest digit, and the rest
and_ones : (x a : ℕ) → ones (bit_and x a) ≡ min (x % 2) (a % 2) + ones (bit_and (x / 2) (a / 2))
and_ones x a =
    let d : min (x % 2) (a % 2) < 2 = omega (arith, mod-lt x (zero-lt-suc 1)) in
    ap ones (and_step x a) ∙ ones_step (bit_and (x / 2) (a / 2) * 2 + min (x % 2) (a % 2))
    ∙ ap₂ (λ (m q : ℕ). m + ones q) (digits_mod (bit_and (x / 2) (a / 2)) d) (digits_div (bit_and (x / 2) (a / 2)) d)

-- of three digits
odd_min : (x a b : ℕ) → min (x % 2) ((a + b) % 2) % 2 ≡ (min (x % 2) (a % 2) + min (x % 2) (b % 2)) % 2
odd_min x a b = digit (λ p. min p ((a + b) % 2) % 2 ≡ (min p (a % 2) + min p (b % 2)) % 2) (none ((a + b) % 2) (a % 2) (b % 2)) (all a b) x
  where
    none : (r p q : ℕ) → min 0 r % 2 ≡ (min 0 p + min 0 q) % 2
    none r p q = omega arith

    low : (r : ℕ) → min 1 (r % 2) ≡ r % 2
    low = digit (λ r. min 1 r ≡ r) refl refl

    sums : (a b : ℕ) → (a + b) % 2 % 2 ≡ (a % 2 + b % 2) % 2
    sums a b = omega arith

    all : (a b : ℕ) → min 1 ((a + b) % 2) % 2 ≡ (min 1 (a % 2) + min 1 (b % 2)) % 2
    all a b = ap (λ (r : ℕ). r % 2) (low (a + b)) ∙ sums a b ∙ ap₂ (λ (p q : ℕ). (p + q) % 2) (sym (low a)) (sym (low b))

-- `omega` is handed variables: with `min` in sight of the sum it splits too often
mix : (d e f p q r : ℕ) → d % 2 ≡ (e + f) % 2 → p % 2 ≡ (q + r) % 2 → (d + p) % 2 ≡ ((e + q) + (f + r)) % 2
mix d e f p q r h k = omega arith

-- an XOR of masks picks an odd number of bits where one of the two does and the other does not
pub odd_xor : (x a b : ℕ) → ones (bit_and x (bit_xor a b)) % 2 ≡ (ones (bit_and x a) + ones (bit_and x b)) % 2
unfolding ones
odd_xor = bin_ind (λ x. (a b : ℕ) → ones (bit_and x (bit_xor a b)) % 2 ≡ (ones (bit_and x a) + ones (bit_and x b)) % 2) (λ a b. refl)
    (λ x ih a b.
    ap (λ (n : ℕ). n % 2) (and_ones x (bit_xor a b) ∙ ap₂ (λ (m q : ℕ). min (x % 2) m + ones (bit_and (x / 2) q)) (xor_low a b) (xor_half a b))
    ∙ mix _ _ _ _ _ _ (odd_min x a b) (ih (a / 2) (b / 2))
    ∙ ap₂ (λ (m n : ℕ). (m + n) % 2) (sym (and_ones x a)) (sym (and_ones x b)))

-- of x in a word of w bits, a mask picks no more than its own w bits do
pub and_word : (w x m : ℕ) → x < 2 ^ w → bit_and x (m % 2 ^ w) ≡ bit_and x m
and_word w x m h =
    ap (λ (y : ℕ). bit_and y (m % 2 ^ w)) (sym (mod-eq_of_lt h)) ∙ sym (and_mod x m w) ∙ mod-eq_of_lt (lt_of_le_of_lt (and_le_l x m) h)

-- ---- a digit more in a word of w bits

pub put_digit : (w x j b : ℕ) → x < 2 ^ j → j < w → b < 2 → bit_or x (b * 2 ^ j % 2 ^ w) ≡ x + 2 ^ j * b
put_digit w x j b h l hb =
    ap (bit_or x) (shl_exact 1 j w hb (omega arith)) ∙ or_shifted_r b j x h ∙ add_comm (b * 2 ^ j) x ∙ ap (λ (t : ℕ). x + t) (mul_comm b (2 ^ j))

pub put_bit : (w x j : ℕ) → x < 2 ^ j → j < w → bit_or x (1 * 2 ^ j % 2 ^ w) ≡ x + 2 ^ j
put_bit w x j h l = put_digit w x j 1 h l (omega arith) ∙ ap (λ (t : ℕ). x + t) (mul-one (2 ^ j))

-- ---- bits of a shift, and of a word

pub bit_shr : (a j c : ℕ) → bit (a / 2 ^ j) c ≡ bit a (j + c)
bit_shr a j c = ap (λ (n : ℕ). n % 2) (shr-shr a j c)

-- a word of w bits has the bits below w
pub bit_word : (w x c : ℕ) → c < w → bit (x % 2 ^ w) c ≡ bit x c
bit_word w x c h =
    let e : (w - c - 1 + 1) + c ≡ w = omega arith in
    ap (λ (t : ℕ). bit (x % 2 ^ t) c) (sym e) ∙ ap (λ (n : ℕ). n % 2) (field x (w - c - 1 + 1) c) ∙ mod-mod-pow (x / 2 ^ c) (w - c - 1) 1

pub bit_shl : (a j c : ℕ) → bit (a * 2 ^ j) (j + c) ≡ bit a c
bit_shl a j c = ap (λ (n : ℕ). n % 2) (sym (shr-shr (a * 2 ^ j) j c) ∙ ap (λ (n : ℕ). n / 2 ^ c) (shl-shr a j))

pub bit_below : (a j c : ℕ) → c < j → bit (a * 2 ^ j) c ≡ 0
bit_below a j c h =
    let e : j ≡ (j - c - 1 + 1) + c = omega arith in
    ap (λ (t : ℕ). bit (a * 2 ^ t) c) e
    ∙ ap (λ (n : ℕ). n / 2 ^ c % 2) (ap (λ (n : ℕ). a * n) (pow-add 2 (j - c - 1 + 1) c) ∙ sym (mul_assoc a (2 ^ (j - c - 1 + 1)) (2 ^ c)))
    ∙ ap (λ (n : ℕ). n % 2) (shl-shr (a * 2 ^ (j - c - 1 + 1)) c)
    ∙ ap (λ (n : ℕ). n % 2) (ap (λ (n : ℕ). a * n) (pow-add 2 (j - c - 1) 1) ∙ sym (mul_assoc a (2 ^ (j - c - 1)) 2))
    ∙ even (a * 2 ^ (j - c - 1))
  where
    even : (n : ℕ) → n * 2 % 2 ≡ 0
    even n = omega arith

-- ---- inputs and their places

pub input_lt : (x i : ℕ) → input x i < 2
input_lt x zero = zero-lt-suc 1
input_lt x (suc i) = mod-lt (x / 2 ^ i) (zero-lt-suc 1)

pub ones_place : (x i : ℕ) → ones (bit_and x (place_of i)) ≡ input x i
unfolding ones
ones_place x zero = ap ones (and_zero_r x)
ones_place x (suc i) = ones_at x i

-- no bit of a word of w bits stands at a place past w
pub place_out : (w i : ℕ) → w < i → place_of i % 2 ^ w ≡ 0
place_out w zero h = absurd (omega arith)
place_out w (suc i) h =
    let e : (i - w) + w ≡ i = omega arith in
    ap (λ (k : ℕ). 2 ^ k % 2 ^ w) (sym e) ∙ ap (λ (k : ℕ). k % 2 ^ w) (pow-add 2 (i - w) w) ∙ mul-mod_left (2 ^ (i - w)) (2 ^ w)

pub place_in : (w i : ℕ) → 0 < i → i ≤ w → place_of i % 2 ^ w ≡ 2 ^ (i - 1)
place_in w zero p h = absurd (omega arith)
place_in w (suc i) p h =
    let e : i ≡ suc i - 1 = omega arith in
    mod-eq_of_lt (pow-lt (omega arith)) ∙ ap (λ (k : ℕ). 2 ^ k) e
