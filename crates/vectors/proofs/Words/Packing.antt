-- The bits of a vector at the set positions of a mask. Assumes nothing.
use Rattle.std.proofs.Common.{◌≡◌, ℕ, zero, suc, ◌+◌, ◌*◌, ◌/◌, ◌%◌, ◌^◌, ◌<◌, refl, ap, mod-lt, zero-lt-suc, suc-add, pow-suc, zero-add, one-add, arith}
use lib.Arith.{lt-one}
use lib.Count.{ones, ones_step}
use Rattle.vectors.specs.Word.{pack_bit, pack_in}
use Rattle.vectors.proofs.Bits.Laws.{half_lt}

-- ---- a mask by its lowest digit

pub pack_even : (d m x : ℕ) → pack_in (suc d) (2 * m) x ≡ pack_in d m (x / 2)
unfolding pack_in
pack_even d m x =
    let a : 2 * m % 2 ≡ 0 = omega arith in
    let b : 2 * m / 2 ≡ m = omega arith in
    rw (a, b)

pub pack_odd : (d m x : ℕ) → pack_in (suc d) (1 + 2 * m) x ≡ x % 2 + 2 * pack_in d m (x / 2)
unfolding pack_in
pack_odd d m x =
    let a : (1 + 2 * m) % 2 ≡ 1 = omega arith in
    let b : (1 + 2 * m) / 2 ≡ m = omega arith in
    rw (a, b)

-- ---- how large it is

pack_bit_lt : (r b w p : ℕ) → b < 2 → w < p → pack_bit r b w < p * 2
pack_bit_lt zero b w p hb hw = omega arith
pack_bit_lt (suc r) b w p hb hw = omega arith

pub pack_lt : (d m x : ℕ) → pack_in d m x < 2 ^ d
unfolding pack_in
pack_lt zero m x = zero-lt-suc 0
pack_lt (suc d) m x = rw pow-suc (pack_bit_lt (m % 2) (x % 2) _ (2 ^ d) (mod-lt x (zero-lt-suc 1)) (pack_lt d (m / 2) (x / 2)))

pack_bit_ones : (r b w p : ℕ) → r < 2 → b < 2 → w < 2 ^ p → pack_bit r b w < 2 ^ (r + p)
pack_bit_ones zero b w p hr hb hw = rw zero-add hw
pack_bit_ones (suc zero) b w p hr hb hw = rw (one-add, pow-suc) (omega arith)
pack_bit_ones (suc (suc r)) b w p hr hb hw = absurd (omega arith)

-- as many bits as the mask has
pub pack_lt_ones : (d m x : ℕ) → m < 2 ^ d → pack_in d m x < 2 ^ ones m
unfolding pack_in ones
pack_lt_ones zero m x h = rw (lt-one h) (zero-lt-suc 0)
pack_lt_ones (suc d) m x h =
    rw (ones_step m)
    (pack_bit_ones (m % 2) (x % 2) _ (ones (m / 2)) (mod-lt m (zero-lt-suc 1)) (mod-lt x (zero-lt-suc 1)) (pack_lt_ones d (m / 2) (x / 2) (half_lt d h)))

-- ---- positions beyond the mask's own change nothing

pub pack_zero : (d x : ℕ) → pack_in d 0 x ≡ 0
unfolding pack_in
pack_zero zero x = refl
pack_zero (suc d) x = pack_zero d (x / 2)

pub pack_more : (n e m x : ℕ) → m < 2 ^ n → pack_in (n + e) m x ≡ pack_in n m x
unfolding pack_in
pack_more zero e m x h = rw (lt-one h, zero-add e) (pack_zero e x)
pack_more (suc n) e m x h = rw (suc-add n e) (ap (pack_bit (m % 2) (x % 2)) (pack_more n e (m / 2) (x / 2) (half_lt n h)))
