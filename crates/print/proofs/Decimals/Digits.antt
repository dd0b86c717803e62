-- Decimal digits: a number below 10 has one, a larger one has those of a tenth of it and one more. Assumes nothing.
use Prim.Native.Nat.{ℕ, zero, suc, ◌+◌, ◌*◌, ◌/◌, ◌%◌, ◌^◌, ◌≤◌, ◌<◌}
use native.Mathlib.Omega.{arith}
use Rattle.std.specs.Prelude.{max}
use native.Mathlib.Nat.{pow-suc}
use mathlib.Core.Path.{◌≡◌, refl, sym, ap, ◌∙◌}
use mathlib.Core.Bool.{Bool, true, false}
use mathlib.Core.List.{List, [], ◌∷◌, ◌++◌}
use borrow.Author.Tests.{lt-ltb, le-ltb, ltb-true, ltb-false}
use lib.Dec.{ltb}
use lib.ListN.{length, length-append}
use Rattle.print.specs.Decimal.{decimal_in, decimal}

in_one : (d n : ℕ) → n < 10 → decimal_in (suc d) n ≡ (48 + n) ∷ []
unfolding decimal_in
in_one d n h = rw (lt-ltb n 10 h, decimal_in)

in_more : (d n : ℕ) → 9 < n → decimal_in (suc d) n ≡ decimal_in d (n / 10) ++ ((48 + n % 10) ∷ [])
unfolding decimal_in
in_more d n h = rw (le-ltb n 10 (omega arith), decimal_in)

-- what is allowed beyond enough makes no difference
in_enough : (d e n : ℕ) → n < d → n < e → decimal_in d n ≡ decimal_in e n
in_enough zero e n h k = absurd (omega arith)
in_enough (suc d) zero n h k = absurd (omega arith)
in_enough (suc d) (suc e) n h k = go (ltb n 10) refl (λ l. in_enough d e (n / 10) (omega arith) (omega arith))
  where
    go : (t : Bool) → ltb n 10 ≡ t → (9 < n → decimal_in d (n / 10) ≡ decimal_in e (n / 10)) → decimal_in (suc d) n ≡ decimal_in (suc e) n
    go true t r = let l = ltb-true n 10 t in in_one d n l ∙ sym (in_one e n l)
    go false t r =
        let l : 9 < n = omega (arith, ltb-false n 10 t) in
        in_more d n l ∙ ap (λ (s : List ℕ). s ++ ((48 + n % 10) ∷ [])) (r l) ∙ sym (in_more e n l)

pub decimal_one : (n : ℕ) → n < 10 → decimal n ≡ (48 + n) ∷ []
unfolding decimal
decimal_one n h = in_one n n h

pub decimal_more : (n : ℕ) → 9 < n → decimal n ≡ decimal (n / 10) ++ ((48 + n % 10) ∷ [])
unfolding decimal
decimal_more n h =
    in_more n n h ∙ ap (λ (s : List ℕ). s ++ ((48 + n % 10) ∷ [])) (in_enough n (suc (n / 10)) (n / 10) (omega arith) (omega arith))

pub length_one : (n : ℕ) → n < 10 → length (decimal n) ≡ 1
length_one n h = ap length (decimal_one n h)

pub length_more : (n : ℕ) → 9 < n → length (decimal n) ≡ length (decimal (n / 10)) + 1
length_more n h = ap length (decimal_more n h) ∙ length-append (decimal (n / 10)) ((48 + n % 10) ∷ [])

pub length_pos : (n : ℕ) → 0 < length (decimal n)
length_pos n = go (ltb n 10) refl
  where
    go : (t : Bool) → ltb n 10 ≡ t → 0 < length (decimal n)
    go true t = omega (arith, length_one n (ltb-true n 10 t))
    go false t = omega (arith, length_more n (omega (arith, ltb-false n 10 t)))

-- a number below 10^(d + 1) has at most d + 1 digits
pub length_below : (d n : ℕ) → n < 10 ^ suc d → length (decimal n) ≤ suc d
length_below zero n h = omega (arith, length_one n (omega arith))
length_below (suc d) n h = go (ltb n 10) refl (λ l. length_below d (n / 10) (let b : n < 10 ^ suc d * 10 = rw pow-suc at h in omega arith))
  where
    go : (t : Bool) → ltb n 10 ≡ t → (9 < n → length (decimal (n / 10)) ≤ suc d) → length (decimal n) ≤ suc (suc d)
    go true t r = omega (arith, length_one n (ltb-true n 10 t))
    go false t r = let l : 9 < n = omega (arith, ltb-false n 10 t) in omega (arith, length_more n l, r l)

ten_pos : (d : ℕ) → 0 < 10 ^ d
ten_pos zero = omega arith
ten_pos (suc d) = rw pow-suc (omega (arith, ten_pos d))

-- a number from 10^d up to 10^(d + 1) has d + 1 digits
length_log : (d n : ℕ) → 10 ^ d ≤ n → n < 10 * 10 ^ d → length (decimal n) ≡ d + 1
length_log zero n h k = length_one n (omega arith)
length_log (suc d) n h k =
    let b : 10 ^ d * 10 ≤ n = rw pow-suc at h in
    let a : n < 10 * (10 ^ d * 10) = rw pow-suc at k in
    omega (arith, length_more n (omega (arith, ten_pos d)), length_log d (n / 10) (omega arith) (omega arith))

-- 0 has one, as 1 has
pub length_most : (n d : ℕ) → 10 ^ d ≤ max n 1 → max n 1 < 10 * 10 ^ d → length (decimal n) ≡ d + 1
length_most zero d h k = length_one 0 (omega arith) ∙ sym (length_one 1 (omega arith)) ∙ length_log d 1 h k
length_most (suc n) d h k = let e : max (suc n) 1 ≡ suc n = omega arith in length_log d (suc n) (rw e at h) (rw e at k)

-- a word has at most 20
pub length_word : (n : ℕ) → n < 2 ^ 64 → length (decimal n) ≤ 20
length_word n h = length_below 19 n (omega arith)

-- a number below 2^16 has at most five
pub length_half : (n : ℕ) → n < 2 ^ 16 → length (decimal n) ≤ 5
length_half n h = length_below 4 n (omega arith)
