-- A mask taken run by run from its low end, each run cleared where it stands; w is the width of the word. Assumes nothing.
use Rattle.std.proofs.Common.{◌≡◌, ℕ, zero, suc, ◌+◌, ◌-◌, ◌*◌, ◌/◌, ◌%◌, ◌^◌, ◌<◌, ◌≤◌, min, max, sym, refl, ap, ◌∙◌, ap₂, suc-le-suc, zero-le, le_trans, add-zero, zero-lt-suc, mul_assoc, mul_comm, one-mul, pow-suc, mul-zero, zero-add, mul-add, div-one, add-one, arith, pow-add}
use native.Mathlib.Nat.{mod-one, sub-zero}
use lib.Bits.{bit_and, bit_or, and_step, or_step, and_self, or_self, and_high}
use lib.Pow.{pow-lt, shl-shr, mod-pow-add}
use lib.Count.{count_trailing_zeros, trailing_le}
use Rattle.vectors.specs.Word.{pack_bit, pack_in}
use Rattle.vectors.proofs.Bits.Laws.{digit, half_lt, shr_suc, and_word}
use Rattle.vectors.proofs.Words.Packing.{pack_even, pack_zero}

abbrev pub zeros_of : ℕ → ℕ → ℕ
zeros_of w m = count_trailing_zeros w m

-- the mask's lowest run carried over: zeros up to the end of the run
abbrev pub above : ℕ → ℕ
above m = bit_or m (m - 1) + 1

-- the mask without its lowest run
abbrev rest : ℕ → ℕ
rest m = bit_and m (above m)

-- ---- by the lowest digit

above_even : (m : ℕ) → 0 < m → m % 2 ≡ 0 → above m ≡ above (m / 2) * 2
above_even m p e =
    let a : (m - 1) / 2 ≡ m / 2 - 1 = omega arith in
    let b : (m - 1) % 2 ≡ 1 = omega arith in
    ap (λ (n : ℕ). n + 1)
    (or_step m (m - 1) ∙ ap₂ (λ (q r : ℕ). bit_or (m / 2) q * 2 + max (m % 2) r) a b ∙ ap (λ (r : ℕ). bit_or (m / 2) (m / 2 - 1) * 2 + max r 1) e)
    ∙ carry (bit_or (m / 2) (m / 2 - 1))
  where
    carry : (n : ℕ) → n * 2 + 1 + 1 ≡ (n + 1) * 2
    carry n = omega arith

above_odd : (m : ℕ) → m % 2 ≡ 1 → above m ≡ m + 1
above_odd m e =
    let a : (m - 1) / 2 ≡ m / 2 = omega arith in
    let b : (m - 1) % 2 ≡ 0 = omega arith in
    let c : m / 2 * 2 + 1 ≡ m = omega arith in
    ap (λ (n : ℕ). n + 1)
    (or_step m (m - 1) ∙ ap₂ (λ (q r : ℕ). bit_or (m / 2) q * 2 + max (m % 2) r) a b ∙ ap₂ (λ (q r : ℕ). q * 2 + max r 0) (or_self (m / 2)) e ∙ c)

and_twice : (m n : ℕ) → bit_and m (n * 2) ≡ bit_and (m / 2) n * 2
and_twice m n =
    let a : n * 2 / 2 ≡ n = omega arith in
    let b : n * 2 % 2 ≡ 0 = omega arith in
    and_step m (n * 2) ∙ ap₂ (λ (q r : ℕ). bit_and (m / 2) q * 2 + min (m % 2) r) a b ∙ none (bit_and (m / 2) n * 2) (m % 2)
  where
    none : (n r : ℕ) → n + min r 0 ≡ n
    none n r = omega arith

and_next : (m : ℕ) → m % 2 ≡ 0 → bit_and m (m + 1) ≡ m
and_next m e =
    let a : (m + 1) / 2 ≡ m / 2 = omega arith in
    let b : m / 2 * 2 ≡ m = omega arith in
    and_step m (m + 1) ∙ ap₂ (λ (q r : ℕ). bit_and (m / 2) q * 2 + min r ((m + 1) % 2)) a e ∙ ap (λ (q : ℕ). q * 2 + min 0 ((m + 1) % 2)) (and_self (m / 2)) ∙ none ((m + 1) % 2) b
  where
    none : (r : ℕ) → m / 2 * 2 ≡ m → m / 2 * 2 + min 0 r ≡ m
    none r b = omega arith

zeros_twice : (d n : ℕ) → zeros_of (suc d) (n * 2) ≡ suc (zeros_of d n)
unfolding count_trailing_zeros
zeros_twice d n =
    let a : n * 2 % 2 ≡ 0 = omega arith in
    let b : n * 2 / 2 ≡ n = omega arith in
    rw (a, b)

zeros_odd : (d n : ℕ) → n % 2 ≡ 1 → zeros_of (suc d) n ≡ 0
unfolding count_trailing_zeros
zeros_odd d n e = rw e

-- of a word of d digits, only those count
zeros_word : (d n : ℕ) → zeros_of d (n % 2 ^ d) ≡ zeros_of d n
unfolding count_trailing_zeros
zeros_word zero n = refl
zeros_word (suc d) n =
    let e : n % 2 ^ suc d ≡ n / 2 % 2 ^ d * 2 + n % 2 = ap (λ (k : ℕ). n % 2 ^ k) (sym (add-one d)) ∙ mod-pow-add n d 1 in
    let a : n % 2 ^ suc d % 2 ≡ n % 2 = omega (arith, e) in
    let b : n % 2 ^ suc d / 2 ≡ n / 2 % 2 ^ d = omega (arith, e) in
    rw (a, b, zeros_word d (n / 2))

pack_twice : (d m x : ℕ) → pack_in (suc d) (m * 2) x ≡ pack_in d m (x / 2)
pack_twice d m x = ap (λ (n : ℕ). pack_in (suc d) n x) (mul_comm m 2) ∙ pack_even d m x

-- ---- t ones at the low end, and r without them

record Run (d m t r : ℕ) : Type 0 where
  whole : m + 1 ≡ r + 2 ^ t
  taken : (x : ℕ) → pack_in d m x ≡ x % 2 ^ t + 2 ^ t * pack_in d r x

run_none : (d m : ℕ) → Run d m 0 m
run_none d m = record { whole = refl; taken = λ x. sym (ap (λ (a : ℕ). a + 1 * pack_in d m x) (mod-one x) ∙ zero-add _ ∙ one-mul _) }

-- the two digits of a sum of runs
regroup : (a b c p : ℕ) → a + 2 * (b + p * c) ≡ (b * 2 + a) + (p * 2) * c
regroup a b c p = omega (arith, mul_assoc p 2 c ∙ ap (λ (n : ℕ). p * n) (mul_comm 2 c) ∙ sym (mul_assoc p c 2))

run_one : (d m t r : ℕ) → m % 2 ≡ 1 → Run d (m / 2) t r → Run (suc d) m (suc t) (r * 2)
unfolding pack_in
run_one d m t r z s =
    record {
      whole = omega (arith, s.whole, pow-suc 2 t);
      taken = λ x.
          ap (λ (n : ℕ). pack_bit n (x % 2) (pack_in d (m / 2) (x / 2))) z
          ∙ ap (λ (n : ℕ). x % 2 + 2 * n) (s.taken (x / 2))
          ∙ regroup (x % 2) (x / 2 % 2 ^ t) (pack_in d r (x / 2)) (2 ^ t)
          ∙ ap₂ (λ (a b : ℕ). a + b) (sym (ap (λ (k : ℕ). x % 2 ^ k) (sym (add-one t)) ∙ mod-pow-add x t 1))
          (ap₂ (λ (a b : ℕ). a * b) (sym (pow-suc 2 t)) (sym (pack_twice d r x)));
    }

run : (d m : ℕ) → m < 2 ^ d → Run d m (zeros_of d (m + 1)) (bit_and m (m + 1))
unfolding count_trailing_zeros pack_in
run zero m h =
    let e : m ≡ 0 = omega arith in
    rw e (record { whole = refl; taken = λ x. sym (add-zero (x % 1) ∙ mod-one x) })
run (suc d) m h =
    digit (λ r. m % 2 ≡ r → Run (suc d) m (zeros_of (suc d) (m + 1)) (bit_and m (m + 1)))
    (λ e.
    let o : (m + 1) % 2 ≡ 1 = omega arith in
    rw (zeros_odd d (m + 1) o, and_next m e) (run_none (suc d) m))
    (λ e.
    let q : m + 1 ≡ (m / 2 + 1) * 2 = omega arith in
    rw (q, zeros_twice d (m / 2 + 1), and_twice m (m / 2 + 1)) (run_one d m _ _ e (run d (m / 2) (half_lt d h))))
    m refl

-- ---- the lowest run of a mask: from z up to t, and r without it

record Lowest (d m z t r : ℕ) : Type 0 where
  some : z < t
  whole : m + 2 ^ z ≡ r + 2 ^ t
  taken : (x : ℕ) → pack_in d m x ≡ x / 2 ^ z % 2 ^ (t - z) + 2 ^ (t - z) * pack_in d r x

lowest_here : (d m t r : ℕ) → Run d m (suc t) r → Lowest d m 0 (suc t) r
lowest_here d m t r s =
    record {
      some = zero-lt-suc t;
      whole = s.whole;
      taken = λ x. rw (sub-zero (suc t), div-one x) (s.taken x);
    }

lowest_up : (d m z t r : ℕ) → m % 2 ≡ 0 → Lowest d (m / 2) z t r → Lowest (suc d) m (suc z) (suc t) (r * 2)
unfolding pack_in
lowest_up d m z t r e s =
    let n : t - z ≡ suc t - suc z = omega arith in
    record {
      some = suc-le-suc s.some;
      whole = omega (arith, s.whole, pow-suc 2 z, pow-suc 2 t);
      taken = λ x.
          ap (λ (a : ℕ). pack_bit a (x % 2) (pack_in d (m / 2) (x / 2))) e ∙ s.taken (x / 2)
          ∙ ap₂ (λ (a b : ℕ). a % 2 ^ (t - z) + 2 ^ (t - z) * b) (shr_suc x z) (sym (pack_twice d r x))
          ∙ ap (λ (j : ℕ). x / 2 ^ suc z % 2 ^ j + 2 ^ j * pack_in (suc d) (r * 2) x) n;
    }

abbrev LowestOf : ℕ → ℕ → Type 0
LowestOf d m = Lowest d m (zeros_of d m) (zeros_of d (above m)) (rest m)

lowest : (d m : ℕ) → 0 < m → m < 2 ^ d → LowestOf d m
unfolding count_trailing_zeros
lowest zero m p h = absurd (omega arith)
lowest (suc d) m p h =
    digit (λ r. m % 2 ≡ r → LowestOf (suc d) m)
    (λ e.
    let q : m ≡ m / 2 * 2 = omega arith in
    let z : zeros_of (suc d) m ≡ suc (zeros_of d (m / 2)) = ap (zeros_of (suc d)) q ∙ zeros_twice d (m / 2) in
    rw (z, above_even m p e, zeros_twice d (above (m / 2)), and_twice m (above (m / 2)))
    (lowest_up d m _ _ _ e (lowest d (m / 2) (omega arith) (half_lt d h))))
    (λ e.
    let q : m + 1 ≡ (m / 2 + 1) * 2 = omega arith in
    rw (zeros_odd d m e, above_odd m e, q, zeros_twice d (m / 2 + 1), and_twice m (m / 2 + 1))
    (lowest_here (suc d) m _ _ (run_one d m _ _ e (run d (m / 2) (half_lt d h)))))
    m refl

-- what is picked of a number has its zeros
zeros_and : (d m n : ℕ) → zeros_of d n ≤ zeros_of d (bit_and m n)
unfolding count_trailing_zeros
zeros_and zero m n = zero-le
zeros_and (suc d) m n =
    digit (λ r. n % 2 ≡ r → zeros_of (suc d) n ≤ zeros_of (suc d) (bit_and m n))
    (λ e.
    let q : n ≡ n / 2 * 2 = omega arith in
    rw (q, zeros_twice d (n / 2), and_twice m (n / 2), zeros_twice d (bit_and (m / 2) (n / 2))) (suc-le-suc (zeros_and d (m / 2) (n / 2))))
    (λ e. rw (zeros_odd d n e) zero-le)
    n refl

-- ---- a turn of the loop: k bits taken before, all of them below the zeros of the mask m that is left; the lowest run, which ends at t, moves down by g, and r is left

pub record Turn (w k m x t r g : ℕ) : Type 0 where
  pub start : g < w
  pub ahead : g ≤ t
  pub kept : t - g ≤ zeros_of w r
  pub less : r < m
  pub adds : 2 ^ k * pack_in w m x ≡ bit_and x (m - r) / 2 ^ g + 2 ^ (t - g) * pack_in w r x

spread : (k n a b : ℕ) → 2 ^ k * (a + 2 ^ n * b) ≡ a * 2 ^ k + 2 ^ (k + n) * b
spread k n a b =
    mul-add (2 ^ k) a (2 ^ n * b)
    ∙ ap₂ (λ (p q : ℕ). p + q) (mul_comm (2 ^ k) a) (sym (mul_assoc (2 ^ k) (2 ^ n) b) ∙ ap (λ (p : ℕ). p * b) (sym (pow-add 2 k n)))

-- the bits of x at the n ones from k + g up, moved down by g
moved : (x n k g : ℕ) → bit_and x (2 ^ (n + (k + g)) - 2 ^ (k + g)) / 2 ^ g ≡ x / 2 ^ (k + g) % 2 ^ n * 2 ^ k
moved x n k g =
    let a = x / 2 ^ (k + g) % 2 ^ n in
    ap (λ (b : ℕ). b / 2 ^ g) (and_high x n (k + g) ∙ ap (λ (p : ℕ). a * p) (pow-add 2 k g) ∙ sym (mul_assoc a (2 ^ k) (2 ^ g))) ∙ shl-shr (a * 2 ^ k) g

pub turn_none : (w k m x : ℕ) → m ≡ 0 → 2 ^ k * pack_in w m x ≡ 0
turn_none w k m x e = ap (λ (n : ℕ). 2 ^ k * pack_in w n x) e ∙ ap (λ (n : ℕ). 2 ^ k * n) (pack_zero w x) ∙ mul-zero (2 ^ k)

-- a is the run carried over, in a word: 0 where the run reaches the top
abbrev pub TurnAt : ℕ → ℕ → ℕ → ℕ → ℕ → Type 0
TurnAt w k m x a = Turn w k m x (zeros_of w a) (bit_and m a) (zeros_of w m - k)

module _ (w k m x : ℕ) (p : 0 < m) (h : m < 2 ^ w) (l : k ≤ zeros_of w m) where
  turn_above : TurnAt w k m x (above m)
  turn_above =
      let s = lowest w m p h in
      let z = zeros_of w m in
      let t = zeros_of w (above m) in
      let g = z - k in
      let n = t - z in
      let e : k + g ≡ z = omega arith in
      let f : n + z ≡ t = omega (arith, s.some) in
      let j : k + n ≡ t - g = omega (arith, s.some) in
      let q : m - rest m ≡ 2 ^ t - 2 ^ z = omega (arith, s.whole, pow-lt s.some) in
      let v : bit_and x (m - rest m) / 2 ^ g ≡ x / 2 ^ z % 2 ^ n * 2 ^ k = rw (e, f, sym q) at (moved x n k g) in
      record {
        start = omega (arith, s.some, trailing_le w (above m));
        ahead = omega (arith, s.some);
        kept = le_trans (omega arith) (zeros_and w m (above m));
        less = omega (arith, s.whole, pow-lt s.some);
        adds = ap (λ (b : ℕ). 2 ^ k * b) (s.taken x) ∙ spread k n (x / 2 ^ z % 2 ^ n) (pack_in w (rest m) x)
            ∙ ap₂ (λ (a i : ℕ). a + 2 ^ i * pack_in w (rest m) x) (sym v) j;
      }

  pub turn : (a : ℕ) → a ≡ above m % 2 ^ w → TurnAt w k m x a
  turn a e = rw (e, zeros_word w (above m), and_word w m (above m) h) turn_above
