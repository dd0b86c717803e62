-- Functions that take XOR to XOR: the number that masks make, and the values at a word from those at its bytes. Assumes nothing.
use Prim.Native.Nat.{ℕ, zero, suc, ◌+◌, ◌-◌, ◌*◌, ◌/◌, ◌%◌, ◌^◌, ◌≤◌, ◌<◌}
use native.Mathlib.Nat.{mod-lt, zero-lt-suc, add-zero, one-mul, mod-eq_of_lt, div-eq_of_lt, lt_of_lt_of_le}
use native.Mathlib.Omega.{arith}
use mathlib.Core.Path.{◌≡◌, refl, sym, ap, ap₂, ◌∙◌}
use mathlib.Core.List.{List, [], ◌∷◌, ◌++◌}
use mathlib.Core.Logic.{⊎_elim}
use lib.Bits.{bit_and, bit_xor, and_comm, xor_self, xor_block, xor_comm, xor_shifted}
use lib.Count.{ones}
use lib.Dec.{lit<}
use lib.ListN.{length, get_or, take, drop, set, replicate, length-set, length-drop, get_or-replicate, get_or-append}
use lib.Seq.{get_or-set_same, get_or-set_other, get_or-take, get_or-drop, get_or-append-add, length-take-le}
use lib.Pow.{pow_pos, pow_mono, mod-pow-add, pow-add}
use Rattle.lists.proofs.Tests.{le_or_lt}
use Rattle.vectors.proofs.Bits.Laws.{xor_half, xor_low, odd_xor}
use Rattle.vectors.specs.Masks.{value_by, number_by}
use Rattle.many.specs.Image.{Linear}
use Rattle.many.specs.Inner.Images.{OnBits, Below, Tabled}

-- ---- the number that masks make

pub sums_mod : (a b : ℕ) → (a + b) % 2 ≡ (a % 2 + b % 2) % 2
sums_mod a b = omega arith

value_xor : (m a b : ℕ) → value_by m (bit_xor a b) ≡ (value_by m a + value_by m b) % 2
value_xor m a b =
    ap (λ (n : ℕ). ones n % 2) (and_comm (bit_xor a b) m) ∙ odd_xor m a b
    ∙ ap₂ (λ (p q : ℕ). (ones p + ones q) % 2) (and_comm m a) (and_comm m b) ∙ sums_mod (ones (bit_and a m)) (ones (bit_and b m))

pub digit_xor : (p q r s : ℕ) → p < 2 → r < 2 → bit_xor (p + 2 * q) (r + 2 * s) ≡ (p + r) % 2 + 2 * bit_xor q s
digit_xor p q r s hp hr =
    let a : (p + 2 * q) / 2 ≡ q = omega arith in
    let b : (r + 2 * s) / 2 ≡ s = omega arith in
    let d : bit_xor (p + 2 * q) (r + 2 * s) / 2 ≡ bit_xor q s = xor_half (p + 2 * q) (r + 2 * s) ∙ ap₂ bit_xor a b in
    join (bit_xor (p + 2 * q) (r + 2 * s)) (bit_xor q s) d (xor_low (p + 2 * q) (r + 2 * s))
  where
    join : (x y : ℕ) → x / 2 ≡ y → x % 2 ≡ (p + 2 * q + (r + 2 * s)) % 2 → x ≡ (p + r) % 2 + 2 * y
    join x y e f = omega arith

pub number_linear : (ms : List ℕ) → Linear (number_by ms)
unfolding number_by
number_linear [] a b = refl
number_linear (m ∷ ms) a b =
    ap₂ (λ (p q : ℕ). p + 2 * q) (value_xor m a b) (number_linear ms a b)
    ∙ sym (digit_xor (value_by m a) (number_by ms a) (value_by m b) (number_by ms b) (mod-lt _ (zero-lt-suc 1)) (mod-lt _ (zero-lt-suc 1)))

-- ---- a table made twice as long: l at entry m of the loop, left of old

pub record Doubling (span image : ℕ) (old l : List ℕ) (m : ℕ) : Type 0 where
  pub within : m ≤ span
  pub size : length l ≡ length old
  pub same : (k : ℕ) → k < span → get_or l k 0 ≡ get_or old k 0
  pub twin : (k : ℕ) → k < m → get_or l (span + k) 0 ≡ bit_xor (get_or old k 0) image

pub doubling_none : (span image : ℕ) (old : List ℕ) → Doubling span image old old 0
doubling_none span image old = record { within = omega arith; size = refl; same = λ k h. refl; twin = λ k h. absurd (omega arith) }

pub doubling_more : (span image : ℕ) (old l : List ℕ) (m : ℕ) → m < span → span + span ≤ length old → Doubling span image old l m
    → Doubling span image old (set l (span + m) (bit_xor (get_or l m 0) image)) (m + 1)
doubling_more span image old l m h n s =
    record {
      within = omega arith;
      size = length-set l (span + m) _ ∙ s.size;
      same = λ k g. get_or-set_other l (span + m) k _ 0 (λ e. absurd (omega arith)) ∙ s.same k g;
      twin = λ k g. ⊎_elim
          (λ (e : m ≤ k). let q : k ≡ m = omega arith in rw q (get_or-set_same l (span + m) _ 0 (omega (arith, s.size)) ∙ ap (λ (w : ℕ). bit_xor w image) (s.same m h)))
          (λ (e : k < m). get_or-set_other l (span + m) (span + k) _ 0 (λ q. absurd (omega arith)) ∙ s.twin k e)
          (le_or_lt m k);
    }

-- a part of a list that is lent
pub part_length : (k a : ℕ) (l : List ℕ) (n : ℕ) → n ≡ k → a + k ≤ length l → length (take n (drop a l)) ≡ k
part_length k a l n e h = rw e (length-take-le k (drop a l) (omega (arith, length-drop a l)))

-- ---- a linear function

module _ (f : ℕ → ℕ) (l : Linear f) where
  pub linear_zero : f 0 ≡ 0
  linear_zero = l 0 0 ∙ xor_self (f 0)

  -- a low part and a high part
  pub linear_sum : (k a b : ℕ) → b < 2 ^ k → f (a * 2 ^ k + b) ≡ bit_xor (f b) (f (a * 2 ^ k))
  linear_sum k a b h = ap f (sym (xor_shifted a k b h)) ∙ l (a * 2 ^ k) b ∙ xor_comm (f (a * 2 ^ k)) (f b)

  pub linear_shifted : (k : ℕ) → Linear (λ m. f (m * 2 ^ k))
  linear_shifted k a b =
      let e : bit_xor a b * 2 ^ k ≡ bit_xor (a * 2 ^ k) (b * 2 ^ k) =
      sym (add-zero _) ∙ sym (xor_block k a b 0 0 (pow_pos k) (pow_pos k)) ∙ ap₂ bit_xor (add-zero (a * 2 ^ k)) (add-zero (b * 2 ^ k)) in
      ap f e ∙ l (a * 2 ^ k) (b * 2 ^ k)

  -- the low bits of a word, and j bits more
  more : (x j k : ℕ) → f (x % 2 ^ (j + k)) ≡ bit_xor (f (x % 2 ^ k)) (f (x / 2 ^ k % 2 ^ j * 2 ^ k))
  more x j k = ap f (mod-pow-add x j k) ∙ linear_sum k (x / 2 ^ k % 2 ^ j) (x % 2 ^ k) (mod-lt x (pow_pos k))

  -- a table of 0 alone
  pub below_none : (table : List ℕ) → 0 < length table → Below 1 f (set table 0 0)
  below_none table h zero g = get_or-set_same table 0 0 0 h ∙ sym linear_zero
  below_none table h (suc m) g = absurd (omega arith)

  -- a table of the first 2^b numbers made twice as long
  pub below_more : (b : ℕ) (image : ℕ) (table new : List ℕ) → image ≡ f (2 ^ b) → Below (2 ^ b) f table
      → ((m : ℕ) → m < 2 ^ b → (get_or new m 0 ≡ get_or table m 0) × (get_or new (2 ^ b + m) 0 ≡ bit_xor (get_or table m 0) image)) → Below (2 ^ b * 2) f new
  below_more b image table new e s d m h = ⊎_elim high (λ g. (d m g).0 ∙ s m g) (le_or_lt (2 ^ b) m)
    where
      high : 2 ^ b ≤ m → get_or new m 0 ≡ f m
      high g =
          let k : 2 ^ b + (m - 2 ^ b) ≡ m = omega arith in
          let r : m - 2 ^ b < 2 ^ b = omega arith in
          let q : 1 * 2 ^ b + (m - 2 ^ b) ≡ m = omega arith in
          let a : get_or new m 0 ≡ bit_xor (f (m - 2 ^ b)) (f (2 ^ b)) =
          ap (λ (i : ℕ). get_or new i 0) (sym k) ∙ (d (m - 2 ^ b) r).1 ∙ ap₂ bit_xor (s (m - 2 ^ b) r) e in
          a ∙ ap (λ (i : ℕ). bit_xor (f (m - 2 ^ b)) (f i)) (sym (one-mul (2 ^ b))) ∙ sym (linear_sum b 1 (m - 2 ^ b) r) ∙ ap f q

  -- the value at a word is the XOR of those at its bytes: at the lower seven, and at the eighth. Of bytes past those that are made, all are 0
  module _ (T : List ℕ) (x count : ℕ) (s : Tabled count f T) (few : x < 2 ^ (8 * count)) where
    abbrev byte : ℕ → ℕ
    byte t = get_or T (256 * t + x / 2 ^ (8 * t) % 256) 0

    past : (t : ℕ) → count ≤ t → x / 2 ^ (8 * t) % 256 ≡ 0
    past t h = ap (λ (y : ℕ). y % 256) (div-eq_of_lt (lt_of_lt_of_le few (pow_mono {i = 8 * count} {j = 8 * t} (omega arith))))

    byte_value : (t : ℕ) → t < 8 → byte t ≡ f (x / 2 ^ (8 * t) % 2 ^ 8 * 2 ^ (8 * t))
    byte_value t h = s t (x / 2 ^ (8 * t) % 256) h (mod-lt (x / 2 ^ (8 * t)) (pow_pos 8)) (past t)

    with_byte : (t y : ℕ) → t < 8 → y ≡ f (x % 2 ^ (8 * t)) → bit_xor y (byte t) ≡ f (x % 2 ^ (8 + 8 * t))
    with_byte t y h e = ap₂ bit_xor e (byte_value t h) ∙ sym (more x 8 (8 * t))

    first_byte : byte 0 ≡ f (x % 2 ^ 8)
    first_byte = let e : x / 2 ^ (8 * 0) % 2 ^ 8 * 2 ^ (8 * 0) ≡ x % 2 ^ 8 = omega arith in byte_value 0 (lit< tt) ∙ ap f e

    pub seven_bytes : bit_xor (bit_xor (bit_xor (bit_xor (bit_xor (bit_xor (byte 0) (byte 1)) (byte 2)) (byte 3)) (byte 4)) (byte 5)) (byte 6) ≡ f (x % 2 ^ 56)
    seven_bytes =
        with_byte 6 _ (lit< tt) (with_byte 5 _ (lit< tt) (with_byte 4 _ (lit< tt) (with_byte 3 _ (lit< tt) (with_byte 2 _ (lit< tt)
        (with_byte 1 _ (lit< tt) first_byte)))))

    pub eight_bytes : (y : ℕ) → y ≡ f (x % 2 ^ 56) → x < 2 ^ 64 → bit_xor y (byte 7) ≡ f x
    eight_bytes y e h = with_byte 7 y (lit< tt) e ∙ ap f (mod-eq_of_lt h)

  -- no table made: the first word of each is 0
  pub tabled_none : Tabled 0 f (replicate 2048 0)
  tabled_none t m h g z =
      let e : m ≡ 0 = z (omega arith) in
      let k : 0 * 2 ^ (8 * t) ≡ 0 = omega arith in
      get_or-replicate 2048 (256 * t + m) 0 0 (omega arith) ∙ sym (ap (λ (k : ℕ). f (k * 2 ^ (8 * t))) e ∙ ap f k ∙ linear_zero)

  -- one table more: part is the t-th, made from the eight images of its bits, and rest what comes after it
  pub tabled_more : (images T part rest : List ℕ) (t : ℕ) → t < 8 → 256 * t ≤ length T → length part ≡ 256 → OnBits 64 f images → Tabled t f T
      → ((k : ℕ) → get_or rest k 0 ≡ get_or T (256 * t + 256 + k) 0) → ((g : ℕ → ℕ) → Linear g → OnBits 8 g (take 8 (drop (8 * t) images)) → Below 256 g part)
      → Tabled (t + 1) f (take (256 * t) T ++ (part ++ rest))
  tabled_more images T part rest t h n z e s after p i m hi hm past = ⊎_elim (λ g. ⊎_elim (here g) later (le_or_lt i t)) before (le_or_lt t i)
    where
      size : length (take (256 * t) T) ≡ 256 * t
      size = length-take-le (256 * t) T n

      bits : OnBits 8 (λ k. f (k * 2 ^ (8 * t))) (take 8 (drop (8 * t) images))
      bits b hb =
          let q : 8 * t + b ≡ b + 8 * t = omega arith in
          get_or-take 8 (drop (8 * t) images) b 0 hb ∙ get_or-drop (8 * t) images b 0 ∙ e (8 * t + b) (omega arith)
          ∙ ap f (ap (λ (k : ℕ). 2 ^ k) q ∙ pow-add 2 b (8 * t))

      here : t ≤ i → i ≤ t → get_or (take (256 * t) T ++ (part ++ rest)) (256 * i + m) 0 ≡ f (m * 2 ^ (8 * i))
      here g l =
          let q : i ≡ t = omega arith in
          let j : 256 * t + m ≡ length (take (256 * t) T) + m = omega (arith, size) in
          rw q
          (ap (λ (k : ℕ). get_or (take (256 * t) T ++ (part ++ rest)) k 0) j ∙ get_or-append-add (take (256 * t) T) (part ++ rest) m 0
          ∙ get_or-append part rest 0 m (omega arith) ∙ p (λ k. f (k * 2 ^ (8 * t))) (linear_shifted (8 * t)) bits m hm)

      before : i < t → get_or (take (256 * t) T ++ (part ++ rest)) (256 * i + m) 0 ≡ f (m * 2 ^ (8 * i))
      before g =
          let q : 256 * i + m < 256 * t = omega arith in
          get_or-append (take (256 * t) T) (part ++ rest) 0 (256 * i + m) (omega (arith, size)) ∙ get_or-take (256 * t) T (256 * i + m) 0 q
          ∙ s i m hi hm (λ l. absurd (omega arith))

      later : t < i → get_or (take (256 * t) T ++ (part ++ rest)) (256 * i + m) 0 ≡ f (m * 2 ^ (8 * i))
      later g =
          let k = 256 * i + m - 256 * t - 256 in
          let j : 256 * i + m ≡ length (take (256 * t) T) + (length part + k) = omega (arith, size) in
          let q : 256 * t + 256 + k ≡ 256 * i + m = omega arith in
          ap (λ (a : ℕ). get_or (take (256 * t) T ++ (part ++ rest)) a 0) j ∙ get_or-append-add (take (256 * t) T) (part ++ rest) (length part + k) 0
          ∙ get_or-append-add part rest k 0 ∙ after k ∙ ap (λ (a : ℕ). get_or T a 0) q ∙ s i m hi hm (λ l. past (omega arith))

-- keys of n bits have no more bytes than these
pub key_bytes_lem : (n x : ℕ) → x < 2 ^ n → x < 2 ^ (8 * ((n + 8 - 1) / 8))
key_bytes_lem n x h = lt_of_lt_of_le h (pow_mono {i = n} {j = 8 * ((n + 8 - 1) / 8)} (omega arith))
