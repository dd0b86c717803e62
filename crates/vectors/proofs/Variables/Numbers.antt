-- Values of variables as counts of ones, and the number that variables make of a vector. Assumes nothing.
use Rattle.std.proofs.lemmas.List.{get_or-map}
use Rattle.std.proofs.Common.{◌≡◌, ℕ, zero, suc, ◌+◌, ◌-◌, ◌*◌, ◌/◌, ◌%◌, ◌^◌, ◌<◌, ◌≤◌, min, List, [], ◌∷◌, ◌++◌, length, get_or, take, drop, sym, refl, ap, ◌∙◌, ap₂, mod-lt, zero-lt-suc, mul_assoc, mul_comm, one-mul, pow-suc, zero-add, arith, length-drop, take-append-drop, length-take, length-take-le, get_or-take}
use native.Mathlib.Nat.{mod-mod, min-eq_left}
use lib.Arith.{digits_div, digits_mod}
use lib.Bits.{bit_and}
use lib.Count.{ones}
use lib.ListN.{length-map}
use lib.Seq.{slice, slice-cons, slice_empty, length-slice}
use Rattle.vectors.specs.declared.Kind.{Kind}
use Rattle.vectors.specs.declared.Kind.TheVariants.{One, Two}
use Rattle.vectors.specs.declared.Variable.{Variable}
use Rattle.vectors.specs.Bits.{input, place_of}
use Rattle.vectors.specs.Variable.{value_of, mask_of, number_of, row_of, column_of, kinds_of}
use Rattle.vectors.proofs.Bits.Laws.{odd_xor, and_word, input_lt, ones_place}

-- the ones of a vector under a variable's mask are odd exactly when its value is 1
pub value_law : (x : ℕ) (k : Kind) → ones (bit_and x (mask_of k)) % 2 ≡ value_of x k
unfolding value_of
value_law x (One i) = ap (λ (n : ℕ). n % 2) (ones_place x i) ∙ low x i
  where
    low : (x i : ℕ) → input x i % 2 ≡ input x i
    low x zero = refl
    low x (suc i) = mod-mod (x / 2 ^ i) 2
value_law x (Two i j) = odd_xor x (place_of i) (place_of j) ∙ ap₂ (λ (m n : ℕ). (m + n) % 2) (ones_place x i) (ones_place x j)

-- the same with the mask as a word of w bits
pub value_word : (w x : ℕ) (k : Kind) → x < 2 ^ w → ones (bit_and x (mask_of k % 2 ^ w)) % 2 ≡ value_of x k
value_word w x k h = ap (λ (m : ℕ). ones m % 2) (and_word w x (mask_of k) h) ∙ value_law x k

pub value_lt : (x : ℕ) (k : Kind) → value_of x k < 2
unfolding value_of
value_lt x (One i) = input_lt x i
value_lt x (Two i j) = mod-lt (input x i + input x j) (zero-lt-suc 1)

-- n variables make a number of n bits
pub number_lt : (ks : List Kind) (x : ℕ) → number_of ks x < 2 ^ length ks
unfolding number_of
number_lt [] x = zero-lt-suc 0
number_lt (k ∷ ks) x = omega (arith, value_lt x k, number_lt ks x, pow-suc 2 (length ks))

pub number_head : (k : Kind) (ks : List Kind) (x y : ℕ) → number_of (k ∷ ks) x ≡ number_of (k ∷ ks) y
    → (value_of x k ≡ value_of y k) × (number_of ks x ≡ number_of ks y)
unfolding number_of
number_head k ks x y h = omega (arith, value_lt x k, value_lt y k)

pub number_append : (ks ls : List Kind) (x : ℕ) → number_of (ks ++ ls) x ≡ number_of ks x + 2 ^ length ks * number_of ls x
unfolding number_of
number_append [] ls x = sym (zero-add _ ∙ one-mul _)
number_append (k ∷ ks) ls x =
    let e : 2 ^ suc (length ks) * number_of ls x ≡ 2 * (2 ^ length ks * number_of ls x) =
    ap (λ (t : ℕ). t * number_of ls x) (pow-suc 2 (length ks) ∙ mul_comm (2 ^ length ks) 2) ∙ mul_assoc 2 (2 ^ length ks) (number_of ls x) in
    omega (arith, number_append ks ls x)

-- the number of all variables is that of the first i, and above it that of the others
pub number_split : (ks : List Kind) (i x : ℕ) → i ≤ length ks → number_of ks x ≡ number_of (take i ks) x + 2 ^ i * number_of (drop i ks) x
number_split ks i x h =
    ap (λ (t : List Kind). number_of t x) (sym (take-append-drop i ks)) ∙ number_append (take i ks) (drop i ks) x
    ∙ ap (λ (t : ℕ). number_of (take i ks) x + 2 ^ t * number_of (drop i ks) x) (length-take-le i ks h)

-- two numbers r + m * q that are equal have the same two parts
pub parts : (m r q r' q' : ℕ) → r < m → r' < m → r + m * q ≡ r' + m * q' → (r ≡ r') × (q ≡ q')
parts m r q r' q' h h' e =
    let a : r + m * q ≡ q * m + r = omega (arith, mul_comm m q) in
    let b : r' + m * q' ≡ q' * m + r' = omega (arith, mul_comm m q') in
    let c : q * m + r ≡ q' * m + r' = sym a ∙ e ∙ b in (
      sym (digits_mod q h) ∙ ap (λ (t : ℕ). t % m) c ∙ digits_mod q' h',
      sym (digits_div q h) ∙ ap (λ (t : ℕ). t / m) c ∙ digits_div q' h',
    )

-- the row number is below 2^n1, and the column number below 2^n2
pub row_lt : (n1 : ℕ) (ks : List Kind) (x : ℕ) → n1 ≤ length ks → row_of n1 ks x < 2 ^ n1
row_lt n1 ks x h = rw length-take-le at (number_lt (take n1 ks) x)

pub column_lt : (n1 : ℕ) (ks : List Kind) (x : ℕ) → column_of n1 ks x < 2 ^ (length ks - n1)
column_lt n1 ks x = rw length-drop at (number_lt (drop n1 ks) x)

-- ---- a loop that goes down through the variables: at i it has the number of those from i up to the end

module _ (ks : List Kind) (to x : ℕ) (h : to ≤ length ks) where
  pub number_none : 0 ≡ number_of (slice to to ks) x
  unfolding number_of
  number_none = rw slice_empty

  pub number_step : (d : Kind) (i : ℕ) → i < to → number_of (slice (suc i) to ks) x * 2 + value_of x (get_or ks i d) ≡ number_of (slice i to ks) x
  unfolding number_of
  number_step d i k = rw (slice-cons i to ks d k h) (omega arith)

  pub number_slice_lt : (i : ℕ) → number_of (slice i to ks) x < 2 ^ (to - i)
  number_slice_lt i = rw (length-slice i to ks h) at (number_lt (slice i to ks) x)

-- ---- the kinds of the first p of the variables in an array

pub kinds_many : (p : ℕ) (vs : List Variable) → length (kinds_of (take p vs)) ≡ min p (length vs)
kinds_many p vs = length-map (take p vs) (λ v. v.kind) ∙ length-take p vs

pub kinds_at : (vs : List Variable) (p i : ℕ) (d : Variable) (e : Kind) → i < p → i < length vs → get_or (kinds_of (take p vs)) i e ≡ (get_or vs i d).kind
kinds_at vs p i d e h l =
    get_or-map (λ v. v.kind) (take p vs) i d e (omega (arith, length-take p vs)) ∙ ap (λ v. v.kind) (get_or-take p vs i d h)

pub kinds_length : (vs : List Variable) (p : ℕ) → p ≤ length vs → length (kinds_of (take p vs)) ≡ p
kinds_length vs p h = kinds_many p vs ∙ min-eq_left h
