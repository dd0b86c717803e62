-- The comparison word: its parts, its size, and the sum that makes it. Assumes nothing.
use Rattle.std.proofs.Common.{◌≡◌, ℕ, ◌+◌, ◌-◌, ◌*◌, ◌%◌, ◌^◌, ◌<◌, ◌≤◌, List, length, sym, ap, ◌∙◌, ap₂, lt_of_lt_of_le, mul_comm, add_comm, arith, pow_mono, pow-add, shl_exact}
use lib.Arith.{digits_lt, digits_mod}
use lib.Count.{ones}
use Rattle.vectors.specs.declared.Kind.{Kind}
use Rattle.vectors.specs.Variable.{row_of}
use Rattle.vectors.specs.Word.{pack_in, word_of}
use Rattle.vectors.proofs.Variables.Numbers.{parts, row_lt}
use Rattle.vectors.proofs.Words.Packing.{pack_lt_ones, pack_more}

-- a low part of i bits and a high part of j bits make a number of i + j
pub sum_lt : (i j r q : ℕ) → r < 2 ^ i → q < 2 ^ j → r + 2 ^ i * q < 2 ^ (i + j)
sum_lt i j r q h k =
    let d : q * 2 ^ i + r < 2 ^ j * 2 ^ i = digits_lt k h in
    let e : 2 ^ (i + j) ≡ 2 ^ j * 2 ^ i = pow-add 2 i j ∙ mul_comm (2 ^ i) (2 ^ j) in
    omega (arith, mul_comm (2 ^ i) q)

module _ (n n1 : ℕ) (ks : List Kind) (m x : ℕ) (h : n1 ≤ length ks) where
  turned : word_of n n1 ks m x ≡ pack_in n m x * 2 ^ n1 + row_of n1 ks x
  unfolding word_of
  turned = add_comm _ _ ∙ ap (λ (q : ℕ). q + row_of n1 ks x) (mul_comm (2 ^ n1) (pack_in n m x))

  -- the row number in the lowest n1 bits
  pub word_row : word_of n n1 ks m x % 2 ^ n1 ≡ row_of n1 ks x
  word_row = ap (λ (t : ℕ). t % 2 ^ n1) turned ∙ digits_mod (pack_in n m x) (row_lt n1 ks x h)

  -- the word fits w bits
  pub word_lt : (w : ℕ) → m < 2 ^ n → n1 + ones m ≤ w → word_of n n1 ks m x < 2 ^ w
  unfolding word_of
  word_lt w k l =
      lt_of_lt_of_le (sum_lt n1 (ones m) (row_of n1 ks x) (pack_in n m x) (row_lt n1 ks x h) (pack_lt_ones n m x k)) (pow_mono {i = n1 + ones m} {j = w} l)

  -- the sum of the row number and of the shifted kept inputs of a word of w bits is the word
  pub word_sum : (w a b : ℕ) → m < 2 ^ n → n ≤ w → n1 + ones m ≤ w → a ≡ row_of n1 ks x → b ≡ pack_in w m x
      → a + b * 2 ^ n1 % 2 ^ w ≡ word_of n n1 ks m x
  unfolding word_of
  word_sum w a b k hw l p q =
      let e : n + (w - n) ≡ w = omega arith in
      let b' : b ≡ pack_in n m x = q ∙ ap (λ (d : ℕ). pack_in d m x) (sym e) ∙ pack_more n (w - n) m x k in
      ap₂ (λ (u v : ℕ). u + v * 2 ^ n1 % 2 ^ w) p b'
      ∙ ap (λ (v : ℕ). row_of n1 ks x + v) (shl_exact (ones m) n1 w (pack_lt_ones n m x k) (omega arith) ∙ mul_comm (pack_in n m x) (2 ^ n1))

-- two words that are equal have the same row number and the same kept inputs
pub word_parts : (n n1 : ℕ) (ks : List Kind) (m x y : ℕ) → n1 ≤ length ks → word_of n n1 ks m x ≡ word_of n n1 ks m y
    → (row_of n1 ks x ≡ row_of n1 ks y) × (pack_in n m x ≡ pack_in n m y)
unfolding word_of
word_parts n n1 ks m x y h e = parts (2 ^ n1) _ _ _ _ (row_lt n1 ks x h) (row_lt n1 ks y h) e
