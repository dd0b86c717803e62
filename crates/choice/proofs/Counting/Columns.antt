-- Columns of the items: the ones of a candidate's two columns, XORed, are the items at which its value is 1. Assumes nothing.
use Prim.Native.Nat.{ℕ, zero, suc, ◌+◌, ◌*◌, ◌/◌, ◌%◌, ◌<◌}
use native.Mathlib.Omega.{arith}
use mathlib.Core.Path.{◌≡◌, refl, ap, ap₂, ◌∙◌, fun_ext}
use mathlib.Core.List.{List, [], ◌∷◌}
use lib.Bits.{bit_xor, and_comm}
use lib.Count.{ones, ones_step}
use Rattle.vectors.specs.declared.Kind.{Kind}
use Rattle.vectors.specs.declared.Kind.TheVariants.{One, Two}
use Rattle.vectors.specs.Bits.{input}
use Rattle.vectors.specs.Variable.{earlier, later, value_of, mask_of}
use Rattle.vectors.proofs.Bits.Laws.{xor_half, xor_low, input_lt}
use Rattle.vectors.proofs.Bits.Xor.{Linear, parity, parity_linear, parity_value}
use Rattle.transpose.specs.Turn.{column}
use Rattle.choice.specs.Inner.Split.{tally}
use Rattle.choice.specs.Inner.Layout.{input_column}

-- ---- the value of a candidate is linear

value_mask : (k : Kind) → parity (mask_of k) ≡ (λ x. value_of x k)
unfolding parity
value_mask k = fun_ext (λ x. ap (λ (n : ℕ). ones n % 2) (and_comm (mask_of k) x) ∙ parity_value x k)

pub value_linear : (k : Kind) → Linear (λ x. value_of x k)
value_linear k = rw value_mask at (parity_linear (mask_of k))

-- by its two inputs
pub value_inputs : (x : ℕ) (k : Kind) → value_of x (Two (earlier k) (later k)) ≡ value_of x k
unfolding value_of
value_inputs x (One i) = omega (arith, input_lt x i)
value_inputs x (Two i j) = refl

-- ---- columns

-- one more item: a digit below each column
ones_digit : (a b m n : ℕ) → a < 2 → b < 2 → ones (bit_xor (a + 2 * m) (b + 2 * n)) ≡ (a + b) % 2 + ones (bit_xor m n)
ones_digit a b m n g h =
    let p : (a + 2 * m) / 2 ≡ m = omega arith in
    let q : (b + 2 * n) / 2 ≡ n = omega arith in
    let l : (a + 2 * m + (b + 2 * n)) % 2 ≡ (a + b) % 2 = omega arith in
    ones_step (bit_xor (a + 2 * m) (b + 2 * n))
    ∙ ap₂ (λ (r s : ℕ). r + ones s) (xor_low (a + 2 * m) (b + 2 * n) ∙ l) (xor_half (a + 2 * m) (b + 2 * n) ∙ ap₂ bit_xor p q)

column_none : (i : ℕ) → input_column i [] ≡ 0
unfolding column
column_none zero = refl
column_none (suc i) = refl

column_more : (i x : ℕ) (xs : List ℕ) → input_column i (x ∷ xs) ≡ input x i + 2 * input_column i xs
unfolding column
column_more zero x xs = refl
column_more (suc i) x xs = refl

ones_inputs : (i j : ℕ) (xs : List ℕ) → ones (bit_xor (input_column i xs) (input_column j xs)) ≡ tally (λ x. value_of x (Two i j)) xs
unfolding tally ones value_of
ones_inputs i j [] = rw (column_none i, column_none j)
ones_inputs i j (x ∷ xs) =
    rw (column_more i x xs, column_more j x xs)
    (ones_digit (input x i) (input x j) (input_column i xs) (input_column j xs) (input_lt x i) (input_lt x j)
    ∙ ap (λ (n : ℕ). value_of x (Two i j) + n) (ones_inputs i j xs))

pub ones_columns : (k : Kind) (xs : List ℕ) → ones (bit_xor (input_column (earlier k) xs) (input_column (later k) xs)) ≡ tally (λ x. value_of x k) xs
ones_columns k xs = ones_inputs (earlier k) (later k) xs ∙ ap (λ (f : ℕ → ℕ). tally f xs) (fun_ext (λ x. value_inputs x k))
