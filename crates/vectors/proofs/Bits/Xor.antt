-- XOR on numbers: its group laws, and the functions to a digit that are linear over it. Assumes nothing.
use Rattle.std.proofs.Common.{◌≡◌, ℕ, zero, suc, ◌+◌, ◌*◌, ◌/◌, ◌%◌, ◌^◌, ◌<◌, List, [], ◌∷◌, get_or, sym, refl, ap, ◌∙◌, add_assoc, mod-lt, zero-lt-suc, div-one, arith}
use native.Mathlib.Nat.{mod-mod}
use lib.Arith.{bin_ind}
use lib.Bits.{bit_and, bit_xor, and_zero_r, xor_zero_l, xor_comm, xor_self}
use lib.Count.{ones}
use Rattle.vectors.specs.declared.Kind.{Kind}
use Rattle.vectors.specs.Bits.{bit}
use Rattle.vectors.specs.Variable.{value_of, mask_of}
use Rattle.vectors.proofs.Bits.Laws.{bit_suc, xor_half, xor_low, ones_at, odd_xor}
use Rattle.vectors.proofs.Variables.Numbers.{value_law}

pub xor_assoc : (a b c : ℕ) → bit_xor (bit_xor a b) c ≡ bit_xor a (bit_xor b c)
xor_assoc = bin_ind (λ (a : ℕ). (b c : ℕ) → bit_xor (bit_xor a b) c ≡ bit_xor a (bit_xor b c))
    (λ b c. ap (λ (x : ℕ). bit_xor x c) (xor_zero_l b) ∙ sym (xor_zero_l (bit_xor b c)))
    (λ a ih b c. same (bit_xor (bit_xor a b) c) (bit_xor a (bit_xor b c)) (simp xor_half (ih (b / 2) (c / 2)))
    (xor_low (bit_xor a b) c ∙ left (bit_xor a b) (a + b) c (xor_low a b) ∙ ap (λ (n : ℕ). n % 2) (add_assoc a b c)
    ∙ sym (xor_low a (bit_xor b c) ∙ right (bit_xor b c) (b + c) a (xor_low b c))))
  where
    same : (p q : ℕ) → p / 2 ≡ q / 2 → p % 2 ≡ q % 2 → p ≡ q
    same p q h l = omega arith

    left : (p q c : ℕ) → p % 2 ≡ q % 2 → (p + c) % 2 ≡ (q + c) % 2
    left p q c h = omega arith

    right : (p q a : ℕ) → p % 2 ≡ q % 2 → (a + p) % 2 ≡ (a + q) % 2
    right p q a h = omega arith

-- u ⊕ (m ⊕ v) is m ⊕ (u ⊕ v)
pub xor_left_comm : (u m v : ℕ) → bit_xor u (bit_xor m v) ≡ bit_xor m (bit_xor u v)
xor_left_comm u m v = sym (xor_assoc u m v) ∙ ap (λ (x : ℕ). bit_xor x v) (xor_comm u m) ∙ xor_assoc m u v

-- m ⊕ (m ⊕ v) is v
pub xor_cancel : (m v : ℕ) → bit_xor m (bit_xor m v) ≡ v
xor_cancel m v = sym (xor_assoc m m v) ∙ ap (λ (x : ℕ). bit_xor x v) (xor_self m) ∙ xor_zero_l v

-- (a ⊕ u) ⊕ (b ⊕ v) is (a ⊕ b) ⊕ (u ⊕ v)
pub xor_medial : (a u b v : ℕ) → bit_xor (bit_xor a u) (bit_xor b v) ≡ bit_xor (bit_xor a b) (bit_xor u v)
xor_medial a u b v = xor_assoc a u (bit_xor b v) ∙ ap (bit_xor a) (xor_left_comm u b v) ∙ sym (xor_assoc a b (bit_xor u v))

-- ---- linear functions to a digit

pub record Linear (φ : ℕ → ℕ) : Type 0 where
  pub low : (u : ℕ) → φ u < 2
  pub zero : φ 0 ≡ 0
  pub xor : (u v : ℕ) → φ (bit_xor u v) ≡ (φ u + φ v) % 2

-- 1 where a mask picks an odd number of ones of x
unfoldable pub parity : ℕ → ℕ → ℕ
unfolding ones
parity x m = ones (bit_and x m) % 2

pub parity_linear : (x : ℕ) → Linear (parity x)
unfolding parity ones
parity_linear x =
    record {
      low = λ u. mod-lt (ones (bit_and x u)) (zero-lt-suc 1);
      zero = ap (λ (n : ℕ). ones n % 2) (and_zero_r x);
      xor = λ u v. odd_xor x u v ∙ sums (ones (bit_and x u)) (ones (bit_and x v));
    }
  where
    sums : (a b : ℕ) → (a + b) % 2 ≡ (a % 2 + b % 2) % 2
    sums a b = omega arith

pub parity_bit : (x j : ℕ) → parity x (2 ^ j) ≡ bit x j
unfolding parity
parity_bit x j = ap (λ (n : ℕ). n % 2) (ones_at x j) ∙ mod-mod (x / 2 ^ j) 2

pub parity_value : (x : ℕ) (k : Kind) → parity x (mask_of k) ≡ value_of x k
unfolding parity
parity_value x k = value_law x k

-- the number with these digits, the first as the lowest
unfoldable pub numeral : List ℕ → ℕ
numeral [] = 0
numeral (b ∷ bs) = b % 2 + 2 * numeral bs

pub numeral_bit : (bs : List ℕ) (j : ℕ) → bit (numeral bs) j ≡ get_or bs j 0 % 2
unfolding numeral
numeral_bit [] j = none j
  where
    none : (j : ℕ) → bit 0 j ≡ 0
    none zero = refl
    none (suc j) = bit_suc 0 j ∙ none j
numeral_bit (b ∷ bs) zero = ap (λ (n : ℕ). n % 2) (div-one (b % 2 + 2 * numeral bs)) ∙ omega arith
numeral_bit (b ∷ bs) (suc j) =
    let h : (b % 2 + 2 * numeral bs) / 2 ≡ numeral bs = omega arith in
    bit_suc (b % 2 + 2 * numeral bs) j ∙ ap (λ (n : ℕ). bit n j) h ∙ numeral_bit bs j
