-- A stage: the words and the columns at a distance j change places.
use Rattle.std.specs.Prelude.{ℕ, zero, suc, ◌+◌, ◌*◌, ◌/◌, ◌%◌, ◌^◌, ◌<◌, ◌≡◌, List, get_or, set}
use Rattle.std.specs.Int.Bits.{bit_and, bit_xor}
use Rattle.vectors.specs.Bits.{bit}

-- what changes between the words a and b, at the columns of b
abbrev pub crossing : ℕ → ℕ → ℕ → ℕ → ℕ
crossing j mask a b = bit_and (bit_xor (a / 2 ^ j) b) mask

-- the word a, and the word b, once they changed places at the stage's columns
abbrev pub low_word : ℕ → ℕ → ℕ → ℕ → ℕ
low_word j mask a b = bit_xor a (crossing j mask a b * 2 ^ j % 2 ^ 64)

abbrev pub high_word : ℕ → ℕ → ℕ → ℕ → ℕ
high_word j mask a b = bit_xor b (crossing j mask a b)

-- the words low and low + j, so changed
abbrev pub swapped : ℕ → ℕ → ℕ → List ℕ → List ℕ
swapped j mask low xs =
    set (set xs low (low_word j mask (get_or xs low 0) (get_or xs (low + j) 0))) (low + j) (high_word j mask (get_or xs low 0) (get_or xs (low + j) 0))

-- the first n words from first on
unfoldable pub swapped_words : ℕ → ℕ → ℕ → ℕ → List ℕ → List ℕ
swapped_words j mask first zero xs = xs
swapped_words j mask first (suc n) xs = swapped j mask (first + n) (swapped_words j mask first n xs)

-- the distances and masks of the six stages
pub record Distance (j mask : ℕ) : Type 0 where
  pub pos : 0 < j
  -- half of the words are whole blocks of j
  pub blocks : 32 / j * j ≡ 32
  -- the mask has the columns of the even blocks
  pub picks : (c : ℕ) → c < 64 → bit mask c + c / j % 2 ≡ 1

-- word r with the block of c among two
abbrev pub beside : ℕ → ℕ → ℕ → ℕ
beside j r c = (r / j / 2 * 2 + c / j % 2) * j + r % j

-- bit c of word r
abbrev pub bit_at : List ℕ → ℕ → ℕ → ℕ
bit_at xs r c = bit (get_or xs r 0) c

-- words whose each bit comes from where word and column change blocks
pub record Exchanged (j : ℕ) (xs ys : List ℕ) : Type 0 where
  pub words : (r : ℕ) → get_or ys r 0 < 2 ^ 64
  pub bits : (r c : ℕ) → r < 64 → c < 64 → bit_at ys r c ≡ bit_at xs (beside j r c) (beside j c r)
