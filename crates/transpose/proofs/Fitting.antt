-- What changes places stays within words of 64 bits. Assumes nothing.
use Prim.Native.Nat.{ℕ, zero, suc, ◌+◌, ◌*◌, ◌/◌, ◌%◌, ◌^◌, ◌<◌}
use native.Mathlib.Nat.{mod-lt, lt_of_le_of_lt, div-le_self}
use mathlib.Core.List.{List, [], ◌∷◌}
use lib.Bits.{bit_xor}
use lib.ListN.{get_or, set}
use lib.Pow.{pow_pos}
use Rattle.std.proofs.lemmas.Nat.{and_le_l, xor_lt}
use Rattle.transpose.specs.Stage.{crossing, low_word, high_word, swapped, swapped_words}

-- each is a word
abbrev pub Words : List ℕ → Type 0
Words xs = (r : ℕ) → get_or xs r 0 < 2 ^ 64

set_fits : (xs : List ℕ) (i v : ℕ) → v < 2 ^ 64 → Words xs → Words (set xs i v)
set_fits [] i v h w r = w r
set_fits (x ∷ xs) zero v h w zero = h
set_fits (x ∷ xs) zero v h w (suc r) = w (suc r)
set_fits (x ∷ xs) (suc i) v h w zero = w zero
set_fits (x ∷ xs) (suc i) v h w (suc r) = set_fits xs i v h (λ k. w (suc k)) r

module _ (j mask : ℕ) where
  crossing_fits : (a b : ℕ) → a < 2 ^ 64 → b < 2 ^ 64 → crossing j mask a b < 2 ^ 64
  crossing_fits a b h k =
      lt_of_le_of_lt (and_le_l (bit_xor (a / 2 ^ j) b) mask) (xor_lt 64 (a / 2 ^ j) b (lt_of_le_of_lt (div-le_self a (2 ^ j)) h) k)

  swapped_fits : (low : ℕ) (xs : List ℕ) → Words xs → Words (swapped j mask low xs)
  swapped_fits low xs w =
      let a = get_or xs low 0 in
      let b = get_or xs (low + j) 0 in
      let c = crossing j mask a b in
      set_fits (set xs low (low_word j mask a b)) (low + j) (high_word j mask a b) (xor_lt 64 b c (w (low + j)) (crossing_fits a b (w low) (w (low + j))))
      (set_fits xs low (low_word j mask a b) (xor_lt 64 a (c * 2 ^ j % 2 ^ 64) (w low) (mod-lt (c * 2 ^ j) (pow_pos 64))) w)

  pub words_fit : (first n : ℕ) (xs : List ℕ) → Words xs → Words (swapped_words j mask first n xs)
  unfolding swapped_words
  words_fit first zero xs w = w
  words_fit first (suc n) xs w = swapped_fits (first + n) (swapped_words j mask first n xs) (words_fit first n xs w)
