-- Bits and inputs of a word.
use Rattle.std.specs.Prelude.{ℕ, zero, suc, ◌/◌, ◌%◌, ◌^◌}

-- bit i of x, from 0
abbrev pub bit : ℕ → ℕ → ℕ
bit x i = x / 2 ^ i % 2

-- SCOPE 3.1: input i of x, which is bit i - 1; there is no input 0
abbrev pub input : ℕ → ℕ → ℕ
input x zero = 0
input x (suc i) = bit x i

-- SCOPE 3.5: the word with input i alone
abbrev pub place_of : ℕ → ℕ
place_of zero = 0
place_of (suc i) = 2 ^ i
