-- The search, line by line: input i with each later one, input 0 being none.
use Rattle.std.specs.Prelude.{ℕ, zero, suc, ◌+◌, ◌-◌, ◌*◌, ◌≤◌, ◌<◌, ◌≡◌, cond, ◌⊎◌, eqb, ltb}
use Rattle.vectors.specs.Bits.{input}
use Rattle.vectors.specs.Bounds.{max_inputs}
use Rattle.choice.specs.declared.search.Best.{Best}

-- the better of the best so far and inputs i and j, by what g says that each tells apart
abbrev pub better_of : (ℕ → ℕ → ℕ) → Best → ℕ → ℕ → Best
better_of g b i j = cond (ltb b.gain (g i j)) (record { i = i; j = j; gain = g i j }) b

-- input i with d inputs from j on
unfoldable pub best_line : (ℕ → ℕ → ℕ) → Best → ℕ → ℕ → ℕ → Best
best_line g b i zero j = b
best_line g b i (suc d) j = best_line g (better_of g b i j) i d (suc j)

-- d lines from that of input i on, of n inputs
unfoldable pub best_lines : (ℕ → ℕ → ℕ) → ℕ → Best → ℕ → ℕ → Best
unfolding best_line
best_lines g n b i zero = b
best_lines g n b i (suc d) = best_lines g n (best_line g b i (n - i) (suc i)) (suc i) d

-- before any candidate: the first, as if it told nothing apart
abbrev pub none_best : Best
none_best = record { i = 0; j = 1; gain = 0 }

-- the pairs of inputs are degree 2's
abbrev pub lines_of : ℕ → ℕ → ℕ
lines_of n degree = cond (eqb degree 2) n 1

-- the order of the candidates
abbrev pub rank : ℕ → ℕ → ℕ
rank i j = (max_inputs + 1) * i + j

-- no candidate before that place tells more apart
abbrev pub Above : (ℕ → ℕ → ℕ) → ℕ → Best → ℕ → Type 0
Above g n b place = (i j : ℕ) → i < j → j ≤ n → rank i j < place → g i j ≤ b.gain

-- a candidate with a tied input tells no more apart than one before it, so no more than what none of these passes
abbrev pub Beaten : ℕ → (ℕ → ℕ → ℕ) → ℕ → Type 0
Beaten tied g n = (i j : ℕ) → i < j → j ≤ n → (input tied i ≡ 1) ⊎ (input tied j ≡ 1)
    → (most : ℕ) → ((x y : ℕ) → x < y → y ≤ n → rank x y < rank i j → g x y ≤ most) → g i j ≤ most

-- the best after the line of input i
pub record LineIs (g : ℕ → ℕ → ℕ) (n i : ℕ) (best r : Best) : Type 0 where
  pub is : r ≡ best_line g best i (n - i) (i + 1)
  pub high : Above g n r (rank i (n + 1))
