-- Variables as they count among n inputs.
use Rattle.std.specs.Prelude.{ℕ, min, cond, List, map, ltb, take}
use Rattle.vectors.specs.declared.Kind.{Kind}
use Rattle.vectors.specs.declared.Kind.TheVariants.{One, Two}
use Rattle.vectors.specs.declared.Variable.{Variable}
use Rattle.vectors.specs.Bounds.{max_inputs}
use Rattle.vectors.specs.Variable.{kinds_of}

-- a position past n is no input: a vector of n bits has 0 there
abbrev pub place_within : ℕ → ℕ → ℕ
place_within n i = cond (ltb n i) 0 i

abbrev pub within : ℕ → Kind → Kind
within n (One i) = One (place_within n i)
within n (Two i j) = Two (place_within n i) (place_within n j)

-- more inputs than a word has count as many as it has
abbrev pub inputs_in : ℕ → ℕ
inputs_in n = min n max_inputs

-- the first p of the variables
abbrev pub kinds_within : ℕ → ℕ → List Variable → List Kind
kinds_within n p variables = map (within (inputs_in n)) (kinds_of (take p variables))
