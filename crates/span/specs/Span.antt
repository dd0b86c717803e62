-- XOR of some of a list, dependence, and the kept inputs.
use Rattle.std.specs.Prelude.{ℕ, zero, suc, ◌+◌, ◌*◌, ◌^◌, Bool, true, false, ◌||◌, ◌&&◌, List, [], ◌∷◌, map, eqb}
use Rattle.std.specs.Int.Bits.{bit_xor}
use Rattle.vectors.specs.declared.Kind.{Kind}
use Rattle.lists.specs.First.{first_of}
use Rattle.vectors.specs.Variable.{mask_of}

-- SCOPE 3.7: w is an XOR of some of the masks
unfoldable pub spans : List ℕ → ℕ → Bool
spans [] w = eqb w 0
spans (m ∷ ms) w = spans ms w || spans ms (bit_xor m w)

-- SCOPE 3.7, 11.1: the number from 1 of the first variable that is an XOR of those before it; 0 for none
unfoldable pub first_dependent : List Kind → ℕ
unfolding first_of spans
first_dependent ks = first_of spans (map mask_of ks)

-- SCOPE 6.1: an input is kept unless variables and inputs kept before it give it as an XOR:
-- d inputs from bit j on, over the masks of those variables and inputs; the mask of the kept ones, shifted to bit 0
unfoldable pub kept_in : ℕ → ℕ → List ℕ → ℕ
unfolding spans
kept_in zero j ms = 0
kept_in (suc d) j ms =
    elim (spans ms (2 ^ j)) [
      | true ↦ 2 * kept_in d (suc j) ms
      | false ↦ 1 + 2 * kept_in d (suc j) (2 ^ j ∷ ms)
    ]

-- the kept inputs as one mask
unfoldable pub kept : ℕ → List Kind → ℕ
unfolding kept_in
kept n ks = kept_in n 0 (map mask_of ks)

-- SCOPE 13.2: every variable is independent of those before it, and the mask is that of the inputs that 6.1 keeps
unfoldable pub sound_of : ℕ → List Kind → ℕ → Bool
unfolding first_dependent kept
sound_of n ks mask = eqb (first_dependent ks) 0 && eqb mask (kept n ks)
