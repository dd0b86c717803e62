-- How many pairs of a group's members a candidate tells apart, from the blocks' tallies.
use Rattle.std.specs.Prelude.{ℕ, zero, suc, ◌+◌, ◌-◌, ◌*◌, ◌≤◌, ◌/◌, ◌≡◌, cond, List, [], ◌∷◌, eqb, leb, length}
use mathlib.Core.HLevel.{×_prop, →_prop, Unit-prop}
use Rattle.std.proofs.Math.Bridge.{le_prop}
use Rattle.std.proofs.Props.{props}
use Rattle.choice.specs.Inner.Split.{tally}
use Rattle.choice.specs.Inner.Layout.{paired_most}

-- of a members with 1 and the others with 0, each two of different value
abbrev pub splits : ℕ → ℕ → ℕ
splits a size = a * (size - a)

-- over all groups, by the members' values
unfoldable pub gains : (ℕ → ℕ) → List (List ℕ) → ℕ
unfolding tally
gains f [] = 0
gains f (g ∷ gs) = splits (tally f g) (length g) + gains f gs

-- large groups, by the tally t w of each block: the blocks from w on, of which ends are given, with a counted so far of the group at hand
unfoldable pub whole_gain : List ℕ → (ℕ → ℕ) → ℕ → ℕ → ℕ
whole_gain [] t w a = 0
whole_gain (e ∷ es) t w a = cond (eqb e 0) (whole_gain es t (suc w) (a + t w)) (splits (a + t w) e + whole_gain es t (suc w) 0)

-- and at each end the members counted are no more than the group's
abbrev pub Counts : List ℕ → (ℕ → ℕ) → ℕ → ℕ → Type 0
Counts [] t w a = Unit {0}
Counts (e ∷ es) t w a = (e ≡ 0 → Counts es t (suc w) (a + t w)) × ((e ≡ 0 → ⊥) → (a + t w ≤ e) × Counts es t (suc w) 0)

-- it has one proof at most
pub Counts-prop : (ends : List ℕ) (t : ℕ → ℕ) (w a : ℕ) → IsProp (Counts ends t w a)
Counts-prop [] t w a = Unit-prop
Counts-prop (e ∷ es) t w a = ×_prop (→_prop (Counts-prop es t (suc w) (a + t w))) (→_prop (×_prop le_prop (Counts-prop es t (suc w) 0)))

pub ruleset judged_props = (props, Counts-prop)

-- small groups: a pair with value 1 is one pair told apart; d blocks from w on
unfoldable pub pair_gain : ℕ → (ℕ → ℕ) → ℕ → ℕ
pair_gain zero t w = 0
pair_gain (suc d) t w = t w + pair_gain d t (suc w)

-- what groups of these sizes have at most: halves
unfoldable pub most_of : List ℕ → ℕ
most_of [] = 0
most_of (s ∷ ss) = s * s / 4 + most_of ss

-- and the small ones of these groups
unfoldable pub small_most : List (List ℕ) → ℕ
small_most [] = 0
small_most (g ∷ gs) = cond (leb (length g) paired_most) (length g * length g / 4 + small_most gs) (small_most gs)
