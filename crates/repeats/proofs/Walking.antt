-- A walk along the chain of x, at word j: no later word is x. Assumes nothing.
use Prim.Native.Nat.{ℕ, ◌-◌, ◌≤◌, ◌<◌}
use mathlib.Core.Path.{◌≡◌}
use mathlib.Core.List.{List}
use lib.ListN.{length, get_or}
use Rattle.repeats.specs.Chains.{slot_of}

pub record Walking (words : List ℕ) (x j : ℕ) : Type 0 where
  pub within : j ≤ length words
  pub here : 0 < j → slot_of (get_or words (j - 1) 0) ≡ slot_of x
  pub after : (m : ℕ) → j ≤ m → m < length words → get_or words m 0 ≡ x → ⊥
