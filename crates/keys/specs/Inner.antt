-- What the contracts of inner functions cite, and no public contract.
use Rattle.std.specs.Prelude.{ℕ, ◌≤◌, ◌≡◌, Bool, true, false, not, List, map, length, take, Result, Ok, Err}
use Rattle.lists.specs.Members.{every}
use Rattle.input.specs.Input.{max_listed}
use Rattle.dated.specs.Dated.{dated_of}
use Rattle.keys.specs.declared.NoKeys.{NoKeys}
use Rattle.keys.specs.declared.NoKeys.TheVariants.{NoList, Wide}
use Rattle.keys.specs.Keys.{lines_in, good_lines}

-- whether no field of the lines is over its width
abbrev pub all_narrow : List ℕ → Bool
all_narrow bytes = every (λ (l : List ℕ). not (dated_of l).wide) (lines_in bytes)

-- lines that are keys, so many of them that a list may have, and their words in front of the words
pub record Words (bytes : List ℕ) (count : ℕ) (words : List ℕ) : Type 0 where
  pub few : count ≤ max_listed
  pub good : good_lines bytes ≡ true
  pub narrow : all_narrow bytes ≡ true
  pub number : count ≡ length (lines_in bytes)
  pub values : take count words ≡ map (λ (l : List ℕ). (dated_of l).word) (lines_in bytes)

-- what reading lines leaves
abbrev pub ReadAs : List ℕ → Result ℕ NoKeys → List ℕ → Type 0
ReadAs bytes (Ok count) words = Words bytes count words
ReadAs bytes (Err NoList) words = good_lines bytes ≡ false
ReadAs bytes (Err Wide) words = (good_lines bytes ≡ true) × (all_narrow bytes ≡ false)
