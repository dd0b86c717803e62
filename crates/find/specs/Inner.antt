-- What the contracts of inner functions cite, and no public contract.
use Rattle.std.specs.Prelude.{ℕ, ◌≤◌, ◌≡◌, true, false, List, length, take, Option, Some, None, MatchOption}
use Rattle.find.specs.Keys.{Key, max_keys, no_key, good_keys, values_in}

-- a key that was read, as a record
abbrev pub told : Option ℕ → Key
told (Some v) = record { good = true; value = v }
told None = no_key

-- what reading a text leaves: whether it is good, and if so how many keys it has, and they stand in front of the words
pub record ReadAs (text : List ℕ) (count : Option ℕ) (words : List ℕ) : Type 0 where
  pub size : length words ≡ max_keys
  pub is : MatchOption count (good_keys text ≡ false) (λ n. (good_keys text ≡ true) × (n ≤ max_keys) × (take n words ≡ values_in text))
