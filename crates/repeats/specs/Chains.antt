-- Words in chains, one for each slot: from a word to the latest before it in the same slot. A word is named by its number from 1; 0 ends a chain.
use Rattle.std.specs.Prelude.{ℕ, ◌-◌, ◌/◌, ◌%◌, ◌^◌, ◌≤◌, ◌<◌, ◌≡◌, Bool, true, false, List, length, get_or}
use Rattle.std.specs.Int.Bits.{bit_xor}

abbrev pub slots : ℕ
slots = 2048

abbrev pub folded : ℕ → ℕ → ℕ
folded k x = bit_xor x (x / 2 ^ k)

-- the slot of a word
unfoldable pub slot_of : ℕ → ℕ
slot_of x = folded 11 (folded 16 (folded 32 x)) % slots

-- word k is the latest of the first n words in slot s; k is 0 where none is
pub record Latest (words : List ℕ) (n k s : ℕ) : Type 0 where
  pub within : k ≤ n
  pub here : 0 < k → slot_of (get_or words (k - 1) 0) ≡ s
  pub after : (m : ℕ) → k ≤ m → m < n → slot_of (get_or words m 0) ≡ s → ⊥

-- each of the first n words has the latest before it in its slot
abbrev pub Linked : List ℕ → List ℕ → ℕ → Type 0
Linked words next n = (m : ℕ) → m < n → Latest words m (get_or next m 0) (slot_of (get_or words m 0))

-- whether x is among the words
pub record Seen (words : List ℕ) (x : ℕ) (r : Bool) : Type 0 where
  pub found : r ≡ true → (m : ℕ) × (m < length words) × (get_or words m 0 ≡ x)
  pub none : r ≡ false → (m : ℕ) → m < length words → get_or words m 0 ≡ x → ⊥
