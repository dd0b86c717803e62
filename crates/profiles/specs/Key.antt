-- Profile keys (SCOPE 21.1, 21.2): the widths of the fields, and the packing.
use Rattle.std.specs.Prelude.{ℕ, ◌+◌, ◌*◌, ◌^◌, Bool, true, false, ◌&&◌, Option, None, Some, List, ltb, get_or}
use Rattle.profiles.specs.declared.Key.{Key}

-- the word of a key, and whether it has one; 0 where it has none
pub record Word : Type 0 where
  pub good : Bool
  pub word : ℕ

-- a word, or none
abbrev pub told : Option ℕ → Word
told None = record { good = false; word = 0 }
told (Some word) = record { good = true; word = word }

-- SCOPE 21.1: the bits of each field, and of all five together
abbrev pub press_bits : ℕ
press_bits = 8

abbrev pub ink_bits : ℕ
ink_bits = 12

abbrev pub substrate_bits : ℕ
substrate_bits = 12

abbrev pub screen_bits : ℕ
screen_bits = 8

abbrev pub day_bits : ℕ
day_bits = 16

abbrev pub key_bits : ℕ
key_bits = press_bits + ink_bits + substrate_bits + screen_bits + day_bits

-- SCOPE 21.1: no field is over its width
unfoldable pub in_widths : Key → Bool
in_widths k =
    ltb k.press (2 ^ press_bits) && ltb k.ink (2 ^ ink_bits) && ltb k.substrate (2 ^ substrate_bits)
    && ltb k.screen (2 ^ screen_bits) && ltb k.day (2 ^ day_bits)

-- SCOPE 21.2: the fields side by side from bit 0 up, press first and the day last
unfoldable pub packed : Key → ℕ
packed k =
    k.press
    + 2 ^ press_bits * (k.ink + 2 ^ ink_bits * (k.substrate + 2 ^ substrate_bits * (k.screen + 2 ^ screen_bits * k.day)))

-- SCOPE 21.2: the word of a key, none where a field is over its width
unfoldable pub word_of : Key → Word
unfolding in_widths packed
word_of k = elim (in_widths k) [ true ↦ record { good = true; word = packed k } | false ↦ record { good = false; word = 0 } ]

-- five words, in the order of the fields
abbrev pub key_of : List ℕ → Key
key_of words =
    record {
      press = get_or words 0 0;
      ink = get_or words 1 0;
      substrate = get_or words 2 0;
      screen = get_or words 3 0;
      day = get_or words 4 0;
    }
