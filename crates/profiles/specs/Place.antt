-- Where the profile of a key is (SCOPE 21.4 to 21.7): whose slab, and its number there.
use Rattle.std.specs.Prelude.{ℕ, zero, suc, ◌/◌, Bool, true, false, ◌||◌, Result, Ok, Err, List, eqb, ltb, length}
use Rattle.refusal.specs.declared.Refusal.{Refusal}
use Rattle.refusal.specs.Refusal.{number_of}
use Rattle.record.specs.declared.Record.{Record}
use Rattle.record.specs.Tables.{Tables}
use Rattle.lookup.specs.Lookup.{Found, lookup_of}
use Rattle.profiles.specs.declared.Key.{Key}
use Rattle.profiles.specs.declared.Whose.{Whose}
use Rattle.profiles.specs.declared.Whose.TheVariants.{House, Brand}
use Rattle.profiles.specs.declared.Slab.{Slab}
use Rattle.profiles.specs.declared.Room.{Room}
use Rattle.profiles.specs.declared.Held.{Held as HeldAt}
use Rattle.profiles.specs.Key.{in_widths, packed}

-- what is asked of the units: a refusal, 30 or 31, or the word of the key
pub record Asked : Type 0 where
  pub refusal : ℕ
  pub word : ℕ

-- a word or a refusal by name
abbrev pub asked : Result ℕ Refusal → Asked
asked (Ok word) = record { refusal = 0; word = word }
asked (Err r) = record { refusal = number_of r; word = 0 }

-- where a key's profile is: the refusal's number and its place, 0 and 0 where the call is accepted; whose slab, and the number of the profile there
-- from 1. The number is 0, of the house, for an unknown key and beside a refusal
pub record Held : Type 0 where
  pub refusal : ℕ
  pub place : ℕ
  pub whose : Whose
  pub number : ℕ

-- a slab of those bytes, with the record of its unit and the bytes of one profile
abbrev pub slab_of : Record → ℕ → List ℕ → Slab
slab_of unit size bytes = record { unit = unit; size = size; length = length bytes }

abbrev pub room_of : Slab → Room
room_of s = record { keys = s.unit.k; size = s.size; length = s.length }

-- SCOPE 21.5, No. 31: a profile of no byte, or fewer profiles than keys
unfoldable pub too_short : Room → Bool
too_short r = eqb r.size 0 || ltb (r.length / r.size) r.keys

-- SCOPE 21.5: 30, then 31 for either slab; else the word of the key
unfoldable pub asked_of : Room → Room → Key → Asked
unfolding in_widths packed too_short
asked_of brand house key =
    elim (in_widths key) [
      | false ↦ record { refusal = 30; word = 0 }
      | true ↦ elim (too_short brand || too_short house) [ true ↦ record { refusal = 31; word = 0 } | false ↦ record { refusal = 0; word = packed key } ]
    ]

-- a number in a slab; the number 0, of the house, is no profile
abbrev pub held : Whose → ℕ → Held
held whose number = record { refusal = 0; place = 0; whose = whose; number = number }

-- SCOPE 21.7: beside a refusal the same
abbrev pub refused : ℕ → Held
refused number = record { refusal = number; place = 0; whose = House; number = 0 }

-- a place or a refusal by name
abbrev pub told : Result HeldAt Refusal → Held
told (Ok at) = held at.whose at.number
told (Err r) = refused (number_of r)

-- SCOPE 21.5: a lookup's own refusal, or the place
abbrev pub unless_refused : ℕ → Held → Held
unless_refused zero at = at
unless_refused (suc number) at = refused (suc number)

-- SCOPE 21.6: the brand's number or, on its zero, the other place
abbrev pub brand_else : ℕ → Held → Held
brand_else zero at = at
brand_else (suc i) at = held Brand (suc i)

-- what the two lookups give
abbrev pub chosen_from : Found → Found → Held
chosen_from f g = unless_refused f.refusal (brand_else f.index (unless_refused g.refusal (held House g.index)))

-- SCOPE 21.5, 21.6: the refusals 30 and 31, and then the brand's unit before the house's
unfoldable pub place_of : Slab → Tables → Slab → Tables → Key → Held
unfolding asked_of
place_of brand brand_tables house house_tables key =
    let a = asked_of (room_of brand) (room_of house) key in
    unless_refused a.refusal (chosen_from (lookup_of brand.unit brand_tables a.word) (lookup_of house.unit house_tables a.word))
