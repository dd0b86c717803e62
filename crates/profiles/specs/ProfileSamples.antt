-- Keys and their places, computed: one red on one press, calibrated on two days (SCOPE 21).
use Rattle.std.specs.Prelude.{ℕ, ◌-◌, ◌^◌, ◌≡◌, refl, true, false, [], pos, replicate}
use Rattle.vectors.specs.Bounds.{max_variables}
use Rattle.vectors.specs.Variable.{blank_variable}
use Rattle.record.specs.declared.Record.{Record}
use Rattle.record.specs.Record.{mark_built}
use Rattle.record.specs.Tables.{Tables, lent}
use Rattle.lookup.specs.Lookup.{found, not_found}
use Rattle.profiles.specs.declared.Key.{Key}
use Rattle.profiles.specs.declared.Whose.TheVariants.{House, Brand}
use Rattle.profiles.specs.declared.Slab.{Slab}
use Rattle.profiles.specs.Key.{key_bits, in_widths, packed}
use Rattle.profiles.specs.Place.{room_of, too_short, held, refused, chosen_from, place_of}

-- press 3, ink 1200, substrate 77, screen 150, on a day
abbrev red : ℕ → Key
red day = record { press = 3; ink = 1200; substrate = 77; screen = 150; day = day }

abbrev yesterday : Key
yesterday = red 9814

abbrev today : Key
today = red 9815

-- a unit of two keys, and no tables
abbrev unit : Record
unit = record { n = key_bits; p = 1; n1 = 1; k = 2; cells = 2; kept = 0; tries = 3; excess = pos 0; variables = replicate max_variables blank_variable; mark = mark_built }

abbrev none : Tables
none = lent [] [] []

-- two profiles of 100 bytes, in so many bytes
abbrev slab : ℕ → Slab
slab length = record { unit = unit; size = 100; length = length }

pub record Table : Type 0 where
  -- the word of a key: day, screen, substrate, ink and press from the top
  pub word : packed today ≡ 0x2657_96_04d_4b0_03
  pub day_before : packed yesterday ≡ 0x2656_96_04d_4b0_03
  pub all_ones : packed (record { press = 255; ink = 4095; substrate = 4095; screen = 255; day = 65535 }) ≡ 2 ^ key_bits - 1
  -- a field at its width, and over it
  pub last_day : in_widths (red 65535) ≡ true
  pub wide_day : in_widths (red 65536) ≡ false
  pub wide_ink : in_widths (record { press = 3; ink = 4096; substrate = 77; screen = 150; day = 9815 }) ≡ false
  -- a slab of two profiles, and one byte less
  pub long : too_short (room_of (slab 200)) ≡ false
  pub short : too_short (room_of (slab 199)) ≡ true
  pub no_bytes : too_short (record { keys = 2; size = 0; length = 200 }) ≡ true
  -- refusal 30 comes before 31, which is of either slab
  pub refused_key : place_of (slab 199) none (slab 200) none (red 65536) ≡ refused 30
  pub refused_brand : place_of (slab 199) none (slab 200) none today ≡ refused 31
  pub refused_house : place_of (slab 200) none (slab 199) none today ≡ refused 31
  -- a lookup's own refusal; the brand's number; on its zero the house's; neither knows the key
  pub brand_refused : chosen_from (not_found 14) (found 2) ≡ refused 14
  pub in_brand : chosen_from (found 1) (found 2) ≡ held Brand 1
  pub in_house : chosen_from (found 0) (found 2) ≡ held House 2
  pub in_neither : chosen_from (found 0) (found 0) ≡ held House 0
  pub house_refused : chosen_from (found 0) (not_found 14) ≡ refused 14

pub samples : Table
unfolding packed in_widths too_short place_of
samples =
    record {
      word = refl;
      day_before = refl;
      all_ones = refl;
      last_day = refl;
      wide_day = refl;
      wide_ink = refl;
      long = refl;
      short = refl;
      no_bytes = refl;
      refused_key = refl;
      refused_brand = refl;
      refused_house = refl;
      brand_refused = refl;
      in_brand = refl;
      in_house = refl;
      in_neither = refl;
      house_refused = refl;
    }
