-- What is promised of profiles (SCOPE 21.9), of the functions for C.
use Rattle.std.specs.Prelude.{ℕ, ◌/◌, ◌≤◌, ◌≡◌, false, List, length, take}
use Rattle.std.specs.Borrow.{Bor}
use Rattle.record.specs.Tables.{Tables}
use Rattle.file.specs.File.{longest_file}
use Rattle.file.specs.Facts.{Roomy}
use Rattle.flat.specs.Flat.{unit_seen}
use Rattle.bridge.specs.Calls.{write_call, read_call}
use Rattle.profiles.specs.declared.Key.{Key}
use Rattle.profiles.specs.Place.{slab_of, room_of, too_short}
use Rattle.profiles.specs.Facts.{Slabs, place_in, Promised}
use Rattle.engine.specs.Calls.{keys_call, answer_of, profile_call}

-- a record and tables as igu_profiles_build left them with the answer 0
pub record Called (keys : List Key) (words : List ℕ) (t : Tables) : Type 0 where
  pub degree : ℕ
  pub cells : ℕ
  pub allowance : ℕ
  pub lent : Tables
  pub accepted : (keys_call degree cells allowance keys lent).answer ≡ 0
  pub record_is : words ≡ (keys_call degree cells allowance keys lent).words
  pub tables_are : t ≡ (keys_call degree cells allowance keys lent).tables

-- .. or as igu_read left them, of the bytes that igu_write gave for such, with tables and a target that are long enough
pub record CalledByFile (keys : List Key) (words : List ℕ) (t : Tables) : Type 0 where
  pub before : List ℕ
  pub tables : Tables
  pub called : Called keys before tables
  pub target : List ℕ
  pub into : Tables
  pub room : longest_file ≤ length target
  pub roomy : Roomy into
  pub record_is : words ≡ (read_call (take ((write_call before tables target).answer / 256) (write_call before tables target).target) into).words
  pub tables_are : t ≡ (read_call (take ((write_call before tables target).answer / 256) (write_call before tables target).target) into).tables

-- what igu_profile is handed, with the lists of keys that the units are of
pub record Handed : Type 0 where
  pub brand : List ℕ
  pub brand_tables : Tables
  pub brand_keys : List Key
  pub brand_slab : Bor (List ℕ)
  pub brand_size : ℕ
  pub house : List ℕ
  pub house_tables : Tables
  pub house_keys : List Key
  pub house_slab : Bor (List ℕ)
  pub house_size : ℕ

abbrev pub slabs_in : Handed → Slabs
slabs_in c =
    record {
      brand_unit = unit_seen c.brand;
      brand_tables = c.brand_tables;
      brand_keys = c.brand_keys;
      brand_slab = c.brand_slab;
      brand_size = c.brand_size;
      house_unit = unit_seen c.house;
      house_tables = c.house_tables;
      house_keys = c.house_keys;
      house_slab = c.house_slab;
      house_size = c.house_size;
    }

-- units that a predicate names, in slabs that are long enough: the answer is a place, and all that is promised of places holds of it
abbrev pub CallsPromised : (List Key → List ℕ → Tables → Type 0) → Type 0
CallsPromised Unit =
    (c : Handed) → Unit c.brand_keys c.brand c.brand_tables → Unit c.house_keys c.house c.house_tables
    → too_short (room_of (slab_of (unit_seen c.brand) c.brand_size c.brand_slab.now)) ≡ false
    → too_short (room_of (slab_of (unit_seen c.house) c.house_size c.house_slab.now)) ≡ false
    → Promised (slabs_in c)
    × ((key : Key) → profile_call c.brand c.brand_tables c.brand_slab.now c.brand_size c.house c.house_tables c.house_slab.now c.house_size key
    ≡ answer_of (place_in (slabs_in c) key))
