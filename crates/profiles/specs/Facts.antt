-- What is promised of keys and their profiles, over any build (SCOPE 21.2, 21.9).
use Rattle.std.specs.Prelude.{ℕ, suc, ◌+◌, ◌*◌, ◌<◌, ◌≡◌, true, false, List, [], length, get_or, take, drop}
use Rattle.std.specs.Borrow.{Bor}
use Rattle.lists.specs.Members.{In}
use Rattle.record.specs.declared.Record.{Record}
use Rattle.record.specs.Tables.{Tables}
use Rattle.lookup.specs.Lookup.{lookup_of}
use Rattle.recover.specs.Recover.{recover_of}
use Rattle.unit.specs.Demand2.{ChosenBuild, Demand2Chosen}
use Rattle.profiles.specs.declared.Key.{Key}
use Rattle.profiles.specs.declared.Whose.TheVariants.{House, Brand}
use Rattle.profiles.specs.Place.{Held, slab_of, room_of, too_short, held, place_of}
use Rattle.profiles.specs.Key.{in_widths}
use Rattle.profiles.specs.Keys.{keys_by}
use Rattle.profiles.specs.View.{Views}

-- SCOPE 21.2: keys within their widths have one word exactly when they are equal in every field
pub record Tells (pack : Key → ℕ) : Type 0 where
  pub apart : (a b : Key) → in_widths a ≡ true → in_widths b ≡ true → pack a ≡ pack b → a ≡ b
  pub same : (a b : Key) → a ≡ b → pack a ≡ pack b

-- a build whose units answer exactly, and that accepts no list with two equal vectors
pub record Sure (build : ChosenBuild) : Type 0 where
  pub exact : Demand2Chosen build lookup_of recover_of
  pub distinct : (n degree cells allowance : ℕ) (vs : List ℕ) (t : Tables) → (build n degree cells allowance vs t).built.refusal ≡ 0
      → (i j : ℕ) → i < j → j < length vs → get_or vs i 0 ≡ get_or vs j 0 → ⊥

-- record and tables as a build left them that accepted the list of keys
pub record BuiltOf (build : ChosenBuild) (keys : List Key) (u : Record) (t : Tables) : Type 0 where
  pub degree : ℕ
  pub cells : ℕ
  pub allowance : ℕ
  pub lent : Tables
  pub accepted : (keys_by build degree cells allowance keys lent).built.refusal ≡ 0
  pub unit : u ≡ (keys_by build degree cells allowance keys lent).built.unit
  pub tables : t ≡ (keys_by build degree cells allowance keys lent).tables

-- the brand's unit, keys and slab, and the house's
pub record Slabs : Type 0 where
  pub brand_unit : Record
  pub brand_tables : Tables
  pub brand_keys : List Key
  pub brand_slab : Bor (List ℕ)
  pub brand_size : ℕ
  pub house_unit : Record
  pub house_tables : Tables
  pub house_keys : List Key
  pub house_slab : Bor (List ℕ)
  pub house_size : ℕ

-- both units are built, each by its build, and both slabs are long enough
pub record BothBuilt (brand_build house_build : ChosenBuild) (s : Slabs) : Type 0 where
  pub brand : BuiltOf brand_build s.brand_keys s.brand_unit s.brand_tables
  pub house : BuiltOf house_build s.house_keys s.house_unit s.house_tables
  pub brand_long : too_short (room_of (slab_of s.brand_unit s.brand_size s.brand_slab.now)) ≡ false
  pub house_long : too_short (room_of (slab_of s.house_unit s.house_size s.house_slab.now)) ≡ false

-- where a key's profile is, and what `profile` returns for it
abbrev pub place_in : Slabs → Key → Held
place_in s key =
    place_of (slab_of s.brand_unit s.brand_size s.brand_slab.now) s.brand_tables
    (slab_of s.house_unit s.house_size s.house_slab.now) s.house_tables key

abbrev pub Returned : Slabs → Key → Bor (List ℕ) → Type 0
Returned s key r = Views (place_in s key) s.brand_slab s.brand_size s.house_slab s.house_size r

-- r is the record of entry i of a slab, from 0: all its bytes, and in the slab's own memory, there
pub record RecordAt (slab : Bor (List ℕ)) (size i : ℕ) (r : Bor (List ℕ)) : Type 0 where
  pub bytes : r.now ≡ take size (drop (i * size) slab.now)
  pub whole : length r.now ≡ size
  pub block : r.ref_ptr.0 ≡ slab.ref_ptr.0
  pub offset : r.ref_ptr.1 ≡ slab.ref_ptr.1 + i * size

-- no byte, at the start of a slab
pub record NothingAt (slab : Bor (List ℕ)) (r : Bor (List ℕ)) : Type 0 where
  pub bytes : r.now ≡ []
  pub block : r.ref_ptr.0 ≡ slab.ref_ptr.0
  pub offset : r.ref_ptr.1 ≡ slab.ref_ptr.1

-- two keys that differ in the day and in nothing else
pub record DayApart (a b : Key) : Type 0 where
  pub press : a.press ≡ b.press
  pub ink : a.ink ≡ b.ink
  pub substrate : a.substrate ≡ b.substrate
  pub screen : a.screen ≡ b.screen
  pub day : a.day ≡ b.day → ⊥

-- SCOPE 21.9, of two slabs. d: what get_or gives past the end
pub record Promised (s : Slabs) : Type 0 where
  -- a key of the brand's list receives its own record out of the brand's slab
  pub brand_place : (i : ℕ) (d : Key) → i < length s.brand_keys → place_in s (get_or s.brand_keys i d) ≡ held Brand (suc i)
  pub brand_record : (i : ℕ) (d : Key) → i < length s.brand_keys → (r : Bor (List ℕ)) → Returned s (get_or s.brand_keys i d) r
      → RecordAt s.brand_slab s.brand_size i r
  -- a key of the house's list that is not in the brand's receives its own record out of the house's slab
  pub house_place : (i : ℕ) (d : Key) → i < length s.house_keys → (In (get_or s.house_keys i d) s.brand_keys → ⊥)
      → place_in s (get_or s.house_keys i d) ≡ held House (suc i)
  pub house_record : (i : ℕ) (d : Key) → i < length s.house_keys → (In (get_or s.house_keys i d) s.brand_keys → ⊥) → (r : Bor (List ℕ))
      → Returned s (get_or s.house_keys i d) r → RecordAt s.house_slab s.house_size i r
  -- a key in neither list receives nothing
  pub unknown : (key : Key) → (In key s.brand_keys → ⊥) → (In key s.house_keys → ⊥) → (place_in s key).number ≡ 0
  pub unknown_nothing : (key : Key) → (In key s.brand_keys → ⊥) → (In key s.house_keys → ⊥) → (r : Bor (List ℕ)) → Returned s key r
      → NothingAt s.house_slab r
  -- two known keys that differ only in the day never receive the same place in one slab
  pub day_tells : (a b : Key) → DayApart a b → 0 < (place_in s a).number → 0 < (place_in s b).number → (place_in s a).whose ≡ (place_in s b).whose
      → (place_in s a).number ≡ (place_in s b).number → ⊥

-- .. whose units are built
abbrev pub PromisedOf : ChosenBuild → ChosenBuild → Type 0
PromisedOf brand_build house_build = (s : Slabs) → BothBuilt brand_build house_build s → Promised s
