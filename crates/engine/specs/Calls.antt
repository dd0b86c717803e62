-- The calls of the separation engine, over the definitions of profiles.
use Rattle.std.specs.Prelude.{ℕ, ◌+◌, ◌*◌, ◌^◌, List}
use Rattle.record.specs.Tables.{Tables}
use Rattle.flat.specs.Flat.{flat_of, unit_seen}
use Rattle.bridge.specs.Calls.{Left, left_by}
use Rattle.profiles.specs.declared.Key.{Key}
use Rattle.profiles.specs.declared.Whose.{Whose}
use Rattle.profiles.specs.declared.Whose.TheVariants.{House, Brand}
use Rattle.profiles.specs.Place.{Held, slab_of, place_of}
use Rattle.profiles.specs.Keys.{build_keys}

-- the build of keys: the answer, the record and every word of H, G and AUX
unfoldable pub keys_call : ℕ → ℕ → ℕ → List Key → Tables → Left
unfolding build_keys flat_of
keys_call degree cells allowance keys t = left_by (build_keys degree cells allowance keys t)

abbrev pub whose_word : Whose → ℕ
whose_word House = 0
whose_word Brand = 1

-- the refusal in 8 bits, the number above them, and another from bit 32 on: the slab, or the cells needed
abbrev pub answer : ℕ → ℕ → ℕ → ℕ
answer refusal number above = refusal + 256 * number + 2 ^ 32 * above

abbrev pub answer_of : Held → ℕ
answer_of at = answer at.refusal at.number (whose_word at.whose)

-- where a key's profile is, by two records, tables, slabs and lengths of one profile: the brand's, then the house's
unfoldable pub profile_call : List ℕ → Tables → List ℕ → ℕ → List ℕ → Tables → List ℕ → ℕ → Key → ℕ
unfolding unit_seen place_of
profile_call brand brand_tables brand_slab brand_size house house_tables house_slab house_size key =
    answer_of (place_of (slab_of (unit_seen brand) brand_size brand_slab) brand_tables (slab_of (unit_seen house) house_size house_slab) house_tables key)
