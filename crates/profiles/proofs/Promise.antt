-- What is promised of profiles, of units that sure builds left: those of the chosen build, and those carried by file. Assumes nothing.
use Prim.Native.Nat.{ℕ, zero, suc, ◌-◌, ◌*◌, ◌≤◌, ◌<◌}
use native.Mathlib.Nat.{suc-mul}
use native.Mathlib.Omega.{arith}
use mathlib.Core.Path.{◌≡◌, refl, sym, ap, ◌∙◌}
use mathlib.Core.Bool.{Bool, true, false}
use mathlib.Core.List.{List, map}
use lib.ListN.{length, get_or, drop, length-drop}
use lib.Seq.{length-take-le}
use denote.Ref.{Bor}
use Rattle.lists.specs.Members.{In}
use Rattle.record.specs.Tables.{Tables}
use Rattle.record.specs.Holds.{index_of}
use Rattle.lookup.specs.Lookup.{Found, found, lookup_of}
use Rattle.build.specs.Build.{build_chosen}
use Rattle.unit.specs.Demand2.{ChosenBuild}
use Rattle.unit.proofs.Demand2.{chosen_demand_2}
use Rattle.file.specs.Read.{read_of}
use Rattle.file.specs.Facts.{Roomy, carried_chosen}
use Rattle.file.proofs.Loading.Demands.{carried_chosen_demand_2}
use Rattle.profiles.specs.declared.Key.{Key}
use Rattle.profiles.specs.declared.Whose.TheVariants.{House, Brand}
use Rattle.profiles.specs.Place.{Held, slab_of, held, refused, brand_else, chosen_from}
use Rattle.profiles.specs.Key.{in_widths, packed}
use Rattle.profiles.specs.View.{of, PartOf, Within, Views}
use Rattle.profiles.specs.Facts.{Sure, Slabs, BothBuilt, place_in, RecordAt, NothingAt, DayApart, Promised, PromisedOf}
use Rattle.profiles.proofs.Placing.{place_wide, place_looked, place_within}
use Rattle.profiles.proofs.Known.{chosen_distinct, own_widths, knows, knows_own, knows_none, knows_entry}

-- ---- a part of one slab

part_record : (i size : ℕ) (slab r : Bor (List ℕ)) → suc i * size ≤ length slab.now → PartOf (suc i) size slab r → RecordAt slab size i r
part_record i size slab r l p =
    let e : suc i - 1 ≡ i = omega arith in
    record {
      bytes = rw e at p.bytes;
      whole = ap length (rw e at p.bytes) ∙ length-take-le size (drop (i * size) slab.now) (rw length-drop (omega (arith, suc-mul i size)));
      block = p.block;
      offset = rw e at p.offset;
    }

part_nothing : (size : ℕ) (slab r : Bor (List ℕ)) → PartOf 0 size slab r → NothingAt slab r
part_nothing size slab r p = record { bytes = p.bytes; block = p.block; offset = omega (arith, p.offset) }

-- ---- two slabs

module _ (brand_build house_build : ChosenBuild) (brand_sure : Sure brand_build) (house_sure : Sure house_build) (s : Slabs) (b : BothBuilt brand_build house_build s) where
  -- what the lookups give
  looked : (key : Key) → in_widths key ≡ true → place_in s key ≡ chosen_from (lookup_of s.brand_unit s.brand_tables (packed key)) (lookup_of s.house_unit s.house_tables (packed key))
  looked key w = sym (place_looked (slab_of s.brand_unit s.brand_size s.brand_slab.now) s.brand_tables (slab_of s.house_unit s.house_size s.house_slab.now) s.house_tables key w b.brand_long b.house_long)

  wide : (key : Key) → in_widths key ≡ false → place_in s key ≡ refused 30
  wide key w = sym (place_wide (slab_of s.brand_unit s.brand_size s.brand_slab.now) s.brand_tables (slab_of s.house_unit s.house_size s.house_slab.now) s.house_tables key w)

  within : (key : Key) → Within (place_in s key) (length s.brand_slab.now) s.brand_size (length s.house_slab.now) s.house_size
  within key = place_within s.brand_unit s.brand_tables s.brand_slab.now s.brand_size s.house_unit s.house_tables s.house_slab.now s.house_size key

  brand_place : (i : ℕ) (d : Key) → i < length s.brand_keys → place_in s (get_or s.brand_keys i d) ≡ held Brand (suc i)
  brand_place i d l =
      looked (get_or s.brand_keys i d) (own_widths brand_build brand_sure s.brand_keys s.brand_unit s.brand_tables b.brand i d l)
      ∙ ap (λ (f : Found). chosen_from f (lookup_of s.house_unit s.house_tables (packed (get_or s.brand_keys i d))))
      (knows_own brand_build brand_sure s.brand_keys s.brand_unit s.brand_tables b.brand i d l)

  house_place : (i : ℕ) (d : Key) → i < length s.house_keys → (In (get_or s.house_keys i d) s.brand_keys → ⊥) → place_in s (get_or s.house_keys i d) ≡ held House (suc i)
  house_place i d l n =
      let key : Key = get_or s.house_keys i d in
      let w = own_widths house_build house_sure s.house_keys s.house_unit s.house_tables b.house i d l in
      looked key w
      ∙ ap (λ (f : Found). chosen_from f (lookup_of s.house_unit s.house_tables (packed key))) (knows_none brand_build brand_sure s.brand_keys s.brand_unit s.brand_tables b.brand key w n)
      ∙ ap (chosen_from (found 0)) (knows_own house_build house_sure s.house_keys s.house_unit s.house_tables b.house i d l)

  -- a key in neither list: refused, or found by neither
  pub record None (at : Held) : Type 0 where
    pub number : at.number ≡ 0
    pub views : (r : Bor (List ℕ)) → Views at s.brand_slab s.brand_size s.house_slab s.house_size r → NothingAt s.house_slab r

  none : (key : Key) → (In key s.brand_keys → ⊥) → (In key s.house_keys → ⊥) → None (place_in s key)
  none key m n = go (in_widths key) refl
    where
      go : (w : Bool) → in_widths key ≡ w → None (place_in s key)
      go false w = rw (wide key w) (record { number = refl; views = λ r v. part_nothing s.house_size s.house_slab r v })
      go true w =
          rw (
            looked key w,
            knows_none brand_build brand_sure s.brand_keys s.brand_unit s.brand_tables b.brand key w m,
            knows_none house_build house_sure s.house_keys s.house_unit s.house_tables b.house key w n,
          )
          (record { number = refl; views = λ r v. part_nothing s.house_size s.house_slab r v })

  -- a known key is the entry of the list of the slab that it is in, with its number
  pub record EntryAt (key : Key) (at : Held) : Type 0 where
    pub i : ℕ
    pub numbered : at.number ≡ suc i
    pub is : (d : Key) → get_or (of at.whose s.brand_keys s.house_keys) i d ≡ key

  entry : (key : Key) → 0 < (place_in s key).number → EntryAt key (place_in s key)
  entry key l = go (in_widths key) refl
    where
      go : (w : Bool) → in_widths key ≡ w → EntryAt key (place_in s key)
      go false w = let z = ap (λ (h : Held). h.number) (wide key w) in absurd (omega arith)
      go true w =
          let x : ℕ = packed key in
          let f = knows brand_build brand_sure s.brand_keys s.brand_unit s.brand_tables b.brand key w in
          let g = knows house_build house_sure s.house_keys s.house_unit s.house_tables b.house key w in
          at (index_of (map packed s.brand_keys) x) (index_of (map packed s.house_keys) x) f g (looked key w ∙ rw (f, g))
        where
          at : (m n : ℕ) → lookup_of s.brand_unit s.brand_tables (packed key) ≡ found m → lookup_of s.house_unit s.house_tables (packed key) ≡ found n
              → place_in s key ≡ brand_else m (held House n) → EntryAt key (place_in s key)
          at (suc m) n f g p =
              let e = knows_entry brand_build brand_sure s.brand_keys s.brand_unit s.brand_tables b.brand key (suc m) w f (omega arith) in
              rw p (record { i = e.i; numbered = e.numbered; is = e.is })
          at zero n f g p =
              let k = ap (λ (h : Held). h.number) p in
              let e = knows_entry house_build house_sure s.house_keys s.house_unit s.house_tables b.house key n w g (omega arith) in
              rw p (record { i = e.i; numbered = e.numbered; is = e.is })

  day_tells : (a c : Key) → DayApart a c → 0 < (place_in s a).number → 0 < (place_in s c).number → (place_in s a).whose ≡ (place_in s c).whose
      → (place_in s a).number ≡ (place_in s c).number → ⊥
  day_tells a c apart la lc w n =
      let p = entry a la in
      let q = entry c lc in
      let i : p.i ≡ q.i = omega (arith, p.numbered, q.numbered) in
      let e : a ≡ c = sym (p.is a) ∙ rw (w, i) (q.is a) in
      apart.day (ap (λ (k : Key). k.day) e)

  promised : Promised s
  promised =
      record {
        brand_place = brand_place;
        brand_record = λ i d l r v. part_record i s.brand_size s.brand_slab r (rw (brand_place i d l) at (within (get_or s.brand_keys i d))) (rw (brand_place i d l) at v);
        house_place = house_place;
        house_record = λ i d l n r v. part_record i s.house_size s.house_slab r (rw (house_place i d l n) at (within (get_or s.house_keys i d))) (rw (house_place i d l n) at v);
        unknown = λ key m n. (none key m n).number;
        unknown_nothing = λ key m n. (none key m n).views;
        day_tells = day_tells;
      }

-- ---- sure builds

pub sure_promised : (brand_build house_build : ChosenBuild) → Sure brand_build → Sure house_build → PromisedOf brand_build house_build
sure_promised brand_build house_build brand_sure house_sure s b = promised brand_build house_build brand_sure house_sure s b

pub chosen_sure : Sure build_chosen
chosen_sure = record { exact = chosen_demand_2; distinct = chosen_distinct }

pub carried_sure : (into : Tables) → Roomy into → Sure (carried_chosen read_of into build_chosen)
carried_sure into roomy = record { exact = carried_chosen_demand_2 into roomy; distinct = chosen_distinct }

-- both units as they were built
pub built_promised : PromisedOf build_chosen build_chosen
built_promised = sure_promised build_chosen build_chosen chosen_sure chosen_sure

-- both carried by file; for one of each, `sure-promised` with both
pub carried_promised : (brand_into house_into : Tables) → Roomy brand_into → Roomy house_into
    → PromisedOf (carried_chosen read_of brand_into build_chosen) (carried_chosen read_of house_into build_chosen)
carried_promised brand_into house_into m n =
    sure_promised (carried_chosen read_of brand_into build_chosen) (carried_chosen read_of house_into build_chosen) (carried_sure brand_into m) (carried_sure house_into n)
