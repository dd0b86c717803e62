-- What the calls of the engine give, from what the calls of profiles give. Assumes nothing.
use Prim.Native.Nat.{ℕ, ◌+◌, ◌*◌, ◌%◌, ◌^◌, ◌≤◌, ◌<◌}
use native.Mathlib.Omega.{arith}
use native.Mathlib.Nat.{eq-zero-or-pos}
use mathlib.Core.Path.{◌≡◌, refl, sym, ap, subst, ◌∙◌}
use mathlib.Core.Bool.{Bool, true, false}
use mathlib.Core.List.{List, map}
use mathlib.Core.Logic.{⊎_elim}
use lib.ListN.{length, get_or}
use Rattle.lists.specs.Members.{every}
use Rattle.lookup.specs.Lookup.{Found, lookup_of}
use Rattle.lookup.proofs.Indices.{found_number, found_index}
use Rattle.record.specs.Tables.{Tables}
use Rattle.build.specs.Build.{Outcome}
use Rattle.unit.proofs.Demand1.Calls.{lookup_demand_1}
use Rattle.build.specs.Cells.{needed_limit}
use Rattle.build.proofs.Places.{place_limit, chosen_place, chosen_needed}
use Rattle.flat.specs.Flat.{unit_seen}
use Rattle.flat.proofs.Records.{seen_keys}
use Rattle.bridge.specs.Calls.{left_by, lookup_call}
use Rattle.bridge.proofs.Answers.{found_called, seen_found}
use Rattle.profiles.specs.declared.Key.{Key}
use Rattle.profiles.specs.declared.Slab.{Slab}
use Rattle.profiles.specs.Place.{Held, Asked, slab_of, room_of, asked_of, held, refused, place_of}
use Rattle.profiles.specs.Key.{key_bits, in_widths, packed}
use Rattle.profiles.specs.Keys.{build_keys}
use Rattle.profiles.specs.declared.Whose.TheVariants.{House, Brand}
use Rattle.profiles.proofs.Building.{keys_wide, keys_build}
use Rattle.profiles.proofs.Placing.{place_unasked, place_refused, place_brand, place_house_refused, place_house}
use Rattle.engine.specs.Calls.{keys_call, answer, answer_of, profile_call}

-- ---- the build

pub keys_place : (degree cells allowance : ℕ) (keys : List Key) (t : Tables) → (build_keys degree cells allowance keys t).built.place < place_limit
keys_place degree cells allowance keys t = go (every in_widths keys) refl
  where
    go : (w : Bool) → every in_widths keys ≡ w → (build_keys degree cells allowance keys t).built.place < place_limit
    go true w = subst (λ (o : Outcome). o.built.place < place_limit) (keys_build degree cells allowance keys t w) (chosen_place key_bits degree cells allowance (map packed keys) t)
    go false w = subst (λ (o : Outcome). o.built.place < place_limit) (keys_wide degree cells allowance keys t w) (omega arith)

pub keys_needed : (degree cells allowance : ℕ) (keys : List Key) (t : Tables) → (build_keys degree cells allowance keys t).built.needed ≤ needed_limit
keys_needed degree cells allowance keys t = go (every in_widths keys) refl
  where
    go : (w : Bool) → every in_widths keys ≡ w → (build_keys degree cells allowance keys t).built.needed ≤ needed_limit
    go true w = subst (λ (o : Outcome). o.built.needed ≤ needed_limit) (keys_build degree cells allowance keys t w) (chosen_needed key_bits degree cells allowance (map packed keys) t)
    go false w = subst (λ (o : Outcome). o.built.needed ≤ needed_limit) (keys_wide degree cells allowance keys t w) (omega arith)

pub keys_left : (degree cells allowance : ℕ) (keys : List Key) (t : Tables) → left_by (build_keys degree cells allowance keys t) ≡ keys_call degree cells allowance keys t
unfolding keys_call
keys_left degree cells allowance keys t = refl

-- ---- the profile

-- the answer of a lookup: its refusal in 8 bits and its index above them, of which one is 0
record Told (f : Found) (r : ℕ) : Type 0 where
  is : r ≡ f.refusal + 256 * f.index
  few : f.refusal < 256
  nothing : 0 < f.refusal → f.index ≡ 0

told : (words : List ℕ) (t : Tables) (x r : ℕ) → r ≡ lookup_call words t x → Told (lookup_of (unit_seen words) t x) r
told words t x r e =
    record {
      is = e ∙ sym (found_called words t x (lookup_of (unit_seen words) t x) _ (seen_found words t x) refl);
      few = omega (arith, found_number (unit_seen words) t x);
      nothing = λ l. ((lookup_demand_1 (unit_seen words) t x).nothing l).1;
    }

-- with the slab's number above it, it is one word
pub lookup_fits : (words : List ℕ) (t : Tables) (x r : ℕ) → r ≡ lookup_call words t x → r + 2 ^ 32 < 2 ^ 64
lookup_fits words t x r e = omega (arith, (told words t x r e).is, (told words t x r e).few, found_index (unit_seen words) t x)

module _ (brand : List ℕ) (bt : Tables) (bslab : List ℕ) (bs : ℕ) (house : List ℕ) (ht : Tables) (hslab : List ℕ) (hs : ℕ) (key : Key) (a : Asked)
    (asks : a ≡ asked_of (record { keys = get_or brand 3 0; size = bs; length = length bslab }) (record { keys = get_or house 3 0; size = hs; length = length hslab }) key) where
  abbrev B : Slab
  B = slab_of (unit_seen brand) bs bslab

  abbrev H : Slab
  H = slab_of (unit_seen house) hs hslab

  -- the keys of the units are those that the records say
  asked : a ≡ asked_of (room_of B) (room_of H) key
  asked = rw (seen_keys brand, seen_keys house) asks

  call_is : (at : Held) (r : ℕ) → at ≡ place_of B bt H ht key → r ≡ answer_of at → r ≡ profile_call brand bt bslab bs house ht hslab hs key
  unfolding profile_call
  call_is at r e i = i ∙ ap answer_of e

  pub call_unasked : (r : ℕ) → (a.refusal ≡ 0 → ⊥) → r ≡ answer a.refusal 0 0 → r ≡ profile_call brand bt bslab bs house ht hslab hs key
  call_unasked r n i = call_is (refused a.refusal) r (place_unasked B bt H ht key a asked n) i

  module _ (may : a.refusal ≡ 0) (first : ℕ) (called : first ≡ lookup_call brand bt a.word) where
    abbrev f : Found
    f = lookup_of (unit_seen brand) bt a.word

    brand_told : Told f first
    brand_told = told brand bt a.word first called

    pub call_refused : (first % 256 ≡ 0 → ⊥) → first ≡ profile_call brand bt bslab bs house ht hslab hs key
    call_refused n = ⊎_elim (λ z. absurd (n (omega (arith, brand_told.is)))) refuses (eq-zero-or-pos f.refusal)
      where
        refuses : 0 < f.refusal → first ≡ profile_call brand bt bslab bs house ht hslab hs key
        refuses l = call_is (refused f.refusal) first (place_refused B bt H ht key a asked may f refl (λ z. omega arith)) (omega (arith, brand_told.is, brand_told.nothing l))

    pub call_brand : (first ≡ 0 → ⊥) → first % 256 ≡ 0 → first + 2 ^ 32 ≡ profile_call brand bt bslab bs house ht hslab hs key
    call_brand n z = call_is (held Brand f.index) (first + 2 ^ 32) (place_brand B bt H ht key a asked may f refl accepts known) (omega (arith, brand_told.is, accepts))
      where
        accepts : f.refusal ≡ 0
        accepts = omega (arith, brand_told.is, brand_told.few)

        known : f.index ≡ 0 → ⊥
        known e = n (omega (arith, brand_told.is, accepts))

    module _ (z : first ≡ 0) (second : ℕ) (called_next : second ≡ lookup_call house ht a.word) where
      abbrev g : Found
      g = lookup_of (unit_seen house) ht a.word

      house_told : Told g second
      house_told = told house ht a.word second called_next

      accepts : f.refusal ≡ 0
      accepts = omega (arith, brand_told.is)

      unknown : f.index ≡ 0
      unknown = omega (arith, brand_told.is)

      pub call_house : second ≡ profile_call brand bt bslab bs house ht hslab hs key
      call_house = ⊎_elim found refuses (eq-zero-or-pos g.refusal)
        where
          found : g.refusal ≡ 0 → second ≡ profile_call brand bt bslab bs house ht hslab hs key
          found m = call_is (held House g.index) second (place_house B bt H ht key a asked may f refl accepts unknown g refl m) (omega (arith, house_told.is))

          refuses : 0 < g.refusal → second ≡ profile_call brand bt bslab bs house ht hslab hs key
          refuses m =
              call_is (refused g.refusal) second (place_house_refused B bt H ht key a asked may f refl accepts unknown g refl (λ z. omega arith)) (omega (arith, house_told.is, house_told.nothing m))
