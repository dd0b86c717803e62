-- Where a profile is, case by case; and a number that is given lies within its slab. Assumes nothing.
use Prim.Native.Nat.{ℕ, zero, suc, ◌*◌, ◌/◌, ◌^◌, ◌≤◌, ◌<◌}
use native.Mathlib.Nat.{le_trans, le_of_lt, lt_of_le_of_lt, mul-le-mul_left, mul-le-mul_right, mul-lt-mul_of_pos_right, div-mul-le_self, div-lt_iff_lt-mul}
use native.Mathlib.Omega.{arith}
use mathlib.Core.Path.{◌≡◌, refl, ap, subst, ◌∙◌}
use mathlib.Core.Bool.{Bool, true, false, ◌||◌}
use mathlib.Core.List.{List}
use lib.Dec.{eqb, ltb}
use lib.ListN.{length}
use lib.Pow.{pow_pos}
use borrow.Author.Tests.{ltb-true, ltb-false, lt-ltb}
use Rattle.lists.proofs.Tests.{or_false, true_iff}
use Rattle.record.specs.declared.Record.{Record}
use Rattle.record.specs.Tables.{Tables}
use Rattle.lookup.specs.Lookup.{Found, lookup_of}
use Rattle.lookup.proofs.Indices.{found_listed}
use Rattle.profiles.specs.declared.Key.{Key}
use Rattle.profiles.specs.declared.Whose.TheVariants.{House, Brand}
use Rattle.profiles.specs.declared.Slab.{Slab}
use Rattle.profiles.specs.declared.Room.{Room}
use Rattle.profiles.specs.Place.{Asked, Held, slab_of, room_of, too_short, asked_of, held, refused, unless_refused, brand_else, chosen_from, place_of}
use Rattle.profiles.specs.Key.{in_widths, packed}
use Rattle.profiles.specs.View.{Within}

unless_given : (number : ℕ) (at : Held) → (number ≡ 0 → ⊥) → refused number ≡ unless_refused number at
unless_given zero at n = absurd (n refl)
unless_given (suc number) at n = refl

else_known : (i : ℕ) (at : Held) → (i ≡ 0 → ⊥) → held Brand i ≡ brand_else i at
else_known zero at n = absurd (n refl)
else_known (suc i) at n = refl

module _ (f g : Found) where
  -- the house's
  abbrev other : Held
  other = unless_refused g.refusal (held House g.index)

  from_refused : (f.refusal ≡ 0 → ⊥) → refused f.refusal ≡ chosen_from f g
  from_refused n = unless_given f.refusal (brand_else f.index other) n

  from_brand : f.refusal ≡ 0 → (f.index ≡ 0 → ⊥) → held Brand f.index ≡ chosen_from f g
  from_brand z n = else_known f.index other n ∙ rw z

  from_house_refused : f.refusal ≡ 0 → f.index ≡ 0 → (g.refusal ≡ 0 → ⊥) → refused g.refusal ≡ chosen_from f g
  from_house_refused z i n = unless_given g.refusal (held House g.index) n ∙ rw (z, i)

  pub from_house : f.refusal ≡ 0 → f.index ≡ 0 → g.refusal ≡ 0 → held House g.index ≡ chosen_from f g
  from_house z i n = rw (z, i, n)

module _ (brand house : Room) (key : Key) where
  pub asked_wide : in_widths key ≡ false → record { refusal = 30; word = 0 } ≡ asked_of brand house key
  unfolding asked_of
  asked_wide e = rw (e, asked_of)

  pub asked_short : in_widths key ≡ true → (too_short brand || too_short house) ≡ true → record { refusal = 31; word = 0 } ≡ asked_of brand house key
  unfolding asked_of
  asked_short e s = rw (e, s, asked_of)

  pub asked_word : in_widths key ≡ true → too_short brand ≡ false → too_short house ≡ false → record { refusal = 0; word = packed key } ≡ asked_of brand house key
  unfolding asked_of
  asked_word e b h = rw (e, b, h, asked_of)

module _ (brand : Slab) (brand_tables : Tables) (house : Slab) (house_tables : Tables) (key : Key) where
  abbrev place : Held
  place = place_of brand brand_tables house house_tables key

  abbrev by_word : Asked → Held
  by_word a = unless_refused a.refusal (chosen_from (lookup_of brand.unit brand_tables a.word) (lookup_of house.unit house_tables a.word))

  place_asked : (a : Asked) → a ≡ asked_of (room_of brand) (room_of house) key → by_word a ≡ place
  unfolding place_of
  place_asked a e = ap by_word e

  pub place_wide : in_widths key ≡ false → refused 30 ≡ place
  place_wide e = place_asked (record { refusal = 30; word = 0 }) (asked_wide (room_of brand) (room_of house) key e)

  pub place_short : in_widths key ≡ true → (too_short (room_of brand) || too_short (room_of house)) ≡ true → refused 31 ≡ place
  place_short e s = place_asked (record { refusal = 31; word = 0 }) (asked_short (room_of brand) (room_of house) key e s)

  pub place_looked : in_widths key ≡ true → too_short (room_of brand) ≡ false → too_short (room_of house) ≡ false
      → chosen_from (lookup_of brand.unit brand_tables (packed key)) (lookup_of house.unit house_tables (packed key)) ≡ place
  place_looked e b h = place_asked (record { refusal = 0; word = packed key }) (asked_word (room_of brand) (room_of house) key e b h)

  -- a: what is asked
  module _ (a : Asked) (asks : a ≡ asked_of (room_of brand) (room_of house) key) where
    pub place_unasked : (a.refusal ≡ 0 → ⊥) → refused a.refusal ≡ place
    place_unasked n = unless_given a.refusal (chosen_from (lookup_of brand.unit brand_tables a.word) (lookup_of house.unit house_tables a.word)) n ∙ place_asked a asks

    -- f: what the brand's unit finds; g: the house's
    module _ (may : a.refusal ≡ 0) (f : Found) (first : f ≡ lookup_of brand.unit brand_tables a.word) where
      abbrev x : ℕ
      x = a.word

      by_lookups : (g : Found) → g ≡ lookup_of house.unit house_tables x → chosen_from f g ≡ place
      by_lookups g second = rw (first, second) (rw may at (place_asked a asks))

      pub place_refused : (f.refusal ≡ 0 → ⊥) → refused f.refusal ≡ place
      place_refused n = from_refused f (lookup_of house.unit house_tables x) n ∙ by_lookups (lookup_of house.unit house_tables x) refl

      pub place_brand : f.refusal ≡ 0 → (f.index ≡ 0 → ⊥) → held Brand f.index ≡ place
      place_brand z n = from_brand f (lookup_of house.unit house_tables x) z n ∙ by_lookups (lookup_of house.unit house_tables x) refl

      module _ (accepted : f.refusal ≡ 0) (none : f.index ≡ 0) (g : Found) (second : g ≡ lookup_of house.unit house_tables x) where
        pub place_house_refused : (g.refusal ≡ 0 → ⊥) → refused g.refusal ≡ place
        place_house_refused n = from_house_refused f g accepted none n ∙ by_lookups g second

        pub place_house : g.refusal ≡ 0 → held House g.index ≡ place
        place_house z = from_house f g accepted none z ∙ by_lookups g second

  -- what holds of a refusal, and of what either unit finds in a slab that is long enough, holds of the place
  pub place_ind : (P : Held → Type 0) → ((number : ℕ) → P (refused number)) → (too_short (room_of brand) ≡ false → P (held Brand (lookup_of brand.unit brand_tables (packed key)).index))
      → (too_short (room_of house) ≡ false → P (held House (lookup_of house.unit house_tables (packed key)).index)) → P place
  place_ind P none first second = go (in_widths key) refl (too_short (room_of brand)) refl (too_short (room_of house)) refl
    where
      found : (r i r' : ℕ) → P (held Brand i) → P (held House (lookup_of house.unit house_tables (packed key)).index)
          → P (unless_refused r (brand_else i (unless_refused r' (held House (lookup_of house.unit house_tables (packed key)).index))))
      found (suc r) i r' f g = none (suc r)
      found zero (suc i) r' f g = f
      found zero zero (suc r') f g = none (suc r')
      found zero zero zero f g = g

      go : (w : Bool) → in_widths key ≡ w → (b : Bool) → too_short (room_of brand) ≡ b → (h : Bool) → too_short (room_of house) ≡ h → P place
      go false w b p h q = subst P (place_wide w) (none 30)
      go true w true p h q = subst P (place_short w (rw p)) (none 31)
      go true w false p true q = subst P (place_short w (rw (p, q))) (none 31)
      go true w false p false q =
          let f : Found = lookup_of brand.unit brand_tables (packed key) in
          let g : Found = lookup_of house.unit house_tables (packed key) in
          subst P (place_looked w p q) (found f.refusal f.index g.refusal (first p) (second q))

-- ---- a slab that is too short

-- fewer profiles than keys, by a quotient and by a product
pub short_times : (k size length : ℕ) → (size ≡ 0 → ⊥) → ltb length (k * size) ≡ ltb (length / size) k
short_times k size length n =
    let p : 0 < size = omega arith in
    true_iff (ltb length (k * size)) (ltb (length / size) k)
    (λ e. lt-ltb (length / size) k ((div-lt_iff_lt-mul p).1 (ltb-true length (k * size) e)))
    (λ e. lt-ltb length (k * size) ((div-lt_iff_lt-mul p).0 (ltb-true (length / size) k e)))

-- the product fits 64 bits
pub times_fits : (k size : ℕ) → k < 2 ^ 16 → size < 2 ^ 48 → k * size < 2 ^ 64
times_fits k size h l = lt_of_le_of_lt (mul-le-mul_left k (le_of_lt l)) (mul-lt-mul_of_pos_right h (pow_pos 48))

-- ---- within the slab

-- a slab that is long enough has the profile of each of its unit's numbers
number_within : (s : Slab) (i : ℕ) → too_short (room_of s) ≡ false → i ≤ s.unit.k → i * s.size ≤ s.length
unfolding too_short
number_within s i e l =
    let k : s.unit.k ≤ s.length / s.size = ltb-false _ _ (or_false (eqb s.size 0) (ltb (s.length / s.size) s.unit.k) e).1 in
    le_trans (mul-le-mul_right s.size (le_trans l k)) (div-mul-le_self s.length s.size)

pub place_within : (bu : Record) (bt : Tables) (brand : List ℕ) (bs : ℕ) (hu : Record) (ht : Tables) (house : List ℕ) (hs : ℕ) (key : Key)
    → Within (place_of (slab_of bu bs brand) bt (slab_of hu hs house) ht key) (length brand) bs (length house) hs
place_within bu bt brand bs hu ht house hs key =
    place_ind (slab_of bu bs brand) bt (slab_of hu hs house) ht key (λ (at : Held). Within at (length brand) bs (length house) hs) (λ number. omega arith)
    (λ e. number_within (slab_of bu bs brand) (lookup_of bu bt (packed key)).index e (found_listed bu bt (packed key)))
    (λ e. number_within (slab_of hu hs house) (lookup_of hu ht (packed key)).index e (found_listed hu ht (packed key)))
