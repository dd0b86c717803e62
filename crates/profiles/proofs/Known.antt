-- What a unit that was built of keys knows: each key by its number, and no other key. From demands 1 and 2 alone. Assumes nothing.
use Prim.Native.Nat.{ℕ, zero, suc, ◌<◌}
use native.Mathlib.Omega.{arith}
use mathlib.Core.Path.{◌≡◌, refl, sym, ap, ◌∙◌}
use mathlib.Core.Bool.{Bool, true, false}
use mathlib.Core.List.{List, map}
use mathlib.Core.Logic.{◌⊎◌, inl, inr}
use lib.ListN.{length, get_or, length-map}
use Rattle.lists.specs.Members.{In, every}
use Rattle.lists.proofs.Entries.Members.{get_d_in, get_d_map}
use Rattle.lists.proofs.Finding.Equals.{FirstEqual, equal_first, first_equal, equal_none}
use Rattle.record.specs.declared.Record.{Record}
use Rattle.record.specs.Tables.{Tables}
use Rattle.record.specs.Holds.{index_of}
use Rattle.lookup.specs.Lookup.{Found, found, lookup_of}
use Rattle.build.specs.Build.{Outcome, refused, build_chosen}
use Rattle.unit.specs.Demand1.{Same, First}
use Rattle.unit.specs.Demand2.{ChosenBuild}
use Rattle.unit.proofs.Demand1.Builds.{chosen_demand_1}
use Rattle.profiles.specs.declared.Key.{Key}
use Rattle.profiles.specs.Key.{key_bits, in_widths, packed}
use Rattle.profiles.specs.Keys.{keys_by}
use Rattle.profiles.specs.Facts.{Sure, BuiltOf}
use Rattle.profiles.proofs.Packing.{packed_low, packed_tells}
use Rattle.profiles.proofs.Listing.{every_at}

-- ---- an accepted list has no two equal vectors

-- refusal 0 is none of the refusals before
past : {A B : Type 0} (r number : ℕ) → r ≡ 0 → (number ≡ 0 → ⊥) → ((r ≡ number) × A) ⊎ B → B
past r number z n (inl e) = absurd (n (sym e.0 ∙ z))
past r number z n (inr b) = b

no_first : (vs : List ℕ) → ((q : ℕ) → First (length vs) (Same vs) q → ⊥) → (m j : ℕ) → j < m → j < length vs → Same vs j → ⊥
no_first vs n zero j l k s = omega arith
no_first vs n (suc m) j l k s =
    n (suc j) (record { entry = j; numbered = refl; listed = k; is = s; none_before = λ i p q. no_first vs n m i (omega arith) (omega arith) q })

pub chosen_distinct : (n degree cells allowance : ℕ) (vs : List ℕ) (t : Tables) → (build_chosen n degree cells allowance vs t).built.refusal ≡ 0
    → (i j : ℕ) → i < j → j < length vs → get_or vs i 0 ≡ get_or vs j 0 → ⊥
chosen_distinct n degree cells allowance vs t z i j l k e =
    let o = build_chosen n degree cells allowance vs t in
    let r = o.built.refusal in
    let one = past r 1 z (λ q. omega arith) (chosen_demand_1 n degree cells allowance vs t).refusal in
    let two = past r 2 z (λ q. omega arith) one.1 in
    let three = past r 3 z (λ q. omega arith) two.1 in
    let four = past r 4 z (λ q. omega arith) three.1 in
    let five = past r 5 z (λ q. omega arith) four.1 in
    let six = past r 6 z (λ q. omega arith) five.1 in
    let seven = past r 7 z (λ q. omega arith) six.1 in
    no_first vs seven.0 (suc j) j (omega arith) k (i, l, e)

-- ---- what a unit of keys knows

module _ (build : ChosenBuild) (sure : Sure build) (keys : List Key) (u : Record) (t : Tables) (b : BuiltOf build keys u t) where
  abbrev words : List ℕ
  words = map packed keys

  -- every key was within its widths, and the words were accepted
  pub record Accepted : Type 0 where
    pub widths : every in_widths keys ≡ true
    pub is : keys_by build b.degree b.cells b.allowance keys b.lent ≡ build key_bits b.degree b.cells b.allowance words b.lent

  accepted : Accepted
  accepted = go (every in_widths keys) refl
    where
      go : (w : Bool) → every in_widths keys ≡ w → Accepted
      go true w = record { widths = w; is = rw (w, keys_by) }
      go false w =
          let e : keys_by build b.degree b.cells b.allowance keys b.lent ≡ refused (record { number = 30; place = 0 }) b.lent = rw (w, keys_by) in
          let z : ◌≡◌ {A = ℕ} 30 0 = sym (ap (λ (o : Outcome). o.built.refusal) e) ∙ b.accepted in
          absurd (omega arith)

  refusal_none : (build key_bits b.degree b.cells b.allowance words b.lent).built.refusal ≡ 0
  refusal_none = sym (ap (λ (o : Outcome). o.built.refusal) accepted.is) ∙ b.accepted

  -- a lookup is accepted, and goes by the list
  pub knows : (key : Key) → in_widths key ≡ true → lookup_of u t (packed key) ≡ found (index_of words (packed key))
  knows key w =
      ap (λ (v : Record). lookup_of v t (packed key)) (b.unit ∙ ap (λ (o : Outcome). o.built.unit) accepted.is)
      ∙ ap (λ (s : Tables). lookup_of (build key_bits b.degree b.cells b.allowance words b.lent).built.unit s (packed key)) (b.tables ∙ ap (λ (o : Outcome). o.tables) accepted.is)
      ∙ (sure.exact key_bits b.degree b.cells b.allowance words b.lent).lookup_exact refusal_none (packed key) (packed_low key w)

  word_at : (i : ℕ) (d : Key) → i < length keys → get_or words i 0 ≡ packed (get_or keys i d)
  word_at i d l = get_d_map packed keys i d 0 l

  pub own_widths : (i : ℕ) (d : Key) → i < length keys → in_widths (get_or keys i d) ≡ true
  own_widths i d l = every_at in_widths keys i d accepted.widths l

  -- a key of the list is found by its number
  pub knows_own : (i : ℕ) (d : Key) → i < length keys → lookup_of u t (packed (get_or keys i d)) ≡ found (suc i)
  knows_own i d l =
      let n : i < length words = rw length-map l in
      let f : FirstEqual words (packed (get_or keys i d)) i = record {
        below = n;
        equal = word_at i d l;
        first = λ a k e. sure.distinct key_bits b.degree b.cells b.allowance words b.lent refusal_none a i k n (e ∙ sym (word_at i d l));
      } in
      knows (get_or keys i d) (own_widths i d l) ∙ ap found (equal_first words (packed (get_or keys i d)) i f)

  -- a key that is not in the list is not found
  pub knows_none : (key : Key) → in_widths key ≡ true → (In key keys → ⊥) → lookup_of u t (packed key) ≡ found 0
  knows_none key w n = knows key w ∙ ap found (equal_none words (packed key) none)
    where
      none : (j : ℕ) → j < length words → get_or words j 0 ≡ packed key → ⊥
      none j l e =
          let k : j < length keys = rw length-map at l in
          let s : get_or keys j key ≡ key = packed_tells.apart (get_or keys j key) key (own_widths j key k) w (sym (word_at j key k) ∙ e) in
          n (rw s at (get_d_in keys j key k))

  -- a number that is found is the key's own
  pub record Entry (key : Key) (number : ℕ) : Type 0 where
    pub i : ℕ
    pub numbered : number ≡ suc i
    pub listed : i < length keys
    pub is : (d : Key) → get_or keys i d ≡ key

  pub knows_entry : (key : Key) (number : ℕ) → in_widths key ≡ true → lookup_of u t (packed key) ≡ found number → 0 < number → Entry key number
  knows_entry key zero w e l = absurd (omega arith)
  knows_entry key (suc i) w e l =
      let f : FirstEqual words (packed key) i = first_equal words (packed key) i (ap (λ (r : Found). r.index) (sym (knows key w) ∙ e)) in
      let k : i < length keys = rw length-map at f.below in
      record { i = i; numbered = refl; listed = k; is = λ d. packed_tells.apart (get_or keys i d) key (own_widths i d k) w (sym (word_at i d k) ∙ f.equal) }
