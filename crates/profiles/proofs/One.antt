-- One answer alone is told as the definitions of words and places say. Assumes nothing.
use Prim.Native.Nat.{ℕ, zero, suc}
use native.Mathlib.Omega.{arith}
use mathlib.Core.Path.{◌≡◌, refl, sym, ap, ap₂, ◌∙◌}
use mathlib.Core.Bool.{Bool, true, false, ◌||◌, true≢false}
use Rattle.std.proofs.Common.{Option, None, Some, Result, Ok, Err}
use Rattle.refusal.specs.declared.Refusal.{Refusal}
use Rattle.refusal.proofs.Numbers.{numbered, number_names}
use Rattle.record.specs.Tables.{Tables}
use Rattle.lookup.specs.Lookup.{Found, lookup_of}
use Rattle.lookup.proofs.Indices.{found_plain}
use Rattle.profiles.specs.declared.Key.{Key}
use Rattle.profiles.specs.declared.Whose.{Whose}
use Rattle.profiles.specs.declared.Slab.{Slab}
use Rattle.profiles.specs.declared.Room.{Room}
use Rattle.profiles.specs.declared.Held.{Held as HeldAt}
use Rattle.profiles.specs.Key as key
use Rattle.profiles.specs.Key.{Word, in_widths, word_of}
use Rattle.profiles.specs.Place.{Asked, asked, Held, room_of, too_short, asked_of, told, unless_refused, brand_else, chosen_from, place_of}
use Rattle.profiles.proofs.Placing.{asked_wide}

-- ---- 13, beside which cells are needed, never comes out

asked_plain : (brand house : Room) (k : Key) → (asked_of brand house k).refusal ≡ 13 → ⊥
unfolding asked_of
asked_plain brand house k = wide (in_widths k) refl
  where
    short : in_widths k ≡ true → (b : Bool) → (too_short brand || too_short house) ≡ b → (asked_of brand house k).refusal ≡ 13 → ⊥
    short f true e = rw (f, e, asked_of) (λ z. omega arith)
    short f false e = rw (f, e, asked_of) (λ z. omega arith)

    wide : (b : Bool) → in_widths k ≡ b → (asked_of brand house k).refusal ≡ 13 → ⊥
    wide true e = short e (too_short brand || too_short house) refl
    wide false e = rw (← asked_wide brand house k e) (λ z. omega arith)

unless_plain : (n : ℕ) (at : Held) → (n ≡ 13 → ⊥) → (at.refusal ≡ 13 → ⊥) → (unless_refused n at).refusal ≡ 13 → ⊥
unless_plain zero at h k = k
unless_plain (suc r) at h k = h

else_plain : (i : ℕ) (at : Held) → (at.refusal ≡ 13 → ⊥) → (brand_else i at).refusal ≡ 13 → ⊥
else_plain zero at k = k
else_plain (suc i) at k = λ z. omega arith

from_plain : (f g : Found) → (f.refusal ≡ 13 → ⊥) → (g.refusal ≡ 13 → ⊥) → (chosen_from f g).refusal ≡ 13 → ⊥
from_plain f g h k = unless_plain f.refusal _ h (else_plain f.index _ (unless_plain g.refusal _ k (λ z. omega arith)))

place_plain : (brand : Slab) (bt : Tables) (house : Slab) (ht : Tables) (k : Key) → (place_of brand bt house ht k).refusal ≡ 13 → ⊥
unfolding place_of
place_plain brand bt house ht k =
    let a = asked_of (room_of brand) (room_of house) k in
    unless_plain a.refusal (chosen_from (lookup_of brand.unit bt a.word) (lookup_of house.unit ht a.word)) (asked_plain (room_of brand) (room_of house) k)
    (from_plain (lookup_of brand.unit bt a.word) (lookup_of house.unit ht a.word) (found_plain brand.unit bt a.word) (found_plain house.unit ht a.word))

-- ---- one answer

pub word_one : (k : Key) (r s : Option ℕ) → key.told r ≡ word_of k → key.told s ≡ word_of k → r ≡ s
word_one k r s e f = go r s (e ∙ sym f)
  where
    go : (r s : Option ℕ) → key.told r ≡ key.told s → r ≡ s
    go None None e = refl
    go None (Some w) e = absurd (true≢false (sym (ap (λ (a : Word). a.good) e)))
    go (Some v) None e = absurd (true≢false (ap (λ (a : Word). a.good) e))
    go (Some v) (Some w) e = ap Some (ap (λ (a : Word). a.word) e)

asked_one : (r s : Result ℕ Refusal) → ((asked r).refusal ≡ 13 → ⊥) → asked r ≡ asked s → r ≡ s
asked_one (Ok v) (Ok w) h e = ap Ok (ap (λ (a : Asked). a.word) e)
asked_one (Ok v) (Err b) h e = let q = ap (λ (a : Asked). a.refusal) e in absurd (omega (arith, numbered b))
asked_one (Err a) (Ok w) h e = let q = ap (λ (a : Asked). a.refusal) e in absurd (omega (arith, numbered a))
asked_one (Err a) (Err b) h e = ap Err (number_names a b h (ap (λ (a : Asked). a.refusal) e))

pub ask_one : (brand house : Room) (k : Key) (r s : Result ℕ Refusal) → asked r ≡ asked_of brand house k → asked s ≡ asked_of brand house k → r ≡ s
ask_one brand house k r s e f = asked_one r s (λ z. asked_plain brand house k (ap (λ (a : Asked). a.refusal) (sym e) ∙ z)) (e ∙ sym f)

told_one : (r s : Result HeldAt Refusal) → ((told r).refusal ≡ 13 → ⊥) → told r ≡ told s → r ≡ s
told_one (Ok v) (Ok w) h e =
    ap₂ (λ (o : Whose) (n : ℕ). Ok (record { whose = o; number = n })) (ap (λ (a : Held). a.whose) e) (ap (λ (a : Held). a.number) e)
told_one (Ok v) (Err b) h e = let q = ap (λ (a : Held). a.refusal) e in absurd (omega (arith, numbered b))
told_one (Err a) (Ok w) h e = let q = ap (λ (a : Held). a.refusal) e in absurd (omega (arith, numbered a))
told_one (Err a) (Err b) h e = ap Err (number_names a b h (ap (λ (a : Held). a.refusal) e))

pub find_one : (brand : Slab) (bt : Tables) (house : Slab) (ht : Tables) (k : Key) (r s : Result HeldAt Refusal) → told r ≡ place_of brand bt house ht k
    → told s ≡ place_of brand bt house ht k → r ≡ s
find_one brand bt house ht k r s e f =
    told_one r s (λ z. place_plain brand bt house ht k (ap (λ (a : Held). a.refusal) (sym e) ∙ z)) (e ∙ sym f)
