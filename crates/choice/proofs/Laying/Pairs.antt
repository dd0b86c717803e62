-- The pairs of a group, stored by a loop. Assumes nothing.
use Prim.Native.Nat.{ℕ, ◌+◌, ◌-◌, ◌≤◌, ◌<◌}
use native.Mathlib.Omega.{arith}
use native.Mathlib.Numerals.{add-one}
use mathlib.Core.Path.{◌≡◌, refl, sym, ap, ◌∙◌}
use mathlib.Core.List.{List, [], ◌++◌, map}
use lib.Bits.{bit_xor}
use lib.ListN.{length, get_or, drop, length-append, length-map, length-drop, drop_of_length-le}
use lib.Seq.{sets, length-sets, drop-cons, take_all}
use Rattle.lists.proofs.Writing.Storing.{sets_append}
use Rattle.lists.proofs.Entries.Walk.{lent}
use Rattle.choice.specs.Inner.Layout.{pairs_of}

-- the pairs of the members before i are stored, up to place w
pub record Pairing (group before : List ℕ) (at : ℕ) (out : List ℕ) (w i : ℕ) : Type 0 where
  pub within : i ≤ length group
  pub size : length out ≡ length before
  pub place : w + length (pairs_of (drop i group)) ≡ at + length (pairs_of group)
  pub is : sets out w (pairs_of (drop i group)) ≡ sets before at (pairs_of group)

module _ (group before : List ℕ) (at : ℕ) where
  pub pairing_none : Pairing group before at before at 0
  pairing_none = record { within = omega arith; size = refl; place = refl; is = refl }

  pub pairing_end : (out : List ℕ) (w i : ℕ) → length group ≤ i → Pairing group before at out w i → (out ≡ sets before at (pairs_of group)) × (w ≡ at + length (pairs_of group))
  unfolding pairs_of
  pairing_end out w i h p =
      let e : pairs_of (drop i group) ≡ [] = ap pairs_of (drop_of_length-le group h) in
      let s : sets out w [] ≡ sets before at (pairs_of group) = ap (sets out w) (sym e) ∙ p.is in
      (s, omega (arith, p.place, ap length e))

  module _ (d : ℕ) (out : List ℕ) (w i : ℕ) (h : i < length group) (p : Pairing group before at out w i) where
    abbrev pairs : List ℕ
    pairs = map (bit_xor (get_or group i d)) (drop (i + 1) group)

    next : pairs_of (drop i group) ≡ pairs ++ pairs_of (drop (i + 1) group)
    unfolding pairs_of
    next = ap pairs_of (drop-cons group i d h) ∙ rw (add-one i)

    size : length pairs ≡ length group - (i + 1)
    size = rw (length-map, length-drop)

    place : w + (length group - (i + 1)) + length (pairs_of (drop (i + 1) group)) ≡ at + length (pairs_of group)
    place = omega (arith, p.place, ap length next, length-append pairs (pairs_of (drop (i + 1) group)), size)

    -- the members after i, as they are lent
    others : lent (i + 1) (length group) group ≡ drop (i + 1) group
    others = take_all (length group - (i + 1)) (drop (i + 1) group) (omega (arith, length-drop (i + 1) group))

    module _ (r : at + length (pairs_of group) ≤ length before) where
      pub pairing_room : w + (length group - (i + 1)) ≤ length out
      pairing_room = omega (arith, place, p.size)

      pub pairing_part : w + length (lent (i + 1) (length group) group) ≤ length out
      pairing_part = rw (others, length-drop) pairing_room

    pub pairing_more : (out' : List ℕ) → out' ≡ sets out w (map (bit_xor (get_or group i d)) (lent (i + 1) (length group) group))
        → Pairing group before at out' (w + length (lent (i + 1) (length group) group)) (i + 1)
    pairing_more out' e =
        let q : out' ≡ sets out w pairs = e ∙ ap (λ (l : List ℕ). sets out w (map (bit_xor (get_or group i d)) l)) others in
        rw (others, length-drop)
        record {
          within = omega arith;
          size = ap length q ∙ length-sets out w pairs ∙ p.size;
          place = place;
          is = rw (q, ← size) (sym (sets_append pairs (pairs_of (drop (i + 1) group)) out w) ∙ ap (sets out w) (sym next) ∙ p.is);
        }
