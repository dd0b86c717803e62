-- A list stored in another, from a place on. Assumes nothing.
use Prim.Native.Nat.{ℕ, suc, ◌+◌, ◌-◌, ◌≤◌, ◌<◌}
use native.Mathlib.Omega.{arith}
use native.Mathlib.Numerals.{add-one}
use mathlib.Core.Path.{◌≡◌, refl, sym, ap, ◌∙◌}
use mathlib.Core.List.{List, [], ◌∷◌, ◌++◌}
use lib.ListN.{length, get_or, drop, set, replicate, length-set, drop_of_length-le}
use lib.Seq.{sets, drop-cons}

-- two runs of stores, one after the other
pub sets_append : {A : Type 0} (vs ws l : List A) (at : ℕ) → sets l at (vs ++ ws) ≡ sets (sets l at vs) (at + length vs) ws
sets_append [] ws l at = let e : at + 0 ≡ at = omega arith in rw e
sets_append (v ∷ vs) ws l at = let e : at + suc (length vs) ≡ suc at + length vs = omega arith in rw e (sets_append vs ws (set l at v) (suc at))

-- a loop that stores vs from place at on, at entry i: l is left of before
pub record Storing {A : Type 0} (vs before : List A) (at : ℕ) (l : List A) (i : ℕ) : Type 0 where
  pub within : i ≤ length vs
  pub size : length l ≡ length before
  pub is : sets l (at + i) (drop i vs) ≡ sets before at vs

module _ {A : Type 0} (vs before : List A) (at : ℕ) where
  pub storing_none : Storing vs before at before 0
  storing_none = let e : at + 0 ≡ at = omega arith in record { within = omega arith; size = refl; is = rw e }

  pub storing_more : (d v : A) (l : List A) (i : ℕ) → i < length vs → v ≡ get_or vs i d → Storing vs before at l i → Storing vs before at (set l (at + i) v) (i + 1)
  storing_more d v l i h e s =
      let p : at + (i + 1) ≡ suc (at + i) = omega arith in
      let q : drop i vs ≡ get_or vs i d ∷ drop (i + 1) vs = rw (add-one i) (drop-cons vs i d h) in
      let t : sets l (at + i) (get_or vs i d ∷ drop (i + 1) vs) ≡ sets before at vs = ap (sets l (at + i)) (sym q) ∙ s.is in
      record { within = omega arith; size = length-set l (at + i) v ∙ s.size; is = rw (p, e) t }

  pub storing_end : (l : List A) (i : ℕ) → length vs ≤ i → Storing vs before at l i → l ≡ sets before at vs
  storing_end l i h s = sym (ap (sets l (at + i)) (drop_of_length-le vs h)) ∙ s.is

-- a loop that stores a from place at until another, at place i: l is left of before
pub record Spreading {A : Type 0} (a : A) (before : List A) (at until : ℕ) (l : List A) (i : ℕ) : Type 0 where
  pub within : i ≤ until
  pub size : length l ≡ length before
  pub is : sets l i (replicate (until - i) a) ≡ sets before at (replicate (until - at) a)

module _ {A : Type 0} (a : A) (before : List A) (at until : ℕ) where
  pub spreading_none : at ≤ until → Spreading a before at until before at
  spreading_none h = record { within = h; size = refl; is = refl }

  pub spreading_more : (l : List A) (i : ℕ) → i < until → Spreading a before at until l i → Spreading a before at until (set l i a) (i + 1)
  spreading_more l i h s =
      let e : until - i ≡ suc (until - suc i) = omega arith in
      record { within = omega arith; size = length-set l i a ∙ s.size; is = rw (add-one i) (rw e at s.is) }

  pub spreading_end : (l : List A) (i : ℕ) → until ≤ i → Spreading a before at until l i → l ≡ sets before at (replicate (until - at) a)
  spreading_end l i h s = let e : until - i ≡ 0 = omega arith in rw e at s.is
