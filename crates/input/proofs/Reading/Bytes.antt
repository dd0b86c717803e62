-- The numbers of a text counted byte by byte. Assumes nothing.
use Prim.Native.Nat.{ℕ, suc, ◌+◌, ◌-◌, ◌*◌, ◌≤◌, ◌<◌}
use native.Mathlib.Omega.{arith}
use native.Mathlib.Numerals.{add-one}
use mathlib.Core.Path.{◌≡◌, refl, sym, ap, subst, ◌∙◌}
use mathlib.Core.Bool.{Bool, true, false, cond, ◌&&◌}
use mathlib.Core.List.{List, [], ◌∷◌, ◌++◌, append-nil, append_assoc}
use borrow.Author.Tests.{le-leb, lt-leb, leb-true, leb-false, lt-ltb}
use lib.Dec.{leb, ltb}
use lib.ListN.{length, get_or, take, drop, drop_of_length-le, length-append}
use lib.Seq.{drop-cons, take-suc, take_all}
use Rattle.std.proofs.lemmas.List.{take-append-drop}
use Rattle.std.specs.Prelude.{Option, Some, None, unwrap_or}
use Rattle.lists.specs.Members.{every}
use Rattle.input.specs.Decimal.{max_number, digit, value_from, value_of, good_field}
use Rattle.input.specs.Fields.{separator, onto, fields}
use Rattle.input.specs.Inner.{value_in, count_of, grown}
use Rattle.input.proofs.Decimals.{none_and, and_none, value_grows, value_good, value_bad, value_empty}

-- ---- a field in hand, and what comes after it

-- the fields with some bytes in front of the first
pub joined : List ℕ → List (List ℕ) → List (List ℕ)
joined f [] = f ∷ []
joined f (g ∷ gs) = (f ++ g) ∷ gs

joined_onto : (f : List ℕ) (b : ℕ) (fs : List (List ℕ)) → joined f (onto b fs) ≡ joined (f ++ (b ∷ [])) fs
unfolding joined onto
joined_onto f b [] = refl
joined_onto f b (g ∷ gs) = ap (λ (h : List ℕ). h ∷ gs) (sym (append_assoc f (b ∷ []) g))

onto_joined : (b : ℕ) (fs : List (List ℕ)) → joined [] (onto b fs) ≡ onto b fs
unfolding joined onto
onto_joined b [] = refl
onto_joined b (g ∷ gs) = refl

joined_none : (bs : List ℕ) → joined [] (fields bs) ≡ fields bs
unfolding joined fields
joined_none [] = refl
joined_none (b ∷ bs) = go (separator b)
  where
    go : (t : Bool) → joined [] (elim t [ true ↦ [] ∷ fields bs | false ↦ onto b (fields bs) ]) ≡ (elim t [ true ↦ [] ∷ fields bs | false ↦ onto b (fields bs) ])
    go true = refl
    go false = onto_joined b (fields bs)

fields_part : (b : ℕ) (bs : List ℕ) → separator b ≡ true → fields (b ∷ bs) ≡ [] ∷ fields bs
unfolding fields
fields_part b bs s = rw (s, fields)

fields_on : (b : ℕ) (bs : List ℕ) → separator b ≡ false → fields (b ∷ bs) ≡ onto b (fields bs)
unfolding fields
fields_on b bs s = rw (s, fields)

-- ---- a field longer by one byte

digits_on : (f g : List ℕ) → every digit (f ++ g) ≡ (every digit f && every digit g)
unfolding every
digits_on [] g = refl
digits_on (b ∷ f) g = go (digit b) (digits_on f g)
  where
    go : (t : Bool) → every digit (f ++ g) ≡ (every digit f && every digit g) → (t && every digit (f ++ g)) ≡ ((t && every digit f) && every digit g)
    go true e = e
    go false e = refl

value_on : (v : ℕ) (f g : List ℕ) → value_from v (f ++ g) ≡ value_from (value_from v f) g
unfolding value_from
value_on v [] g = refl
value_on v (b ∷ f) g = value_on (10 * v + (b - 48)) f g

on_other : (h g : List ℕ) → every digit h ≡ false → good_field (h ++ g) ≡ false
unfolding good_field
on_other h g d =
    let n : every digit (h ++ g) ≡ false = digits_on h g ∙ rw d in
    rw n (none_and (ltb 0 (length (h ++ g))) (leb (value_of (h ++ g)) max_number))

on_large : (h g : List ℕ) → max_number < value_of h → good_field (h ++ g) ≡ false
unfolding good_field value_of
on_large h g l =
    let w : value_of (h ++ g) ≡ value_from (value_of h) g = value_on 0 h g in
    let n : leb (value_of (h ++ g)) max_number ≡ false = lt-leb (value_of (h ++ g)) max_number (omega (arith, w, value_grows (value_of h) g)) in
    rw n (and_none (ltb 0 (length (h ++ g))) (every digit (h ++ g)))

middle : (a b c : Bool) → (a && b && c) ≡ true → b ≡ true
middle true true c e = refl
middle true false c e = e
middle false true c e = refl
middle false false c e = e

-- the digits in hand, and the number that they are
abbrev pub Hand : List ℕ → Option ℕ → Type 0
Hand f None = f ≡ []
Hand f (Some v) = (good_field f ≡ true) × (v ≡ value_of f)

hand_value : (f : List ℕ) (n : Option ℕ) → Hand f n → unwrap_or n 0 ≡ value_of f
unfolding value_of value_from
hand_value f None e = rw e
hand_value f (Some v) h = h.1

hand_digits : (f : List ℕ) (n : Option ℕ) → Hand f n → every digit f ≡ true
unfolding every good_field
hand_digits f None e = rw e
hand_digits f (Some v) h = middle (ltb 0 (length f)) (every digit f) (leb (value_of f) max_number) h.0

abbrev pub next : Option ℕ → ℕ → ℕ
next n b = 10 * unwrap_or n 0 + (b - 48)

grown_some : (n : Option ℕ) (b v : ℕ) → grown n b ≡ Some v → (digit b ≡ true) × (next n b ≤ max_number) × (v ≡ next n b)
unfolding grown
grown_some n b v e = go (digit b) (leb (next n b) max_number) refl refl
  where
    go : (s t : Bool) → digit b ≡ s → leb (next n b) max_number ≡ t → (digit b ≡ true) × (next n b ≤ max_number) × (v ≡ next n b)
    go true true d l = let q : Some (next n b) ≡ Some v = sym (rw (d, l, grown)) ∙ e in (d, leb-true (next n b) max_number l, cc)
    go true false d l = let q : None ≡ Some v = sym (rw (d, l, grown)) ∙ e in cc
    go false t d l = let q : None ≡ Some v = sym (rw (d, grown)) ∙ e in cc

pub grown_is : (n : Option ℕ) (b : ℕ) → digit b ≡ true → next n b ≤ max_number → grown n b ≡ Some (next n b)
unfolding grown
grown_is n b d l = rw (d, le-leb (next n b) max_number l, grown)

pub grown_large : (n : Option ℕ) (b : ℕ) → digit b ≡ true → max_number < next n b → grown n b ≡ None
unfolding grown
grown_large n b d l = rw (d, lt-leb (next n b) max_number l, grown)

module _ (f : List ℕ) (n : Option ℕ) (k : Hand f n) (b : ℕ) where
  value_more : value_of (f ++ (b ∷ [])) ≡ next n b
  unfolding value_of value_from
  value_more = value_on 0 f (b ∷ []) ∙ ap (λ (v : ℕ). 10 * v + (b - 48)) (sym (hand_value f n k))

  digits_more : every digit (f ++ (b ∷ [])) ≡ digit b
  unfolding every
  digits_more = digits_on f (b ∷ []) ∙ rw (hand_digits f n k) (last (digit b))
    where
      last : (t : Bool) → (t && true) ≡ t
      last true = refl
      last false = refl

  hand_more : (v : ℕ) → grown n b ≡ Some v → Hand (f ++ (b ∷ [])) (Some v)
  unfolding good_field
  hand_more v e =
      let g = grown_some n b v e in
      let l : 0 < length (f ++ (b ∷ [])) = omega (arith, length-append f (b ∷ [])) in
      (rw (lt-ltb 0 (length (f ++ (b ∷ []))) l, digits_more, g.0, value_more, le-leb (next n b) max_number g.1), g.2 ∙ sym value_more)

  hand_bad : grown n b ≡ None → (g : List ℕ) → good_field ((f ++ (b ∷ [])) ++ g) ≡ false
  unfolding grown
  hand_bad e g = go (digit b) (leb (next n b) max_number) refl refl
    where
      go : (s t : Bool) → digit b ≡ s → leb (next n b) max_number ≡ t → good_field ((f ++ (b ∷ [])) ++ g) ≡ false
      go true true d l = let q : Some (next n b) ≡ None = sym (rw (d, l, grown)) ∙ e in cc
      go true false d l = on_large (f ++ (b ∷ [])) g (omega (arith, value_more, leb-false (next n b) max_number l))
      go false t d l = on_other (f ++ (b ∷ [])) g (digits_more ∙ d)

-- ---- one field

pub hand_none : (f : List ℕ) → Hand (take 0 f) None
hand_none f = refl

module _ (f : List ℕ) (n : Option ℕ) (i : ℕ) (k : Hand (take i f) n) where
  pub hand_on : (v : ℕ) → i < length f → grown n (get_or f i 0) ≡ Some v → Hand (take (i + 1) f) (Some v)
  hand_on v h e = rw (add-one i, take-suc f i 0 h) (hand_more (take i f) n k (get_or f i 0) v e)

  pub hand_stop : i < length f → grown n (get_or f i 0) ≡ None → value_in f ≡ None
  hand_stop h e =
      let w : (take i f ++ (get_or f i 0 ∷ [])) ++ drop (suc i) f ≡ f =
      append_assoc (take i f) (get_or f i 0 ∷ []) (drop (suc i) f) ∙ ap (λ (l : List ℕ). take i f ++ l) (sym (drop-cons f i 0 h)) ∙ take-append-drop i f in
      value_bad f (ap good_field (sym w) ∙ hand_bad (take i f) n k (get_or f i 0) e (drop (suc i) f))

  pub hand_end : length f ≤ i → n ≡ value_in f
  hand_end h = go n (rw (take_all i f h) at k)
    where
      go : (m : Option ℕ) → Hand f m → m ≡ value_in f
      go None e = sym (value_empty f (ap length e))
      go (Some v) g = ap Some g.1 ∙ sym (value_good f g.0)

-- ---- counted

pub more : ℕ → List (List ℕ) → Option ℕ
more n fs = cond (every good_field fs) (Some (n + length fs)) None

count_more : (fs : List (List ℕ)) → count_of fs ≡ more 0 fs
unfolding count_of more
count_more fs = go (every good_field fs)
  where
    go : (t : Bool) → (elim t [ true ↦ Some (length fs) | false ↦ None ]) ≡ cond t (Some (0 + length fs)) None
    go true = let z : length fs ≡ 0 + length fs = omega arith in ap Some z
    go false = refl

-- the fields in front of a place are numbers, and the digits in hand begin the next one
pub record Going (text : List ℕ) (found : ℕ) (number : Option ℕ) (i : ℕ) : Type 0 where
  pub hand : List ℕ
  pub held : Hand hand number
  pub few : found ≤ i
  pub is : count_of (fields text) ≡ more found (joined hand (fields (drop i text)))

pub going_none : (text : List ℕ) → Going text 0 None 0
going_none text = record { hand = []; held = refl; few = omega arith; is = count_more (fields text) ∙ ap (more 0) (sym (joined_none text)) }

module _ {text : List ℕ} {found i : ℕ} {number : Option ℕ} (r : Going text found number i) where
  module _ (h : i < length text) where
    abbrev b : ℕ
    b = get_or text i 0

    parted : separator b ≡ true → fields (drop i text) ≡ [] ∷ fields (drop (suc i) text)
    parted s = ap fields (drop-cons text i 0 h) ∙ fields_part b (drop (suc i) text) s

    together : separator b ≡ false → fields (drop i text) ≡ onto b (fields (drop (suc i) text))
    together s = ap fields (drop-cons text i 0 h) ∙ fields_on b (drop (suc i) text) s

    -- at a separator behind a number
    pub going_part : separator b ≡ true → (v : ℕ) → number ≡ Some v → Going text (found + 1) None (i + 1)
    unfolding every joined more
    going_part s v e =
        let k : Hand r.hand (Some v) = subst (Hand r.hand) e r.held in
        let fs = fields (drop (suc i) text) in
        let z : found + suc (length fs) ≡ found + 1 + length fs = omega arith in
        record {
          hand = [];
          held = refl;
          few = omega (arith, r.few);
          is = r.is ∙ rw (parted s, append-nil r.hand, k.0, add-one i, joined_none (drop (suc i) text), z);
        }

    -- at a separator with no digit before it
    pub going_empty : separator b ≡ true → number ≡ None → count_of (fields text) ≡ None
    unfolding every joined more good_field
    going_empty s e =
        let k : r.hand ≡ [] = subst (Hand r.hand) e r.held in
        r.is ∙ rw (parted s, k)

    -- at another byte
    pub going_more : separator b ≡ false → (v : ℕ) → grown number b ≡ Some v → Going text found (Some v) (i + 1)
    going_more s v e =
        record {
          hand = r.hand ++ (b ∷ []);
          held = hand_more r.hand number r.held b v e;
          few = omega (arith, r.few);
          is = r.is ∙ rw (together s, add-one i) (ap (more found) (joined_onto r.hand b (fields (drop (suc i) text))));
        }

    bad : grown number b ≡ None → (fs : List (List ℕ)) → more found (joined (r.hand ++ (b ∷ [])) fs) ≡ None
    unfolding every joined more
    bad e [] = let n = rw (append-nil (r.hand ++ (b ∷ []))) at (hand_bad r.hand number r.held b e []) in rw n
    bad e (g ∷ gs) = rw (hand_bad r.hand number r.held b e g)

    pub going_bad : separator b ≡ false → grown number b ≡ None → count_of (fields text) ≡ None
    going_bad s e =
        r.is ∙ rw (together s) (ap (more found) (joined_onto r.hand b (fields (drop (suc i) text))) ∙ bad e (fields (drop (suc i) text)))

  module _ (h : length text ≤ i) where
    past : fields (drop i text) ≡ [] ∷ []
    unfolding fields
    past = rw (drop_of_length-le text h)

    pub going_end : (v : ℕ) → number ≡ Some v → count_of (fields text) ≡ Some (found + 1)
    unfolding every joined more
    going_end v e =
        let k : Hand r.hand (Some v) = subst (Hand r.hand) e r.held in
        r.is ∙ rw (past, append-nil r.hand, k.0)

    pub going_short : number ≡ None → count_of (fields text) ≡ None
    unfolding every joined more good_field
    going_short e =
        let k : r.hand ≡ [] = subst (Hand r.hand) e r.held in
        r.is ∙ rw (past, k)
