-- The numbers of a text, written one by one. Assumes nothing.
use Prim.Native.Nat.{ℕ, zero, suc, ◌+◌, ◌-◌, ◌≤◌, ◌<◌}
use native.Mathlib.Omega.{arith}
use native.Mathlib.Numerals.{add-one}
use mathlib.Core.Path.{◌≡◌, refl, sym, ap, ◌∙◌, subst}
use mathlib.Core.Bool.{Bool, true, false, cond, false≢true}
use mathlib.Core.List.{List, [], ◌∷◌, map}
use Rattle.std.proofs.Common.{zero-add}
use lib.ListN.{length, get_or, take, drop, set, length-drop}
use lib.Seq.{drop-cons, take-suc, take_all, take-suc-set}
use denote.Param.Members.{Mut}
use denote.Ref.{Bor}
use Rattle.std.specs.Fn.{CalledAt}
use Rattle.std.specs.declared.slice.Split.{Split}
use Rattle.std.specs.Iterator.{Yields}
use Rattle.std.proofs.lemmas.Iterator.Consumers.{YieldsList-at, YieldsList-turn, YieldsList-end, YieldsList-from_enumerate}
use Rattle.std.proofs.lemmas.List.FromFn.{length-enumerate_from, get_or-enumerate_from}
use Rattle.std.specs.Iterator.Adapters.{enumerate_source, enumerate_count, enumerate_steps}
use Rattle.std.specs.declared.iter.Enumerate.{Enumerate}
use Rattle.std.proofs.lemmas.List.{get_or_default}
use Rattle.std.specs.Slice.Iter.{split_rest, split_done, split_callee, split_steps}
use Rattle.std.proofs.lemmas.Iterator.Splits.{YieldsList-from_slice_split}
use Rattle.std.specs.Prelude.{Option, Some, None}
use Rattle.std.specs.List.{slice_split, onto_first}
use Rattle.std.proofs.lemmas.List.Recursion.{same_from_clauses}
use Rattle.std.proofs.lemmas.Iterator.{YieldsList}
use Rattle.lists.proofs.Tests.{and_true}
use Rattle.lists.proofs.Entries.Members.{get_d_map}
use Rattle.input.specs.Fields.{separator, onto, fields}
use Rattle.lists.specs.Members.{every}
use Rattle.input.specs.Decimal.{good_field, value_of}
use Rattle.input.specs.Input.{input_from}
use Rattle.input.specs.Inner.{value_in}
use Rattle.input.proofs.Decimals.{value_some, value_none}

onto_is : (b : ℕ) (l : List (List ℕ)) → onto b l ≡ onto_first b l
unfolding onto
onto_is b [] = refl
onto_is b (f ∷ fs) = refl

fields_step : (b : ℕ) (bs : List ℕ) → fields (b ∷ bs) ≡ cond (separator b) ([] ∷ fields bs) (onto_first b (fields bs))
unfolding fields
fields_step b bs = go (separator b)
  where
    go : (t : Bool) → (elim t [ true ↦ [] ∷ fields bs | false ↦ onto b (fields bs) ]) ≡ cond t ([] ∷ fields bs) (onto_first b (fields bs))
    go true = refl
    go false = onto_is b (fields bs)

-- the library's word for the parts
pub fields_split : (text : List ℕ) → slice_split separator text ≡ fields text
unfolding fields
fields_split text = same_from_clauses (slice_split separator) fields (λ x l. cond (separator x) ([] ∷ l) (onto_first x l)) refl (λ _ _. refl) fields_step text

-- ---- written

every_at : (fs : List (List ℕ)) (i : ℕ) → every good_field fs ≡ true → i < length fs → good_field (get_or fs i []) ≡ true
unfolding every
every_at [] i g h = absurd (omega arith)
every_at (f ∷ fs) zero g h = (and_true (good_field f) (every good_field fs) g).0
every_at (f ∷ fs) (suc i) g h = every_at fs i (and_true (good_field f) (every good_field fs) g).1 (omega arith)

-- a field of good ones is a number
module _ (fs : List (List ℕ)) (i : ℕ) (g : every good_field fs ≡ true) (h : i < length fs) (f : List ℕ) (e : f ≡ get_or fs i []) where
  pub good_some : (x : ℕ) → value_in f ≡ Some x → x ≡ get_or (map value_of fs) i 0
  good_some x q = (value_some f x q).1 ∙ ap value_of e ∙ sym (get_d_map value_of fs i [] 0 h)

  pub good_none : value_in f ≡ None → ⊥
  good_none q =
      let a : good_field (get_or fs i []) ≡ false = ap good_field (sym e) ∙ value_none f q in
      false≢true (sym a ∙ every_at fs i g h)

-- an iterator that has the fields from i on left
module _ {S A : Type 0} {steps : S → Option A → S → Type 0} {v : A → List ℕ} {s t : S} {r : Option A} (fs : List (List ℕ)) (i : ℕ) (y : YieldsList steps v s (drop i fs)) (h : i < length fs) (e : steps s r t) where
  abbrev front : YieldsList steps v s (get_or fs i [] ∷ drop (suc i) fs)
  front = rw (drop-cons fs i [] h) at y

  pub part_some : r ≡ None → ⊥
  part_some n = front.runs.0 t (subst (λ (q : Option A). steps s q t) n e)

  module _ (x : A) (q : r ≡ Some x) where
    pub part_is : v x ≡ get_or fs i []
    part_is = (front.runs.1 x t (subst (λ (q : Option A). steps s q t) q e)).0

    pub part_next : YieldsList steps v t (drop (i + 1) fs)
    part_next = rw (add-one i) (record { runs = (front.runs.1 x t (subst (λ (q : Option A). steps s q t) q e)).1 })

-- an iterator that has all fields left
module _ {F : Type 0} (g : Mut F (Bor ℕ × Unit {0}) Bool) {f : F} (s made : Split ℕ F) (same : s ≡ made) (text : List ℕ) (rest : split_rest made ≡ text) (done : split_done made ≡ false) (closure : split_callee made ≡ f)
    (test : (x : ℕ) (b : Bool) (q : F) → CalledAt g f x b q → (q ≡ f) × (b ≡ separator x)) where
  pub parts : YieldsList (split_steps g) (λ x. x.now) s (drop 0 (fields text))
  parts = YieldsList-at same (rw (fields_split text) at (YieldsList-from_slice_split {s = made} g separator text rest done closure test))

-- a loop over an iterator that has all fields left
module _ {S A : Type 0} {steps : S → Option A → S → Type 0} {v : A → List ℕ} {s : S} (fs : List (List ℕ)) (all : YieldsList steps v s fs) (xs : List A) (t : S) (y : Yields steps s xs t) (r : Option A) (u : S) (e : steps t r u) where
  pub loop_end : r ≡ None → length fs ≤ length xs
  loop_end n = let l = (YieldsList-end all xs t y r u n e).1 in omega arith

  pub loop_turn : (x : A) → r ≡ Some x → (length xs < length fs) × (v x ≡ get_or fs (length xs) [])
  loop_turn x n = let k = YieldsList-turn all xs t y r u x n e in (k.0, k.1 ∙ get_or_default fs (length xs) (v x) [] k.0)

-- the same where the fields come with their places
module _ {S A : Type 0} {steps : S → Option A → S → Type 0} {v : A → List ℕ} {s : Enumerate S} (fs : List (List ℕ)) (all : YieldsList steps v (enumerate_source s) fs) (zero : enumerate_count s ≡ 0)
    (xs : List (ℕ × A)) (t : Enumerate S) (y : Yields (enumerate_steps steps) s xs t) (r : Option (ℕ × A)) (u : Enumerate S) (e : enumerate_steps steps t r u) where
  pub places_end : r ≡ None → length fs ≤ length xs
  places_end n =
      let l = (YieldsList-end (YieldsList-from_enumerate all zero) xs t y r u n e).1 in
      omega (arith, l, length-enumerate_from 0 fs)

  pub places_turn : (x : ℕ × A) → r ≡ Some x → (length xs < length fs) × (x.0 ≡ length xs) × (v x.1 ≡ get_or fs (length xs) [])
  places_turn x n =
      let k = YieldsList-turn (YieldsList-from_enumerate all zero) xs t y r u x n e in
      let h : length xs < length fs = omega (arith, k.0, length-enumerate_from 0 fs) in
      let q = k.1 ∙ get_or-enumerate_from 0 fs (length xs) (x.0, v x.1) h in
      (h, ap (λ (p : ℕ × List ℕ). p.0) q ∙ zero-add (length xs), ap (λ (p : ℕ × List ℕ). p.1) q ∙ get_or_default fs (length xs) (v x.1) [] h)

-- one more word written
pub written_more : (words ns : List ℕ) (n i v : ℕ) → i ≡ n → n < length words → n < length ns → take n words ≡ take n ns → v ≡ get_or ns n 0 → take (n + 1) (set words i v) ≡ take (n + 1) ns
written_more words ns n i v e h k w q = rw (e, add-one n, take-suc-set words n v h, w, q) (sym (take-suc ns n 0 k))

-- the first three numbers, and the others written
pub numbers_read : (ns words : List ℕ) (m a b c : ℕ) → length ns ≡ 3 + length words → a ≡ get_or ns 0 0 → b ≡ get_or ns 1 0 → c ≡ get_or ns 2 0 → length words ≤ m → take m words ≡ take m (drop 3 ns)
    → (record { good = true; n = a; degree = b; cells = c; count = length words } ≡ input_from ns) × (words ≡ drop 3 ns)
unfolding input_from
numbers_read ns words m a b c l p q r h w =
    let k : length words ≡ length ns - 3 = omega arith in
    let z : length (drop 3 ns) ≤ m = omega (arith, length-drop 3 ns) in
    (rw (p, q, r, k), sym (take_all m words h) ∙ w ∙ take_all m (drop 3 ns) z)
