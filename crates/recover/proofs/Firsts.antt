-- The first cells of all indices, marked from the last cell to the first. Assumes nothing.
use Prim.Native.Nat.{ℕ, zero, suc, ◌+◌, ◌-◌, ◌≤◌, ◌<◌}
use native.Mathlib.Nat.{add-zero}
use native.Mathlib.Numerals.{add-one}
use native.Mathlib.Omega.{arith}
use mathlib.Core.Path.{◌≡◌, refl, sym, ap, ◌∙◌}
use mathlib.Core.Bool.{Bool, true, false}
use mathlib.Core.List.{List, [], ◌∷◌}
use borrow.Author.Tests.{eqb-true, eqb-false, ne_eqb}
use lib.Dec.{eqb}
use lib.ListN.{length, get_or, take, drop, set, replicate, length-set, length-replicate, get_or-replicate}
use lib.Seq.{drop-cons, drop-length, get_or-set_same, get_or-set_other, ext_get_or}
use Rattle.std.specs.List.{position}
use Rattle.std.proofs.lemmas.List.{map-id}
use Rattle.lists.specs.First.{first_in, first_of, place_number}
use Rattle.lists.proofs.Finding.Places.{place_first}
use Rattle.lists.proofs.Finding.Firsts.{first_here, first_on}
use Rattle.vectors.specs.Bounds.{max_words}
use Rattle.record.specs.declared.Record.{Record}
use Rattle.record.specs.Tables.{Tables, index_in}
use Rattle.record.specs.Formed.{sound}
use Rattle.recover.specs.Recover.{first_holding}
use Rattle.recover.specs.Every.{firsts_from, firsts_in}

abbrev test : ℕ → List ℕ → ℕ → Bool
test x before w = eqb (index_in w) x

-- the first of the cells that holds an index, by its place
pub holding_place : (cells : List ℕ) (i : ℕ) → first_holding cells i ≡ place_number (position (λ w. eqb (index_in w) i) cells)
holding_place cells i = sym (place_first (λ (w : ℕ). w) (λ w. eqb w i) cells ∙ ap (first_of (test i)) (map-id cells))

pub firsts_length : (cells : List ℕ) (i m : ℕ) → length (firsts_from cells i m) ≡ m
unfolding firsts_from
firsts_length cells i zero = refl
firsts_length cells i (suc m) = ap suc (firsts_length cells (suc i) m)

firsts_at : (cells : List ℕ) (i m x : ℕ) → x < m → get_or (firsts_from cells i m) x 0 ≡ first_holding cells (i + x)
unfolding firsts_from
firsts_at cells i zero x h = absurd (omega arith)
firsts_at cells i (suc m) zero h = ap (first_holding cells) (sym (add-zero i))
firsts_at cells i (suc m) (suc x) h = let e : suc i + x ≡ i + suc x = omega arith in firsts_at cells (suc i) m x (omega arith) ∙ ap (first_holding cells) e

pub firsts_of : (cells : List ℕ) (m x : ℕ) → x < m → get_or (firsts_from cells 0 m) x 0 ≡ first_holding cells x
firsts_of cells m x h = let e : 0 + x ≡ x = omega arith in firsts_at cells 0 m x h ∙ ap (first_holding cells) e

-- what stands in the words after the call
module _ (u : Record) (t : Tables) (old : List ℕ) where
  pub sound_firsts : sound u t ≡ true → firsts_from (take u.cells t.g) 0 max_words ≡ firsts_in u t old
  unfolding firsts_in
  sound_firsts s = rw (s, firsts_in)

  pub unsound_firsts : sound u t ≡ false → old ≡ firsts_in u t old
  unfolding firsts_in
  unsound_firsts s = rw (s, firsts_in)

-- ---- marked one after another

-- l has for each of m indices the first of the cells from c on that holds it
pub record Marking (g : List ℕ) (m : ℕ) (l : List ℕ) (c : ℕ) : Type 0 where
  pub within : c ≤ length g
  pub size : length l ≡ m
  pub at : (x : ℕ) → x < m → (before : List ℕ) → first_in (test x) before (drop c g) (suc c) ≡ get_or l x 0

pub marking_none : (g : List ℕ) (m : ℕ) → Marking g m (replicate m 0) (length g)
unfolding first_in
marking_none g m = record { within = omega arith; size = length-replicate m 0; at = λ x h before. rw (drop-length g, get_or-replicate {A = ℕ} m x 0 0 h) }

module _ {g : List ℕ} {m : ℕ} {l : List ℕ} where
  -- the cell before the others holds i
  marked : (c : ℕ) → Marking g m l (suc c) → (i : ℕ) → i ≡ index_in (get_or g c 0) → i < m → Marking g m (set l i (suc c)) c
  marked c s i e b = record { within = omega (arith, s.within); size = length-set l i (suc c) ∙ s.size; at = λ x h before. go x h before (eqb (get_or g c 0) x) refl }
    where
      go : (x : ℕ) → x < m → (before : List ℕ) → (q : Bool) → eqb (get_or g c 0) x ≡ q → first_in (test x) before (drop c g) (suc c) ≡ get_or (set l i (suc c)) x 0
      go x h before true q =
          let p : i ≡ x = e ∙ eqb-true _ _ q in
          rw (drop-cons g c 0 (omega (arith, s.within)), p) (first_here (test x) before _ _ (suc c) q ∙ sym (get_or-set_same l x (suc c) 0 (omega (arith, s.size))))
      go x h before false q =
          let n : (x ≡ i → ⊥) = λ p. eqb-false _ _ q (sym (p ∙ e)) in
          rw (drop-cons g c 0 (omega (arith, s.within)))
          (first_on (test x) before _ _ (suc c) q ∙ s.at x h (get_or g c 0 ∷ before) ∙ sym (get_or-set_other l i x (suc c) 0 n))

  -- the cell before the others holds an index that no word stands for
  passed : (c : ℕ) → Marking g m l (suc c) → m ≤ index_in (get_or g c 0) → Marking g m l c
  passed c s b =
      record {
        within = omega (arith, s.within);
        size = s.size;
        at = λ x h before.
            rw (drop-cons g c 0 (omega (arith, s.within)))
            (first_on (test x) before _ _ (suc c) (ne_eqb (get_or g c 0) x (λ p. omega arith)) ∙ s.at x h (get_or g c 0 ∷ before));
      }

  module _ (c : ℕ) (s : Marking g m l c) (h : 0 < c) where
    earlier : c ≡ suc (c - 1)
    earlier = omega arith

    pub marking_more : (i : ℕ) → i ≡ index_in (get_or g (c - 1) 0) → i < m → Marking g m (set l i (c - 1 + 1)) (c - 1)
    marking_more i e b = rw add-one (marked (c - 1) (rw earlier at s) i e b)

    pub marking_past : (i : ℕ) → i ≡ index_in (get_or g (c - 1) 0) → m ≤ i → Marking g m l (c - 1)
    marking_past i e b = passed (c - 1) (rw earlier at s) (omega arith)

  pub marking_end : (c : ℕ) → Marking g m l c → c ≤ 0 → l ≡ firsts_from g 0 m
  unfolding first_of
  marking_end c s h =
      let z : c ≡ 0 = omega arith in
      ext_get_or 0 l (firsts_from g 0 m) (s.size ∙ sym (firsts_length g 0 m)) (λ x b.
      let k : x < m = omega (arith, s.size) in
      sym (firsts_of g m x k ∙ rw z at (s.at x k [])))
