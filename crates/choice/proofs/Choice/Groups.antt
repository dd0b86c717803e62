-- The fast way of the choice: the vectors' indices in groups that agree on every variable taken, those of fewer than two members dropped. Assumes nothing.
use Prim.Native.Nat.{ℕ, zero, suc, ◌+◌, ◌*◌, ◌≤◌, ◌<◌}
use native.Mathlib.Omega.{arith}
use mathlib.Core.Path.{◌≡◌, refl}
use mathlib.Core.Bool.{Bool, true, false, cond}
use mathlib.Core.List.{List, [], ◌∷◌, ◌++◌, map}
use lib.Dec.{eqb}
use lib.ListN.{length}
use borrow.Author.Tests.{eqb-true, eqb-false, eq-eqb, ne_eqb}
use Rattle.lists.proofs.Tests.{eqb_iff}
use Rattle.lists.specs.Members.{All}
use Rattle.choice.specs.Choice.{count, pairs}
use Rattle.choice.specs.Inner.Split.{joined, part, pushed, refined, pairs_in, members}

-- ---- what holds of the members kept

pub part_yes : (b : ℕ → ℕ) (v i : ℕ) (g : List ℕ) → b i ≡ v → part b v (i ∷ g) ≡ i ∷ part b v g
unfolding part
part_yes b v i g e = rw (eq-eqb (b i) v e)

pub part_no : (b : ℕ → ℕ) (v i : ℕ) (g : List ℕ) → (b i ≡ v → ⊥) → part b v (i ∷ g) ≡ part b v g
unfolding part
part_no b v i g e = rw (ne_eqb (b i) v e)

pub part_all : (P : ℕ → Type 0) (b : ℕ → ℕ) (v : ℕ) (g : List ℕ) → All P g → All P (part b v g)
unfolding part
part_all P b v [] a = tt
part_all P b v (i ∷ g) a = go (eqb (b i) v) (part_all P b v g a.1)
  where
    go : (t : Bool) → All P (part b v g) → All P (joined t i (part b v g))
    go true r = (a.0, r)
    go false r = r

pub parts_length : (b : ℕ → ℕ) (g : List ℕ) → length (part b 0 g) + length (part b 1 g) ≤ length g
unfolding part
parts_length b [] = omega arith
parts_length b (i ∷ g) = go (b i) refl (parts_length b g)
  where
    go : (v : ℕ) → b i ≡ v → length (part b 0 g) + length (part b 1 g) ≤ length g → length (part b 0 (i ∷ g)) + length (part b 1 (i ∷ g)) ≤ suc (length g)
    go zero e r = rw (part_yes b 0 i g e, part_no b 1 i g (λ q. omega arith)) (omega arith)
    go (suc zero) e r = rw (part_no b 0 i g (λ q. omega arith), part_yes b 1 i g e) (omega arith)
    go (suc (suc v)) e r = rw (part_no b 0 i g (λ q. omega arith), part_no b 1 i g (λ q. omega arith)) (omega arith)

pub pushed_append : (g : List ℕ) (gs : List (List ℕ)) → pushed g gs ≡ pushed g [] ++ gs
unfolding pushed
pushed_append [] gs = refl
pushed_append (i ∷ []) gs = refl
pushed_append (i ∷ j ∷ g) gs = refl

pub pushed_few : (g : List ℕ) → length g < 2 → pushed g [] ≡ []
unfolding pushed
pushed_few [] h = refl
pushed_few (i ∷ []) h = refl
pushed_few (i ∷ j ∷ g) h = absurd (omega arith)

pub pushed_many : (g : List ℕ) → 2 ≤ length g → pushed g [] ≡ g ∷ []
unfolding pushed
pushed_many [] h = absurd (omega arith)
pushed_many (i ∷ []) h = absurd (omega arith)
pushed_many (i ∷ j ∷ g) h = refl

pub pushed_all : (P : List ℕ → Type 0) (g : List ℕ) (gs : List (List ℕ)) → (2 ≤ length g → P g) → All P gs → All P (pushed g gs)
unfolding pushed
pushed_all P [] gs p a = a
pushed_all P (i ∷ []) gs p a = a
pushed_all P (i ∷ j ∷ g) gs p a = (p (omega arith), a)

-- a property of groups that their parts of two members or more have too
pub refined_all : (P Q : List ℕ → Type 0) (b : ℕ → ℕ) → ((g : List ℕ) (v : ℕ) → P g → 2 ≤ length (part b v g) → Q (part b v g)) → (gs : List (List ℕ)) → All P gs → All Q (refined b gs)
unfolding refined
refined_all P Q b f [] a = tt
refined_all P Q b f (g ∷ gs) a =
    pushed_all Q (part b 0 g) (pushed (part b 1 g) (refined b gs)) (f g 0 a.0) (pushed_all Q (part b 1 g) (refined b gs) (f g 1 a.0) (refined_all P Q b f gs a.1))

pub pushed_members : (g : List ℕ) (gs : List (List ℕ)) → members (pushed g gs) ≤ length g + members gs
unfolding members pushed
pushed_members [] gs = omega arith
pushed_members (i ∷ []) gs = omega arith
pushed_members (i ∷ j ∷ g) gs = omega arith

pub members_append : (gs hs : List (List ℕ)) → members (gs ++ hs) ≡ members gs + members hs
unfolding members
members_append [] hs = omega arith
members_append (g ∷ gs) hs = omega (arith, members_append gs hs)

pub members_many : (gs : List (List ℕ)) → All (λ g. 2 ≤ length g) gs → 2 * length gs ≤ members gs
unfolding members
members_many [] a = omega arith
members_many (g ∷ gs) a = omega (arith, a.0, members_many gs a.1)

pub refined_members : (b : ℕ → ℕ) (gs : List (List ℕ)) → members (refined b gs) ≤ members gs
unfolding refined members
refined_members b [] = omega arith
refined_members b (g ∷ gs) =
    omega (arith, refined_members b gs, parts_length b g, pushed_members (part b 1 g) (refined b gs), pushed_members (part b 0 g) (pushed (part b 1 g) (refined b gs)))

-- ---- the pairs left are the pairs within the split groups

pub pushed_pairs : (h : ℕ → ℕ) (g : List ℕ) (gs : List (List ℕ)) → pairs_in h (pushed g gs) ≡ pairs (map h g) + pairs_in h gs
unfolding pairs_in pairs pushed
pushed_pairs h [] gs = omega arith
pushed_pairs h (i ∷ []) gs = omega arith
pushed_pairs h (i ∷ j ∷ g) gs = refl

module _ (b h : ℕ → ℕ) (two : (i : ℕ) → b i < 2) where
  key : ℕ → ℕ
  key i = b i + 2 * h i

  part_count : (v x : ℕ) → v < 2 → (g : List ℕ) → count (v + 2 * x) (map key g) ≡ count x (map h (part b v g))
  unfolding part count key
  part_count v x lt [] = refl
  part_count v x lt (i ∷ g) = go (eqb (b i) v) refl (part_count v x lt g)
    where
      go : (t : Bool) → eqb (b i) v ≡ t → count (v + 2 * x) (map key g) ≡ count x (map h (part b v g))
          → cond (eqb (v + 2 * x) (key i)) 1 0 + count (v + 2 * x) (map key g) ≡ count x (map h (joined t i (part b v g)))
      go true e r =
          let q : b i ≡ v = eqb-true (b i) v e in
          let s : eqb (v + 2 * x) (key i) ≡ eqb x (h i) = eqb_iff {a = v + 2 * x} {b = key i} {c = x} {d = h i} (λ p. omega arith) (λ p. omega arith) in
          rw (s, r)
      go false e r =
          let q : b i ≡ v → ⊥ = eqb-false (b i) v e in
          let s : eqb (v + 2 * x) (key i) ≡ false = ne_eqb (v + 2 * x) (key i) (λ p. q (omega (arith, two i))) in
          rw s (omega arith)

  part_pairs : (g : List ℕ) → pairs (map key g) ≡ pairs (map h (part b 0 g)) + pairs (map h (part b 1 g))
  unfolding part pairs key
  part_pairs [] = refl
  part_pairs (i ∷ g) = go (b i) refl (two i) (part_pairs g)
    where
      go : (v : ℕ) → b i ≡ v → v < 2 → pairs (map key g) ≡ pairs (map h (part b 0 g)) + pairs (map h (part b 1 g))
          → count (key i) (map key g) + pairs (map key g) ≡ pairs (map h (part b 0 (i ∷ g))) + pairs (map h (part b 1 (i ∷ g)))
      go zero e lt r = rw (part_yes b 0 i g e, part_no b 1 i g (λ q. omega arith), e) (omega (arith, part_count 0 (h i) lt g))
      go (suc zero) e lt r = rw (part_no b 0 i g (λ q. omega arith), part_yes b 1 i g e, e) (omega (arith, part_count 1 (h i) lt g))
      go (suc (suc v)) e lt r = absurd (omega arith)

  -- pairs that agree on h and on b are the pairs of the split groups that agree on h
  pub refine_pairs : (gs : List (List ℕ)) → pairs_in (λ i. b i + 2 * h i) gs ≡ pairs_in h (refined b gs)
  unfolding pairs_in refined key
  refine_pairs [] = refl
  refine_pairs (g ∷ gs) =
      rw (pushed_pairs h (part b 0 g) (pushed (part b 1 g) (refined b gs)), pushed_pairs h (part b 1 g) (refined b gs)) (omega (arith, part_pairs g, refine_pairs gs))
