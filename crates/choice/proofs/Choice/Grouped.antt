-- The groups hold all pairs of vectors that agree on the variables taken. Assumes nothing.
use Prim.Native.Nat.{ℕ, zero, suc, ◌+◌, ◌≤◌, ◌<◌}
use native.Mathlib.Omega.{arith}
use native.Mathlib.Nat.{add-zero}
use mathlib.Core.Path.{◌≡◌, refl, ap, sym, ◌∙◌}
use mathlib.Core.List.{List, [], ◌∷◌, ◌++◌, map, append-nil}
use lib.ListN.{length, get_or}
use lib.Seq.{append_snoc}
use Rattle.lists.specs.Members.{All}
use Rattle.vectors.specs.declared.Kind.{Kind}
use Rattle.vectors.specs.Variable.{value_of, number_of}
use Rattle.choice.specs.Choice.{count, pairs, left}
use Rattle.vectors.proofs.Variables.Numbers.{value_lt}
use Rattle.choice.specs.Inner.Split.{refined, numbers, whole, pairs_in, members}
use Rattle.choice.proofs.Choice.Groups.{part_all, pushed_all, refined_all, pushed_members, refined_members, pushed_pairs, refine_pairs}

-- ---- the numbers 0 to k - 1

pub numbers_length : (d i : ℕ) → length (numbers d i) ≡ d
unfolding numbers
numbers_length zero i = refl
numbers_length (suc d) i = ap suc (numbers_length d (suc i))

pub numbers_more : (d i : ℕ) → numbers (suc d) i ≡ numbers d i ++ ((i + d) ∷ [])
unfolding numbers
numbers_more zero i = ap (λ j. j ∷ []) (sym (add-zero i))
numbers_more (suc d) i = let e : suc i + d ≡ i + suc d = omega arith in ap (λ l. i ∷ l) (numbers_more d (suc i) ∙ rw e)

pub numbers_all : (P : ℕ → Type 0) (d i : ℕ) → ((j : ℕ) → i ≤ j → j < i + d → P j) → All P (numbers d i)
unfolding numbers
numbers_all P zero i p = tt
numbers_all P (suc d) i p = (p i (omega arith) (omega arith), numbers_all P d (suc i) (λ j h k. p j (omega arith) (omega arith)))

-- entries by their indices, from index i on
numbers_map : (f : ℕ → ℕ) (g : ℕ → ℕ) (l : List ℕ) (i : ℕ) → ((j : ℕ) → g (i + j) ≡ get_or l j 0) → map (λ j. f (g j)) (numbers (length l) i) ≡ map f l
unfolding numbers
numbers_map f g [] i h = refl
numbers_map f g (x ∷ l) i h =
    let a : i + 0 ≡ i = omega arith in
    let e : g i ≡ x = rw a at (h 0) in
    rw (e, numbers_map f g l (suc i) (λ j. let b : suc i + j ≡ i + suc j = omega arith in rw b (h (suc j))))

-- ---- the invariant

-- whatever further variables are taken, the pairs left are those within the groups
pub record Grouped (vs : List ℕ) (taken : List Kind) (gs : List (List ℕ)) : Type 0 where
  pub says : (ext : List Kind) → left vs (taken ++ ext) ≡ pairs_in (λ i. number_of ext (get_or vs i 0)) gs
  pub many : All (λ g. 2 ≤ length g) gs
  pub low : All (All (λ i. i < length vs)) gs
  pub total : members gs ≤ length vs

-- no variable taken: one group, or none
pub grouped_none : (vs : List ℕ) → Grouped vs [] (whole (length vs))
unfolding left pairs_in members
grouped_none vs =
    record {
      says = λ ext. ap pairs (sym (numbers_map (number_of ext) (λ i. get_or vs i 0) vs 0 (λ j. let e : 0 + j ≡ j = omega arith in rw e))) ∙ omega (arith, pushed_pairs (λ i. number_of ext (get_or vs i 0)) all []);
      many = pushed_all (λ g. 2 ≤ length g) all [] (λ h. h) tt;
      low = pushed_all (All (λ i. i < length vs)) all [] (λ h. numbers_all (λ i. i < length vs) (length vs) 0 (λ j a b. omega arith)) tt;
      total = omega (arith, pushed_members all [], numbers_length (length vs) 0);
    }
  where
    all : List ℕ
    all = numbers (length vs) 0

module _ {vs : List ℕ} {taken : List Kind} {gs : List (List ℕ)} (r : Grouped vs taken gs) where
  -- one more variable taken
  pub grouped_more : (c : Kind) → Grouped vs (taken ++ (c ∷ [])) (refined (λ i. value_of (get_or vs i 0) c) gs)
  unfolding number_of
  grouped_more c =
      record {
        says = λ ext. ap (left vs) (append_snoc taken c ext) ∙ r.says (c ∷ ext) ∙ refine_pairs b (λ i. number_of ext (get_or vs i 0)) (λ i. value_lt (get_or vs i 0) c) gs;
        many = refined_all (λ g. 2 ≤ length g) (λ g. 2 ≤ length g) b (λ g v p h. h) gs r.many;
        low = refined_all (All (λ i. i < length vs)) (All (λ i. i < length vs)) b (λ g v p h. part_all (λ i. i < length vs) b v g p) gs r.low;
        total = omega (arith, refined_members b gs, r.total);
      }
    where
      b : ℕ → ℕ
      b i = value_of (get_or vs i 0) c

  grouped_left : left vs taken ≡ pairs_in (λ i. 0) gs
  unfolding number_of
  grouped_left = ap (left vs) (sym (append-nil taken)) ∙ r.says []

  -- no pair is left exactly when no group is
  pub grouped_apart : left vs taken ≡ 0 → gs ≡ []
  unfolding pairs_in pairs count
  grouped_apart e = go gs r.many (sym grouped_left ∙ e)
    where
      go : (hs : List (List ℕ)) → All (λ g. 2 ≤ length g) hs → pairs_in (λ i. 0) hs ≡ 0 → hs ≡ []
      go [] a z = refl
      go ([] ∷ hs) a z = absurd (omega (arith, a.0))
      go ((i ∷ []) ∷ hs) a z = absurd (omega (arith, a.0))
      go ((i ∷ j ∷ g) ∷ hs) a z = absurd (omega arith)

  pub grouped_empty : gs ≡ [] → left vs taken ≡ 0
  unfolding pairs_in
  grouped_empty e = grouped_left ∙ ap (pairs_in (λ i. 0)) e
