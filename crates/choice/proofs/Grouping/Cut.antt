-- Groups as sizes and an order: the list cut. Assumes nothing.
use Prim.Native.Nat.{ℕ, zero, suc, ◌+◌, ◌≤◌, ◌<◌}
use native.Mathlib.Omega.{arith}
use mathlib.Core.Path.{◌≡◌, refl, sym, ap, ap₂, ◌∙◌}
use mathlib.Core.List.{List, [], ◌∷◌, map, flatten}
use lib.ListN.{length, take, drop, length-append, length-drop}
use lib.Seq.{take_at, drop_at, length-take-le}
use Rattle.lists.specs.Members.{All}
use Rattle.lists.proofs.Entries.Alls.{all_take, all_drop, all_map, all_flatten}
use Rattle.choice.specs.Inner.Split.{members}
use Rattle.choice.specs.Inner.Groups.{cut, total, Cuts}

-- ---- groups, their sizes and their members in order

flatten_length : (gs : List (List ℕ)) → length (flatten gs) ≡ members gs
unfolding flatten members
flatten_length [] = refl
flatten_length (g ∷ gs) = length-append g (flatten gs) ∙ ap (λ (n : ℕ). length g + n) (flatten_length gs)

total_lengths : (gs : List (List ℕ)) → total (map length gs) ≡ members gs
unfolding total members
total_lengths [] = refl
total_lengths (g ∷ gs) = ap (λ (n : ℕ). length g + n) (total_lengths gs)

-- groups joined are cut again
pub cut_flatten : (gs : List (List ℕ)) → cut (map length gs) (flatten gs) ≡ gs
unfolding cut flatten
cut_flatten [] = refl
cut_flatten (g ∷ gs) = rw (take_at g (flatten gs) (length g) refl, drop_at g (flatten gs) (length g) refl, cut_flatten gs)

pub cuts_groups : (k : ℕ) (gs : List (List ℕ)) → All (λ g. 2 ≤ length g) gs → All (All (λ i. i < k)) gs → members gs ≤ k → Cuts k (map length gs) (flatten gs)
cuts_groups k gs many low few =
    record {
      sum = total_lengths gs ∙ sym (flatten_length gs);
      many = all_map (λ s. 2 ≤ s) length gs many;
      low = all_flatten (λ i. i < k) gs low;
      few = omega (arith, flatten_length gs);
    }

pub cut_members : (ss l : List ℕ) → total ss ≤ length l → members (cut ss l) ≡ total ss
unfolding cut total members
cut_members [] l h = refl
cut_members (s ∷ ss) l h = omega (arith, length-take-le s l (omega arith), cut_members ss (drop s l) (omega (arith, length-drop s l)))

pub cut_many : (ss l : List ℕ) → total ss ≤ length l → All (λ s. 2 ≤ s) ss → All (λ g. 2 ≤ length g) (cut ss l)
unfolding cut total
cut_many [] l h a = tt
cut_many (s ∷ ss) l h a = (omega (arith, length-take-le s l (omega arith), a.0), cut_many ss (drop s l) (omega (arith, length-drop s l)) a.1)

pub cut_all : (P : ℕ → Type 0) (ss l : List ℕ) → All P l → All (All P) (cut ss l)
unfolding cut
cut_all P [] l a = tt
cut_all P (s ∷ ss) l a = (all_take P s l a, cut_all P ss (drop s l) (all_drop P s l a))

take_map : (f : ℕ → ℕ) (n : ℕ) (l : List ℕ) → take n (map f l) ≡ map f (take n l)
take_map f zero l = refl
take_map f (suc n) [] = refl
take_map f (suc n) (x ∷ l) = ap (λ (t : List ℕ). f x ∷ t) (take_map f n l)

drop_map : (f : ℕ → ℕ) (n : ℕ) (l : List ℕ) → drop n (map f l) ≡ map f (drop n l)
drop_map f zero l = refl
drop_map f (suc n) [] = refl
drop_map f (suc n) (x ∷ l) = drop_map f n l

-- what the members stand for, cut alike
pub cut_map : (f : ℕ → ℕ) (ss l : List ℕ) → cut ss (map f l) ≡ map (map f) (cut ss l)
unfolding cut
cut_map f [] l = refl
cut_map f (s ∷ ss) l = ap₂ ◌∷◌ (take_map f s l) (ap (cut ss) (drop_map f s l) ∙ cut_map f ss (drop s l))

pub cut_length : (ss l : List ℕ) → length (cut ss l) ≡ length ss
unfolding cut
cut_length [] l = refl
cut_length (s ∷ ss) l = ap suc (cut_length ss (drop s l))
