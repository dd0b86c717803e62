-- The candidates: none is faulty, and each single input is one. Assumes nothing.
use Prim.Native.Nat.{ℕ, zero, suc, ◌+◌, ◌≤◌, ◌<◌}
use native.Mathlib.Omega.{arith}
use native.Mathlib.Nat.{eq-or-lt_of_le}
use mathlib.Core.Path.{◌≡◌, ap, sym}
use mathlib.Core.Bool.{Bool, true, false, cond}
use mathlib.Core.List.{[]}
use mathlib.Core.Logic.{inl, inr, ⊎_elim}
use lib.Dec.{eqb}
use lib.ListN.{length}
use borrow.Author.Tests.{ne_eqb, lt-leb, le-ltb}
use Rattle.lists.specs.Members.{In, All}
use Rattle.lists.proofs.Entries.Members.{all_in, in_pos}
use Rattle.lists.proofs.Entries.Joined.{in_left, all_append}
use Rattle.vectors.specs.declared.Kind.{Kind}
use Rattle.vectors.specs.declared.Kind.TheVariants.{One, Two}
use Rattle.vectors.specs.Variable.{faulty}
use Rattle.choice.specs.Choice.{ones, twos_at, twos, candidates}

-- ---- what is among them

ones_in : (d j i : ℕ) → j ≤ i → i < j + d → In (One i) (ones d j)
unfolding ones
ones_in zero j i h k = absurd (omega arith)
ones_in (suc d) j i h k = ⊎_elim (λ e. inl (ap One (sym e))) (λ l. inr (ones_in d (suc j) i l (omega arith))) (eq-or-lt_of_le h)

-- each single input is a candidate
pub candidate_one : (n degree i : ℕ) → 1 ≤ i → i ≤ n → In (One i) (candidates n degree)
unfolding candidates
candidate_one n degree i h k = in_left (One i) (ones n 1) (cond (eqb degree 2) (twos n 1) []) (ones_in n 1 i h (omega arith))

pub candidates_some : (n degree : ℕ) → 0 < n → 0 < length (candidates n degree)
candidates_some n degree h = in_pos (One 1) (candidates n degree) (candidate_one n degree 1 (omega arith) h)

-- ---- none is faulty

module _ (n : ℕ) where
  abbrev pub Sound : Kind → Type 0
  Sound k = faulty n k ≡ false

  pub one_sound : (i : ℕ) → 0 < i → i ≤ n → Sound (One i)
  one_sound i h k = rw (ne_eqb i 0 (λ e. omega arith), le-ltb n i k)

  pub two_sound : (i j : ℕ) → 0 < i → i < j → j ≤ n → Sound (Two i j)
  two_sound i j h l k = rw (ne_eqb i 0 (λ e. omega arith), lt-leb j i l, le-ltb n j k)

  ones_sound : (d i : ℕ) → 0 < i → i + d ≤ suc n → All Sound (ones d i)
  unfolding ones
  ones_sound zero i h k = tt
  ones_sound (suc d) i h k = (one_sound i h (omega arith), ones_sound d (suc i) (omega arith) (omega arith))

  twos_at_sound : (d i j : ℕ) → 0 < i → i < j → j + d ≤ suc n → All Sound (twos_at d i j)
  unfolding twos_at
  twos_at_sound zero i j h l k = tt
  twos_at_sound (suc d) i j h l k = (two_sound i j h l (omega arith), twos_at_sound d i (suc j) h (omega arith) (omega arith))

  twos_sound : (d i : ℕ) → 0 < i → i + d ≤ suc n → All Sound (twos d i)
  unfolding twos
  twos_sound zero i h k = tt
  twos_sound (suc d) i h k =
      all_append Sound (twos_at d i (suc i)) (twos d (suc i)) (twos_at_sound d i (suc i) h (omega arith) (omega arith)) (twos_sound d (suc i) (omega arith) (omega arith))

  pub candidates_sound : (degree : ℕ) → All Sound (candidates n degree)
  unfolding candidates
  candidates_sound degree = all_append Sound (ones n 1) (cond (eqb degree 2) (twos n 1) []) (ones_sound n 1 (omega arith) (omega arith)) (go (eqb degree 2))
    where
      go : (t : Bool) → All Sound (cond t (twos n 1) [])
      go true = twos_sound n 1 (omega arith) (omega arith)
      go false = tt

  -- no candidate is faulty
  pub candidate_sound : (degree : ℕ) (k : Kind) → In k (candidates n degree) → faulty n k ≡ false
  candidate_sound degree k m = all_in Sound k (candidates n degree) (candidates_sound degree) m
