-- The vectors as their owner writes them: an index alone is changed. Assumes nothing.
use Prim.Native.Nat.{ℕ}
use native.Mathlib.Nat.{zero-add}
use mathlib.Core.Path.{◌≡◌, refl, ap, ap₂}
use mathlib.Core.Bool.{Bool, true, false}
use mathlib.Core.List.{List, [], ◌∷◌, map}
use lib.Dec.{eqb}
use Rattle.lists.specs.Members.{All}
use Rattle.rows.specs.Care.{Care, keep, in_row}
use Rattle.rows.specs.Fit.{first_fit}
use Rattle.rows.specs.Answer.{owned}
use Rattle.rows.specs.Inner.Chains.{emptied, undone}
use Rattle.rows.proofs.Fits.Columns.{same_fit}

module _ (owner : ℕ) where
  pub owned_row : (r : ℕ) (cs : List Care) → in_row r (map (owned owner) cs) ≡ map (owned owner) (in_row r cs)
  unfolding in_row
  owned_row r [] = refl
  owned_row r (c ∷ cs) = go (eqb c.row r) (owned_row r cs)
    where
      go : (t : Bool) → in_row r (map (owned owner) cs) ≡ map (owned owner) (in_row r cs)
          → keep t (owned owner c) (in_row r (map (owned owner) cs)) ≡ map (owned owner) (keep t c (in_row r cs))
      go true e = ap (λ (l : List Care). owned owner c ∷ l) e
      go false e = e

  -- the first fit is the same
  pub owned_fit : (g : List ℕ) (m : List Care) → first_fit g (map (owned owner) m) ≡ first_fit g m
  owned_fit g m = same_fit (owned owner) (λ c. refl) g m

  -- what holds of the vectors by their rows and columns
  pub all_owned : (Q : Care → Type 0) (cs : List Care) → All Q (map (owned owner) cs) → All (λ c. Q (owned owner c)) cs
  all_owned Q [] a = tt
  all_owned Q (c ∷ cs) a = (a.0, all_owned Q cs a.1)

  pub all_own : (Q : Care → Type 0) (cs : List Care) → All (λ c. Q (owned owner c)) cs → All Q (map (owned owner) cs)
  all_own Q [] a = tt
  all_own Q (c ∷ cs) a = (a.0, all_own Q cs a.1)

  -- the way back is the same
  pub owned_undone : (h : List ℕ) (cs : List Care) (g : List ℕ) → undone h (map (owned owner) cs) g ≡ undone h cs g
  unfolding undone
  owned_undone h [] g = refl
  owned_undone h (c ∷ cs) g = owned_undone h cs (emptied h c g)

-- the owner's bit 0 writes the index itself
pub owned_none : (cs : List Care) → map (owned 0) cs ≡ cs
owned_none [] = refl
owned_none (c ∷ cs) =
    let e : owned 0 c ≡ c = rw (zero-add c.index) in
    ap₂ (λ (x : Care) (l : List Care). x ∷ l) e (owned_none cs)
