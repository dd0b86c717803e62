-- A row lifted: each of its numbers taken out of its first cell. Assumes nothing.
use Prim.Native.Nat.{ℕ, ◌-◌}
use mathlib.Core.Path.{◌≡◌, refl, sym, ◌∙◌}
use mathlib.Core.Bool.{Bool, true, false}
use mathlib.Core.List.{List, [], ◌∷◌}
use mathlib.Core.Logic.{inl, inr, ⊎_elim}
use lib.Dec.{eqb}
use lib.ListN.{length, get_or, set, length-set}
use lib.Seq.{get_or-set_same, get_or-set_other}
use borrow.Author.Tests.{eqb-true, eqb-false}
use Rattle.lists.specs.Members.{In}
use Rattle.lists.proofs.Tests.{le_or_lt}
use Rattle.rows.specs.Care.{Care}
use Rattle.rows.proofs.Fits.Needed.{past_free}
use Rattle.record.specs.declared.Record.{Record}
use Rattle.record.specs.Tables.{Tables}
use Rattle.recover.specs.Recover.{first_cell}
use Rattle.add.specs.Add.{lifted}

-- a cell that is emptied is empty, if it is there or not
emptied : (g : List ℕ) (c : ℕ) → get_or (set g c 0) c 0 ≡ 0
emptied g c = ⊎_elim (λ h. past_free (set g c 0) c (rw length-set h)) (λ h. get_or-set_same g c 0 0 h) (le_or_lt (length g) c)

-- and an empty cell stays empty
stays_empty : (g : List ℕ) (i c : ℕ) → get_or g c 0 ≡ 0 → get_or (set g i 0) c 0 ≡ 0
stays_empty g i c z = go (eqb c i) refl
  where
    go : (b : Bool) → eqb c i ≡ b → get_or (set g i 0) c 0 ≡ 0
    go true e = rw (eqb-true c i e) (emptied g i)
    go false e = get_or-set_other g i c 0 0 (eqb-false c i e) ∙ z

module _ (u : Record) (t : Tables) where
  -- the cell of a number
  abbrev pub first_one : Care → ℕ
  first_one m = first_cell u t m.index - 1

  pub lifted_length : (cs : List Care) (g : List ℕ) → length (lifted u t cs g) ≡ length g
  unfolding lifted
  lifted_length [] g = refl
  lifted_length (c ∷ cs) g = lifted_length cs (set g (first_one c) 0) ∙ length-set g (first_one c) 0

  -- a cell that is the first of none keeps its word
  pub lifted_other : (cs : List Care) (g : List ℕ) (c : ℕ) → ((m : Care) → In m cs → first_one m ≡ c → ⊥) → get_or (lifted u t cs g) c 0 ≡ get_or g c 0
  unfolding lifted
  lifted_other [] g c n = refl
  lifted_other (m ∷ cs) g c n =
      lifted_other cs (set g (first_one m) 0) c (λ a i. n a (inr i)) ∙ get_or-set_other g (first_one m) c 0 0 (λ e. n m (inl refl) (sym e))

  -- an empty cell stays empty
  pub lifted_empty : (cs : List Care) (g : List ℕ) (c : ℕ) → get_or g c 0 ≡ 0 → get_or (lifted u t cs g) c 0 ≡ 0
  unfolding lifted
  lifted_empty [] g c z = z
  lifted_empty (m ∷ cs) g c z = lifted_empty cs (set g (first_one m) 0) c (stays_empty g (first_one m) c z)

  -- the first cell of each is empty
  pub lifted_own : (cs : List Care) (g : List ℕ) (m : Care) → In m cs → get_or (lifted u t cs g) (first_one m) 0 ≡ 0
  unfolding lifted
  lifted_own [] g m i = absurd i
  lifted_own (c ∷ cs) g m (inl e) = rw e (lifted_empty cs (set g (first_one c) 0) (first_one c) (emptied g (first_one c)))
  lifted_own (c ∷ cs) g m (inr i) = lifted_own cs (set g (first_one c) 0) m i
