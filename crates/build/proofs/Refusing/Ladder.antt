-- The ladder of refusals: what it gives, and what is known past it. Assumes nothing.
use Prim.Native.Nat.{ℕ, zero, suc, ◌^◌, ◌≤◌, ◌<◌}
use native.Mathlib.Omega.{arith}
use mathlib.Core.Path.{◌≡◌, refl}
use mathlib.Core.Bool.{Bool, true, false}
use mathlib.Core.List.{List, [], ◌∷◌, ◌++◌}
use lib.Dec.{leb, ltb}
use lib.ListN.{length, get_or}
use borrow.Author.Tests.{ltb-false, leb-false}
use Rattle.lists.specs.First.{repeated}
use Rattle.lists.proofs.Tests.{or_false}
use Rattle.lists.specs.Members.{All}
use Rattle.lists.proofs.Entries.Members.{all_map}
use Rattle.lists.proofs.Finding.NonePass.{none_all}
use Rattle.vectors.specs.declared.Kind.{Kind}
use Rattle.vectors.specs.Bounds.{max_inputs, max_vectors, max_cells}
use Rattle.build.specs.Built.{Refusal}
use Rattle.build.specs.Refusals.{accepted, refuse_if, refuse_at, or_else, ladder, list_checks, first_beyond}
use Rattle.record.specs.Tables.{Tables}
use Rattle.record.proofs.Formed.{inside}
use Rattle.build.specs.Build.{Outcome, refused, finish, outcome}
use Rattle.build.specs.Inner.Ready.{Listed}

-- ---- the first that is given

pub ladder_append : (ps qs : List Refusal) → ladder (ps ++ qs) ≡ or_else (ladder ps).number (ladder ps) (ladder qs)
unfolding ladder
ladder_append [] qs = refl
ladder_append (a ∷ ps) qs = rw (ladder_append ps qs) (go a.number refl)
  where
    go : (m : ℕ) → a.number ≡ m → or_else m a (or_else (ladder ps).number (ladder ps) (ladder qs)) ≡ or_else (or_else m a (ladder ps)).number (or_else m a (ladder ps)) (ladder qs)
    go zero e = refl
    go (suc m) e = rw e

pub or_given : (r s : Refusal) → (r.number ≡ 0 → ⊥) → or_else r.number r s ≡ r
or_given r s h = go r.number h
  where
    go : (m : ℕ) → (m ≡ 0 → ⊥) → or_else m r s ≡ r
    go zero h = absurd (h refl)
    go (suc m) h = refl

pub or_passed : (r s : Refusal) → r.number ≡ 0 → or_else r.number r s ≡ s
or_passed r s h = rw h

-- ---- what every rung has, the ladder has

module _ (P : Refusal → Type 0) where
  -- a rung that is passed leaves it to the others
  pub ladder_more : (r : Refusal) (rs : List Refusal) → P r → (r.number ≡ 0 → P (ladder rs)) → P (ladder (r ∷ rs))
  unfolding ladder
  ladder_more r rs h l = go r.number refl
    where
      go : (m : ℕ) → r.number ≡ m → P (or_else m r (ladder rs))
      go zero e = l e
      go (suc m) e = h

  pub ladder_all : P accepted → (rs : List Refusal) → All P rs → P (ladder rs)
  unfolding ladder
  ladder_all none [] a = none
  ladder_all none (r ∷ rs) a = ladder_more r rs a.0 (λ z. ladder_all none rs a.1)

-- ---- rung by rung

module _ (m : ℕ) (rs : List Refusal) where
  pub if_yes : (t : Bool) → t ≡ true → ladder (refuse_if (suc m) t ∷ rs) ≡ record { number = suc m; place = 0 }
  unfolding ladder
  if_yes t e = rw e

  pub if_no : (t : Bool) → t ≡ false → ladder (refuse_if (suc m) t ∷ rs) ≡ ladder rs
  unfolding ladder
  if_no t e = rw e

  pub at_yes : (i : ℕ) → (i ≡ 0 → ⊥) → ladder (refuse_at (suc m) i ∷ rs) ≡ record { number = suc m; place = i }
  unfolding ladder
  at_yes zero h = absurd (h refl)
  at_yes (suc i) h = refl

  pub at_no : (i : ℕ) → i ≡ 0 → ladder (refuse_at (suc m) i ∷ rs) ≡ ladder rs
  unfolding ladder
  at_no i e = rw e

-- ---- past it

pass : (r : Refusal) (rs : List Refusal) → (ladder (r ∷ rs)).number ≡ 0 → (r.number ≡ 0) × ((ladder rs).number ≡ 0)
unfolding ladder
pass r rs h = go r.number refl h
  where
    go : (m : ℕ) → r.number ≡ m → (or_else m r (ladder rs)).number ≡ 0 → (r.number ≡ 0) × ((ladder rs).number ≡ 0)
    go zero e h = (e, h)
    go (suc m) e h = absurd (omega arith)

-- every rung is passed, and so is rung i, from 0
pub pass_all : (rs : List Refusal) → (ladder rs).number ≡ 0 → All (λ r. r.number ≡ 0) rs
pass_all [] h = tt
pass_all (r ∷ rs) h = let p = pass r rs h in (p.0, pass_all rs p.1)

pub pass_at : (rs : List Refusal) → (ladder rs).number ≡ 0 → (i : ℕ) → (get_or rs i accepted).number ≡ 0
pass_at [] h i = refl
pass_at (r ∷ rs) h zero = (pass r rs h).0
pass_at (r ∷ rs) h (suc i) = pass_at rs (pass r rs h).1 i

pub if_passed : (m : ℕ) (t : Bool) → (refuse_if (suc m) t).number ≡ 0 → t ≡ false
if_passed m true h = absurd (omega arith)
if_passed m false h = refl

pub at_passed : (m i : ℕ) → (refuse_at (suc m) i).number ≡ 0 → i ≡ 0
at_passed m zero h = refl
at_passed m (suc i) h = absurd (omega arith)

-- what checks 1 to 7 leave
pub record ListPassed (n : ℕ) (second : Refusal) (cells : ℕ) (vs : List ℕ) (g aux : ℕ) : Type 0 where
  pub some_inputs : 0 < n
  pub two : second.number ≡ 0
  pub listed : Listed n vs
  pub some_cells : 0 < cells
  pub few_cells : cells ≤ max_cells
  pub cells_fit : cells ≤ g
  pub words_fit : length vs < aux
  pub distinct : repeated vs ≡ 0

pub beyond_none : (n : ℕ) (vs : List ℕ) → first_beyond n vs ≡ 0 → All (λ v. v < 2 ^ n) vs
beyond_none n vs h = all_map _ _ (λ v e. leb-false (2 ^ n) v e) vs (none_all (λ v. leb (2 ^ n) v) vs h)

pub list_passed : (n : ℕ) (second : Refusal) (cells : ℕ) (vs : List ℕ) (g aux : ℕ) → (ladder (list_checks n second cells vs g aux)).number ≡ 0
    → ListPassed n second cells vs g aux
list_passed n second cells vs g aux h =
    let p = pass_at (list_checks n second cells vs g aux) h in
    let b1 = inside 1 max_inputs n (if_passed 0 _ (p 0)) in
    let b3 = inside 1 max_vectors (length vs) (if_passed 2 _ (p 2)) in
    let b4 = inside 1 max_cells cells (if_passed 3 _ (p 3)) in
    let b5 = or_false (ltb g cells) (ltb aux (suc (length vs))) (if_passed 4 _ (p 4)) in
    record {
      some_inputs = b1.0;
      two = p 1;
      listed = record { inputs = b1.1; some = b3.0; few = b3.1; within = beyond_none n vs (at_passed 5 _ (p 5)) };
      some_cells = b4.0;
      few_cells = b4.1;
      cells_fit = ltb-false g cells b5.0;
      words_fit = ltb-false aux (suc (length vs)) b5.1;
      distinct = at_passed 6 _ (p 6);
    }

-- ---- the outcome

-- its number and place
abbrev pub refusal_of : Outcome → Refusal
refusal_of o = record { number = o.built.refusal; place = o.built.place }

module _ (r : Refusal) (n n1 : ℕ) (ks : List Kind) (cells a : ℕ) (vs : List ℕ) (t : Tables) where
  pub outcome_refused : (r.number ≡ 0 → ⊥) → outcome r n n1 ks cells a vs t ≡ refused r t
  unfolding outcome
  outcome_refused h = go r.number h
    where
      go : (m : ℕ) → (m ≡ 0 → ⊥) → elim m as (λ x. Outcome) [ zero ↦ finish n n1 ks cells a vs t | suc p ↦ refused r t ] ≡ refused r t
      go zero h = absurd (h refl)
      go (suc m) h = refl

  pub outcome_passed : r.number ≡ 0 → outcome r n n1 ks cells a vs t ≡ finish n n1 ks cells a vs t
  unfolding outcome
  outcome_passed h = rw (h, outcome)
