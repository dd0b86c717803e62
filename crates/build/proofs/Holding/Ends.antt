-- A build past refusals 1 to 12, with an allowance of a tries: it ends accepted or with refusal 41 or 13, and an outcome is accepted only through it. Assumes nothing.
use Prim.Native.Nat.{ℕ, ◌^◌, ◌≤◌, ◌<◌}
use native.Mathlib.Omega.{arith}
use mathlib.Core.Path.{◌≡◌, refl, ap, ◌∙◌}
use mathlib.Core.List.{List}
use mathlib.Core.Logic.{◌⊎◌, inl, inr}
use native.Mathlib.Nat.{eq-zero-or-pos}
use lib.ListN.{length, replicate, length-replicate}
use Rattle.vectors.specs.declared.Kind.{Kind}
use Rattle.rows.specs.End.{End, All, NoFit, Over, Unfit}
use Rattle.rows.proofs.Placing.Held.{lengths}
use Rattle.rows.proofs.Placing.Turns.{ended}
use Rattle.rows.specs.Allowance.{last_tries, tries_made, end_within}
use Rattle.rows.proofs.Placing.Allowed.{within_same, within_all, within_unfit}
use Rattle.record.specs.Record.{mark_built, record_of}
use Rattle.build.specs.Built.{Refusal}
use Rattle.record.specs.Tables.{Tables}
use Rattle.build.specs.Build.{Outcome, cares_from, placing_of, accepted, refused_for, refused, written, zeroed, finish, outcome}
use Rattle.build.proofs.Refusing.Ladder.{outcome_refused, outcome_passed}

-- ---- the placing

module _ (n1 : ℕ) (ks : List Kind) (cells : ℕ) (vs : List ℕ) where
  pub placing_rows : length (placing_of n1 ks cells vs).state.h ≡ 2 ^ n1
  unfolding placing_of
  placing_rows = (lengths (cares_from 1 n1 ks vs) (replicate (2 ^ n1) 0) (replicate cells 0)).0 ∙ length-replicate (2 ^ n1) 0

  pub placing_cells : length (placing_of n1 ks cells vs).state.g ≡ cells
  unfolding placing_of
  placing_cells = (lengths (cares_from 1 n1 ks vs) (replicate (2 ^ n1) 0) (replicate cells 0)).1 ∙ length-replicate cells 0

  pub placing_ends : (a : ℕ) → end_within a (placing_of n1 ks cells vs) ≡ Unfit → ⊥
  unfolding placing_of
  placing_ends a = within_unfit a (cares_from 1 n1 ks vs) (replicate (2 ^ n1) 0) (replicate cells 0)

  -- without an allowance none is exceeded
  pub placing_over : (row : ℕ) → (placing_of n1 ks cells vs).end ≡ Over row → ⊥
  unfolding placing_of
  placing_over = (ended (cares_from 1 n1 ks vs) (replicate (2 ^ n1) 0) (replicate cells 0)).not_over

  pub placing_fit : (placing_of n1 ks cells vs).end ≡ Unfit → ⊥
  unfolding placing_of
  placing_fit = (ended (cares_from 1 n1 ks vs) (replicate (2 ^ n1) 0) (replicate cells 0)).not_unfit

-- ---- the end

-- what an accepted build leaves
abbrev pub accepted_outcome : ℕ → ℕ → List Kind → ℕ → List ℕ → Tables → Outcome
accepted_outcome n n1 ks cells vs t =
    record {
      built = accepted (record_of mark_built n n1 (length vs) ks cells (placing_of n1 ks cells vs).state.tries);
      tables = written n n1 ks vs (placing_of n1 ks cells vs) t;
    }

module _ (n n1 : ℕ) (ks : List Kind) (cells a : ℕ) (vs : List ℕ) (t : Tables) where
  pub finish_all : end_within a (placing_of n1 ks cells vs) ≡ All → finish n n1 ks cells a vs t ≡ accepted_outcome n n1 ks cells vs t
  unfolding finish
  finish_all e = rw (e, finish)

  pub finish_stuck : (row tried needed : ℕ) → end_within a (placing_of n1 ks cells vs) ≡ NoFit row tried needed
      → finish n n1 ks cells a vs t ≡ refused_for (record { number = 13; place = row }) needed (zeroed n1 cells (length vs) t)
  unfolding finish
  finish_stuck row tried needed e = rw (e, finish)

  pub finish_over : (row : ℕ) → end_within a (placing_of n1 ks cells vs) ≡ Over row
      → finish n n1 ks cells a vs t ≡ refused (record { number = 41; place = row }) (zeroed n1 cells (length vs) t)
  unfolding finish
  finish_over row e = rw (e, finish)

  -- how an outcome comes about: by refusals 1 to 12, or past them by the end of the placing
  pub data Comes (r : Refusal) : Type 0 where
    early : 0 < r.number → outcome r n n1 ks cells a vs t ≡ refused r t → Comes r
    whole : r.number ≡ 0 → end_within a (placing_of n1 ks cells vs) ≡ All → outcome r n n1 ks cells a vs t ≡ accepted_outcome n n1 ks cells vs t → Comes r
    stuck : r.number ≡ 0 → (row tried needed : ℕ) → end_within a (placing_of n1 ks cells vs) ≡ NoFit row tried needed
        → outcome r n n1 ks cells a vs t ≡ refused_for (record { number = 13; place = row }) needed (zeroed n1 cells (length vs) t) → Comes r
    over : r.number ≡ 0 → (row : ℕ) → end_within a (placing_of n1 ks cells vs) ≡ Over row
        → outcome r n n1 ks cells a vs t ≡ refused (record { number = 41; place = row }) (zeroed n1 cells (length vs) t) → Comes r

  pub comes : (r : Refusal) → Comes r
  comes r = go (eq-zero-or-pos r.number) (end_within a (placing_of n1 ks cells vs)) refl
    where
      go : (r.number ≡ 0) ⊎ (0 < r.number) → (e : End) → end_within a (placing_of n1 ks cells vs) ≡ e → Comes r
      go (inr l) e q = early l (outcome_refused r n n1 ks cells a vs t (λ z. omega arith))
      go (inl z) All q = whole z q (outcome_passed r n n1 ks cells a vs t z ∙ finish_all q)
      go (inl z) (NoFit row tried needed) q = stuck z row tried needed q (outcome_passed r n n1 ks cells a vs t z ∙ finish_stuck row tried needed q)
      go (inl z) (Over row) q = over z row q (outcome_passed r n n1 ks cells a vs t z ∙ finish_over row q)
      go (inl z) Unfit q = absurd (placing_ends n1 ks cells vs a q)

  -- accepted: past refusals 1 to 12, and all rows are placed within the allowance
  pub record Accepted (r : Refusal) : Type 0 where
    pub passed : r.number ≡ 0
    pub placed : (placing_of n1 ks cells vs).end ≡ All
    pub within : (placing_of n1 ks cells vs).state.tries ≤ a
    pub is : outcome r n n1 ks cells a vs t ≡ accepted_outcome n n1 ks cells vs t

  pub outcome_accepted : (r : Refusal) → (outcome r n n1 ks cells a vs t).built.refusal ≡ 0 → Accepted r
  outcome_accepted r h = go (comes r)
    where
      number : Outcome → ℕ
      number o = o.built.refusal

      go : Comes r → Accepted r
      go (early l e) = absurd (omega (arith, ap number e))
      go (whole z q e) = let w = within_all a (placing_of n1 ks cells vs) q in record { passed = z; placed = w.is; within = omega (arith, w.made); is = e }
      go (stuck z row tried needed q e) = absurd (omega (arith, ap number e))
      go (over z row q e) = absurd (omega (arith, ap number e))

  -- all rows are placed within the allowance: accepted
  pub accepted_outcome_lem : (r : Refusal) → r.number ≡ 0 → (placing_of n1 ks cells vs).end ≡ All → (placing_of n1 ks cells vs).state.tries ≤ a
      → outcome r n n1 ks cells a vs t ≡ accepted_outcome n n1 ks cells vs t
  accepted_outcome_lem r z q l =
      let P = placing_of n1 ks cells vs in
      let m : tries_made P ≤ a = omega (arith, ap last_tries q) in
      outcome_passed r n n1 ks cells a vs t z ∙ finish_all (within_same a P m ∙ q)
