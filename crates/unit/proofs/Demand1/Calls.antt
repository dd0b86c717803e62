-- Demand 1, of lookup and recovery, and of all four entries. Assumes nothing.
use Prim.Native.Nat.{ℕ, zero, suc, ◌+◌, ◌-◌, ◌^◌, ◌≤◌, ◌<◌}
use native.Mathlib.Nat.{min-eq_left}
use native.Mathlib.Omega.{arith}
use mathlib.Core.Path.{◌≡◌, refl, sym, ap, ◌∙◌}
use mathlib.Core.Bool.{Bool, true, false, ◌&&◌}
use mathlib.Core.List.{[], ◌∷◌}
use mathlib.Core.Logic.{◌⊎◌, inl, inr, ⊎_elim}
use lib.Dec.{eqb, leb, ltb}
use lib.ListN.{length, get_or, take, length-take}
use lib.Seq.{get_or-take}
use borrow.Author.Tests.{ltb-true, ltb-false, leb-true, leb-false, eqb-true, eqb-false}
use Rattle.lists.proofs.Tests.{and_true, and_false, le_or_lt}
use Rattle.lists.proofs.Finding.Equals.{FirstEqual, first_equal}
use Rattle.lists.proofs.Entries.Alls.{all_at}
use Rattle.lists.proofs.Finding.NonePass.{none_all}
use Rattle.vectors.specs.Bounds.{outside}
use Rattle.record.specs.declared.Record.{Record}
use Rattle.record.specs.Tables.{Tables}
use Rattle.record.specs.Leads.{word_in, cell_in}
use Rattle.record.specs.Formed.{well_formed, sound}
use Rattle.build.specs.Build.{build_chosen, build_given}
use Rattle.lookup.specs.Lookup.{Found}
use Rattle.lookup.specs.Lookup.{found, not_found, compared, answer, lookup_of}
use Rattle.lookup.proofs.Lookups.{answer_out, answer_in, compared_none, compared_above, compared_other, compared_same, lookup_unformed, lookup_beyond, lookup_answer}
use Rattle.recover.specs.Recover.{Recovered}
use Rattle.recover.specs.Recover.{recovered, not_recovered, first_cell, fixes, vector_at, from_cell, recover_of}
use Rattle.recover.proofs.Recovery.{recover_unformed, recover_outside, recover_from}
use Rattle.unit.specs.Demand1.{Gives, cause, Outside, Formed, Sound, lookup_causes, FirstCell, displacement_at, Unread, recovery_causes, Demand1Lookup, Demand1Recovery, Demand1All}
use Rattle.unit.proofs.Demand1.Ladder.{gives_one}
use Rattle.unit.proofs.Demand1.Checks.{outside_yes, outside_no}
use Rattle.unit.proofs.Demand1.Builds.{chosen_demand_1, given_demand_1}
use Rattle.unit.proofs.Demand1.Formed.{formed_yes, formed_no, sound_yes, sound_no}

-- a cause with place 0 has one place
zero_one : (P : Type 0) (p q : ℕ) → (p ≡ 0) × P → (q ≡ 0) × P → p ≡ q
zero_one P p q a b = a.0 ∙ sym b.0

-- ---- lookup

abbrev FoundAs : Record → Tables → ℕ → Found → Type 0
FoundAs u t x f = Gives (lookup_causes u t x) f.refusal f.place × (0 < f.refusal → (f.place ≡ 0) × (f.index ≡ 0))

module _ (u : Record) (t : Tables) (x : ℕ) where
  abbrev cell : ℕ
  cell = cell_in u t x

  module _ (f : Formed u t) (low : x < 2 ^ u.n) where
    past_two : (o : Found) → Gives (cause 14 ((cell < u.cells) × (u.k < get_or t.g cell 0)) ∷ []) o.refusal o.place
        → (0 < o.refusal → (o.place ≡ 0) × (o.index ≡ 0)) → FoundAs u t x o
    past_two o g z = (inr ((λ q a. a.1 f), inr ((λ q a. omega (arith, a.1)), g)), z)

    compared_as : cell < u.cells → (w : ℕ) → get_or t.g cell 0 ≡ w → FoundAs u t x (compared u t.aux x w)
    compared_as l zero e =
        rw (← compared_none u t.aux x 0 refl)
        (past_two (found 0) (inr ((λ q a. omega (arith, a.1.1)), (refl, refl))) (λ z. absurd (omega arith)))
    compared_as l (suc i) e = go (le_or_lt (suc i) u.k) (eqb (get_or t.aux (suc i) 0) (word_in u x)) refl
      where
        go : (suc i ≤ u.k) ⊎ (u.k < suc i) → (b : Bool) → eqb (get_or t.aux (suc i) 0) (word_in u x) ≡ b → FoundAs u t x (compared u t.aux x (suc i))
        go (inr k) b q =
            rw (← compared_above u t.aux x (suc i) k)
            (past_two (not_found 14) (inl (refl, (refl, (l, rw e k)))) (λ z. (refl, refl)))
        go (inl k) true q =
            rw (← compared_same u t.aux x (suc i) (λ z. omega arith) k (eqb-true _ _ q))
            (past_two (found (suc i)) (inr ((λ p a. omega (arith, a.1.1)), (refl, refl))) (λ z. absurd (omega arith)))
        go (inl k) false q =
            rw (← compared_other u t.aux x (suc i) (λ z. omega arith) k (eqb-false _ _ q))
            (past_two (found 0) (inr ((λ p a. omega (arith, a.1.1)), (refl, refl))) (λ z. absurd (omega arith)))

    answer_as : FoundAs u t x (answer u t x)
    answer_as = go (le_or_lt u.cells cell)
      where
        go : (u.cells ≤ cell) ⊎ (cell < u.cells) → FoundAs u t x (answer u t x)
        go (inl l) =
            rw (← answer_out u t x cell refl l)
            (past_two (found 0) (inr ((λ q a. omega (arith, a.1.0)), (refl, refl))) (λ z. absurd (omega arith)))
        go (inr l) = rw (← answer_in u t x cell refl l) (compared_as l (get_or t.g cell 0) refl)

  lookup_as : FoundAs u t x (lookup_of u t x)
  lookup_as = go (well_formed u t) refl (le_or_lt (2 ^ u.n) x)
    where
      go : (b : Bool) → well_formed u t ≡ b → (2 ^ u.n ≤ x) ⊎ (x < 2 ^ u.n) → FoundAs u t x (lookup_of u t x)
      go false e k = rw (← lookup_unformed u t x e) (inl (refl, (refl, formed_no u t e)), λ z. (refl, refl))
      go true e (inl l) =
          rw (← lookup_beyond u t x e l) (inr ((λ q a. a.1 (formed_yes u t e)), inl (refl, (refl, l))), λ z. (refl, refl))
      go true e (inr l) = rw (← lookup_answer u t x e l) (answer_as (formed_yes u t e) l)

pub lookup_demand_1 : Demand1Lookup lookup_of
lookup_demand_1 u t x =
    let a = lookup_as u t x in
    record {
      refusal = a.0;
      only = λ m q h. gives_one (lookup_causes u t x) (zero_one _, (zero_one _, (zero_one _, tt))) _ _ m q a.0 h;
      nothing = a.1;
    }

-- ---- recovery

abbrev RecoveredAs : Record → Tables → ℕ → Recovered → Type 0
RecoveredAs u t i f = Gives (recovery_causes u t i) f.refusal f.place × (0 < f.refusal → (f.place ≡ 0) × (f.vector ≡ 0))

module _ (u : Record) (t : Tables) (i : ℕ) where
  abbrev word : ℕ
  word = get_or t.aux i 0

  module _ (f : Formed u t) (inner : Outside u.k i → ⊥) where
    refused_as : Unread u t i → RecoveredAs u t i (not_recovered 14)
    refused_as r = (inr ((λ q a. a.1 f), inr ((λ q a. inner a.1), inl (refl, (refl, r)))), λ z. (refl, refl))

    accepted_as : (v : ℕ) → (Unread u t i → ⊥) → RecoveredAs u t i (recovered v)
    accepted_as v n = (inr ((λ q a. a.1 f), inr ((λ q a. inner a.1), inr ((λ q a. n a.1), (refl, refl)))), λ z. absurd (omega arith))

    -- the cells below L are so many
    cells_are : length (take u.cells t.g) ≡ u.cells
    cells_are = length-take u.cells t.g ∙ min-eq_left f.long_enough.1

    first_cell_as : (c : ℕ) → first_cell u t i ≡ suc c → FirstCell u t i c
    first_cell_as c e =
        let q : FirstEqual (take u.cells t.g) i c = first_equal (take u.cells t.g) i c e in
        let l : c < u.cells = omega (arith, q.below, cells_are) in
        record {
          below = l;
          holds = sym (get_or-take u.cells t.g c 0 l) ∙ q.equal;
          none_before = λ a k h. q.first a k (get_or-take u.cells t.g a 0 (omega arith) ∙ h);
        }

    no_cell : first_cell u t i ≡ 0 → (c : ℕ) → c < u.cells → get_or t.g c 0 ≡ i → ⊥
    no_cell e c l h =
        let a = none_all (λ w. eqb w i) (take u.cells t.g) e in
        eqb-false (get_or (take u.cells t.g) c 0) i (all_at (λ w. eqb w i ≡ false) (take u.cells t.g) c 0 a (omega (arith, cells_are)))
        (get_or-take u.cells t.g c 0 l ∙ h)

    one_cell : (c e : ℕ) → FirstCell u t i c → FirstCell u t i e → c ≡ e
    one_cell c e p q = go (le_or_lt c e) (le_or_lt e c)
      where
        go : (c ≤ e) ⊎ (e < c) → (e ≤ c) ⊎ (c < e) → c ≡ e
        go (inr l) k = absurd (p.none_before e l q.holds)
        go (inl l) (inr k) = absurd (q.none_before c k p.holds)
        go (inl l) (inl k) = omega arith

    unread : (c : ℕ) → FirstCell u t i c → fixes u t word c ≡ false → Unread u t i
    unread c p h =
        ⊎_elim
        (λ a. ⊎_elim
        (λ b. inr (inl (
          c,
          p,
          ⊎_elim (λ e. inl (leb-false (displacement_at u t i) c e)) (λ e. inr (ltb-false (c - displacement_at u t i) (2 ^ (u.p - u.n1)) e))
              (and_false (leb (displacement_at u t i) c) (ltb (c - displacement_at u t i) (2 ^ (u.p - u.n1))) b),
        )))
        (λ b. inr (inr (inl (ltb-false word (2 ^ (u.n1 + u.n - u.p)) b))))
        (and_false (leb (displacement_at u t i) c && ltb (c - displacement_at u t i) (2 ^ (u.p - u.n1))) (ltb word (2 ^ (u.n1 + u.n - u.p))) a))
        (λ a. inr (inr (inr (sound_no u t a))))
        (and_false (leb (displacement_at u t i) c && ltb (c - displacement_at u t i) (2 ^ (u.p - u.n1)) && ltb word (2 ^ (u.n1 + u.n - u.p))) (sound u t) h)

    read : (c : ℕ) → FirstCell u t i c → fixes u t word c ≡ true → Unread u t i → ⊥
    read c p h =
        let s = and_true (leb (displacement_at u t i) c && ltb (c - displacement_at u t i) (2 ^ (u.p - u.n1)) && ltb word (2 ^ (u.n1 + u.n - u.p))) (sound u t) h in
        let l = and_true (leb (displacement_at u t i) c && ltb (c - displacement_at u t i) (2 ^ (u.p - u.n1))) (ltb word (2 ^ (u.n1 + u.n - u.p))) s.0 in
        let k = and_true (leb (displacement_at u t i) c) (ltb (c - displacement_at u t i) (2 ^ (u.p - u.n1))) l.0 in
        go (leb-true _ _ k.0) (ltb-true _ _ k.1) (ltb-true _ _ l.1) (sound_yes u t s.1)
      where
        go : displacement_at u t i ≤ c → c - displacement_at u t i < 2 ^ (u.p - u.n1) → word < 2 ^ (u.n1 + u.n - u.p) → Sound u t → Unread u t i → ⊥
        go a b d e (inl n) = n c p.below p.holds
        go a b d e (inr (inl q)) = let z : q.0 ≡ c = one_cell q.0 c q.1 p in ⊎_elim (λ l. omega arith) (λ l. omega (arith, ap (λ (v : ℕ). v - displacement_at u t i) z)) q.2
        go a b d e (inr (inr (inl l))) = omega arith
        go a b d e (inr (inr (inr n))) = n e

    vector_as : (c : ℕ) → FirstCell u t i c → RecoveredAs u t i (vector_at u t word c)
    unfolding vector_at
    vector_as c p = go (fixes u t word c) refl
      where
        go : (b : Bool) → fixes u t word c ≡ b → RecoveredAs u t i (vector_at u t word c)
        go true h = rw (h, vector_at) (accepted_as _ (read c p h))
        go false h = rw (h, vector_at) (refused_as (unread c p h))

    from_as : (m : ℕ) → first_cell u t i ≡ m → RecoveredAs u t i (from_cell u t word m)
    unfolding from_cell
    from_as zero e = refused_as (inl (no_cell e))
    from_as (suc c) e = vector_as c (first_cell_as c e)

  recover_as : RecoveredAs u t i (recover_of u t i)
  recover_as = go (well_formed u t) refl (outside 1 u.k i) refl
    where
      go : (b : Bool) → well_formed u t ≡ b → (o : Bool) → outside 1 u.k i ≡ o → RecoveredAs u t i (recover_of u t i)
      go false e o q = rw (← recover_unformed u t i e) (inl (refl, (refl, formed_no u t e)), λ z. (refl, refl))
      go true e true q =
          rw (← recover_outside u t i e q) (inr ((λ p a. a.1 (formed_yes u t e)), inl (refl, (refl, outside_yes 0 u.k i q))), λ z. (refl, refl))
      go true e false q = rw (← recover_from u t i e q) (from_as (formed_yes u t e) (outside_no 0 u.k i q) (first_cell u t i) refl)

pub recovery_demand_1 : Demand1Recovery recover_of
recovery_demand_1 u t i =
    let a = recover_as u t i in
    record {
      refusal = a.0;
      only = λ m q h. gives_one (recovery_causes u t i) (zero_one _, (zero_one _, (zero_one _, tt))) _ _ m q a.0 h;
      nothing = a.1;
    }

-- ---- every entry

pub demand_1 : Demand1All build_chosen build_given lookup_of recover_of
demand_1 = record { of_chosen = chosen_demand_1; of_given = given_demand_1; of_lookup = lookup_demand_1; of_recovery = recovery_demand_1 }
