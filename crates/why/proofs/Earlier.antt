-- Beside refusal 7 the second vector named is earlier than the first, and equals it. Assumes nothing.
use Prim.Native.Nat.{ℕ, zero, suc, ◌+◌, ◌≤◌, ◌<◌}
use native.Mathlib.Omega.{arith}
use mathlib.Core.Path.{◌≡◌, refl, sym, ap, ◌∙◌}
use mathlib.Core.Bool.{Bool, true, false}
use mathlib.Core.List.{List, [], ◌∷◌}
use mathlib.Core.Logic.{◌⊎◌, inl, inr, ⊎_elim}
use borrow.Author.Tests.{eqb-true, eqb-false}
use lib.Dec.{eqb}
use lib.ListN.{length, get_or, drop}
use Rattle.lists.specs.First.{first_in, first_of}
use Rattle.lists.proofs.Finding.Firsts.{first_here, first_on}
use Rattle.input.specs.Input.{max_listed, numbers_in, input_of}
use Rattle.record.specs.Tables.{Tables}
use Rattle.build.specs.Build.{Outcome, chosen_kinds, build_chosen}
use Rattle.unit.specs.Demand1.{Gives, First, Same, chosen_causes}
use Rattle.unit.proofs.Demand1.Builds.{chosen_demand_1}
use Rattle.answer.specs.Make.{roomy, program_allowance, make_of}
use Rattle.why.specs.Why.{vector_at, first_equal}
use Rattle.why.specs.Facts.{Alike, NamesEarlier}

-- ---- the first equal vector

test : ℕ → List ℕ → ℕ → Bool
test v before x = eqb x v

-- the first entry that equals v, entry a being one that does
record Found (v : ℕ) (vs : List ℕ) (a r i : ℕ) : Type 0 where
  entry : ℕ
  is : r ≡ i + entry
  low : entry ≤ a
  equal : get_or vs entry 0 ≡ v
  none_before : (j : ℕ) → j < entry → get_or vs j 0 ≡ v → ⊥

found : (v : ℕ) (before vs : List ℕ) (a i : ℕ) → a < length vs → get_or vs a 0 ≡ v → Found v vs a (first_in (test v) before vs i) i
unfolding test
found v before [] a i h e = absurd (omega arith)
found v before (x ∷ vs) a i h e = go (eqb x v) refl a h e (λ b. found v (x ∷ before) vs b (suc i))
  where
    go : (t : Bool) → eqb x v ≡ t → (a : ℕ) → a < suc (length vs) → get_or (x ∷ vs) a 0 ≡ v
        → ((b : ℕ) → b < length vs → get_or vs b 0 ≡ v → Found v vs b (first_in (test v) (x ∷ before) vs (suc i)) (suc i)) → Found v (x ∷ vs) a (first_in (test v) before (x ∷ vs) i) i
    go true p a h e r =
        record { entry = 0; is = first_here (test v) before x vs i p ∙ omega arith; low = omega arith; equal = eqb-true x v p; none_before = λ j l. absurd (omega arith) }
    go false p zero h e r = absurd (eqb-false x v p e)
    go false p (suc a) h e r =
        let f = r a (omega arith) e in
        record {
          entry = suc f.entry;
          is = first_on (test v) before x vs i p ∙ f.is ∙ omega arith;
          low = omega (arith, f.low);
          equal = f.equal;
          none_before = later f.none_before;
        }
      where
        later : {k : ℕ} → ((j : ℕ) → j < k → get_or vs j 0 ≡ v → ⊥) → (j : ℕ) → j < suc k → get_or (x ∷ vs) j 0 ≡ v → ⊥
        later n zero l = eqb-false x v p
        later n (suc j) l = n j (omega arith)

alike : (vs : List ℕ) (place : ℕ) → First (length vs) (Same vs) place → Alike vs (first_equal (vector_at vs place) vs) place
unfolding first_equal first_of test
alike vs place f =
    let at : vector_at vs place ≡ get_or vs f.entry 0 = ap (vector_at vs) f.numbered in
    let s = f.is in
    let v = vector_at vs place in
    let r = found v [] vs s.0 1 (omega (arith, s.1, f.listed)) (s.2 ∙ sym at) in
    let e : first_equal v vs ≡ suc r.entry = r.is ∙ omega arith in
    record {
      some = omega arith;
      earlier = omega (arith, r.low, s.1, f.numbered);
      listed = omega (arith, f.numbered, f.listed);
      equal = ap (vector_at vs) e ∙ r.equal;
      none_before = λ i h l. before i h (omega arith) r.none_before;
    }
  where
    before : {k : ℕ} {v : ℕ} (i : ℕ) → 0 < i → i < suc k → ((j : ℕ) → j < k → get_or vs j 0 ≡ v → ⊥) → vector_at vs i ≡ v → ⊥
    before zero h l n = absurd (omega arith)
    before (suc i) h l n = n i (omega arith)

-- ---- the cause of refusal 7

-- past a cause that is not the one
later : {A B C : Type 0} → A ⊎ (B × C) → (A → ⊥) → C
later (inl a) n = absurd (n a)
later (inr p) n = p.1

seventh : (n degree cells allowance : ℕ) (vs : List ℕ) (t : Tables) (place : ℕ) → Gives (chosen_causes n degree (chosen_kinds n degree vs) cells allowance vs t) 7 place → First (length vs) (Same vs) place
seventh n degree cells allowance vs t place g =
    let g1 = later g (λ p. omega (arith, p.0)) in
    let g2 = later g1 (λ p. omega (arith, p.0)) in
    let g3 = later g2 (λ p. omega (arith, p.0)) in
    let g4 = later g3 (λ p. omega (arith, p.0)) in
    let g5 = later g4 (λ p. omega (arith, p.0)) in
    let g6 = later g5 (λ p. omega (arith, p.0)) in
    ⊎_elim (λ p. p.1)
    (λ p.
    let g8 = later p.1 (λ q. omega (arith, q.0)) in
    let g9 = later g8 (λ q. omega (arith, q.0)) in
    let g10 = later g9 (λ q. omega (arith, q.0)) in
    let g11 = later g10 (λ q. omega (arith, q.0)) in
    absurd (omega (arith, g11.0)))
    g6

of_build : (n degree cells allowance : ℕ) (vs : List ℕ) (t : Tables) (o : Outcome) → o ≡ build_chosen n degree cells allowance vs t → o.built.refusal ≡ 7 → Alike vs (first_equal (vector_at vs o.built.place) vs) o.built.place
of_build n degree cells allowance vs t o b e =
    let g = (chosen_demand_1 n degree cells allowance vs t).refusal in
    alike vs o.built.place (seventh n degree cells allowance vs t o.built.place (rw e at (rw (← b) at g)))

pub names_earlier : NamesEarlier
unfolding make_of
names_earlier text y e =
    let i = input_of text max_listed in
    of_build i.n i.degree i.cells program_allowance (drop 3 (numbers_in text)) roomy (make_of text roomy).outcome (rw (y, make_of)) e
