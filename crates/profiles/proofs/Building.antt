-- The build of keys by the build of their words: a list that is too long is refused alike, however long it is. Assumes nothing.
use Prim.Native.Nat.{ℕ, ◌≤◌, ◌<◌, min}
use native.Mathlib.Omega.{arith}
use mathlib.Core.Path.{◌≡◌, refl, sym, ap, ◌∙◌}
use mathlib.Core.Bool.{Bool, true, false}
use mathlib.Core.List.{List, map}
use mathlib.Core.Logic.{inl, inr, ⊎_elim}
use lib.Dec.{eqb}
use lib.ListN.{length, take, length-map}
use lib.Seq.{take_all, length-take-le}
use borrow.Author.Tests.{eqb-true, eqb-false}
use Rattle.lists.specs.Members.{every}
use Rattle.lists.proofs.Tests.{le_or_lt}
use Rattle.vectors.specs.Bounds.{max_inputs, max_vectors, max_words}
use Rattle.record.specs.Tables.{Tables}
use Rattle.build.specs.Build.{Outcome, refused, build_chosen}
use Rattle.unit.specs.Demand1.{Outside, WrongDegree}
use Rattle.unit.proofs.Demand1.Builds.{chosen_demand_1}
use Rattle.profiles.specs.declared.Key.{Key}
use Rattle.profiles.specs.Key.{key_bits, in_widths, packed}
use Rattle.profiles.specs.Keys.{keys_by, build_keys}

-- the bits of a key are in bounds
few_bits : Outside max_inputs key_bits → ⊥
few_bits (inl z) = omega arith
few_bits (inr l) = omega arith

-- the refusal of a list that is too long: 2 by its degree, or 3
abbrev long_refusal : ℕ → ℕ
long_refusal degree = elim (eqb degree 1) [ true ↦ 3 | false ↦ elim (eqb degree 2) [ true ↦ 3 | false ↦ 2 ] ]

module _ (degree cells allowance : ℕ) (t : Tables) (vs : List ℕ) (long : max_vectors < length vs) where
  abbrev o : Outcome
  o = build_chosen key_bits degree cells allowance vs t

  -- demand 1: such a refusal leaves nothing else open
  settled : (number : ℕ) → 0 < number → number < 13 → (o.built.refusal ≡ number) × (o.built.place ≡ 0) → o ≡ refused (record { number = number; place = 0 }) t
  settled number p l e =
      let d = chosen_demand_1 key_bits degree cells allowance vs t in
      let r : 0 < o.built.refusal = omega (arith, e.0) in
      λ i. record {
        built = record { refusal = e.0 i; place = e.1 i; needed = d.leaves.none_needed (λ (z : o.built.refusal ≡ 13). omega (arith, e.0)) i; unit = d.leaves.blank r i };
        tables = d.leaves.untouched r (omega (arith, e.0)) i;
      }

  by_degree : (WrongDegree degree → ⊥) → o ≡ refused (record { number = 3; place = 0 }) t
  by_degree right =
      settled 3 (omega arith) (omega arith)
      ((chosen_demand_1 key_bits degree cells allowance vs t).only 3 0 (inr ((λ q a. few_bits a.1), inr ((λ q a. right a.1), inl (refl, (refl, inr long))))))

  pub too_long : o ≡ refused (record { number = long_refusal degree; place = 0 }) t
  too_long = one (eqb degree 1) refl (eqb degree 2) refl
    where
      one : (b : Bool) → eqb degree 1 ≡ b → (c : Bool) → eqb degree 2 ≡ c
          → o ≡ refused (record { number = elim b [ true ↦ 3 | false ↦ elim c [ true ↦ 3 | false ↦ 2 ] ]; place = 0 }) t
      one true e c f = by_degree (λ w. w.0 (eqb-true degree 1 e))
      one false e true f = by_degree (λ w. w.1 (eqb-true degree 2 f))
      one false e false f =
          settled 2 (omega arith) (omega arith)
          ((chosen_demand_1 key_bits degree cells allowance vs t).only 2 0 (inr ((λ q a. few_bits a.1), inl (refl, (refl, (eqb-false degree 1 e, eqb-false degree 2 f))))))

module _ (degree cells allowance : ℕ) (keys : List Key) (t : Tables) where
  pub keys_wide : every in_widths keys ≡ false → refused (record { number = 30; place = 0 }) t ≡ build_keys degree cells allowance keys t
  unfolding build_keys
  keys_wide e = rw (e, keys_by, build_keys)

  pub keys_build : every in_widths keys ≡ true → build_chosen key_bits degree cells allowance (map packed keys) t ≡ build_keys degree cells allowance keys t
  unfolding build_keys
  keys_build e = rw (e, keys_by, build_keys)

  -- the words of the first keys are enough, one more than a unit can have
  pub keys_front : (m : ℕ) (vs : List ℕ) → every in_widths keys ≡ true → m ≡ min (length keys) max_words → vs ≡ take m (map packed keys)
      → build_chosen key_bits degree cells allowance vs t ≡ build_keys degree cells allowance keys t
  keys_front m vs e s v = ⊎_elim whole front (le_or_lt (length keys) max_words) ∙ keys_build e
    where
      words : length (map packed keys) ≡ length keys
      words = length-map keys packed

      whole : length keys ≤ max_words → build_chosen key_bits degree cells allowance vs t ≡ build_chosen key_bits degree cells allowance (map packed keys) t
      whole l = ap (λ (l : List ℕ). build_chosen key_bits degree cells allowance l t) (v ∙ take_all m (map packed keys) (omega (arith, words)))

      front : max_words < length keys → build_chosen key_bits degree cells allowance vs t ≡ build_chosen key_bits degree cells allowance (map packed keys) t
      front l =
          let k : length vs ≡ m = ap length v ∙ length-take-le m (map packed keys) (omega (arith, words)) in
          too_long degree cells allowance t vs (omega arith) ∙ sym (too_long degree cells allowance t (map packed keys) (omega (arith, words)))
