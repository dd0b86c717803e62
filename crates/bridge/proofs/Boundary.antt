-- An accepted build's record and tables, handed to lookup and recovery, answer by the list. Assumes nothing.
use Prim.Native.Nat.{ℕ, suc, ◌*◌}
use native.Mathlib.Omega.{arith}
use mathlib.Core.Path.{◌≡◌, refl, sym, subst, ◌∙◌}
use mathlib.Core.List.{List, map}
use lib.ListN.{length, get_or, take, length-map}
use Rattle.vectors.specs.declared.Kind.{Kind}
use Rattle.vectors.specs.declared.Variable.{Variable}
use Rattle.vectors.specs.Variable.{kinds_of}
use Rattle.vectors.specs.Bounds.{max_variables}
use Rattle.build.specs.Built.{Refusal}
use Rattle.record.specs.Record.{mark_built}
use Rattle.record.specs.Tables.{Tables}
use Rattle.build.specs.Build.{Outcome, outcome, chosen_refusal, given_refusal, build_chosen, build_given, rows_share, chosen_kinds}
use Rattle.lookup.specs.Lookup.{found, lookup_of}
use Rattle.recover.specs.Recover.{recovered, recover_of}
use Rattle.record.specs.Holds.{index_of}
use Rattle.unit.specs.Demand2.{Demand2}
use Rattle.build.proofs.Holding.Ends.{outcome_accepted}
use Rattle.build.proofs.Holding.Passed.{Passed, chosen_passed, given_passed}
use Rattle.unit.proofs.Demand2.{chosen_demand_2, given_demand_2}
use Rattle.flat.specs.Flat.{variable_at, flat_of, unit_seen}
use Rattle.flat.proofs.Carried.{carried}
use Rattle.bridge.specs.Calls.{built_answer, left_by, build_call, given_call}
use Rattle.bridge.specs.Boundary.{Exact}
use Rattle.bridge.proofs.Answers.{build_left, given_left, found_by, found_called, recovered_by}

-- ---- what an accepted build leaves

module _ (n n1 : ℕ) (second : Refusal) (ks : List Kind) (cells allowance : ℕ) (vs : List ℕ) (t : Tables) (r : Refusal) (pass : r.number ≡ 0 → Passed n n1 second ks cells vs t)
    (z : (outcome r n n1 ks cells allowance vs t).built.refusal ≡ 0) where
  abbrev o : Outcome
  o = outcome r n n1 ks cells allowance vs t

  left_carried : unit_seen (flat_of o.built.unit) ≡ o.built.unit
  left_carried =
      let a = outcome_accepted n n1 ks cells allowance vs t r z in
      let p = pass a.passed in
      rw a.is (carried mark_built n n1 (length vs) ks cells _ p.list.listed.inputs p.split.right p.split.few p.list.listed.few)

-- its record in words is seen as it was written
abbrev pub Carried : Outcome → Type 0
Carried o = o.built.refusal ≡ 0 → unit_seen (flat_of o.built.unit) ≡ o.built.unit

pub chosen_carried : (n degree cells allowance : ℕ) (vs : List ℕ) (t : Tables) → Carried (build_chosen n degree cells allowance vs t)
unfolding build_chosen
chosen_carried n degree cells allowance vs t =
    left_carried n (rows_share (length (chosen_kinds n degree vs))) _ (chosen_kinds n degree vs) cells allowance vs t (chosen_refusal n degree (chosen_kinds n degree vs) cells vs t) (chosen_passed n degree cells vs t)

pub given_carried : (n : ℕ) (variables : List Variable) (p n1 cells allowance : ℕ) (vs : List ℕ) (t : Tables) → length variables ≡ max_variables → Carried (build_given n variables p n1 cells allowance vs t)
unfolding build_given
given_carried n variables p n1 cells allowance vs t e =
    left_carried n n1 _ (kinds_of (take p variables)) cells allowance vs t (given_refusal n p n1 (kinds_of (take p variables)) cells vs t) (given_passed n variables p n1 cells vs t e)

-- ---- demand 2 at the boundary

-- an answer of 0 is no refusal
pub no_refusal : (r place needed : ℕ) → built_answer r place needed ≡ 0 → r ≡ 0
no_refusal r place needed e = omega arith

module _ (n : ℕ) (vs : List ℕ) (o : Outcome) (d : Demand2 lookup_of recover_of n vs o)
    (c : Carried o) where
  pub exact : Exact n vs (left_by o)
  exact =
      record {
        lookup_exact = λ e x l.
            let z = no_refusal o.built.refusal o.built.place o.built.needed e in
            sym (found_called (flat_of o.built.unit) o.tables x (found (index_of vs x)) (256 * index_of vs x) (found_by (flat_of o.built.unit) o.tables x o.built.unit (found (index_of vs x)) (sym (c z)) (sym (d.lookup_exact z x l))) (omega arith));
        recovery_exact = λ e i l.
            let z = no_refusal o.built.refusal o.built.place o.built.needed e in
            sym (recovered_by (flat_of o.built.unit) o.tables (suc i) o.built.unit (recovered (get_or vs i 0)) (sym (c z)) (sym (d.recovery_exact z i l)));
      }

pub build_exact : (n degree cells allowance : ℕ) (vs : List ℕ) (t : Tables) → Exact n vs (build_call n degree cells allowance vs t)
build_exact n degree cells allowance vs t =
    subst (Exact n vs) (build_left n degree cells allowance vs t) (exact n vs (build_chosen n degree cells allowance vs t) (chosen_demand_2 n degree cells allowance vs t) (chosen_carried n degree cells allowance vs t))

pub given_exact : (n p n1 cells allowance : ℕ) (variables vs : List ℕ) (t : Tables) → length variables ≡ max_variables → Exact n vs (given_call n p n1 cells allowance variables vs t)
given_exact n p n1 cells allowance variables vs t e =
    let many : length (map variable_at variables) ≡ max_variables = length-map variables variable_at ∙ e in
    subst (Exact n vs) (given_left n p n1 cells allowance variables (map variable_at variables) vs t refl)
    (exact n vs (build_given n (map variable_at variables) p n1 cells allowance vs t) (given_demand_2 n (map variable_at variables) p n1 cells allowance vs t many) (given_carried n (map variable_at variables) p n1 cells allowance vs t many))
