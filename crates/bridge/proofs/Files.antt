-- A unit that C has written and read answers by the list. Assumes nothing.
use Prim.Native.Nat.{ℕ, ◌*◌, ◌/◌, ◌≤◌}
use native.Mathlib.Omega.{arith}
use mathlib.Core.Path.{◌≡◌, refl, sym, ap, subst, ◌∙◌}
use mathlib.Core.Bool.{true}
use mathlib.Core.List.{List, map}
use lib.ListN.{length, take, drop, length-map}
use lib.Seq.{take_at}
use Rattle.vectors.specs.Bounds.{max_variables}
use Rattle.record.specs.declared.Record.{Record}
use Rattle.record.specs.Tables.{Tables, over}
use Rattle.record.specs.Formed.{sound}
use Rattle.record.specs.Holds.{Holds}
use Rattle.lookup.specs.Lookup.{lookup_of}
use Rattle.recover.specs.Recover.{recover_of}
use Rattle.build.specs.Build.{Outcome, build_chosen, build_given}
use Rattle.build.proofs.Holding.Holds.{chosen_holds, given_holds}
use Rattle.unit.specs.Demand2.{Demand2}
use Rattle.file.specs.Write.{Written}
use Rattle.file.specs.File.{longest_file, file_of}
use Rattle.file.specs.Read.{Reading, read_of}
use Rattle.file.specs.Facts.{RecordCarried, Roomy}
use Rattle.file.specs.Facts as facts
use Rattle.file.proofs.Outcomes.{file_length, file_longest, write_fits}
use Rattle.file.proofs.Decoding.Built.{chosen_record_carried, given_record_carried}
use Rattle.file.proofs.Loading.Carried.{roomy_long, read_written}
use Rattle.file.proofs.Loading.Demands.{carried_chosen_demand_2, carried_given_demand_2}
use Rattle.flat.specs.Flat.{variable_at, flat_of, unit_seen}
use Rattle.bridge.specs.Calls.{built_answer, Left, left, left_by, build_call, given_call, Filed, filed, write_call, read_call}
use Rattle.bridge.specs.Boundary.{Exact, Carries}
use Rattle.bridge.proofs.Answers.{build_left, given_left, filed_by_lem}
use Rattle.bridge.proofs.Boundary.{Carried, chosen_carried, given_carried, no_refusal, exact}

-- ---- the bytes that are written

module _ (u : Record) (t : Tables) (back : unit_seen (flat_of u) ≡ u) (h : sound u t ≡ true) (target : List ℕ) (room : longest_file ≤ length target) where
  written : write_call (flat_of u) t target ≡ filed (256 * length (file_of u t)) (over (file_of u t) target)
  written =
      let bytes : List ℕ = file_of u t in
      let size : length bytes ≤ length target = omega (arith, file_length u t h, file_longest u t h) in
      let w : Written = record { refusal = 0; place = 0; length = length bytes } in
      sym (filed_by_lem (flat_of u) t target u w (over bytes target) (256 * length bytes) (sym back) (sym (write_fits u t h target (omega (arith, file_length u t h)))) (omega arith))

  pub front : take ((write_call (flat_of u) t target).answer / 256) (write_call (flat_of u) t target).target ≡ file_of u t
  front =
      let bytes : List ℕ = file_of u t in
      let d : 256 * length bytes / 256 ≡ length bytes = omega arith in
      ap (λ (f : Filed). take (f.answer / 256) f.target) written
      ∙ ap (λ (i : ℕ). take i (over bytes target)) d ∙ take_at bytes (drop (length bytes) target) (length bytes) refl

-- ---- and what is read of them

module _ (n : ℕ) (vs : List ℕ) (o : Outcome) (flat : Carried o) (held : o.built.refusal ≡ 0 → Holds o.built.unit o.tables vs) (same : RecordCarried o)
    (demand : (into : Tables) → Roomy into → Demand2 lookup_of recover_of n vs (facts.carried read_of into o)) where
  abbrev unit : Record
  unit = o.built.unit

  abbrev bytes : List ℕ
  bytes = file_of unit o.tables

  unit_read : o.built.refusal ≡ 0 → (into : Tables) → Roomy into → (facts.carried read_of into o).built.unit ≡ unit
  unit_read z into roomy =
      let h = (held z).is_sound in
      ap (λ (r : Reading). r.unit) (read_written unit o.tables into h (roomy_long unit o.tables into h roomy)) ∙ same z

  none_refused : o.built.refusal ≡ 0 → (into : Tables) → Roomy into → (read_of bytes into).refusal ≡ 0
  none_refused z into roomy =
      let h = (held z).is_sound in
      ap (λ (r : Reading). r.refusal) (read_written unit o.tables into h (roomy_long unit o.tables into h roomy))

  pub read_left : (z : o.built.refusal ≡ 0) → o.built.place ≡ 0 → o.built.needed ≡ 0 → (into : Tables) → Roomy into → read_call bytes into ≡ left_by (facts.carried read_of into o)
  unfolding read_call
  read_left z q y into roomy =
      let r : Reading = read_of bytes into in
      let e : r.refusal ≡ built_answer o.built.refusal o.built.place o.built.needed = none_refused z into roomy ∙ omega arith in
      ap (λ (a : ℕ). left a (flat_of r.unit) r.tables) e

  -- the record that is read is carried too
  pub flat_read : o.built.refusal ≡ 0 → (into : Tables) → Roomy into → Carried (facts.carried read_of into o)
  flat_read z into roomy y = rw (unit_read z into roomy) (flat z)

  carries : Carries n vs (left_by o)
  carries e target into room roomy =
      let z = no_refusal o.built.refusal o.built.place o.built.needed e in
      let q : o.built.place ≡ 0 = omega arith in
      let y : o.built.needed ≡ 0 = omega arith in
      let f = front unit o.tables (flat z) (held z).is_sound target room in
      let l = read_left z q y into roomy in
      subst (λ (x : List ℕ). ((read_call x into).answer ≡ 0) × Exact n vs (read_call x into)) (sym f)
      (subst (λ (y : Left). (y.answer ≡ 0) × Exact n vs y) (sym l) (e, exact n vs (facts.carried read_of into o) (demand into roomy) (flat_read z into roomy)))

pub build_carries : (n degree cells allowance : ℕ) (vs : List ℕ) (t : Tables) → Carries n vs (build_call n degree cells allowance vs t)
build_carries n degree cells allowance vs t =
    subst (Carries n vs) (build_left n degree cells allowance vs t)
    (carries n vs (build_chosen n degree cells allowance vs t) (chosen_carried n degree cells allowance vs t) (chosen_holds n degree cells allowance vs t) (chosen_record_carried n degree cells allowance vs t)
    (λ into roomy. carried_chosen_demand_2 into roomy n degree cells allowance vs t))

pub given_carries : (n p n1 cells allowance : ℕ) (variables vs : List ℕ) (t : Tables) → length variables ≡ max_variables → Carries n vs (given_call n p n1 cells allowance variables vs t)
given_carries n p n1 cells allowance variables vs t e =
    let many : length (map variable_at variables) ≡ max_variables = length-map variables variable_at ∙ e in
    subst (Carries n vs) (given_left n p n1 cells allowance variables (map variable_at variables) vs t refl)
    (carries n vs (build_given n (map variable_at variables) p n1 cells allowance vs t) (given_carried n (map variable_at variables) p n1 cells allowance vs t many) (given_holds n (map variable_at variables) p n1 cells allowance vs t many)
    (given_record_carried n (map variable_at variables) p n1 cells allowance vs t many) (λ into roomy. carried_given_demand_2 into roomy n (map variable_at variables) p n1 cells allowance vs t many))
