-- Demands 2 and 3, of both builds with their units carried by files. Assumes nothing.
use mathlib.Core.Path.{◌≡◌, ap, ◌∙◌}
use mathlib.Core.List.{List}
use Prim.Native.Nat.{ℕ, ◌^◌}
use native.Mathlib.Omega.{arith}
use lib.ListN.{length, take}
use lib.Seq.{take-take}
use Rattle.vectors.specs.declared.Kind.{Kind}
use Rattle.vectors.specs.declared.Variable.{Variable}
use Rattle.vectors.specs.Bounds.{max_variables}
use Rattle.vectors.specs.Variable.{kinds_of}
use Rattle.record.specs.declared.Record.{Record}
use Rattle.record.specs.Record.{record_of}
use Rattle.record.specs.Tables.{Tables}
use Rattle.record.specs.Holds.{Holds}
use Rattle.lookup.specs.Lookup.{lookup_of}
use Rattle.recover.specs.Recover.{recover_of}
use Rattle.build.specs.Built.{Refusal}
use Rattle.build.specs.Build.{rows_share, Outcome, outcome, chosen_refusal, given_refusal, build_chosen, build_given, chosen_kinds}
use Rattle.build.proofs.Holding.Ends.{outcome_accepted}
use Rattle.build.proofs.Holding.Holds.{chosen_holds, given_holds}
use Rattle.build.proofs.Holding.Passed.{chosen_passed, given_passed}
use Rattle.unit.specs.Demand2.{Demand2, Demand2Chosen, Demand2Given}
use Rattle.unit.specs.Demand3.{displacements, Demand3, Demand3Chosen, Demand3Given}
use Rattle.unit.proofs.Demand2.{chosen_demand_2, given_demand_2}
use Rattle.unit.proofs.Demand3.{chosen_demand_3, given_demand_3}
use Rattle.file.specs.File.{rows_in, file_of}
use Rattle.file.specs.Decode.{record_in, tables_in}
use Rattle.file.specs.Read.{Reading, loaded_read, read_of}
use Rattle.file.specs.Facts.{WordsFit, SameAnswers, RecordCarried, Roomy, carried, carried_chosen, carried_given}
use Rattle.file.proofs.Decoding.Units.{tables_read}
use Rattle.file.proofs.Decoding.Same.{h_whole}
use Rattle.file.proofs.Decoding.Built.{chosen_record_carried, given_record_carried}
use Rattle.file.proofs.Decoding.Fitting.{outcome_fits}
use Rattle.file.proofs.Loading.Again.{h_range}
use Rattle.file.proofs.Loading.Carried.{roomy_long, read_written, read_answers}

module _ (into : Tables) (roomy : Roomy into) (o : Outcome) (vs : List ℕ) (held : o.built.refusal ≡ 0 → Holds o.built.unit o.tables vs) (fit : o.built.refusal ≡ 0 → WordsFit o.built.unit o.tables) where
  answers : o.built.refusal ≡ 0 → SameAnswers (carried read_of into o).built.unit (carried read_of into o).tables o.built.unit o.tables
  answers z = read_answers o.built.unit o.tables into (held z).is_sound (fit z) (roomy_long o.built.unit o.tables into (held z).is_sound roomy)

  demand_2 : (n : ℕ) → Demand2 lookup_of recover_of n vs o → Demand2 lookup_of recover_of n vs (carried read_of into o)
  demand_2 n d =
      record {
        lookup_exact = λ z x l. (answers z).lookups x ∙ d.lookup_exact z x l;
        recovery_exact = λ z i l. (answers z).recoveries _ ∙ d.recovery_exact z i l;
      }

  -- what is read
  is_read : o.built.refusal ≡ 0 → read_of (file_of o.built.unit o.tables) into ≡ loaded_read (record_in (file_of o.built.unit o.tables)) (tables_in (record_in (file_of o.built.unit o.tables)) (file_of o.built.unit o.tables)) into
  is_read z = read_written o.built.unit o.tables into (held z).is_sound (roomy_long o.built.unit o.tables into (held z).is_sound roomy)

  record_carried : RecordCarried o → o.built.refusal ≡ 0 → (carried read_of into o).built.unit ≡ o.built.unit
  record_carried same z = ap (λ (r : Reading). r.unit) (is_read z) ∙ same z

  module _ (n1 : ℕ) (side : o.built.refusal ≡ 0 → o.built.unit.n1 ≡ n1) (same : RecordCarried o) where
    displacements_carried : o.built.refusal ≡ 0 → displacements n1 (carried read_of into o) ≡ displacements n1 o
    displacements_carried z =
        let u : Record = o.built.unit in
        let f : List ℕ = file_of u o.tables in
        let v : Record = record_in f in
        let e : rows_in u ≡ 2 ^ n1 = ap (λ (i : ℕ). 2 ^ i) (side z) in
        let k : rows_in v ≡ 2 ^ n1 = ap rows_in (same z) ∙ e in
        ap (λ (r : Reading). take (2 ^ n1) r.tables.h) (is_read z)
        ∙ rw k at (h_range v f into)
        ∙ ap (λ (t : Tables). take (2 ^ n1) t.h) (tables_read u o.tables (held z).is_sound)
        ∙ ap (take (2 ^ n1)) (h_whole u o.tables (fit z))
        ∙ take-take (2 ^ n1) (rows_in u) o.tables.h (omega arith)

    demand_3 : (r : Refusal) (ks : List Kind) (cells allowance : ℕ) → Demand3 r n1 ks cells allowance vs o → Demand3 r n1 ks cells allowance vs (carried read_of into o)
    demand_3 r ks cells allowance d =
        record {
          shifted = λ z. rw (displacements_carried z, record_carried same z) (d.shifted z);
          none_exceeds = λ z s i. rw (displacements_carried z) (d.none_exceeds z s i);
          always_fits = d.always_fits;
        }

-- the record has the build's n1
outcome_side : (r : Refusal) (n n1 : ℕ) (ks : List Kind) (cells allowance : ℕ) (vs : List ℕ) (t : Tables) → (outcome r n n1 ks cells allowance vs t).built.refusal ≡ 0 → (outcome r n n1 ks cells allowance vs t).built.unit.n1 ≡ n1
unfolding record_of
outcome_side r n n1 ks cells allowance vs t z = rw (outcome_accepted n n1 ks cells allowance vs t r z).is

-- ---- variables chosen by rule

module _ (n degree cells allowance : ℕ) (vs : List ℕ) (t : Tables) where
  pub chosen_fits : (build_chosen n degree cells allowance vs t).built.refusal ≡ 0 → WordsFit (build_chosen n degree cells allowance vs t).built.unit (build_chosen n degree cells allowance vs t).tables
  unfolding build_chosen
  chosen_fits = outcome_fits (chosen_refusal n degree ks cells vs t) n (rows_share (length ks)) _ ks cells allowance vs t (chosen_passed n degree cells vs t)
    where
      ks : List Kind
      ks = chosen_kinds n degree vs

  chosen_side : (build_chosen n degree cells allowance vs t).built.refusal ≡ 0 → (build_chosen n degree cells allowance vs t).built.unit.n1 ≡ rows_share (length (chosen_kinds n degree vs))
  unfolding build_chosen
  chosen_side = outcome_side (chosen_refusal n degree (chosen_kinds n degree vs) cells vs t) n (rows_share (length (chosen_kinds n degree vs))) (chosen_kinds n degree vs) cells allowance vs t

pub carried_chosen_demand_2 : (into : Tables) → Roomy into → Demand2Chosen (carried_chosen read_of into build_chosen) lookup_of recover_of
carried_chosen_demand_2 into roomy n degree cells allowance vs t =
    demand_2 into roomy (build_chosen n degree cells allowance vs t) vs (chosen_holds n degree cells allowance vs t) (chosen_fits n degree cells allowance vs t) n (chosen_demand_2 n degree cells allowance vs t)

pub carried_chosen_demand_3 : (into : Tables) → Roomy into → Demand3Chosen (carried_chosen read_of into build_chosen)
carried_chosen_demand_3 into roomy n degree cells allowance vs t =
    demand_3 into roomy (build_chosen n degree cells allowance vs t) vs (chosen_holds n degree cells allowance vs t) (chosen_fits n degree cells allowance vs t) _ (chosen_side n degree cells allowance vs t) (chosen_record_carried n degree cells allowance vs t) _ _ _ _
    (chosen_demand_3 n degree cells allowance vs t)

-- ---- variables given by the caller

module _ (n : ℕ) (variables : List Variable) (p n1 cells allowance : ℕ) (vs : List ℕ) (t : Tables) (slots : length variables ≡ max_variables) where
  pub given_fits : (build_given n variables p n1 cells allowance vs t).built.refusal ≡ 0 → WordsFit (build_given n variables p n1 cells allowance vs t).built.unit (build_given n variables p n1 cells allowance vs t).tables
  unfolding build_given
  given_fits = outcome_fits (given_refusal n p n1 (kinds_of (take p variables)) cells vs t) n n1 _ (kinds_of (take p variables)) cells allowance vs t (given_passed n variables p n1 cells vs t slots)

  given_side : (build_given n variables p n1 cells allowance vs t).built.refusal ≡ 0 → (build_given n variables p n1 cells allowance vs t).built.unit.n1 ≡ n1
  unfolding build_given
  given_side = outcome_side (given_refusal n p n1 (kinds_of (take p variables)) cells vs t) n n1 (kinds_of (take p variables)) cells allowance vs t

pub carried_given_demand_2 : (into : Tables) → Roomy into → Demand2Given (carried_given read_of into build_given) lookup_of recover_of
carried_given_demand_2 into roomy n variables p n1 cells allowance vs t slots =
    demand_2 into roomy (build_given n variables p n1 cells allowance vs t) vs (given_holds n variables p n1 cells allowance vs t slots) (given_fits n variables p n1 cells allowance vs t slots) n (given_demand_2 n variables p n1 cells allowance vs t slots)

pub carried_given_demand_3 : (into : Tables) → Roomy into → Demand3Given (carried_given read_of into build_given)
carried_given_demand_3 into roomy n variables p n1 cells allowance vs t slots =
    demand_3 into roomy (build_given n variables p n1 cells allowance vs t) vs (given_holds n variables p n1 cells allowance vs t slots) (given_fits n variables p n1 cells allowance vs t slots) n1 (given_side n variables p n1 cells allowance vs t slots) (given_record_carried n variables p n1 cells allowance vs t slots) _ _ _ _
    (given_demand_3 n variables p n1 cells allowance vs t slots)
