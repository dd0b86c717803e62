-- The record that an accepted build leaves is read from its file as it was. Assumes nothing.
use mathlib.Core.Path.{◌≡◌, sym, ap, ap₂, ◌∙◌}
use mathlib.Core.List.{List}
use Prim.Native.Nat.{ℕ, ◌^◌, ◌≤◌, ◌<◌}
use native.Mathlib.Nat.{mod-eq_of_lt}
use native.Mathlib.Omega.{arith}
use lib.ListN.{length, take}
use Rattle.vectors.specs.declared.Kind.{Kind}
use Rattle.vectors.specs.declared.Variable.{Variable}
use Rattle.vectors.specs.Bounds.{max_vectors, max_variables}
use Rattle.vectors.specs.Variable.{kinds_of}
use Rattle.record.specs.declared.Mark.{Mark}
use Rattle.record.specs.Record.{mark_built, record_of}
use Rattle.record.specs.Tables.{Tables}
use Rattle.record.specs.Holds.{Holds}
use Rattle.record.proofs.Marks.{kinds_in_lem}
use Rattle.build.specs.Built.{Refusal}
use Rattle.build.specs.Build.{rows_share, Outcome, placing_of, outcome, chosen_refusal, given_refusal, build_chosen, build_given, chosen_kinds}
use Rattle.build.proofs.Holding.Ends.{outcome_accepted}
use Rattle.build.proofs.Holding.Holds.{chosen_holds, given_holds}
use Rattle.file.specs.Facts.{carried_record, RecordCarried}
use Rattle.file.proofs.Outcomes.{ranges}
use Rattle.file.proofs.Decoding.Units.{record_read}
use Rattle.file.proofs.Decoding.Tries.{tries_low}

-- worked out anew it is the same
record_again : (mark : Mark) (n n1 k : ℕ) (ks : List Kind) (cells tries : ℕ) → tries < 2 ^ 32 → carried_record (record_of mark n n1 k ks cells tries) ≡ record_of mark n n1 k ks cells tries
unfolding record_of
record_again mark n n1 k ks cells tries l = ap₂ (λ (x : List Kind) (y : ℕ). record_of mark n n1 k x cells y) (kinds_in_lem n1 ks) (mod-eq_of_lt l)

module _ (r : Refusal) (n n1 : ℕ) (ks : List Kind) (cells allowance : ℕ) (vs : List ℕ) (t : Tables) where
  abbrev o : Outcome
  o = outcome r n n1 ks cells allowance vs t

  outcome_carried : (o.built.refusal ≡ 0 → Holds o.built.unit o.tables vs) → RecordCarried o
  unfolding record_of
  outcome_carried held z =
      let h : Holds o.built.unit o.tables vs = held z in
      let few : length vs ≤ max_vectors = omega (arith, (ranges o.built.unit o.tables h.is_sound).vectors_few, h.vectors) in
      let e : o.built.unit ≡ record_of mark_built n n1 (length vs) ks cells (placing_of n1 ks cells vs).state.tries = ap (λ (x : Outcome). x.built.unit) (outcome_accepted n n1 ks cells allowance vs t r z).is in
      record_read o.built.unit o.tables h.is_sound ∙ ap carried_record e ∙ record_again mark_built n n1 (length vs) ks cells (placing_of n1 ks cells vs).state.tries (tries_low n1 ks cells vs few) ∙ sym e

pub chosen_record_carried : (n degree cells allowance : ℕ) (vs : List ℕ) (t : Tables) → RecordCarried (build_chosen n degree cells allowance vs t)
unfolding build_chosen
chosen_record_carried n degree cells allowance vs t =
    let ks : List Kind = chosen_kinds n degree vs in
    outcome_carried (chosen_refusal n degree ks cells vs t) n (rows_share (length ks)) ks cells allowance vs t (chosen_holds n degree cells allowance vs t)

pub given_record_carried : (n : ℕ) (variables : List Variable) (p n1 cells allowance : ℕ) (vs : List ℕ) (t : Tables) → length variables ≡ max_variables
    → RecordCarried (build_given n variables p n1 cells allowance vs t)
unfolding build_given
given_record_carried n variables p n1 cells allowance vs t slots =
    let ks : List Kind = kinds_of (take p variables) in
    outcome_carried (given_refusal n p n1 ks cells vs t) n n1 ks cells allowance vs t (given_holds n variables p n1 cells allowance vs t slots)
