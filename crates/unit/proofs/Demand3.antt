-- Demand 3, of both builds; and refuted, in both forms, of a build that refuses everything and of one with an invented tries figure (SCOPE 17.4). Assumes nothing.
use Prim.Native.Nat.{ℕ, ◌+◌, ◌-◌, ◌^◌, ◌≤◌}
use native.Mathlib.Omega.{arith}
use mathlib.Core.Path.{◌≡◌, refl, ap}
use mathlib.Core.List.{List, [], ◌∷◌}
use lib.ListN.{length, get_or, take, drop, replicate, length-replicate}
use lib.Seq.{take_at}
use Rattle.vectors.specs.declared.Kind.{Kind}
use Rattle.vectors.specs.declared.Kind.TheVariants.{One}
use Rattle.vectors.specs.declared.Variable.{Variable}
use Rattle.vectors.specs.Bounds.{max_variables}
use Rattle.vectors.specs.Variable.{kinds_of}
use Rattle.choice.specs.Choice.{choose}
use Rattle.rows.specs.Care.{Care}
use Rattle.rows.specs.End.{All}
use Rattle.rows.specs.Demand.{Spread, spread}
use Rattle.rows.proofs.Fits.Filled.{filled_blank, blank_zero}
use Rattle.rows.proofs.Demand3 as placing
use Rattle.build.specs.Build.{rows_share, Outcome, cares_from, placing_of, outcome, chosen_refusal, build_chosen, given_refusal, build_given, chosen_kinds}
use Rattle.record.specs.Record.{record_of}
use Rattle.build.specs.Built.{Refusal}
use Rattle.record.specs.Tables.{Tables}
use Rattle.unit.specs.Demand2.{ChosenBuild, GivenBuild}
use Rattle.unit.specs.Demand3.{Shifted, displacements, Demand3, Demand3Chosen, Demand3Given}
use Rattle.unit.specs.Samples.{S, nines, given}
use Rattle.build.proofs.Holding.Ends.{accepted_outcome, outcome_accepted, accepted_outcome_lem, placing_rows}
use Rattle.build.proofs.Holding.Cares.{cares_columns}
use Rattle.build.proofs.Allowed.{made_most, most_half}
use Rattle.unit.proofs.Tries.{tries_one}
use Rattle.unit.proofs.Demand2.{taken_of_s}

module _ (n1 : ℕ) (ks : List Kind) (cells : ℕ) (vs : List ℕ) where
  abbrev cs : List Care
  cs = cares_from 1 n1 ks vs

  -- the displacements and the cells at the start
  abbrev h : List ℕ
  h = replicate (2 ^ n1) 0

  abbrev g : List ℕ
  g = replicate cells 0

  placing_shifted : (placing_of n1 ks cells vs).end ≡ All → Shifted (cares_from 1 n1 ks vs) (2 ^ n1) cells (placing_of n1 ks cells vs).state.h (placing_of n1 ks cells vs).state.tries
  unfolding placing_of
  placing_shifted e =
      let s : length h ≡ 2 ^ n1 = length-replicate (2 ^ n1) 0 in
      let t = placing.tries_are cs h g in
      record {
        order = (placing.P cs h g).state.order;
        falling = placing.falling cs h g;
        once = placing.placed_once cs h g;
        only_occupied = λ r m. (omega (arith, placing.placed_in cs h g r m), placing.placed_weighs cs h g r m);
        all_occupied = λ r l w. placing.all_placed cs h g e r (omega arith) w;
        smallest = placing.smallest cs h g;
        bounded = rw (filled_blank cells) at (placing.bounded cs h g);
        others_zero = λ r m. placing.others_zero cs h g (blank_zero (2 ^ n1)) r m;
        tries_are = t.0;
        tries_bounded = rw (filled_blank cells) at t.1;
      }

  placing_low : Spread (length vs) (cares_from 1 n1 ks vs) → (i : ℕ) → get_or (placing_of n1 ks cells vs).state.h i 0 ≤ length vs
  unfolding placing_of
  placing_low s = placing.none_exceeds cs h g (length vs) s (filled_blank cells) (blank_zero (2 ^ n1))

  placing_fits : Spread (length vs) (cares_from 1 n1 ks vs) → length vs + 2 ^ (length ks - n1) ≤ cells → (placing_of n1 ks cells vs).end ≡ All
  unfolding placing_of
  placing_fits s l =
      placing.always_fits cs h g (length vs) s (filled_blank cells) (2 ^ (length ks - n1))
      (rw (length-replicate cells) l) (cares_columns n1 ks 1 vs)

  -- an accepted outcome leaves the displacements of the placing
  displacements_are : (n : ℕ) (t : Tables) → displacements n1 (accepted_outcome n n1 ks cells vs t) ≡ (placing_of n1 ks cells vs).state.h
  displacements_are n t = take_at (placing_of n1 ks cells vs).state.h (drop (length (placing_of n1 ks cells vs).state.h) t.h) (2 ^ n1) (placing_rows n1 ks cells vs)

  outcome_demand_3 : (r : Refusal) (n a : ℕ) (t : Tables) → Demand3 r n1 ks cells a vs (outcome r n n1 ks cells a vs t)
  unfolding record_of
  outcome_demand_3 r n a t =
      record {
        shifted = λ z. let e = outcome_accepted n n1 ks cells a vs t r z in rw (e.is, displacements_are n t) (placing_shifted e.placed);
        none_exceeds = λ z s. let e = outcome_accepted n n1 ks cells a vs t r z in rw (e.is, displacements_are n t) (placing_low s);
        always_fits = λ z s l k.
            ap (λ (o : Outcome). o.built.refusal)
            (accepted_outcome_lem n n1 ks cells a vs t r z (placing_fits s l) (omega (arith, made_most n1 ks vs cells, most_half n1 ks vs)));
      }

-- the build that chooses its variables
pub chosen_demand_3 : Demand3Chosen build_chosen
unfolding build_chosen
chosen_demand_3 n degree cells a vs t =
    outcome_demand_3 (rows_share (length (chosen_kinds n degree vs))) (chosen_kinds n degree vs) cells vs (chosen_refusal n degree (chosen_kinds n degree vs) cells vs t) n a t

-- the build whose variables the caller gives
pub given_demand_3 : Demand3Given build_given
unfolding build_given
given_demand_3 n variables p n1 cells a vs t slots =
    outcome_demand_3 n1 (kinds_of (take p variables)) cells vs (given_refusal n p n1 (kinds_of (take p variables)) cells vs t) n a t

-- ---- refuted of two wrong builds, by lists in which rows are shifted

-- 0 to 4 with n = 3, degree 1, L = 7: chosen are x_1, x_2 for rows and x_3 for columns
abbrev pub zero_to4 : List ℕ
zero_to4 = 0 ∷ 1 ∷ 2 ∷ 3 ∷ 4 ∷ []

-- rows 1, 2 and 3 are shifted
pub zero_to4_shifted : displacements 2 (build_chosen 3 1 7 30 zero_to4 (nines 4 7 6)) ≡ 0 ∷ 2 ∷ 3 ∷ 4 ∷ []
unfolding build_chosen
zero_to4_shifted = refl

-- the list is spread out (SCOPE 16.4), the cells number k plus the columns, and k(k + 1) tries are allowed
pub refuses_everything_fails : (build : ChosenBuild) → ((n degree cells a : ℕ) (vs : List ℕ) (t : Tables) → (build n degree cells a vs t).built.refusal ≡ 0 → ⊥) → Demand3Chosen build → ⊥
unfolding chosen_refusal choose spread cares_from
refuses_everything_fails build never d =
    never 3 1 7 30 zero_to4 (nines 4 7 6)
    ((d 3 1 7 30 zero_to4 (nines 4 7 6)).always_fits refl ((placing.spread_law 5 (cares_from 1 2 (chosen_kinds 3 1 zero_to4) zero_to4)).0 refl) (omega arith) (omega arith))

-- 0 to 3 with n = 3, rows by x_1 and x_2, columns by x_3, L = 6: spread out, with displacements 0, 1, 2 and 3 (SCOPE 15.8)
abbrev pub zero_to3 : List ℕ
zero_to3 = 0 ∷ 1 ∷ 2 ∷ 3 ∷ []

abbrev pub first_three : List Variable
first_three = given (One 1 ∷ One 2 ∷ One 3 ∷ [])

pub refuses_everything_given_fails : (build : GivenBuild)
    → ((n : ℕ) (variables : List Variable) (p n1 cells a : ℕ) (vs : List ℕ) (t : Tables) → length variables ≡ max_variables
    → (build n variables p n1 cells a vs t).built.refusal ≡ 0 → ⊥)
    → Demand3Given build → ⊥
unfolding given_refusal spread cares_from
refuses_everything_given_fails build never d =
    never 3 first_three 3 2 6 20 zero_to3 (nines 4 6 5) refl
    ((d 3 first_three 3 2 6 20 zero_to3 (nines 4 6 5) refl).always_fits refl ((placing.spread_law 4 (cares_from 1 2 (kinds_of (take 3 first_three)) zero_to3)).0 refl) (omega arith) (omega arith))

-- the outcome with another tries figure
abbrev pub with_tries : ℕ → Outcome → Outcome
with_tries tries o =
    record {
      built = record {
        refusal = o.built.refusal;
        place = o.built.place;
        needed = o.built.needed;
        unit = record {
          n = o.built.unit.n;
          p = o.built.unit.p;
          n1 = o.built.unit.n1;
          k = o.built.unit.k;
          cells = o.built.unit.cells;
          kept = o.built.unit.kept;
          tries = tries;
          excess = o.built.unit.excess;
          variables = o.built.unit.variables;
          mark = o.built.unit.mark;
        };
      };
      tables = o.tables;
    }

-- our builds with any other figures: those that demand 3 admits are ours
pub tries_forced : (tries : ℕ → ℕ → ℕ → ℕ → List ℕ → Tables → ℕ)
    → Demand3Chosen (λ n degree cells a vs t. with_tries (tries n degree cells a vs t) (build_chosen n degree cells a vs t))
    → (n degree cells a : ℕ) (vs : List ℕ) (t : Tables) → (build_chosen n degree cells a vs t).built.refusal ≡ 0
    → tries n degree cells a vs t ≡ (build_chosen n degree cells a vs t).built.unit.tries
tries_forced tries d n degree cells a vs t z = tries_one _ _ _ _ _ _ ((d n degree cells a vs t).shifted z) ((chosen_demand_3 n degree cells a vs t).shifted z)

pub tries_forced_given : (tries : ℕ → List Variable → ℕ → ℕ → ℕ → ℕ → List ℕ → Tables → ℕ)
    → Demand3Given (λ n variables p n1 cells a vs t. with_tries (tries n variables p n1 cells a vs t) (build_given n variables p n1 cells a vs t))
    → (n : ℕ) (variables : List Variable) (p n1 cells a : ℕ) (vs : List ℕ) (t : Tables) → length variables ≡ max_variables
    → (build_given n variables p n1 cells a vs t).built.refusal ≡ 0
    → tries n variables p n1 cells a vs t ≡ (build_given n variables p n1 cells a vs t).built.unit.tries
tries_forced_given tries d n variables p n1 cells a vs t slots z =
    tries_one _ _ _ _ _ _ ((d n variables p n1 cells a vs t slots).shifted z) ((given_demand_3 n variables p n1 cells a vs t slots).shifted z)

-- so with one invented figure: 0 to 4 have 13 tries, and S with degree 2 has 15; rows of both are shifted
pub invented_tries_fails : (tries : ℕ) → Demand3Chosen (λ n degree cells a vs t. with_tries tries (build_chosen n degree cells a vs t)) → ⊥
unfolding build_chosen
invented_tries_fails tries d =
    let a : tries ≡ 13 = tries_forced (λ n degree cells a vs t. tries) d 3 1 7 30 zero_to4 (nines 4 7 6) refl in
    let b : tries ≡ 15 = tries_forced (λ n degree cells a vs t. tries) d 6 2 7 15 S (nines 4 7 8) refl in
    omega arith

-- 0 to 3 as above have 10 tries, and S by the three variables that degree 2 takes has 15
pub invented_tries_given_fails : (tries : ℕ) → Demand3Given (λ n variables p n1 cells a vs t. with_tries tries (build_given n variables p n1 cells a vs t)) → ⊥
unfolding build_given
invented_tries_given_fails tries d =
    let a : tries ≡ 10 = tries_forced_given (λ n variables p n1 cells a vs t. tries) d 3 first_three 3 2 6 20 zero_to3 (nines 4 6 5) refl refl in
    let b : tries ≡ 15 = tries_forced_given (λ n variables p n1 cells a vs t. tries) d 6 taken_of_s 3 2 7 15 S (nines 4 7 8) refl refl in
    omega arith
