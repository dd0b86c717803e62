-- Demand 2, of both builds with lookup and recovery; and refuted, in both forms, of a lookup with one constant reply, a build that writes nothing and a build that places only the first row (SCOPE 17.4). Assumes nothing.
use Prim.Native.Nat.{ℕ, ◌^◌}
use native.Mathlib.Omega.{arith}
use mathlib.Core.Path.{◌≡◌, refl, sym, ap, ◌∙◌}
use mathlib.Core.Bool.{Bool, true, false}
use mathlib.Core.List.{List, [], ◌∷◌}
use lib.Dec.{ltb}
use lib.ListN.{length, get_or, take, replicate}
use Rattle.lists.specs.First.{first_of}
use Rattle.vectors.specs.declared.Kind.{Kind}
use Rattle.vectors.specs.declared.Kind.TheVariants.{One, Two}
use Rattle.vectors.specs.declared.Variable.{Variable}
use Rattle.vectors.specs.Bounds.{max_variables}
use Rattle.vectors.specs.Variable.{kinds_of}
use Rattle.rows.specs.Place.{place_in}
use Rattle.record.specs.declared.Record.{Record}
use Rattle.lookup.specs.Lookup.{Found}
use Rattle.build.specs.Build.{rows_share, Outcome, cares_from, written, build_chosen, build_given, chosen_kinds}
use Rattle.record.specs.Tables.{Tables}
use Rattle.record.specs.Formed.{well_formed}
use Rattle.lookup.specs.Lookup.{found, not_found, compared, answer, lookup_of}
use Rattle.record.specs.Leads.{cell_in}
use Rattle.recover.specs.Recover.{recover_of}
use Rattle.unit.specs.Demand2.{ChosenBuild, GivenBuild, Recovery, Demand2Chosen, Demand2Given}
use Rattle.rows.proofs.Fits.Filled.{blank_zero}
use Rattle.unit.specs.Samples.{S, nines, given}
use Rattle.lookup.proofs.Exact.{holds_lookup}
use Rattle.recover.proofs.Exact.{holds_recover}
use Rattle.build.proofs.Holding.Holds.{chosen_holds, given_holds, chosen_width, given_width}

-- ---- lookup and recovery are exact

pub chosen_demand_2 : Demand2Chosen build_chosen lookup_of recover_of
chosen_demand_2 n degree cells a vs t =
    record {
      lookup_exact = λ z x l. holds_lookup _ _ vs (chosen_holds n degree cells a vs t z) x (rw (chosen_width n degree cells a vs t z) l);
      recovery_exact = λ z i l. holds_recover _ _ vs (chosen_holds n degree cells a vs t z) i l;
    }

pub given_demand_2 : Demand2Given build_given lookup_of recover_of
given_demand_2 n variables p n1 cells a vs t places =
    record {
      lookup_exact = λ z x l. holds_lookup _ _ vs (given_holds n variables p n1 cells a vs t places z) x (rw (given_width n variables p n1 cells a vs t z) l);
      recovery_exact = λ z i l. holds_recover _ _ vs (given_holds n variables p n1 cells a vs t places z) i l;
    }

-- ---- refuted of three wrong ones, by S with L = 7: chosen with degree 2, and given the same three variables

-- what the rule takes with degree 2: rows by x_2 and x_3, columns by x_4 XOR x_5 (SCOPE 15.3)
abbrev pub taken_of_s : List Variable
taken_of_s = given (One 2 ∷ One 3 ∷ Two 4 5 ∷ [])

-- rows 1, 2 and 3 are shifted
pub S_shifted : (build_chosen 6 2 7 15 S (nines 4 7 8)).tables.h ≡ 0 ∷ 2 ∷ 4 ∷ 5 ∷ []
unfolding build_chosen
S_shifted = refl

pub S_given_shifted : (build_given 6 taken_of_s 3 2 7 15 S (nines 4 7 8)).tables.h ≡ 0 ∷ 2 ∷ 4 ∷ 5 ∷ []
unfolding build_given
S_given_shifted = refl

-- one reply has one index
one_index : (reply : Found) (a b : ℕ) → reply ≡ found a → reply ≡ found b → a ≡ b
one_index reply a b p q = sym (ap (λ (f : Found). f.index) p) ∙ ap (λ (f : Found). f.index) q

-- a lookup with one constant reply: 18 is vector 2, in a row that is shifted, and 6 is no vector
pub constant_reply_fails : (reply : Found) (recovery : Recovery) → Demand2Chosen build_chosen (λ u t x. reply) recovery → ⊥
unfolding build_chosen first_of
constant_reply_fails reply recovery d =
    let e = d 6 2 7 15 S (nines 4 7 8) in
    omega (arith, one_index reply 2 0 (e.lookup_exact refl 18 (omega arith)) (e.lookup_exact refl 6 (omega arith)))

pub constant_reply_given_fails : (reply : Found) (recovery : Recovery) → Demand2Given build_given (λ u t x. reply) recovery → ⊥
unfolding build_given first_of
constant_reply_given_fails reply recovery d =
    let e = d 6 taken_of_s 3 2 7 15 S (nines 4 7 8) refl in
    omega (arith, one_index reply 2 0 (e.lookup_exact refl 18 (omega arith)) (e.lookup_exact refl 6 (omega arith)))

-- tables as lent, all zero
abbrev zeros : ℕ → ℕ → ℕ → Tables
zeros a b c = record { h = replicate a 0; g = replicate b 0; aux = replicate c 0 }

compared_empty : (u : Record) (aux : List ℕ) (x w : ℕ) → w ≡ 0 → (compared u aux x w).index ≡ 0
unfolding compared
compared_empty u aux x w e = rw e

-- over empty cells nothing is found, whatever the record
lookup_empty : (u : Record) (t : Tables) (x : ℕ) → ((i : ℕ) → get_or t.g i 0 ≡ 0) → (lookup_of u t x).index ≡ 0
unfolding lookup_of answer
lookup_empty u t x e = go (well_formed u t) (ltb x (2 ^ u.n)) (ltb (cell_in u t x) u.cells)
  where
    go : (a b c : Bool)
        → (elim a as (λ s. Found) [
          | false ↦ not_found 14
          | true ↦ elim b as (λ s. Found) [
            | false ↦ not_found 6
            | true ↦ elim c as (λ s. Found) [ false ↦ found 0 | true ↦ compared u t.aux x (get_or t.g (cell_in u t x) 0) ]
          ]
        ]).index ≡ 0
    go false b c = refl
    go true false c = refl
    go true true false = refl
    go true true true = compared_empty u t.aux x _ (e (cell_in u t x))

-- so tables that are still all zero do not give vector 2, 18
nothing_written : (o : Outcome) → o.tables ≡ zeros 4 7 8 → lookup_of o.built.unit o.tables 18 ≡ found 2 → ⊥
nothing_written o e hit =
    let miss : (lookup_of o.built.unit o.tables 18).index ≡ 0 = rw e (lookup_empty o.built.unit (zeros 4 7 8) 18 (blank_zero 7)) in
    omega (arith, ap (λ (f : Found). f.index) hit)

-- a build that refuses as ours does and writes nothing, whatever its record
pub writes_nothing_fails : (build : ChosenBuild) → ((n degree cells a : ℕ) (vs : List ℕ) (t : Tables) → (build n degree cells a vs t).tables ≡ t)
    → ((n degree cells a : ℕ) (vs : List ℕ) (t : Tables) → (build n degree cells a vs t).built.refusal ≡ (build_chosen n degree cells a vs t).built.refusal)
    → Demand2Chosen build lookup_of recover_of → ⊥
unfolding build_chosen first_of
writes_nothing_fails build nothing as_ours d =
    let t : Tables = zeros 4 7 8 in
    nothing_written (build 6 2 7 15 S t) (nothing 6 2 7 15 S t) ((d 6 2 7 15 S t).lookup_exact (as_ours 6 2 7 15 S t) 18 (omega arith))

pub writes_nothing_given_fails : (build : GivenBuild)
    → ((n : ℕ) (variables : List Variable) (p n1 cells a : ℕ) (vs : List ℕ) (t : Tables) → length variables ≡ max_variables
    → (build n variables p n1 cells a vs t).tables ≡ t)
    → ((n : ℕ) (variables : List Variable) (p n1 cells a : ℕ) (vs : List ℕ) (t : Tables) → length variables ≡ max_variables
    → (build n variables p n1 cells a vs t).built.refusal ≡ (build_given n variables p n1 cells a vs t).built.refusal)
    → Demand2Given build lookup_of recover_of → ⊥
unfolding build_given first_of
writes_nothing_given_fails build nothing as_ours d =
    let t : Tables = zeros 4 7 8 in
    nothing_written (build 6 taken_of_s 3 2 7 15 S t) (nothing 6 taken_of_s 3 2 7 15 S t refl) ((d 6 taken_of_s 3 2 7 15 S t refl).lookup_exact (as_ours 6 taken_of_s 3 2 7 15 S t refl) 18 (omega arith))

-- the tables with the first row placed alone
abbrev pub one_row : ℕ → ℕ → List Kind → ℕ → List ℕ → Tables → Tables
one_row n n1 ks cells vs t =
    written n n1 ks vs (place_in 1 (cares_from 1 n1 ks vs) (record { h = replicate (2 ^ n1) 0; g = replicate cells 0; tries = 0; order = [] })) t

-- our builds, but for the tables
abbrev pub first_row_only : ChosenBuild
first_row_only n degree cells a vs t =
    let ks = chosen_kinds n degree vs in
    record { built = (build_chosen n degree cells a vs t).built; tables = one_row n (rows_share (length ks)) ks cells vs t }

abbrev pub first_row_only_given : GivenBuild
first_row_only_given n variables p n1 cells a vs t =
    record { built = (build_given n variables p n1 cells a vs t).built; tables = one_row n n1 (kinds_of (take p variables)) cells vs t }

-- they do not find vector 2, 18
pub first_row_only_fails : Demand2Chosen first_row_only lookup_of recover_of → ⊥
unfolding build_chosen lookup_of first_of cares_from place_in
first_row_only_fails d = omega (arith, ap (λ (f : Found). f.index) ((d 6 2 7 15 S (nines 4 7 8)).lookup_exact refl 18 (omega arith)))

pub first_row_only_given_fails : Demand2Given first_row_only_given lookup_of recover_of → ⊥
unfolding build_given lookup_of first_of cares_from place_in
first_row_only_given_fails d = omega (arith, ap (λ (f : Found). f.index) ((d 6 taken_of_s 3 2 7 15 S (nines 4 7 8) refl).lookup_exact refl 18 (omega arith)))
