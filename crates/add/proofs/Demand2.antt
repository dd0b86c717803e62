-- Demand 2, of units that were built or that came from built ones step by step, and their excess; and refuted of an addition that writes nothing. Assumes nothing.
use Prim.Native.Nat.{ℕ, ◌^◌, ◌≤◌}
use native.Mathlib.Omega.{arith}
use mathlib.Core.Path.{◌≡◌, refl, ap, ◌∙◌}
use mathlib.Core.List.{List, [], ◌∷◌}
use lib.IntN.{pos}
use lib.ListN.{length}
use lib.Signed.{◌≤ℤ◌}
use Rattle.lists.specs.First.{first_of}
use Rattle.vectors.specs.declared.Kind.TheVariants.{One}
use Rattle.record.specs.declared.Record.{Record}
use Rattle.record.specs.Record.{excess_of, record_of, kinds_in}
use Rattle.record.specs.Tables.{Tables}
use Rattle.record.specs.Holds.{Holds}
use Rattle.record.proofs.Soundness.{sound_says}
use Rattle.record.proofs.Excesses.{excess_not_negative}
use Rattle.lookup.specs.Lookup.{Found}
use Rattle.lookup.specs.Lookup.{lookup_of}
use Rattle.lookup.proofs.Exact.{holds_lookup}
use Rattle.recover.specs.Recover.{recover_of}
use Rattle.recover.proofs.Every.{listed_apart, holds_listed, holds_list}
use Rattle.recover.proofs.Exact.{holds_recover}
use Rattle.build.specs.Build.{build_chosen, build_given}
use Rattle.build.proofs.Holding.Holds.{chosen_holds, given_holds, chosen_width, given_width}
use Rattle.unit.specs.Samples.{nines, given}
use Rattle.unit.proofs.Excess.{apart_few, chosen_excess, given_excess}
use Rattle.file.specs.Facts.{WordsFit}
use Rattle.file.specs.Read.{read_of}
use Rattle.file.proofs.Loading.Demands.{chosen_fits, given_fits}
use Rattle.file.proofs.Loading.Held.{read_holds, read_record}
use Rattle.file.proofs.Loading.Loaded.{read_loaded}
use Rattle.add.specs.Add.{add_of}
use Rattle.add.specs.Facts.{Adder}
use Rattle.add.specs.Made.{Made, Demand2Made, ExcessMade}
use Rattle.add.proofs.Adding.Ends.{accepted_record}
use Rattle.add.proofs.Adding.Results.{add_appends, add_fits}

-- ---- step by step

abbrev Steps : ℕ → List ℕ → Record → Tables → Type 0
Steps n vs u t = Made build_chosen build_given add_of read_of n vs u t

-- the unit holds the list, in words that fit
pub record Standing (u : Record) (t : Tables) (vs : List ℕ) : Type 0 where
  pub holds : Holds u t vs
  pub fits : WordsFit u t

pub made_stands : {n : ℕ} {vs : List ℕ} {u : Record} {t : Tables} → Steps n vs u t → Standing u t vs
made_stands {n} (Made.by_rule degree cells allowance vs t z) = record { holds = chosen_holds n degree cells allowance vs t z; fits = chosen_fits n degree cells allowance vs t z }
made_stands {n} (Made.by_caller variables p n1 cells allowance vs t slots z) =
    record { holds = given_holds n variables p n1 cells allowance vs t slots z; fits = given_fits n variables p n1 cells allowance vs t slots z }
made_stands (Made.added m x z) =
    let s = made_stands m in
    record { holds = add_appends _ _ _ s.holds x z; fits = add_fits _ _ _ s.holds s.fits x z }
made_stands (Made.carried m into z) =
    let s = made_stands m in
    record { holds = read_holds _ _ _ s.holds s.fits into z; fits = (read_loaded _ into z).words }

pub made_holds : {n : ℕ} {vs : List ℕ} {u : Record} {t : Tables} → Steps n vs u t → Holds u t vs
made_holds m = (made_stands m).holds

-- its record has the list's width
pub made_width : {n : ℕ} {vs : List ℕ} {u : Record} {t : Tables} → Steps n vs u t → u.n ≡ n
unfolding record_of
made_width {n} (Made.by_rule degree cells allowance vs t z) = chosen_width n degree cells allowance vs t z
made_width {n} (Made.by_caller variables p n1 cells allowance vs t slots z) = given_width n variables p n1 cells allowance vs t z
made_width (Made.added m x z) = ap (λ (u : Record). u.n) (accepted_record _ _ x z) ∙ made_width m
made_width (Made.carried m into z) =
    let s = made_stands m in
    ap (λ (u : Record). u.n) (read_record _ _ _ s.holds s.fits into z) ∙ made_width m

-- lookup and recovery are exact
pub made_demand_2 : Demand2Made build_chosen build_given add_of read_of lookup_of recover_of
made_demand_2 n vs u t m =
    record {
      lookup_exact = λ z x l. holds_lookup u t vs (made_holds m) x (rw (made_width m) l);
      recovery_exact = λ z i l. holds_recover u t vs (made_holds m) i l;
    }

-- ---- the excess

-- of a unit that holds its list, and whose excess is the one for so many vectors
holds_excess : (u : Record) (t : Tables) (vs : List ℕ) → Holds u t vs → u.excess ≡ excess_of u.p u.k → pos 0 ≤ℤ u.excess
holds_excess u t vs H e =
    let l : length vs ≤ 2 ^ length (kinds_in u) = apart_few (kinds_in u) vs (rw (holds_list u t vs H) at (listed_apart u t (holds_listed u t vs H))) in
    rw e (excess_not_negative u.p u.k (rw (H.vectors, ← (sound_says u t H.is_sound).variables) l))

pub made_excess : ExcessMade build_chosen build_given add_of read_of
unfolding record_of
made_excess n _ _ _ (Made.by_rule degree cells allowance vs t z) = chosen_excess n degree cells allowance vs t z
made_excess n _ _ _ (Made.by_caller variables p n1 cells allowance vs t slots z) = given_excess n variables p n1 cells allowance vs t slots z
made_excess n _ _ _ (Made.added m x z) = holds_excess _ _ _ (add_appends _ _ _ (made_holds m) x z) (rw (accepted_record _ _ x z))
made_excess n _ _ _ (Made.carried m into z) =
    let s = made_stands m in
    holds_excess _ _ _ (read_holds _ _ _ s.holds s.fits into z) (rw (read_record _ _ _ s.holds s.fits into z))

-- ---- refuted of an addition that answers as ours does and writes nothing: in the unit of 15.8 it does not find 7, which was added

abbrev pub writes_nothing : Adder
writes_nothing u t x = record { built = (add_of u t x).built; tables = t }

pub writes_nothing_fails : Demand2Made build_chosen build_given writes_nothing read_of lookup_of recover_of → ⊥
unfolding build_given add_of lookup_of first_of
writes_nothing_fails d =
    omega (
      arith,
      ap (λ (f : Found). f.index)
          ((d 3 _ _ _ (Made.added (Made.by_caller (given (One 1 ∷ One 2 ∷ One 3 ∷ [])) 3 2 6 10 (0 ∷ 1 ∷ 2 ∷ 3 ∷ []) (nines 4 6 6) refl refl) 7 refl)
          ).lookup_exact refl 7 (omega arith)),
    )
