-- Demand 1 refuted of wrong builds. Assumes nothing.
use Prim.Native.Nat.{ℕ, suc}
use native.Mathlib.Omega.{arith}
use mathlib.Core.Path.{◌≡◌, ap}
use mathlib.Core.Bool.{cond, ◌&&◌}
use mathlib.Core.List.{[], ◌∷◌}
use lib.Dec.{eqb, ltb}
use lib.ListN.{get_or, set}
use Rattle.record.specs.Record.{blank_record}
use Rattle.record.specs.Tables.{Tables}
use Rattle.lists.specs.First.{repeated}
use Rattle.build.specs.Build.{build_chosen}
use Rattle.unit.specs.Demand2.{ChosenBuild}
use Rattle.unit.specs.Demand1.{Demand1Chosen}
use Rattle.unit.specs.Samples.{S, nines}
use Rattle.unit.proofs.Demand1.Builds.{chosen_demand_1}

-- ---- a build that clears a word before it refuses

-- our answer, with AUX[0] cleared whatever it is
abbrev pub clears_early : ChosenBuild
clears_early n degree cells a vs t =
    let o = build_chosen n degree cells a vs t in
    record { built = o.built; tables = record { h = o.tables.h; g = o.tables.g; aux = set o.tables.aux 0 0 } }

-- the empty list is refused by 3, and AUX[0] was 9
pub clears_early_fails : Demand1Chosen clears_early → ⊥
unfolding build_chosen
clears_early_fails d =
    let e : (clears_early 6 1 1 0 [] (nines 1 1 1)).tables ≡ nines 1 1 1 = (d 6 1 1 0 [] (nines 1 1 1)).leaves.untouched (omega arith) (omega arith) in
    omega (arith, ap (λ (t : Tables). get_or t.aux 0 0) e)

-- ---- a build that leaves a word on 13, or on 41

-- our answer, but for H[0], which beside that refusal stays as it was lent
abbrev pub leaves_word : ℕ → ChosenBuild
leaves_word number n degree cells a vs t =
    let o = build_chosen n degree cells a vs t in
    cond (eqb o.built.refusal number) (record { built = o.built; tables = record { h = set o.tables.h 0 (get_or t.h 0 0); g = o.tables.g; aux = o.tables.aux } }) o

-- S with degree 2 and 6 cells is refused by 13 (SCOPE 15.4), and H[0] was 9
pub leaves_word_fails : Demand1Chosen (leaves_word 13) → ⊥
unfolding build_chosen
leaves_word_fails d =
    let e = (d 6 2 6 14 S (nines 4 6 8)).leaves.zeros (omega arith) in
    omega (arith, ap (λ (t : Tables). get_or t.h 0 0) e)

-- with 13 tries allowed it is refused by 41 (SCOPE 15.16)
pub leaves_word_over_fails : Demand1Chosen (leaves_word 41) → ⊥
unfolding build_chosen
leaves_word_over_fails d =
    let e = (d 6 2 6 13 S (nines 4 6 8)).leaves.zeros (omega arith) in
    omega (arith, ap (λ (t : Tables). get_or t.h 0 0) e)

-- ---- a build that does not count the tries of the row that ends in 13

-- our answer with one try more allowed wherever that is 13
abbrev pub stuck_uncounted : ChosenBuild
stuck_uncounted n degree cells a vs t =
    let o = build_chosen n degree cells (suc a) vs t in
    cond (eqb o.built.refusal 13) o (build_chosen n degree cells a vs t)

-- the same build is refused by 41 and not by 13
pub stuck_uncounted_fails : Demand1Chosen stuck_uncounted → ⊥
unfolding build_chosen
stuck_uncounted_fails d =
    let e = (d 6 2 6 13 S (nines 4 6 8)).only 41 3 (chosen_demand_1 6 2 6 13 S (nines 4 6 8)).refusal in
    omega (arith, e.0)

-- ---- a build that checks for 7 before 6

-- our answer, but 7 instead of 6 where two vectors are equal
abbrev pub seven_first : ChosenBuild
seven_first n degree cells a vs t =
    let o = build_chosen n degree cells a vs t in
    cond (eqb o.built.refusal 6 && ltb 0 (repeated vs)) (record { built = record { refusal = 7; place = repeated vs; needed = 0; unit = blank_record }; tables = t }) o

-- the list 64, 64 with n = 6 has both causes, and 6 comes first
pub seven_first_fails : Demand1Chosen seven_first → ⊥
unfolding build_chosen repeated
seven_first_fails d =
    let e = (d 6 1 1 0 (64 ∷ 64 ∷ []) (nines 1 1 3)).only 6 1 (chosen_demand_1 6 1 1 0 (64 ∷ 64 ∷ []) (nines 1 1 3)).refusal in
    omega (arith, e.0)
