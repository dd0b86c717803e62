-- Everything packed fits the page, so that a target of a page gets it whole. Assumes nothing.
use Prim.Native.Nat.{ℕ, ◌≤◌}
use native.Mathlib.Omega.{arith}
use mathlib.Core.Path.{◌≡◌, refl, ap}
use mathlib.Core.Bool.{Bool, true, false}
use mathlib.Core.List.{List}
use borrow.Author.Tests.{eqb-true, eqb-false}
use lib.Dec.{eqb}
use lib.ListN.{length}
use Rattle.record.specs.Tables.{Tables}
use Rattle.build.specs.Build.{Outcome, build_chosen}
use Rattle.build.proofs.Places.{chosen_place}
use Rattle.build.proofs.Holding.Holds.{chosen_holds}
use Rattle.print.proofs.Pages.Sizes.{refused_low}
use Rattle.file.proofs.Outcomes.{file_few}
use Rattle.answer.specs.Make.{roomy, program_allowance, make_of}
use Rattle.answer.proofs.Makes.{of_builds}
use Rattle.answer.proofs.Fits.Refused.{chosen_number}
use Rattle.pack.specs.Pack.{page_size, packed, pack_of}
use Rattle.pack.proofs.Packs.{packed_accepted, packed_refused, packed_bad, packed_good}

module _ (n degree cells : ℕ) (vs : List ℕ) (t : Tables) where
  abbrev o : Outcome
  o = build_chosen n degree cells program_allowance vs t

  pub built_low : length (packed o) ≤ page_size
  built_low = go (eqb o.built.refusal 0) refl
    where
      go : (q : Bool) → eqb o.built.refusal 0 ≡ q → length (packed o) ≤ page_size
      go true q =
          let e = eqb-true o.built.refusal 0 q in
          omega (arith, file_few o.built.unit o.tables (chosen_holds n degree cells program_allowance vs t e).is_sound, ap length (packed_accepted o e))
      go false q =
          let l = refused_low o.built.refusal o.built.place (omega (arith, chosen_number n degree cells vs t)) (omega (arith, chosen_place n degree cells program_allowance vs t)) in
          omega (arith, l, ap length (packed_refused o (eqb-false o.built.refusal 0 q)))

-- of every text
pub pack_fits : (text : List ℕ) → length (pack_of text) ≤ page_size
unfolding pack_of
pack_fits text = go (make_of text roomy).good refl
  where
    go : (q : Bool) → (make_of text roomy).good ≡ q → length (pack_of text) ≤ page_size
    go true q = omega (arith, of_builds (λ (o : Outcome). length (packed o) ≤ page_size) built_low text roomy q, ap length (packed_good (make_of text roomy) q))
    go false q = omega (arith, ap length (packed_bad (make_of text roomy) q))
