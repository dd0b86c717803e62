-- Every answer fits the page, so that a target of a page gets it whole. Assumes nothing.
use Prim.Native.Nat.{ℕ, ◌≤◌}
use native.Mathlib.Omega.{arith}
use mathlib.Core.Path.{◌≡◌, refl, sym, ap}
use mathlib.Core.Bool.{Bool, true, false}
use mathlib.Core.List.{List, [], ◌++◌}
use borrow.Author.Tests.{eqb-true, eqb-false}
use lib.Dec.{eqb}
use lib.ListN.{length, drop}
use Rattle.vectors.specs.declared.Kind.{Kind}
use Rattle.record.specs.Tables.{Tables}
use Rattle.build.specs.Refusals.{check2_chosen}
use Rattle.build.specs.Build.{Outcome, rows_share, chosen_kinds, chosen_refusal, build_chosen}
use Rattle.build.proofs.Places.{chosen_place}
use Rattle.build.proofs.Holding.Passed.{chosen_passed}
use Rattle.build.proofs.Holding.Ends.{outcome_accepted}
use Rattle.print.specs.Print.{printed, fitted, text_of}
use Rattle.print.proofs.Pages.Sizes.{refused_low}
use Rattle.print.proofs.Pages.Fitting.{fitted_long}
use Rattle.answer.specs.Make.{roomy, program_allowance, make_of}
use Rattle.answer.specs.Answer.{page_size, input_text, built_text, answer_of}
use Rattle.answer.proofs.Makes.{of_builds}
use Rattle.answer.proofs.Answers.{text_accepted, text_refused, made_bad, made_good}
use Rattle.answer.proofs.Fits.Refused.{chosen_number}
use Rattle.answer.proofs.Fits.Unit.{unit_low}

module _ (n degree cells : ℕ) (vs : List ℕ) (t : Tables) where
  abbrev o : Outcome
  o = build_chosen n degree cells program_allowance vs t

  accepted_low : o.built.refusal ≡ 0 → length (text_of o.built.unit o.tables) ≤ page_size
  unfolding build_chosen
  accepted_low z =
      let ks : List Kind = chosen_kinds n degree vs in
      let a = outcome_accepted n (rows_share (length ks)) ks cells program_allowance vs t (chosen_refusal n degree ks cells vs t) z in
      rw a.is (unit_low n (rows_share (length ks)) (check2_chosen degree) ks cells vs t (chosen_passed n degree cells vs t a.passed))

  built_low : length (built_text o) ≤ page_size
  built_low = go (eqb o.built.refusal 0) refl
    where
      go : (q : Bool) → eqb o.built.refusal 0 ≡ q → length (built_text o) ≤ page_size
      go true q = let e = eqb-true o.built.refusal 0 q in omega (arith, accepted_low e, ap length (text_accepted o e))
      go false q =
          let l = refused_low o.built.refusal o.built.place (omega (arith, chosen_number n degree cells vs t)) (omega (arith, chosen_place n degree cells program_allowance vs t)) in
          omega (arith, l, ap length (text_refused o (eqb-false o.built.refusal 0 q)))

-- of every text
pub answer_fits : (text : List ℕ) → length (answer_of text) ≤ page_size
unfolding answer_of
answer_fits text = go (make_of text roomy).good refl
  where
    go : (q : Bool) → (make_of text roomy).good ≡ q → length (answer_of text) ≤ page_size
    go true q = omega (arith, of_builds (λ (o : Outcome). length (built_text o) ≤ page_size) built_low text roomy q, ap length (made_good (make_of text roomy) q))
    go false q = omega (arith, ap length (made_bad (make_of text roomy) q))

-- so that it is written whole into a target of a page or more
pub answer_whole : (text out : List ℕ) → page_size ≤ length out → fitted (answer_of text) out ≡ printed (length (answer_of text)) (answer_of text ++ drop (length (answer_of text)) out)
answer_whole text out h = sym (fitted_long (answer_of text) out (omega (arith, answer_fits text)))

-- the empty text is no list
pub answer_none : answer_of [] ≡ input_text
unfolding answer_of
answer_none = refl
