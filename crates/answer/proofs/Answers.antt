-- The program's answer, from what a text leaves. Assumes nothing.
use Prim.Native.Nat.{ℕ}
use native.Mathlib.Omega.{arith}
use mathlib.Core.Path.{◌≡◌, refl, sym, ap, ◌∙◌}
use mathlib.Core.Bool.{Bool, true, false}
use mathlib.Core.List.{List}
use borrow.Author.Tests.{eqb-true, eqb-false, eq-eqb, ne_eqb}
use lib.Dec.{eqb}
use Rattle.std.specs.Prelude.{Ok, Err}
use Rattle.refusal.specs.declared.Refused.{Refused}
use Rattle.refusal.specs.Refusal.{number_of}
use Rattle.record.specs.declared.Record.{Record}
use Rattle.build.specs.Built.{Built, told}
use Rattle.refusal.proofs.Numbers.{numbered}
use Rattle.record.specs.Tables.{Tables}
use Rattle.record.specs.Formed.{sound}
use Rattle.record.proofs.Soundness.{sound_says}
use Rattle.build.specs.Build.{Outcome}
use Rattle.print.specs.Print.{fitted, text_of, print_of, refused_text}
use Rattle.print.proofs.Pages.Fitting.{print_formed}
use Rattle.answer.specs.Make.{Making, roomy, make_of}
use Rattle.answer.specs.Answer.{input_text, built_text, made_text, answer_of}
use Rattle.answer.specs.Inner.Outcome.{print_built}
use Rattle.answer.proofs.Makes.{made_sound}

-- ---- printing what a build left

module _ (b : Built) (t : Tables) (out : List ℕ) where
  pub built_accepted : b.refusal ≡ 0 → print_of b.unit t out ≡ print_built b t out
  unfolding print_built
  built_accepted e = rw (eq-eqb b.refusal 0 e, print_built)

  pub built_refused : (b.refusal ≡ 0 → ⊥) → fitted (refused_text b.refusal b.place) out ≡ print_built b t out
  unfolding print_built
  built_refused n = rw (ne_eqb b.refusal 0 n, print_built)

module _ (t : Tables) (out : List ℕ) where
  pub unit_printed : (u : Record) → print_of u t out ≡ print_built (told (Ok u)) t out
  unit_printed u = built_accepted (told (Ok u)) t out refl

  pub refusal_printed : (r : Refused) → fitted (refused_text (number_of r.refusal) r.place) out ≡ print_built (told (Err r)) t out
  refusal_printed r = built_refused (told (Err r)) t out (λ z. omega (arith, numbered r.refusal))

module _ (o : Outcome) where
  pub text_accepted : o.built.refusal ≡ 0 → text_of o.built.unit o.tables ≡ built_text o
  unfolding built_text
  text_accepted e = rw (eq-eqb o.built.refusal 0 e, built_text)

  pub text_refused : (o.built.refusal ≡ 0 → ⊥) → refused_text o.built.refusal o.built.place ≡ built_text o
  unfolding built_text
  text_refused n = rw (ne_eqb o.built.refusal 0 n, built_text)

  -- a sound unit is well formed, so that it is printed
  built_printed : (out : List ℕ) → (o.built.refusal ≡ 0 → sound o.built.unit o.tables ≡ true) → print_built o.built o.tables out ≡ fitted (built_text o) out
  built_printed out s = go (eqb o.built.refusal 0) refl
    where
      go : (q : Bool) → eqb o.built.refusal 0 ≡ q → print_built o.built o.tables out ≡ fitted (built_text o) out
      go true q =
          let e = eqb-true o.built.refusal 0 q in
          sym (built_accepted o.built o.tables out e)
          ∙ sym (print_formed o.built.unit o.tables out (sound_says o.built.unit o.tables (s e)).well_formed_lem)
          ∙ ap (λ (s : List ℕ). fitted s out) (text_accepted e)
      go false q =
          let n = eqb-false o.built.refusal 0 q in
          sym (built_refused o.built o.tables out n) ∙ ap (λ (s : List ℕ). fitted s out) (text_refused n)

-- ---- the whole

module _ (m : Making) where
  pub made_bad : m.good ≡ false → input_text ≡ made_text m
  unfolding made_text
  made_bad b = rw (b, made_text)

  pub made_good : m.good ≡ true → built_text m.outcome ≡ made_text m
  unfolding made_text
  made_good y = rw (y, made_text)

module _ (text : List ℕ) (m : Making) (e : m ≡ make_of text roomy) where
  pub answer_bad : m.good ≡ false → input_text ≡ answer_of text
  unfolding answer_of
  answer_bad b = made_bad m b ∙ ap made_text e

  -- the unit of an accepted list is printed, since it is sound
  pub answer_good : (out : List ℕ) → m.good ≡ true → print_built m.outcome.built m.outcome.tables out ≡ fitted (answer_of text) out
  unfolding answer_of
  answer_good out y =
      let k : (make_of text roomy).good ≡ true = ap (λ (x : Making). x.good) (sym e) ∙ y in
      ap (λ (x : Making). print_built x.outcome.built x.outcome.tables out) e
      ∙ built_printed (make_of text roomy).outcome out (made_sound text roomy k)
      ∙ ap (λ (s : List ℕ). fitted s out) (made_good (make_of text roomy) k)
