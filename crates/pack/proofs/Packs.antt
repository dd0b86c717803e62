-- What is packed, from what a text leaves. Assumes nothing.
use Prim.Native.Nat.{ℕ}
use mathlib.Core.Path.{◌≡◌, refl, sym, ap, ◌∙◌}
use mathlib.Core.Bool.{Bool, true, false}
use mathlib.Core.List.{List}
use borrow.Author.Tests.{eqb-true, eqb-false, eq-eqb, ne_eqb, ltb-true, ltb-false}
use lib.Dec.{eqb, ltb}
use lib.ListN.{length}
use Rattle.std.specs.Prelude.{Result, Ok, Err}
use Rattle.std.specs.Result.{result_unwrap_or}
use Rattle.refusal.specs.declared.Refusal.{Refusal}
use Rattle.refusal.specs.declared.Refused.{Refused}
use Rattle.refusal.specs.Refusal.{number_of}
use Rattle.build.specs.Built.{Built, told}
use Rattle.build.specs.Build.{Outcome}
use Rattle.record.specs.declared.Record.{Record}
use Rattle.record.specs.Record.{blank_record}
use Rattle.record.specs.Tables.{Tables}
use Rattle.record.specs.Formed.{sound}
use Rattle.print.specs.Print.{printed, fitted, refused_text}
use Rattle.print.proofs.Pages.Fitting.{fitted_short, fitted_long}
use Rattle.file.specs.File.{file_of}
use Rattle.file.specs.Write as write
use Rattle.file.proofs.Outcomes.{sound_write}
use Rattle.answer.specs.Make.{Making, roomy, make_of}
use Rattle.answer.specs.Answer.{input_text}
use Rattle.answer.proofs.Makes.{made_sound}
use Rattle.pack.specs.Pack.{filed, pack_built, packed, packed_or, pack_of}

-- a file in a target: a refusal 20 is no byte
filled_fitted : (f out : List ℕ) → filed (write.filled f out) ≡ fitted f out
filled_fitted f out = go (ltb (length out) (length f)) refl
  where
    go : (q : Bool) → ltb (length out) (length f) ≡ q → filed (write.filled f out) ≡ fitted f out
    go true q = rw (q, write.filled, filed) (fitted_short f out (ltb-true (length out) (length f) q))
    go false q = rw (q, write.filled, filed) (fitted_long f out (ltb-false (length out) (length f) q))

pub written_fitted : (u : Record) (t : Tables) (out : List ℕ) → sound u t ≡ true → filed (write.write_of u t out) ≡ fitted (file_of u t) out
written_fitted u t out s = ap filed (sound_write u t s out) ∙ filled_fitted (file_of u t) out

module _ (b : Built) (t : Tables) (out : List ℕ) where
  pub built_accepted : b.refusal ≡ 0 → filed (write.write_of b.unit t out) ≡ pack_built b t out
  unfolding pack_built
  built_accepted e = rw (eq-eqb b.refusal 0 e, pack_built)

  pub built_refused : (b.refusal ≡ 0 → ⊥) → fitted (refused_text b.refusal b.place) out ≡ pack_built b t out
  unfolding pack_built
  built_refused n = rw (ne_eqb b.refusal 0 n, pack_built)

module _ (t : Tables) (out : List ℕ) where
  -- what was written counts, a refusal as nothing
  counted : (r : Result ℕ Refusal) → result_unwrap_or r 0 ≡ (write.told r).length
  counted (Ok length) = refl
  counted (Err e) = refl

  pub unit_packed : (b : Built) (e : b.refusal ≡ 0) (r : Result ℕ Refusal) (target : List ℕ) (k : ℕ) → k ≡ result_unwrap_or r 0
      → write.after (write.told r) target ≡ write.write_of b.unit t out → printed k target ≡ pack_built b t out
  unit_packed b e r target k s w =
      ap (λ (n : ℕ). printed n target) (s ∙ counted r) ∙ ap filed w ∙ built_accepted b t out e

  -- of what a build left the number, the place and the unit count
  pub numbered_packed : (r : Refused) → pack_built (record { refusal = number_of r.refusal; place = r.place; needed = 0; unit = blank_record }) t out ≡ pack_built (told (Err r)) t out
  unfolding pack_built
  numbered_packed r = refl

module _ (o : Outcome) where
  pub packed_accepted : o.built.refusal ≡ 0 → file_of o.built.unit o.tables ≡ packed o
  unfolding packed
  packed_accepted e = rw (eq-eqb o.built.refusal 0 e, packed)

  pub packed_refused : (o.built.refusal ≡ 0 → ⊥) → refused_text o.built.refusal o.built.place ≡ packed o
  unfolding packed
  packed_refused n = rw (ne_eqb o.built.refusal 0 n, packed)

  -- a sound unit's file is written
  pub built_packed : (out : List ℕ) → (o.built.refusal ≡ 0 → sound o.built.unit o.tables ≡ true) → pack_built o.built o.tables out ≡ fitted (packed o) out
  built_packed out s = go (eqb o.built.refusal 0) refl
    where
      go : (q : Bool) → eqb o.built.refusal 0 ≡ q → pack_built o.built o.tables out ≡ fitted (packed o) out
      go true q =
          let e = eqb-true o.built.refusal 0 q in
          sym (built_accepted o.built o.tables out e)
          ∙ written_fitted o.built.unit o.tables out (s e)
          ∙ ap (λ (s : List ℕ). fitted s out) (packed_accepted e)
      go false q =
          let n = eqb-false o.built.refusal 0 q in
          sym (built_refused o.built o.tables out n) ∙ ap (λ (s : List ℕ). fitted s out) (packed_refused n)

module _ (m : Making) where
  pub packed_bad : m.good ≡ false → input_text ≡ packed_or m
  unfolding packed_or
  packed_bad b = rw (b, packed_or)

  pub packed_good : m.good ≡ true → packed m.outcome ≡ packed_or m
  unfolding packed_or
  packed_good y = rw (y, packed_or)

module _ (text : List ℕ) (m : Making) (e : m ≡ make_of text roomy) where
  pub pack_bad : m.good ≡ false → input_text ≡ pack_of text
  unfolding pack_of
  pack_bad b = packed_bad m b ∙ ap packed_or e

  -- the file of an accepted list is written, since its unit is sound
  pub pack_good : (out : List ℕ) → m.good ≡ true → pack_built m.outcome.built m.outcome.tables out ≡ fitted (pack_of text) out
  unfolding pack_of
  pack_good out y =
      let k : (make_of text roomy).good ≡ true = ap (λ (x : Making). x.good) (sym e) ∙ y in
      ap (λ (x : Making). pack_built x.outcome.built x.outcome.tables out) e
      ∙ built_packed (make_of text roomy).outcome out (made_sound text roomy k)
      ∙ ap (λ (s : List ℕ). fitted s out) (packed_good (make_of text roomy) k)
