-- What is written for any keys fits 64 KiB. Assumes nothing.
use Prim.Native.Nat.{ℕ, ◌≤◌}
use native.Mathlib.Omega.{arith}
use mathlib.Core.Path.{◌≡◌, refl, ap}
use mathlib.Core.Bool.{Bool, true, false}
use mathlib.Core.List.{List, [], ◌∷◌}
use borrow.Author.Tests.{eqb-true, eqb-false}
use lib.Dec.{eqb}
use lib.ListN.{length}
use Rattle.record.specs.declared.Record.{Record}
use Rattle.record.specs.Tables.{Tables}
use Rattle.build.specs.Build.{Outcome}
use Rattle.build.proofs.Refusing.Ladder.{refusal_of}
use Rattle.build.proofs.Places.{Small, none_small}
use Rattle.add.specs.Add.{add_of}
use Rattle.add.proofs.Places.{add_small}
use Rattle.print.proofs.Pages.Sizes.{refused_low}
use Rattle.file.proofs.Outcomes.{file_few}
use Rattle.pack.specs.Pack.{page_size, packed}
use Rattle.pack.proofs.Packs.{packed_accepted, packed_refused}
use Rattle.find.specs.Keys.{good_keys, values_in}
use Rattle.find.proofs.Lines.{values_some}
use Rattle.amend.specs.Amend.{add_all, amend_text}
use Rattle.amend.proofs.Adds.{next_added, next_refused, some_sound, amend_bad, amend_all}

-- the refusal of several additions is that of one of them
all_small : (xs : List ℕ) (u : Record) (t : Tables) → Small 40 (refusal_of (add_all u t xs))
unfolding add_all
all_small [] u t = none_small 40
all_small (x ∷ xs) u t = go (eqb (add_of u t x).built.refusal 0) refl (all_small xs (add_of u t x).built.unit (add_of u t x).tables)
  where
    go : (b : Bool) → eqb (add_of u t x).built.refusal 0 ≡ b → Small 40 (refusal_of (add_all (add_of u t x).built.unit (add_of u t x).tables xs)) → Small 40 (refusal_of (add_all u t (x ∷ xs)))
    go true q h = rw (next_added u t x xs (eqb-true (add_of u t x).built.refusal 0 q)) h
    go false q h = rw (next_refused u t x xs (eqb-false (add_of u t x).built.refusal 0 q)) (add_small u t x)

module _ (text : List ℕ) (u : Record) (t : Tables) where
  abbrev o : Outcome
  o = add_all u t (values_in text)

  added_low : good_keys text ≡ true → length (packed o) ≤ page_size
  added_low g = go (eqb o.built.refusal 0) refl
    where
      go : (q : Bool) → eqb o.built.refusal 0 ≡ q → length (packed o) ≤ page_size
      go true q =
          let e = eqb-true o.built.refusal 0 q in
          omega (arith, file_few o.built.unit o.tables (some_sound (values_in text) u t (values_some text g) e), ap length (packed_accepted o e))
      go false q =
          let b = all_small (values_in text) u t in
          omega (arith, refused_low o.built.refusal o.built.place (omega arith) (omega arith), ap length (packed_refused o (eqb-false o.built.refusal 0 q)))

  -- of every text
  pub amend_fits : length (amend_text text u t) ≤ page_size
  amend_fits = go (good_keys text) refl
    where
      go : (q : Bool) → good_keys text ≡ q → length (amend_text text u t) ≤ page_size
      go true q = omega (arith, added_low q, ap length (amend_all text u t q))
      go false q = omega (arith, ap length (amend_bad text u t q))
