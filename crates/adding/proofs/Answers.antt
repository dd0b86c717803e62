-- What the call for C gives, from what adding gives. Assumes nothing.
use Prim.Native.Nat.{ℕ, zero, suc, ◌<◌}
use mathlib.Core.Path.{◌≡◌, refl, sym, ap, ap₂, ◌∙◌}
use mathlib.Core.List.{List}
use native.Mathlib.Omega.{arith}
use Rattle.std.proofs.Common.{Result, Ok, Err}
use Rattle.record.specs.declared.Record.{Record}
use Rattle.record.specs.Tables.{Tables, lent}
use Rattle.refusal.specs.declared.Refused.{Refused}
use Rattle.refusal.specs.Refusal.{number_of}
use Rattle.refusal.proofs.Numbers.{numbered}
use Rattle.build.specs.Built.{told}
use Rattle.build.specs.Build.{Outcome, after}
use Rattle.build.proofs.Places.{place_limit}
use Rattle.add.specs.Add.{add_of}
use Rattle.add.proofs.Places.{add_small}
use Rattle.flat.specs.Flat.{flat_of, unit_seen}
use Rattle.bridge.specs.Calls.{left, answer}
use Rattle.adding.specs.Calls.{words_after, words_left, added_to, add_call}

-- over the unit that the record is read as
pub called : (words : List ℕ) (t : Tables) (x : ℕ) (u : Record) → u ≡ unit_seen words → added_to words (add_of u t x) ≡ add_call words t x
unfolding add_call
called words t x u v = ap (λ (u : Record). added_to words (add_of u t x)) v

-- the record after it
words_kept : (words : List ℕ) (o : Outcome) (m : ℕ) → (m ≡ 0 → ⊥) → o.built.refusal ≡ m → words_after words o ≡ words
words_kept words o zero n q = absurd (n refl)
words_kept words o (suc m) n q = rw (q, words_after)

pub words_new : (words : List ℕ) (o : Outcome) → o.built.refusal ≡ 0 → words_after words o ≡ flat_of o.built.unit
words_new words o q = rw (q, words_after)

-- what is left of it as the code has it
words_left_is : (words : List ℕ) (r : Result Record Refused) (h g aux : List ℕ) → words_left r words ≡ words_after words (after (told r) h g aux)
words_left_is words (Ok u) h g aux = refl
words_left_is words (Err e) h g aux = sym (words_kept words (after (told (Err e)) h g aux) (number_of e.refusal) (λ z. omega (arith, numbered e.refusal)) refl)

-- ---- as the code has it

module _ (words : List ℕ) (t : Tables) (x : ℕ) (u : Record) (v : u ≡ unit_seen words) (r : Result Record Refused) (h g aux : List ℕ) (e : after (told r) h g aux ≡ add_of u t x) where
  abbrev o : Outcome
  o = add_of u t x

  pub place_fits : (told r).place < place_limit
  place_fits = rw (ap (λ (o : Outcome). o.built.place) e) (add_small u t x).place_low

  pub left_is : (a : ℕ) → a ≡ answer (told r).refusal (told r).place → (ws : List ℕ) → ws ≡ words_left r words → left a ws (lent h g aux) ≡ add_call words t x
  left_is a i ws f =
      ap₂ (λ (b : ℕ) (w : List ℕ). left b w (lent h g aux)) i (f ∙ words_left_is words r h g aux) ∙ ap (added_to words) e ∙ called words t x u v
