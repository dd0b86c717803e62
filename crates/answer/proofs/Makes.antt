-- What a text leaves, from what is read and built. Assumes nothing.
use Prim.Native.Nat.{ℕ, ◌≤◌}
use native.Mathlib.Omega.{arith}
use mathlib.Core.Path.{◌≡◌, refl, sym, ap, ◌∙◌}
use mathlib.Core.Bool.{Bool, true, false, false≢true, ◌&&◌}
use mathlib.Core.List.{List}
use borrow.Author.Tests.{leb-true}
use lib.Dec.{leb}
use lib.ListN.{length, take, drop, length-drop, length-map}
use lib.Seq.{take-append_seam}
use Rattle.lists.proofs.Tests.{and_true}
use Rattle.lists.specs.Members.{every}
use Rattle.record.specs.Tables.{Tables}
use Rattle.record.specs.Formed.{sound}
use Rattle.build.specs.Build.{Outcome, build_chosen}
use Rattle.build.proofs.Holding.Holds.{chosen_holds}
use Rattle.input.specs.Input.{Input}
use Rattle.input.specs.Fields.{fields}
use Rattle.input.specs.Decimal.{good_field, value_of}
use Rattle.input.specs.Input.{max_text, max_listed, body, good_text, numbers_in, listed, input_from, input_of, vectors_of}
use Rattle.answer.specs.Make.{program_allowance, no_build, make_of}

-- a text reads as good when it is
good_is : (text : List ℕ) (room : ℕ) → (input_of text room).good ≡ good_text text room
unfolding input_of input_from
good_is text room = go (good_text text room) refl
  where
    go : (t : Bool) → good_text text room ≡ t → (input_of text room).good ≡ t
    go true q = rw (q, input_of)
    go false q = rw (q, input_of)

module _ (text : List ℕ) (i : Input) (e : i ≡ input_of text max_listed) where
  pub read_is : {t : Bool} → i.good ≡ t → good_text text max_listed ≡ t
  read_is q = sym (good_is text max_listed) ∙ sym (ap (λ (j : Input). j.good) e) ∙ q

  -- and is what its numbers say
  pub from_numbers : i.good ≡ true → i ≡ input_from (numbers_in text)
  unfolding input_of
  from_numbers y = e ∙ rw (read_is y, input_of)

module _ (text : List ℕ) where
  -- of a text that is not good
  pub make_bad : (i : Input) (t : Tables) → i ≡ input_of text max_listed → i.good ≡ false → record { good = false; outcome = record { built = no_build; tables = t } } ≡ make_of text t
  unfolding input_of make_of
  make_bad i t e b = go (good_text text max_listed) refl
    where
      go : (q : Bool) → good_text text max_listed ≡ q → record { good = false; outcome = record { built = no_build; tables = t } } ≡ make_of text t
      go true q = absurd (false≢true (sym b ∙ ap (λ (j : Input). j.good) e ∙ rw (q, input_of)))
      go false q = rw (q, make_of)

  module _ (i : Input) (e : i ≡ input_of text max_listed) (y : i.good ≡ true) where
    is_good : good_text text max_listed ≡ true
    is_good = read_is text i e y

    count_is : i.count ≡ length (drop 3 (numbers_in text))
    unfolding input_of input_from
    count_is = ap (λ (j : Input). j.count) e ∙ rw (is_good, input_of) (sym (length-drop 3 (numbers_in text)))

    -- the vectors of a good text are no more than its room
    pub count_low : i.count ≤ max_listed
    unfolding good_text numbers_in
    count_low =
        let all = leb (length text) max_text && every good_field (fields (body text)) && leb 3 (length (fields (body text))) && leb (listed text) max_listed in
        let few : listed text ≤ max_listed = leb-true (listed text) max_listed (and_true all (leb (listed text) max_listed) is_good).1 in
        omega (arith, count_is, length-drop 3 (numbers_in text), length-map (fields (body text)) value_of)

    -- the first words afterwards are the vectors
    pub vectors_are : (words : List ℕ) → length words ≡ max_listed → take i.count (vectors_of text words) ≡ drop 3 (numbers_in text)
    unfolding vectors_of
    vectors_are words l = rw (l, is_good, count_is, vectors_of) (take-append_seam (drop 3 (numbers_in text)) (drop (listed text) words))

    pub make_good : (vs : List ℕ) (t : Tables) → vs ≡ drop 3 (numbers_in text) → record { good = true; outcome = build_chosen i.n i.degree i.cells program_allowance vs t } ≡ make_of text t
    unfolding make_of
    make_good vs t v = rw (is_good, v, e, make_of)

-- a law of all that chosen builds leave is one of what lists leave
pub of_builds : (P : Outcome → Type 0) → ((n degree cells : ℕ) (vs : List ℕ) (t : Tables) → P (build_chosen n degree cells program_allowance vs t))
    → (text : List ℕ) (t : Tables) → (make_of text t).good ≡ true → P (make_of text t).outcome
unfolding make_of
of_builds P f text t y = go (good_text text max_listed) refl
  where
    go : (q : Bool) → good_text text max_listed ≡ q → P (make_of text t).outcome
    go true q = let i = input_of text max_listed in rw (q, make_of) (f i.n i.degree i.cells (drop 3 (numbers_in text)) t)
    go false q = absurd (false≢true (sym (rw (q, make_of)) ∙ y))

-- the unit of an accepted list is sound
pub made_sound : (text : List ℕ) (t : Tables) → (make_of text t).good ≡ true → (make_of text t).outcome.built.refusal ≡ 0
    → sound (make_of text t).outcome.built.unit (make_of text t).outcome.tables ≡ true
made_sound =
    of_builds (λ (o : Outcome). o.built.refusal ≡ 0 → sound o.built.unit o.tables ≡ true)
    (λ n degree cells vs t z. (chosen_holds n degree cells program_allowance vs t z).is_sound)
