-- The vectors of a listed unit, stored one after another. Assumes nothing.
use Prim.Native.Nat.{ℕ, ◌+◌, ◌-◌, ◌≤◌, ◌<◌}
use native.Mathlib.Omega.{arith}
use mathlib.Core.Path.{◌≡◌, refl, ap, ◌∙◌}
use mathlib.Core.Bool.{true, false}
use mathlib.Core.List.{List}
use borrow.Author.Tests.{le-ltb}
use Rattle.std.proofs.Common.{Result, Ok, Err}
use Rattle.std.specs.Result.{result_unwrap_or}
use Rattle.refusal.specs.declared.Refusal.{Refusal}
use lib.ListN.{get_or, set}
use lib.Seq.{sets}
use Rattle.lists.proofs.Writing.Storing.{Storing, storing_more, storing_end}
use Rattle.record.specs.declared.Record.{Record}
use Rattle.record.specs.Tables.{Tables}
use Rattle.recover.specs.Recover.{Recovered, told}
use Rattle.recover.specs.Recover.{first_cell, vector_at, from_cell}
use Rattle.recover.specs.Every.{listed, list_in, list_into}
use Rattle.recover.proofs.Recovery.{from_some, recover_from}
use Rattle.recover.proofs.Every.{listed_tested, listed_length, listed_number}

-- what stands in the words after the call
module _ (u : Record) (t : Tables) (old : List ℕ) where
  pub into_listed : listed u t ≡ true → sets old 1 (list_in u t) ≡ list_into u t old
  unfolding list_into
  into_listed h = rw (h, list_into)

  pub into_unlisted : listed u t ≡ false → old ≡ list_into u t old
  unfolding list_into
  into_unlisted h = rw (h, list_into)

-- beside a refusal the vector is 0
vector_told : (r : Result ℕ Refusal) → result_unwrap_or r 0 ≡ (told r).vector
vector_told (Ok v) = refl
vector_told (Err f) = refl

module _ (u : Record) (t : Tables) (L : listed u t ≡ true) where
  module _ (i number : ℕ) (p : 0 < i) (h : i ≤ u.k) (e : number ≡ first_cell u t i) where
    -- some cell holds the number
    pub first_some : 1 ≤ number
    first_some = omega (arith, e, (listed_number u t L i p h).first)

    -- what is recovered from its first cell is the entry of the list
    entry_is : (r : Recovered) → r ≡ vector_at u t (get_or t.aux i 0) (number - 1) → r.vector ≡ get_or (list_in u t) (i - 1) 0
    entry_is r q =
        let f = recover_from u t i (listed_tested u t L) (rw (le-ltb i 1 p, le-ltb u.k i h)) in
        let z : number ≡ 0 → ⊥ = λ z. omega (arith, first_some) in
        ap (λ (r : Recovered). r.vector) (q ∙ from_some u t (get_or t.aux i 0) number z ∙ ap (from_cell u t (get_or t.aux i 0)) e ∙ f ∙ (listed_number u t L i p h).answer)

    pub vectors_more : (old words : List ℕ) → Storing (list_in u t) old 1 words (i - 1) → (r : Result ℕ Refusal) → told r ≡ vector_at u t (get_or t.aux i 0) (number - 1)
        → (v : ℕ) → v ≡ result_unwrap_or r 0 → Storing (list_in u t) old 1 (set words i v) (i + 1 - 1)
    vectors_more old words s r q v e' =
        let n : 1 + (i - 1) ≡ i = omega arith in
        let m : i - 1 + 1 ≡ i + 1 - 1 = omega arith in
        rw (n, m) at (storing_more (list_in u t) old 1 0 v words (i - 1) (omega (arith, listed_length u t L)) (e' ∙ vector_told r ∙ entry_is (told r) q) s)

  pub vectors_end : (old words : List ℕ) (i : ℕ) → Storing (list_in u t) old 1 words i → u.k ≤ i → words ≡ list_into u t old
  vectors_end old words i s h = storing_end (list_in u t) old 1 words i (omega (arith, listed_length u t L)) s ∙ into_listed u t old L
