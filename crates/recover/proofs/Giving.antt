-- The numbers of a sound unit tested one after another: whether recovery gives a vector for each. Assumes nothing.
use Prim.Native.Nat.{ℕ, suc, ◌+◌, ◌-◌, ◌≤◌, ◌<◌}
use native.Mathlib.Numerals.{add-one}
use native.Mathlib.Omega.{arith}
use mathlib.Core.Path.{◌≡◌, refl, sym, ◌∙◌}
use mathlib.Core.Bool.{Bool, true, false, ◌&&◌}
use borrow.Author.Tests.{le-ltb}
use lib.Dec.{eqb}
use lib.ListN.{get_or, take}
use Rattle.vectors.specs.Bounds.{max_words}
use Rattle.record.specs.declared.Record.{Record}
use Rattle.record.specs.Tables.{Tables}
use Rattle.record.specs.Formed.{well_formed, sound}
use Rattle.record.proofs.Formed.{few_words}
use Rattle.record.proofs.Soundness.{sound_says}
use Rattle.recover.specs.Recover.{first_cell, in_chart, vector_at, from_cell, recover_of}
use Rattle.recover.specs.Every.{all_given, listed, firsts_from}
use Rattle.recover.proofs.Firsts.{firsts_of}
use Rattle.recover.proofs.Recovery.{from_none, from_some, recover_from}
use Rattle.recover.proofs.Every.{listed_sound}

module _ (u : Record) (t : Tables) where
  -- at the head of the loop: the numbers below i are given
  pub record Giving (i : ℕ) : Type 0 where
    pub low : 0 < i
    pub is : all_given u t 1 u.k ≡ all_given u t i (u.k + 1 - i)

  -- in a turn: number is what stands in the words of the first cells for i
  pub record Turn (i number : ℕ) : Type 0 where
    pub is_sound : sound u t ≡ true
    pub giving : Giving i
    pub inside : i ≤ u.k
    pub number_is : number ≡ get_or (firsts_from (take u.cells t.g) 0 max_words) i 0

  pub unsound_listed : sound u t ≡ false → false ≡ listed u t
  unsound_listed f = go (listed u t) refl
    where
      go : (b : Bool) → listed u t ≡ b → false ≡ b
      go true e = sym f ∙ listed_sound u t e
      go false e = refl

  pub giving_none : Giving 1
  giving_none = let e : u.k + 1 - 1 ≡ u.k = omega arith in record { low = omega arith; is = rw e }

  module _ (s : sound u t ≡ true) where
    listed_is : listed u t ≡ all_given u t 1 u.k
    unfolding listed
    listed_is = rw (sound_says u t s).well_formed_lem

    -- recovery with a cell and a word refuses nothing where they are in the chart
    at_given : (word cell : ℕ) → eqb (vector_at u t word cell).refusal 0 ≡ in_chart u t.h word cell
    unfolding vector_at
    at_given word cell = go (in_chart u t.h word cell) refl
      where
        go : (b : Bool) → in_chart u t.h word cell ≡ b → eqb (vector_at u t word cell).refusal 0 ≡ b
        go true e = rw (e, s, vector_at)
        go false e = rw (e, vector_at)

    pub giving_end : (i : ℕ) → Giving i → u.k < i → true ≡ listed u t
    unfolding all_given
    giving_end i g h = let e : u.k + 1 - i ≡ 0 = omega arith in sym (listed_is ∙ g.is ∙ rw e)

module _ {u : Record} {t : Tables} {i number : ℕ} (T : Turn u t i number) where
  formed : well_formed u t ≡ true
  formed = (sound_says u t T.is_sound).well_formed_lem

  first_is : number ≡ first_cell u t i
  first_is = T.number_is ∙ firsts_of (take u.cells t.g) max_words i (omega (arith, (few_words u t formed).0, T.inside))

  abbrev word : ℕ
  word = get_or t.aux i 0

  recover_is : from_cell u t word number ≡ recover_of u t i
  recover_is = rw first_is (recover_from u t i formed (rw (le-ltb i 1 T.giving.low, le-ltb u.k i T.inside)))

  listed_next : listed u t ≡ (eqb (from_cell u t word number).refusal 0 && all_given u t (suc i) (u.k + 1 - suc i))
  unfolding all_given
  listed_next =
      let q : u.k + 1 - i ≡ suc (u.k + 1 - suc i) = omega (arith, T.inside) in
      listed_is u t T.is_sound ∙ T.giving.is ∙ rw (q, recover_is)

  pub turn_none : number ≡ 0 → false ≡ listed u t
  turn_none z = sym (listed_next ∙ rw (← from_none u t word number z))

  module _ (n : number ≡ 0 → ⊥) (b : Bool) (q : b ≡ in_chart u t.h word (number - 1)) where
    given_is : eqb (from_cell u t word number).refusal 0 ≡ b
    given_is = rw (← from_some u t word number n) (at_given u t T.is_sound word (number - 1) ∙ sym q)

    pub turn_out : b ≡ false → false ≡ listed u t
    turn_out z = sym (listed_next ∙ rw (given_is, z))

    pub turn_more : b ≡ true → Giving u t (i + 1)
    turn_more z =
        rw (add-one i)
        (record { low = omega arith; is = sym (listed_is u t T.is_sound) ∙ listed_next ∙ rw (given_is, z) })
