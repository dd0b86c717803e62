-- The place beside an addition's refusal is the number of a vector or a row, and the refusal's number is at most 40: they are small. Assumes nothing.
use Prim.Native.Nat.{ℕ, suc, ◌^◌, ◌≤◌, ◌<◌}
use native.Mathlib.Omega.{arith}
use mathlib.Core.Path.{◌≡◌}
use mathlib.Core.Bool.{Bool, true, false, not}
use mathlib.Core.List.{map}
use borrow.Author.Tests.{not-false}
use lib.Dec.{eqb, leb, ltb}
use lib.ListN.{length}
use Rattle.lists.specs.First.{has}
use Rattle.vectors.specs.Bounds.{max_vectors}
use Rattle.vectors.specs.Variable.{number_of, row_of}
use Rattle.vectors.proofs.Variables.Numbers.{row_lt}
use Rattle.record.specs.declared.Record.{Record}
use Rattle.record.specs.Record.{kinds_in}
use Rattle.record.specs.Tables.{Tables}
use Rattle.record.proofs.Soundness.{sound_says}
use Rattle.recover.specs.Every.{listed, list_in}
use Rattle.recover.proofs.Every.{listed_formed, listed_few, listed_length, listed_sound}
use Rattle.build.proofs.Refusing.Ladder.{ladder_more, ladder_all, if_passed, refusal_of}
use Rattle.build.proofs.Places.{place_limit, Small, none_small, if_small, first_small, row_low}
use Rattle.add.specs.Add.{refuse_new, check14, check6, check40, check3, check5, check10, add_refusal, add_of}
use Rattle.add.proofs.Adding.Ends.{listed_rungs, End, refuses, goes_in, moves, sticks, ending}

module _ (u : Record) (t : Tables) (x : ℕ) where
  new_small : (m : ℕ) (b : Bool) → m ≤ 40 → u.k ≤ max_vectors → Small 40 (refuse_new m u b)
  new_small m true h k = record { number_low = h; place_low = omega arith }
  new_small m false h k = none_small 40

  refusal_small : Small 40 (add_refusal u t x)
  unfolding add_refusal
  refusal_small =
      ladder_more (Small 40) (check14 u t) (listed_rungs u t x) (if_small 40 14 (not (listed u t)) (omega arith))
      (λ z.
      let L : listed u t ≡ true = not-false _ (if_passed 13 _ z) in
      let k : u.k ≤ max_vectors = (listed_few u t L).0 in
      let beyond : Small 40 (check6 u x) = new_small 6 (leb (2 ^ u.n) x) (omega arith) k in
      let known : Small 40 (check40 u t x) = first_small 40 40 (λ before v. eqb v x) (list_in u t) (omega arith) (omega (arith, listed_length u t L)) in
      let many : Small 40 (check3 u) = if_small 40 3 (leb max_vectors u.k) (omega arith) in
      let short : Small 40 (check5 u t) = if_small 40 5 (ltb (length t.aux) (suc (suc u.k))) (omega arith) in
      let alike : Small 40 (check10 u t x) = new_small 10 (has (number_of (kinds_in u) x) (map (number_of (kinds_in u)) (list_in u t))) (omega arith) k in
      ladder_all (Small 40) (none_small 40) (listed_rungs u t x) (beyond, (known, (many, (short, (alike, tt))))))

  -- so is the row beside 13
  row_listed : listed u t ≡ true → row_of u.n1 (kinds_in u) x < place_limit
  row_listed L = row_low u.n1 _ (listed_formed u t L).bounds.rows_few (row_lt u.n1 (kinds_in u) x (sound_says u t (listed_sound u t L)).rows_in)

  pub add_small : Small 40 (refusal_of (add_of u t x))
  add_small = by (ending u t x)
    where
      by : End u t x → Small 40 (refusal_of (add_of u t x))
      by (refuses r) = rw r.is refusal_small
      by (goes_in r) = rw r.is (none_small 40)
      by (moves m) = rw m.is (none_small 40)
      by (sticks s) = rw s.is (record { number_low = omega arith; place_low = row_listed s.passes.is_listed })
