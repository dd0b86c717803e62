-- What the tests of a well-formed unit say. Assumes nothing.
use Prim.Native.Nat.{ℕ, suc, ◌-◌, ◌^◌, ◌≤◌}
use mathlib.Core.Path.{◌≡◌, refl, sym, ◌∙◌}
use mathlib.Core.Bool.{Bool, true, false, not, ◌&&◌}
use Rattle.std.specs.Prelude.{Option, None, Some}
use Rattle.std.specs.Option.{is_some}
use Rattle.lists.specs.First.{place_number}
use native.Mathlib.Omega.{arith}
use borrow.Author.Tests.{ltb-true, ltb-false, leb-true, eqb-true, not-true, ne_eqb}
use lib.Count.{ones}
use lib.Dec.{eqb, ltb}
use Rattle.lists.proofs.Tests.{and_true, and_unit, or_false}
use Rattle.lists.proofs.Finding.NonePass.{none_all}
use Rattle.vectors.specs.Variable.{faulty, first_faulty}
use Rattle.record.specs.declared.Record.{Record}
use Rattle.vectors.specs.Bounds.{max_inputs, max_vectors, max_cells, max_variables, max_side, outside, too_many}
use Rattle.record.specs.Record.{kinds_in}
use Rattle.record.specs.Tables.{Tables}
use Rattle.record.specs.Formed.{is_in_bounds, right_inputs, long_enough, well_formed, framed_by}
use Rattle.record.specs.Inner.Formed.{InBounds, RightInputs, WellFormed}

-- what is not outside is low to high
pub inside : (low high x : ℕ) → outside low high x ≡ false → (low ≤ x) × (x ≤ high)
inside low high x h = let o = or_false _ _ h in (ltb-false x low o.0, ltb-false high x o.1)

-- a place that is none, as its number
pub none_is : (o : Option ℕ) (b : Bool) → is_some o ≡ not b → b ≡ eqb (place_number o) 0
none_is None true e = refl
none_is None false e = cc
none_is (Some i) true e = cc
none_is (Some i) false e = sym (ne_eqb (suc i) 0 (λ z. omega arith))

-- variables that are not too many
pub record Few (p n1 : ℕ) : Type 0 where
  pub all_few : p ≤ max_variables
  pub rows_in : n1 ≤ p
  pub rows_few : n1 ≤ max_side
  pub columns_few : p - n1 ≤ max_side

pub few : (p n1 : ℕ) → too_many p n1 ≡ false → Few p n1
few p n1 h =
    let c = or_false _ _ h in
    let b = or_false _ _ c.0 in
    let a = or_false _ _ b.0 in
    record {
      all_few = ltb-false max_variables p a.0;
      rows_in = ltb-false p n1 a.1;
      rows_few = ltb-false max_side n1 b.1;
      columns_few = ltb-false max_side (p - n1) c.1;
    }

-- what the tests of the numbers say
pub record Numbers (u : Record) : Type 0 where
  pub inputs : (1 ≤ u.n) × (u.n ≤ max_inputs)
  pub vectors : (1 ≤ u.k) × (u.k ≤ max_vectors)
  pub cells : (1 ≤ u.cells) × (u.cells ≤ max_cells)
  pub within : u.p ≤ u.n
  pub sides : Few u.p u.n1

pub numbers : (u : Record) → is_in_bounds u ≡ true → Numbers u
numbers u h =
    let split = and_true _ _ h in
    let all = and_true _ _ split.0 in
    let words = and_true _ _ all.0 in
    let n = and_true _ _ words.0 in
    record {
      inputs = inside 1 max_inputs u.n (not-true _ n.0);
      vectors = inside 1 max_vectors u.k (not-true _ n.1);
      cells = inside 1 max_cells u.cells (not-true _ words.1);
      within = leb-true _ _ all.1;
      sides = few u.p u.n1 (not-true _ split.1);
    }

pub in_bounds : (u : Record) → is_in_bounds u ≡ true → InBounds u
in_bounds u h =
    let b = numbers u h in
    let s = b.sides in
    record { inputs = b.inputs.1; within = b.within; few = s.all_few; rows_in = s.rows_in; rows_few = s.rows_few; columns_few = s.columns_few }

right_inputs_lem : (u : Record) → right_inputs u ≡ true → RightInputs u
right_inputs_lem u h =
    let within = and_true _ _ h in
    let first = and_true _ _ within.0 in
    record {
      right = none_all (faulty u.n) (kinds_in u) (eqb-true _ _ first.0);
      kept_number = eqb-true _ _ first.1;
      kept_in = ltb-true _ _ within.1;
    }

-- a unit that passes the tests has what they say
pub well_formed_facts : (u : Record) (t : Tables) → well_formed u t ≡ true → WellFormed u t
unfolding well_formed
well_formed_facts u t h =
    let long = and_true _ _ h in
    let words = and_true _ _ long.1 in
    let rows = and_true _ _ words.0 in
    let right = and_true _ _ long.0 in
    record {
      bounds = in_bounds u right.0;
      inputs = right_inputs_lem u right.1;
      rows_held = leb-true _ _ rows.0;
      cells_held = leb-true _ _ rows.1;
      words_held = ltb-true _ _ words.1;
    }

and_none : (a : Bool) → (a && false) ≡ false
and_none true = refl
and_none false = refl

-- ---- the variables tested last

module _ (u : Record) (t : Tables) where
  formed_is : well_formed u t ≡ framed_by u t && eqb (first_faulty u.n (kinds_in u)) 0
  unfolding well_formed framed_by
  formed_is = last (is_in_bounds u) (eqb (first_faulty u.n (kinds_in u)) 0) (eqb (ones u.kept) (u.n - u.p)) (ltb u.kept (2 ^ u.n)) (long_enough u t)
    where
      last : (a b c d e : Bool) → (a && (b && c && d) && e) ≡ (a && (c && d) && e) && b
      last false b c d e = refl
      last true false c d e = sym (and_none ((c && d) && e))
      last true true c d e = sym (and_unit ((c && d) && e))

  -- the tests up to them
  pub framed_bounds : framed_by u t ≡ true → InBounds u
  unfolding framed_by
  framed_bounds f = in_bounds u (and_true _ _ (and_true _ _ f).0).0

  pub formed_not : framed_by u t ≡ false → well_formed u t ≡ false
  formed_not f = formed_is ∙ rw f

  pub formed_right : (b : Bool) → framed_by u t ≡ true → b ≡ eqb (first_faulty u.n (kinds_in u)) 0 → b ≡ well_formed u t
  formed_right b f e = e ∙ sym (formed_is ∙ rw f)

pub formed_numbers : (u : Record) (t : Tables) → well_formed u t ≡ true → Numbers u
unfolding well_formed
formed_numbers u t h = numbers u (and_true (is_in_bounds u) (right_inputs u) (and_true (is_in_bounds u && right_inputs u) (long_enough u t) h).0).0

-- few vectors and cells
pub few_words : (u : Record) (t : Tables) → well_formed u t ≡ true → (u.k ≤ max_vectors) × (u.cells ≤ max_cells)
few_words u t h = let b = formed_numbers u t h in (b.vectors.1, b.cells.1)
