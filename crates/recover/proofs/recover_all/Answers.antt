use Rattle.std.proofs.Common.{ℕ, ◌≡◌, ◌≤◌, ◌+◌, ◌-◌, true, List, slice_set, get_or, arith, sym, ap, ◌∙◌}
use Rattle.lists.proofs.Writing.Storing.{Storing}
use Rattle.vectors.specs.Bounds.{max_vectors}
use Rattle.record.specs.Tables.{lent}
use Rattle.record.specs.Inner.Formed.{WellFormed}
use Rattle.recover.specs.Recover.{first_cell}
use Rattle.recover.specs.Every.{listed, list_in}
use Rattle.recover.proofs.Every.{listed_tested, listed_formed, listed_few, listed_firsts}
use Rattle.recover.proofs.Stored.{into_unlisted, first_some, vectors_more, vectors_end}
use Rattle.recover.proofs.recover_all.Goals as goal
use Rattle.recover.proofs.recover_all.Goals.{Else-not-listed, In-loop-number, After-unwrap_or}

-- past the test
is_listed : (e : Else-not-listed) → listed e.args.unit (lent e.args.h.now e.args.g.now e.args.aux.now) ≡ true
is_listed e = sym e.listed.ensures.value ∙ e.if-not-listed.false

facts : (e : Else-not-listed) → WellFormed e.args.unit (lent e.args.h.now e.args.g.now e.args.aux.now)
facts e = listed_formed _ _ (is_listed e)

few : (e : Else-not-listed) → e.args.unit.k ≤ max_vectors
few e = (listed_few _ _ (is_listed e)).0

-- what stands in the words for the first cells
first_is : (c : In-loop-number) → get_or c.listed.new.firsts c.loop-number.number 0 ≡ first_cell c.args.unit (lent c.args.h.now c.args.g.now c.args.aux.now) c.loop-number.number
first_is c =
    ap (λ (l : List ℕ). get_or l c.loop-number.number 0) c.listed.ensures.firsts_after
    ∙ listed_firsts _ _ (sym c.listed.ensures.value ∙ c.if-not-listed.false) _ c.loop-number.number c.loop-number-test.true

-- a vector more
more : (c : After-unwrap_or) → let a = c.args in Storing (list_in a.unit (lent a.h.now a.g.now a.aux.now)) a.words.now 1 (slice_set c.loop-number.words c.loop-number.number c.unwrap_or.result) (c.loop-number.number + 1 - 1)
more c =
    let a = c.args in
    let l = sym c.listed.ensures.value ∙ c.if-not-listed.false in
    let f = ap (λ (l : List ℕ). get_or l c.loop-number.number 0) c.listed.ensures.firsts_after ∙ listed_firsts _ _ l _ c.loop-number.number c.loop-number-test.true in
    vectors_more _ _ l c.loop-number.number _ (omega arith) c.loop-number-test.true f a.words.now c.loop-number.words c.loop-number.invariant c.from_cell.result
    (c.from_cell.ensures a.g.now a.aux.now (listed_tested _ _ l)) c.unwrap_or.result c.unwrap_or.ensures

pub returns-then-not-listed : goal.returns-then-not-listed
returns-then-not-listed c =
    let n = sym c.listed.ensures.value ∙ c.if-not-listed.true in
    record { value = sym n; words_after = into_unlisted c.args.unit _ c.args.words.now n }

pub offset_bounds-aux-number : goal.offset_bounds-aux-number
offset_bounds-aux-number c = omega (arith, c.loop-number-test.true, few (goal.at.offset_bounds-aux-number c).Else-not-listed)

pub bounds-aux-number : goal.bounds-aux-number
bounds-aux-number c = omega (arith, c.loop-number-test.true, (facts (goal.at.bounds-aux-number c).Else-not-listed).words_held)

pub offset_bounds-firsts-number : goal.offset_bounds-firsts-number
offset_bounds-firsts-number c = omega (arith, c.loop-number-test.true, few (goal.at.offset_bounds-firsts-number c).Else-not-listed)

pub bounds-firsts-number : goal.bounds-firsts-number
bounds-firsts-number c = omega (arith, c.loop-number-test.true, few (goal.at.bounds-firsts-number c).Else-not-listed)

pub overflow_sub-firsts : goal.overflow_sub-firsts
overflow_sub-firsts c =
    let i = (goal.at.overflow_sub-firsts c).In-loop-number in
    first_some _ _ (is_listed (goal.at.overflow_sub-firsts c).Else-not-listed) c.loop-number.number _ (omega arith) c.loop-number-test.true (first_is i)

pub from_cell-requires : goal.from_cell-requires
from_cell-requires c = let f = facts (goal.at.from_cell-requires c).Else-not-listed in record { formed = (f.bounds, f.inputs, f.rows_held) }

pub offset_bounds-words-number : goal.offset_bounds-words-number
offset_bounds-words-number c = omega (arith, c.loop-number-test.true, few (goal.at.offset_bounds-words-number c).Else-not-listed)

pub bounds-words-number : goal.bounds-words-number
bounds-words-number c = omega (arith, c.loop-number-test.true, few (goal.at.bounds-words-number c).Else-not-listed)

pub loop-number-preserved : goal.loop-number-preserved
loop-number-preserved c = more (goal.at.loop-number-preserved c).After-unwrap_or

pub returns-else-not-listed : goal.returns-else-not-listed
returns-else-not-listed c =
    let l = is_listed (goal.at.returns-else-not-listed c).Else-not-listed in
    record { value = sym l; words_after = vectors_end c.args.unit _ l c.args.words.now c.loop-number.words (c.loop-number.number - 1) c.loop-number.invariant (omega arith) }

pub returns-else-not-listed-2 : goal.returns-else-not-listed-2
returns-else-not-listed-2 c =
    let l = is_listed (goal.at.returns-else-not-listed-2 c).Else-not-listed in
    record { value = sym l; words_after = vectors_end c.args.unit _ l c.args.words.now _ (c.loop-number.number + 1 - 1) (more (goal.at.returns-else-not-listed-2 c).After-unwrap_or) (omega arith) }
