use Rattle.std.proofs.Common.{ℕ, ◌≡◌, ◌≤◌, ◌+◌, true, List, get_or, arith, sym, ap, ◌∙◌}
use lib.Seq.{length-take-le}
use Rattle.vectors.specs.Bounds.{max_vectors}
use Rattle.record.specs.Tables.{lent}
use Rattle.record.specs.Formed.{well_formed, sound}
use Rattle.record.specs.Inner.Formed.{WellFormed}
use Rattle.record.proofs.Formed.{well_formed_facts, few_words}
use Rattle.record.proofs.Soundness.{sound_says}
use Rattle.recover.specs.Every.{firsts_in}
use Rattle.recover.proofs.Firsts.{sound_firsts, unsound_firsts}
use Rattle.recover.proofs.Giving.{Turn, unsound_listed, giving_end, turn_none, turn_out, turn_more}
use Rattle.recover.proofs.listed.Goals as goal
use Rattle.recover.proofs.listed.Goals.{After-first_cells, Else-not-sound, In-loop-i, then-number-eq0-via-then-number-eq0, then-number-eq0-via-else-number-eq0+then-not-in_chart}

-- where the tests before the loop were passed
is_sound : (c : Else-not-sound) → sound c.args.unit (lent c.args.h.now c.args.g.now c.args.aux.now) ≡ true
is_sound c = sym c.sound.ensures ∙ c.if-not-sound.false

formed : (c : Else-not-sound) → well_formed c.args.unit (lent c.args.h.now c.args.g.now c.args.aux.now) ≡ true
formed c = (sound_says c.args.unit _ (is_sound c)).well_formed_lem

facts : (c : Else-not-sound) → WellFormed c.args.unit (lent c.args.h.now c.args.g.now c.args.aux.now)
facts c = well_formed_facts c.args.unit _ (formed c)

-- what stands in the words for the first cells
firsts_are : (c : After-first_cells) → c.first_cells.new.firsts ≡ firsts_in c.args.unit (lent c.args.h.now c.args.g.now c.args.aux.now) c.args.firsts.now
firsts_are c = c.first_cells.ensures ∙ sound_firsts c.args.unit _ c.args.firsts.now (sym c.sound.ensures ∙ c.if-not-sound.false)

-- the number of a turn
turn : (c : In-loop-i) → Turn c.args.unit (lent c.args.h.now c.args.g.now c.args.aux.now) c.loop-i.i (get_or c.first_cells.new.firsts c.loop-i.i 0)
turn c =
    record {
      is_sound = sym c.sound.ensures ∙ c.if-not-sound.false;
      giving = c.loop-i.invariant;
      inside = omega arith;
      number_is = ap (λ (xs : List ℕ). get_or xs c.loop-i.i 0) c.first_cells.ensures;
    }

index_low : (c : In-loop-i) → c.loop-i.i ≤ max_vectors
index_low c =
    let w = few_words c.args.unit _ (sound_says c.args.unit _ (turn c).is_sound).well_formed_lem in
    omega (arith, c.loop-i-test.true, w.0)

pub returns-then-not-sound : goal.returns-then-not-sound
returns-then-not-sound c =
    let n = sym c.sound.ensures ∙ c.if-not-sound.true in
    record { value = unsound_listed c.args.unit _ n; firsts_after = unsound_firsts c.args.unit _ c.args.firsts.now n }

pub slice_bounds-first_cells-end : goal.slice_bounds-first_cells-end
slice_bounds-first_cells-end c = sym (length-take-le c.args.unit.cells c.args.g.now (facts c).cells_held)

pub first_cells-requires : goal.first_cells-requires
first_cells-requires c =
    let e = (goal.at.first_cells-requires c).Else-not-sound in
    rw (length-take-le c.args.unit.cells c.args.g.now (facts e).cells_held) (few_words c.args.unit _ (formed e)).1

pub offset_bounds-firsts-i : goal.offset_bounds-firsts-i
offset_bounds-firsts-i c = omega (arith, index_low c)

pub bounds-firsts-i : goal.bounds-firsts-i
bounds-firsts-i c = omega (arith, index_low (goal.at.bounds-firsts-i c).In-loop-i)

pub bounds-aux-i : goal.bounds-aux-i
bounds-aux-i c = omega (arith, c.loop-i-test.true, (facts (goal.at.bounds-aux-i c).Else-not-sound).words_held)

pub in_chart-requires : goal.in_chart-requires
in_chart-requires c =
    let f = facts (goal.at.in_chart-requires c).Else-not-sound in
    record { bounds = f.bounds; rows = f.rows_held }

pub returns-then-number-eq0 : goal.returns-then-number-eq0
returns-then-number-eq0 c =
    let t = turn (goal.at.returns-then-number-eq0 c).In-loop-i in
    record {
      value = elim c.then-number-eq0.branch [
        | then-number-eq0-via-then-number-eq0 w ↦ turn_none t w.if-number-eq0.true
        | then-number-eq0-via-else-number-eq0+then-not-in_chart w ↦ turn_out t w.if-number-eq0.false _ w.in_chart.ensures w.if-not-in_chart.true
      ];
      firsts_after = firsts_are (goal.at.returns-then-number-eq0 c).After-first_cells;
    }

pub loop-i-preserved : goal.loop-i-preserved
loop-i-preserved c = turn_more (turn (goal.at.loop-i-preserved c).In-loop-i) c.if-number-eq0.false _ c.in_chart.ensures c.if-not-in_chart.false

pub returns-else-not-sound : goal.returns-else-not-sound
returns-else-not-sound c =
    record {
      value = giving_end c.args.unit _ (is_sound (goal.at.returns-else-not-sound c).Else-not-sound) c.loop-i.i c.loop-i.invariant c.loop-i-test.false;
      firsts_after = firsts_are (goal.at.returns-else-not-sound c).After-first_cells;
    }

pub returns-else-not-in_chart : goal.returns-else-not-in_chart
returns-else-not-in_chart c =
    let g = turn_more (turn (goal.at.returns-else-not-in_chart c).In-loop-i) c.if-number-eq0.false _ c.in_chart.ensures c.if-not-in_chart.false in
    record {
      value = giving_end c.args.unit _ (is_sound (goal.at.returns-else-not-in_chart c).Else-not-sound) (c.loop-i.i + 1) g (omega arith);
      firsts_after = firsts_are (goal.at.returns-else-not-in_chart c).After-first_cells;
    }
