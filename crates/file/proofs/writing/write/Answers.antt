use Prim.Native.Nat.{ℕ, ◌*◌, ◌%◌, ◌^◌}
use native.Mathlib.Nat.{one-mul}
use native.Mathlib.Numerals.{add-one}
use native.Mathlib.Omega.{arith}
use mathlib.Core.Path.{◌≡◌, sym, ap, ap₂, ◌∙◌}
use mathlib.Core.Bool.{true}
use lib.Pow.{shl_exact}
use lib.Seq.{length-take-le}
use Rattle.vectors.specs.Bounds.{max_inputs}
use Rattle.record.specs.Tables.{lent}
use Rattle.record.specs.Formed.{sound}
use Rattle.block.specs.Block.{block_size}
use Rattle.file.specs.declared.layout.Starts.{Starts}
use Rattle.file.specs.File.{rows_in, words_in, blocks_in}
use Rattle.file.specs.Plan.{plan_of}
use Rattle.file.proofs.Outcomes.{Ranges, ranges, write_unsound, write_short, write_whole}
use Rattle.file.proofs.writing.write.Goals as goal
use Rattle.file.proofs.writing.write.Goals.{After-plan-starts, Else-not-sound}

-- past 14
passed : (c : Else-not-sound) → let a = c.args in sound a.unit (lent a.h.now a.g.now a.aux.now) ≡ true
passed c = sym c.sound.ensures ∙ c.if-not-sound.false

held : (c : Else-not-sound) → let a = c.args in Ranges a.unit (lent a.h.now a.g.now a.aux.now)
held c = ranges _ _ (passed c)

-- the code's number of rows
power : (c : Else-not-sound) → let u = c.args.unit in 1 * 2 ^ u.n1 % 2 ^ max_inputs ≡ 2 ^ u.n1
power c =
    let u = c.args.unit in
    shl_exact {a = 1} 1 u.n1 max_inputs (omega arith) (omega (arith, (held c).side)) ∙ one-mul (2 ^ u.n1)

planned : (c : After-plan-starts) → 1 * 2 ^ c.args.unit.n1 % 2 ^ max_inputs ≡ 2 ^ c.args.unit.n1 → let u = c.args.unit in c.plan-starts.result ≡ plan_of (rows_in u) u.cells (words_in u)
planned c p = let u = c.args.unit in c.plan-starts.ensures ∙ ap₂ (λ (rows words : ℕ). plan_of rows u.cells words) p (add-one u.k)

past_is : (c : After-plan-starts) → 1 * 2 ^ c.args.unit.n1 % 2 ^ max_inputs ≡ 2 ^ c.args.unit.n1 → c.plan-starts.result.past ≡ blocks_in c.args.unit
past_is c p = ap (λ (x : Starts). x.past) (planned c p)

pub returns-then-not-sound : goal.returns-then-not-sound
returns-then-not-sound c = sym (write_unsound _ _ _ (sym c.sound.ensures ∙ c.if-not-sound.true))

pub overflow_shl-rows : goal.overflow_shl-rows
overflow_shl-rows c = omega (arith, (held (goal.at.overflow_shl-rows c).Else-not-sound).side)

pub overflow_add-words : goal.overflow_add-words
overflow_add-words c = omega (arith, (held (goal.at.overflow_add-words c).Else-not-sound).vectors_few)

pub overflow_cast-rows : goal.overflow_cast-rows
overflow_cast-rows c = omega (arith, power (goal.at.overflow_cast-rows c).Else-not-sound, (held (goal.at.overflow_cast-rows c).Else-not-sound).rows_few)

pub overflow_cast-cells : goal.overflow_cast-cells
overflow_cast-cells c = omega (arith, (held (goal.at.overflow_cast-cells c).Else-not-sound).cells_few)

pub overflow_cast-words : goal.overflow_cast-words
overflow_cast-words c = omega (arith, (held (goal.at.overflow_cast-words c).Else-not-sound).vectors_few)

pub overflow_mul-length : goal.overflow_mul-length
overflow_mul-length c = let r = held (goal.at.overflow_mul-length c).Else-not-sound in omega (arith, past_is (goal.at.overflow_mul-length c).After-plan-starts (power (goal.at.overflow_mul-length c).Else-not-sound), r.rows_few, r.cells_few, r.vectors_few)

pub returns-then-target-length : goal.returns-then-target-length
returns-then-target-length c = sym (write_short _ _ (passed (goal.at.returns-then-target-length c).Else-not-sound) c.args.target.now (omega (arith, past_is (goal.at.returns-then-target-length c).After-plan-starts (power (goal.at.returns-then-target-length c).Else-not-sound), c.if-target-length.true)))

pub slice_bounds-fill-end : goal.slice_bounds-fill-end
slice_bounds-fill-end c = sym (length-take-le _ _ (omega (arith, power (goal.at.slice_bounds-fill-end c).Else-not-sound, (held (goal.at.slice_bounds-fill-end c).Else-not-sound).rows_held)))

pub slice_bounds-fill-end-2 : goal.slice_bounds-fill-end-2
slice_bounds-fill-end-2 c = sym (length-take-le _ _ (held (goal.at.slice_bounds-fill-end-2 c).Else-not-sound).cells_held)

pub slice_bounds-fill-end-3 : goal.slice_bounds-fill-end-3
slice_bounds-fill-end-3 c = sym (length-take-le _ _ (omega (arith, (held (goal.at.slice_bounds-fill-end-3 c).Else-not-sound).words_held)))

pub fill-requires : goal.fill-requires
fill-requires c =
    let r = held (goal.at.fill-requires c).Else-not-sound in
    let p = planned (goal.at.fill-requires c).After-plan-starts (power (goal.at.fill-requires c).Else-not-sound) in
    let u = c.args.unit in record {
      sizes = (length-take-le _ _ (omega (arith, power (goal.at.fill-requires c).Else-not-sound, r.rows_held)) ∙ power (goal.at.fill-requires c).Else-not-sound, length-take-le _ _ r.cells_held, length-take-le _ _ (omega (arith, r.words_held)) ∙ add-one u.k);
      few = (omega (arith, r.rows_few), omega (arith, r.cells_few), omega (arith, r.vectors_few));
      room = (ap (λ (x : Starts). x.g) p, ap (λ (x : Starts). x.aux) p, omega (arith, past_is (goal.at.fill-requires c).After-plan-starts (power (goal.at.fill-requires c).Else-not-sound), c.if-target-length.false));
    }

pub returns : goal.returns
returns c =
    write_whole _ _ (passed (goal.at.returns c).Else-not-sound) _ _ _ _ _ (power (goal.at.returns c).Else-not-sound) (add-one _) (ap (λ (n : ℕ). block_size * n) (past_is (goal.at.returns c).After-plan-starts (power (goal.at.returns c).Else-not-sound))) c.if-target-length.false c.fill.ensures
