use Prim.Native.Nat.{ℕ, ◌-◌, ◌≤◌, ◌<◌}
use native.Mathlib.Omega.{arith}
use mathlib.Core.Path.{◌≡◌, refl, ap, ◌∙◌}
use mathlib.Core.Bool.{false}
use lib.ListN.{length}
use Rattle.vectors.specs.declared.Kind.{Kind}
use Rattle.vectors.specs.Variable.{earlier, later, faulty}
use Rattle.choice.specs.Choice.{candidates, best_of}
use Rattle.choice.specs.declared.search.Best.{Best}
use Rattle.choice.specs.Inner.Judged.{max_gain, left_by}
use Rattle.choice.specs.Inner.Sheets.{gain_of}
use Rattle.choice.specs.Inner.Search.{best_lines, none_best}
use Rattle.choice.proofs.Choosing.Ties.{best_sound}
use Rattle.choice.proofs.Searching.Best.{going_start, going_more, going_end}
use Rattle.choice.proofs.Searching.Order.{inputs_in, kind_one, kind_two}
use Rattle.choice.proofs.Searching.Lines.{lines_few, lines_best}
use Rattle.choice.proofs.search.best_of.Goals as goal
use Rattle.choice.proofs.search.best_of.Goals.{After-loop-i}

pub loop-i-init : goal.loop-i-init
loop-i-init c = going_start (gain_of c.args.sheet.now) c.args.sheet.now.n c.lines_of-lines.result

pub best_line-b-requires : goal.best_line-b-requires
best_line-b-requires c =
    -- there are no more lines than inputs
    let few : c.lines_of-lines.result ≤ c.args.sheet.now.n = omega (arith, c.lines_of-lines.ensures, lines_few c.args.sheet.now.n c.args.degree c.requires) in
    record { line = omega (arith, few, c.loop-i-test.true); high = c.loop-i.invariant.high }

pub loop-i-preserved : goal.loop-i-preserved
loop-i-preserved c =
    let s = c.args.sheet.now in
    going_more (gain_of s) s.n s.inputs _ c.loop-i.b _ _ c.loop-i.i c.loop-i-test.true c.best_line-b.ensures c.loop-i.invariant

-- ---- after all lines

module _ (c : After-loop-i) where
  abbrev told : ℕ → ℕ → ℕ
  told = gain_of c.args.sheet.now

  -- the best of the candidates
  abbrev goal_kind : Kind
  goal_kind = best_of (left_by c.args.sheet.now.columns.now c.args.sheet.now.ends.now (length c.args.sheet.now.rests.now)) (candidates c.args.sheet.now.n c.args.degree)

  sound : faulty c.args.sheet.now.n goal_kind ≡ false
  sound = best_sound _ c.args.sheet.now.n c.args.degree goal_kind c.requires refl

  known : (c.loop-i.b.i ≡ earlier goal_kind) × (c.loop-i.b.j ≡ later goal_kind)
  known =
      let e = going_end told c.args.sheet.now.n _ c.loop-i.b _ c.loop-i.i c.loop-i-test.false c.loop-i.invariant
      ∙ ap (best_lines told c.args.sheet.now.n none_best 0) c.lines_of-lines.ensures
      ∙ lines_best told max_gain c.args.sheet.now.n (λ i j h l. (c.args.sheet.now.judged i j h l).low) (c.args.sheet.now.n - 1) (omega (arith, c.requires)) c.args.degree in
      (ap (λ (b : Best). b.i) e, ap (λ (b : Best). b.j) e)

  low : (c.loop-i.b.i < 256) × (c.loop-i.b.j < 256)
  low =
      let l = inputs_in c.args.sheet.now.n goal_kind sound in
      (omega (arith, known, l, c.args.sheet.now.inputs), omega (arith, known, l, c.args.sheet.now.inputs))

pub overflow_cast-result : goal.overflow_cast-result
overflow_cast-result c = omega (arith, (low (goal.at.overflow_cast-result c).After-loop-i).1)

pub overflow_cast-result-else-b-eq0 : goal.overflow_cast-result-else-b-eq0
overflow_cast-result-else-b-eq0 c = omega (arith, (low (goal.at.overflow_cast-result-else-b-eq0 c).After-loop-i).0)

pub overflow_cast-result-else-b-eq0-2 : goal.overflow_cast-result-else-b-eq0-2
overflow_cast-result-else-b-eq0-2 c = omega (arith, (low (goal.at.overflow_cast-result-else-b-eq0-2 c).After-loop-i).1)

pub returns-then-b-eq0 : goal.returns-then-b-eq0
returns-then-b-eq0 c =
    kind_one c.args.sheet.now.n (goal_kind (goal.at.returns-then-b-eq0 c).After-loop-i) _ _ (sound (goal.at.returns-then-b-eq0 c).After-loop-i) (known (goal.at.returns-then-b-eq0 c).After-loop-i).0 (known (goal.at.returns-then-b-eq0 c).After-loop-i).1 c.if-b-eq0.true

pub returns-else-b-eq0 : goal.returns-else-b-eq0
returns-else-b-eq0 c =
    kind_two c.args.sheet.now.n (goal_kind (goal.at.returns-else-b-eq0 c).After-loop-i) _ _ (known (goal.at.returns-else-b-eq0 c).After-loop-i).0 (known (goal.at.returns-else-b-eq0 c).After-loop-i).1 c.if-b-eq0.false
