use Prim.Native.Nat.{ℕ}
use native.Mathlib.Omega.{arith}
use mathlib.Core.Path.{refl, subst}
use lib.ListN.{length}
use Rattle.choice.specs.Inner.Judged.{Judgeable, Judges}
use Rattle.choice.proofs.Counting.Judging.{gain_sum, sheet_pairs, sheet_low, judges_none}
use Rattle.choice.proofs.sheet.Sheet.gain.Goals as goal
use Rattle.choice.proofs.sheet.Sheet.gain.Goals.{Start}

-- the candidate can be judged
known : (c : Start) → Judgeable c.args.self.now.columns.now c.args.self.now.ends.now c.args.self.now.rests.now c.args.self.now.most c.args.i c.args.j
known c = c.args.self.now.judged c.args.i c.args.j c.requires.0 c.requires.1

pub returns-in_default : goal.returns-in_default
returns-in_default c =
    let s = c.args.self.now in
    let sum = gain_sum s.columns.now s.ends.now (length s.rests.now) c.args.i c.args.j _ _ refl refl in
    judges_none _ _ (omega (arith, c.in_default.ensures, sheet_low _ _ _ _ _ _ (known (goal.at.returns-in_default c).Start), sum))

pub paired-requires : goal.paired-requires
paired-requires c = sheet_pairs _ _ _ _ _ _ (known (goal.at.paired-requires c).Start) _ c.in-Some.ensures

pub returns : goal.returns
returns c =
    let s = c.args.self.now in
    let e = gain_sum s.columns.now s.ends.now (length s.rests.now) c.args.i c.args.j _ _ c.in-Some.ensures refl in
    subst (λ (m : ℕ). Judges m c.args.beat c.paired.result) e c.paired.ensures
