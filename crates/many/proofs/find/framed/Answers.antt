use mathlib.Core.Path.{◌≡◌, refl}
use native.Mathlib.Omega.{arith}
use lib.ListN.{length}
use Rattle.vectors.proofs.Variables.Numbers.{kinds_length}
use Rattle.many.proofs.find.framed.Goals as goal
use Rattle.many.proofs.find.framed.Goals.{Start}

sized : (s : Start) → length s.args.unit.variables ≡ 24
sized s = s.well_formed.0.1.1.1.1.1.1.1.1.1.1.0.1.0.1

pub returns : goal.returns
returns c =
    let u = c.args.unit in
    record {
      kinds = kinds_length u.variables u.p (omega (arith, sized (goal.at.returns c).Start, c.requires.few));
      rows_in = c.requires.rows_in;
      columns_few = c.requires.columns_few;
      last = c.last.ensures;
      shift = refl;
      columns = c.last-2.ensures;
      rows = c.last-3.ensures;
      cells = refl;
      k = refl;
    }
