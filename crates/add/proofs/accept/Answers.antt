use native.Mathlib.Numerals.{add-one}
use Prim.Native.Nat.{ℕ}
use mathlib.Core.Path.{ap}
use lib.ListN.{set}
use Rattle.add.proofs.accept.Goals as goal

pub returns : goal.returns
returns c = record {
  value = c.amended.ensures;
  aux_after = ap (λ (i : ℕ). set c.args.aux.now i c.args.word) (add-one c.args.unit.k);
}
