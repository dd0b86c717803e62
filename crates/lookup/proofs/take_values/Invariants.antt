use Rattle.std.proofs.Common.{◌≡◌, false, length}
use lib.Seq.{slice}
use Rattle.lists.specs.Members.{All}
use Rattle.vectors.specs.Variable.{faulty, kinds_of, number_of}
use Rattle.lookup.proofs.take_values.Given as goal

abbrev pub invariant-loop-i : goal.invariant-loop-i
invariant-loop-i l = record {
  places : length l.variables ≡ 24;
  value : l.number ≡ number_of (slice l.i l.p (kinds_of l.variables)) l.x;
  right : All (λ k. faulty l.n k ≡ false) (slice l.i l.p (kinds_of l.variables));
}
