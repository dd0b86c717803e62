use Rattle.std.proofs.Common.{◌≡◌, ◌&&◌, drop}
use Rattle.flat.specs.Flat.{in_range, all_in_range}
use Rattle.flat.proofs.all_in_range.Given as goal

abbrev pub invariant-loop-word : goal.invariant-loop-word
invariant-loop-word l = all_in_range l.words ≡ (in_range l.bits && all_in_range (drop l.word-index l.words))
