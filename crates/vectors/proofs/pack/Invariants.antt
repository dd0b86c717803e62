use Rattle.std.proofs.Common.{◌≡◌, ◌+◌, ◌*◌, ◌^◌, ◌<◌, ◌≤◌}
use Rattle.vectors.specs.Word.{pack_in}
use Rattle.vectors.proofs.Words.Runs.{zeros_of}
use Rattle.vectors.proofs.pack.Given as goal

abbrev pub invariant-loop-m : goal.invariant-loop-m
invariant-loop-m l = (l.m < 2 ^ 64) × (l.k ≤ zeros_of 64 l.m) × (l.w + 2 ^ l.k * pack_in 64 l.m l.x ≡ pack_in 64 l.mask l.x)

abbrev pub decreases-loop-m : goal.decreases-loop-m
decreases-loop-m l = l.m
