use native.Mathlib.Omega.{arith}
use Prim.Native.Nat.{min}
use mathlib.Core.Path.{◌≡◌, refl, ◌∙◌}
use lib.ListN.{length}
use Rattle.std.specs.Iterator.Adapters.{enumerate_source}
use Rattle.std.specs.Slice.Iter.{chunks_rest}
use Rattle.rows.proofs.Taken.Gathering.{taken_none, taken_chunk}
use Rattle.rows.proofs.room.take_cells.Goals as goal

pub loop-q-init : goal.loop-q-init
loop-q-init c =
    rw (c.into_iter-q-iterator.ensures.into_iter_gives, c.enumerate-q-items.ensures.source, c.enumerate-q-items.ensures.count, c.chunks.ensures.rest, c.chunks.ensures.size)
    (record { size = refl; rest = refl; few = omega arith; taken = taken_none c.args.g.now _ c.requires.blank })

pub loop-q-preserved : goal.loop-q-preserved
loop-q-preserved c =
    let s = c.in-Some.ensures.steps in
    let v = c.loop-q.invariant in
    let n : length c.in-Some.cells.now ≡ min 64 (length (chunks_rest (enumerate_source c.loop-q.q-iterator))) = rw v.size at s.0.1.1 in
    let k = taken_chunk _ _ _ _ _ _ _ v.rest s.0.1.0 n s.0.1.2 c.requires.inside v.taken c.bits_of.ensures in
    rw (s.2, s.1) (record { size = s.0.0 ∙ v.size; rest = k.left; few = k.few; taken = k.bits_are })
