use Prim.Native.Nat.{◌+◌, ◌*◌, ◌<◌}
use mathlib.Core.Path.{◌≡◌}
use lib.ListN.{length, take, drop}
use Rattle.std.specs.Iterator.Adapters.{enumerate_source, enumerate_count}
use Rattle.std.specs.Slice.Iter.{chunks_rest, chunks_size}
use Rattle.rows.specs.Inner.Taken.{Taken}
use Rattle.rows.proofs.room.take_cells.Given as goal

abbrev pub invariant-loop-q : goal.invariant-loop-q
invariant-loop-q l = record {
  size : chunks_size (enumerate_source l.q-iterator) ≡ 64;
  rest : chunks_rest (enumerate_source l.q-iterator) ≡ drop (64 * enumerate_count l.q-iterator) l.g;
  few : 64 * enumerate_count l.q-iterator < length l.g + 64;
  taken : Taken (take (64 * enumerate_count l.q-iterator) l.g) l.taken;
}
