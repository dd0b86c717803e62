-- SCOPE 20.7: words of so many bytes, and how many a payload holds
use Rattle.std.specs.Prelude.{ℕ, ◌-◌, ◌*◌, ◌≤◌}
use Rattle.std.proofs.Common.{arith}
use Rattle.block.specs.Block.{payload_at, check_at, short_word, long_word, short_words, long_words}

pub record Held (size per : ℕ) : Type 0 where
  pub size_some : 1 ≤ size
  pub size_few : size ≤ 8
  pub some : 1 ≤ per
  pub few : per ≤ 256
  pub fits : size * per ≤ check_at - payload_at

pub short_held : Held short_word short_words
short_held = record { size_some = omega arith; size_few = omega arith; some = omega arith; few = omega arith; fits = omega arith }

pub long_held : Held long_word long_words
long_held = record { size_some = omega arith; size_few = omega arith; some = omega arith; few = omega arith; fits = omega arith }
