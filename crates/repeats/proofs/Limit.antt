-- What is looked at, by the number of words. Assumes nothing.
use Prim.Native.Nat.{ℕ, ◌≤◌, ◌<◌}
use mathlib.Core.Path.{◌≡◌, refl}
use mathlib.Core.List.{List, []}
use lib.ListN.{length}
use borrow.Author.Tests.{le-leb, lt-leb}
use Rattle.lists.specs.First.{repeated}
use Rattle.vectors.specs.Bounds.{max_vectors}
use Rattle.repeats.specs.Repeats.{repeated_in}

pub few : (words : List ℕ) → length words ≤ max_vectors → repeated_in words ≡ repeated words
unfolding repeated_in
few words h = rw (le-leb (length words) max_vectors h)

pub too_many : (words : List ℕ) → max_vectors < length words → repeated_in words ≡ 0
unfolding repeated_in
too_many words h = rw (lt-leb (length words) max_vectors h)

pub none : repeated_in [] ≡ 0
unfolding repeated_in repeated
none = refl
