-- The first word that equals an earlier one.
use Rattle.std.specs.Prelude.{ℕ, cond, List, leb, length}
use Rattle.lists.specs.First.{repeated}
use Rattle.vectors.specs.Bounds.{max_vectors}

-- its number from 1; 0 for none, and for more words than are looked at
unfoldable pub repeated_in : List ℕ → ℕ
unfolding repeated
repeated_in words = cond (leb (length words) max_vectors) (repeated words) 0
