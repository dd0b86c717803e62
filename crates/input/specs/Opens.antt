-- A text that begins with a word.
use Rattle.std.specs.Prelude.{ℕ, Bool, true, false, ◌&&◌, List, [], ◌∷◌, eqb}

-- whether the bytes begin with the word
unfoldable pub opens : List ℕ → List ℕ → Bool
opens [] bytes = true
opens (w ∷ ws) [] = false
opens (w ∷ ws) (b ∷ bs) = eqb w b && opens ws bs
