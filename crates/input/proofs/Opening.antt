-- Bytes that begin with a word. Assumes nothing.
use Prim.Native.Nat.{ℕ, ◌≤◌}
use native.Mathlib.Omega.{arith}
use mathlib.Core.Path.{◌≡◌, refl, ap}
use mathlib.Core.Bool.{Bool, true, false≢true, ◌&&◌}
use mathlib.Core.List.{List, [], ◌∷◌}
use lib.Dec.{eqb}
use lib.ListN.{length}
use Rattle.std.specs.List.{starts_with}
use Rattle.lists.proofs.Tests.{and_true}
use Rattle.input.specs.Opens.{opens}

-- the library's word
pub opens_is : (word bytes : List ℕ) → starts_with eqb bytes word ≡ opens word bytes
unfolding opens
opens_is [] bytes = refl
opens_is (w ∷ ws) [] = refl
opens_is (w ∷ ws) (b ∷ bs) = ap (λ (t : Bool). eqb w b && t) (opens_is ws bs)

-- bytes that begin with a word are as many at least
pub opens_long : (word bytes : List ℕ) → opens word bytes ≡ true → length word ≤ length bytes
unfolding opens
opens_long [] bytes h = omega arith
opens_long (w ∷ ws) [] h = absurd (false≢true h)
opens_long (w ∷ ws) (b ∷ bs) h = omega (arith, opens_long ws bs (and_true (eqb w b) (opens ws bs) h).1)
