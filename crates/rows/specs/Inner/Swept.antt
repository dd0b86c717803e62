-- How the sweeps over the rows leave H and G.
use Rattle.std.specs.Prelude.{ℕ, ◌≡◌, List, replicate, Result, Ok, Err}
use Rattle.rows.specs.Answer.{cares_of, left, settled, Placed}
use Rattle.rows.specs.Told.{stop_told, told}
use Rattle.rows.specs.Inner.Chains.{WayBack}
use Rattle.rows.specs.declared.Stop.{Stop}

-- the placing of n rows over the cells g₀ ends as said, once the rows that are placed are taken back
pub record Ended (a owner : ℕ) (ws : List ℕ) (n : ℕ) (g₀ h g : List ℕ) (placed : Placed) : Type 0 where
  pub way : WayBack ws g₀ h g
  pub ends : left placed (replicate n 0) g₀ ≡ settled a (cares_of owner ws) n g₀

-- all rows are placed, or it ends otherwise
abbrev pub Swept : ℕ → ℕ → List ℕ → ℕ → List ℕ → List ℕ → List ℕ → Result ℕ Stop → Type 0
Swept a owner ws n g₀ h g (Ok tries) = left (told (Ok tries)) h g ≡ settled a (cares_of owner ws) n g₀
Swept a owner ws n g₀ h g (Err stop) = Ended a owner ws n g₀ h g (stop_told stop)
