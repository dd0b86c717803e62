-- The place of a fault is at most one past the longest text. Assumes nothing.
use Prim.Native.Nat.{ℕ, zero, suc, ◌+◌, ◌≤◌, ◌<◌}
use native.Mathlib.Omega.{arith}
use mathlib.Core.Path.{◌≡◌, refl, sym, ◌∙◌}
use mathlib.Core.List.{List, [], ◌∷◌}
use Rattle.input.specs.Input.{max_text}
use Rattle.fault.specs.declared.State.{State}
use Rattle.fault.specs.Fault.{Fault}
use Rattle.fault.specs.Fault.{at_start, cause_at, cause_end, past, fault_at, fault_from, fault_of}
use Rattle.fault.specs.Inner.Within.{Within}
use Rattle.fault.proofs.Scanning.Causes.{clean}
use Rattle.fault.proofs.Scanning.Reading.{fault_on, fault_here, past_within}

-- a place that can be told, and a byte
pub record Told (f : Fault) : Type 0 where
  pub line : f.line ≤ max_text + 1
  pub column : f.column ≤ max_text + 1
  pub byte : f.byte < 256

at_told : (s : State) (c b : ℕ) → Within s → s.at ≤ max_text → Told (fault_at s c b)
at_told s c b w h = record { line = omega (arith, w.lines); column = omega (arith, w.columns); byte = omega arith }

from_told : (bs : List ℕ) (s : State) → Within s → s.at ≤ max_text → Told (fault_from s bs)
unfolding fault_from past
from_told [] s w h = at_told s (cause_end s) 0 w h
from_told (b ∷ bs) s w h = go (cause_at s b) refl (from_told bs (past s b) (past_within s b w))
  where
    go : (c : ℕ) → cause_at s b ≡ c → (s.at + 1 ≤ max_text → Told (fault_from (past s b) bs)) → Told (fault_from s (b ∷ bs))
    go zero e r = rw (fault_on s b bs e) (r (omega (arith, (clean s b e).short)))
    go (suc c) e r = rw (fault_here s b bs (λ z. omega (arith, sym e ∙ z))) (at_told s (cause_at s b) b w h)

pub fault_told : (text : List ℕ) → Told (fault_of text)
unfolding fault_of
fault_told text = from_told text at_start (record { lines = omega arith; columns = omega arith; numbers = omega arith }) (omega arith)
