-- Which texts have a fault, as a predicate.
use Rattle.std.specs.Prelude.{ℕ, ◌≡◌, List, eqb}
use Rattle.input.specs.Input.{max_listed, good_text}
use Rattle.fault.specs.Fault.{fault_of}

-- SCOPE 14.11: no fault is found in a list, and one is found in every other text
abbrev pub FindsFaults : Type 0
FindsFaults = (text : List ℕ) → eqb (fault_of text).cause 0 ≡ good_text text max_listed
