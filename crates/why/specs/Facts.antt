-- What the line of a text says of it, as predicates.
use Rattle.std.specs.Prelude.{ℕ, ◌≤◌, ◌<◌, ◌≡◌, true, List, eqb, length, drop}
use Rattle.input.specs.Input.{max_listed, good_text, numbers_in}
use Rattle.answer.specs.Make.{roomy, make_of}
use Rattle.fault.specs.Fault.{fault_of}
use Rattle.why.specs.Why.{vector_at, first_equal, why_by, why_of}

-- SCOPE 14.11: the line is that of a fault exactly where there is one
abbrev pub GoesByFault : Type 0
GoesByFault = (text : List ℕ) → why_of text ≡ why_by (eqb (fault_of text).cause 0) text

-- of the vectors, vector first is earlier than vector place, equals it, and is the first that does
pub record Alike (vs : List ℕ) (first place : ℕ) : Type 0 where
  pub some : 0 < first
  pub earlier : first < place
  pub listed : place ≤ length vs
  pub equal : vector_at vs first ≡ vector_at vs place
  pub none_before : (i : ℕ) → 0 < i → i < first → vector_at vs i ≡ vector_at vs place → ⊥

-- SCOPE 14.13: the second vector that is named beside refusal 7
abbrev pub NamesEarlier : Type 0
NamesEarlier =
    (text : List ℕ) → good_text text max_listed ≡ true → (make_of text roomy).outcome.built.refusal ≡ 7
    → let vs = drop 3 (numbers_in text) in let place = (make_of text roomy).outcome.built.place in Alike vs (first_equal (vector_at vs place) vs) place
