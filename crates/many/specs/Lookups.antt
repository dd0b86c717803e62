-- Many keys looked up in one call: the answer, and every word of the indices after it.
use Rattle.std.specs.Prelude.{ℕ, zero, suc, cond, Result, Ok, Err, List, [], ◌∷◌, map, ltb, length}
use Rattle.refusal.specs.declared.Refused.{Refused}
use Rattle.refusal.specs.Refusal.{number_of}
use Rattle.lookup.specs.Lookup.{Found}
use Rattle.record.specs.Tables.{over}

-- the refusal of the first key that is refused, and the key's number from 1; 0 and 0 where none is
pub record Many : Type 0 where
  pub refusal : ℕ
  pub place : ℕ

abbrev pub refused_at : ℕ → ℕ → Many
refused_at refusal place = record { refusal = refusal; place = place }

-- no refusal, or one by name with its place
abbrev pub told : Result (Unit {0}) Refused → Many
told (Ok u) = refused_at 0 0
told (Err r) = refused_at (number_of r.refusal) r.place

-- a refusal at a place; where it is 0, what comes after it
unfoldable pub or_else : ℕ → ℕ → Many → Many
or_else zero place rest = rest
or_else (suc r) place rest = refused_at (suc r) place

-- SCOPE 9.5: the refusal of the first key that is refused, with the key's number, the first key numbered i; 0 and 0 for none
unfoldable pub first_refused : (ℕ → Found) → ℕ → List ℕ → Many
unfolding or_else
first_refused look i [] = refused_at 0 0
first_refused look i (x ∷ xs) = or_else (look x).refusal i (first_refused look (suc i) xs)

-- what a call leaves
pub record Left : Type 0 where
  pub answer : Many
  pub indices : List ℕ

abbrev pub left : Many → List ℕ → Left
left r indices = record { answer = r; indices = indices }

-- SCOPE 9.5: each key looked up by itself; words past the keys keep their value
unfoldable pub left_by : (ℕ → Found) → List ℕ → List ℕ → Left
unfolding first_refused
left_by look keys old = left (first_refused look 1 keys) (over (map (λ x. (look x).index) keys) old)

-- SCOPE 9.5: with fewer words than keys refusal 20, place 0, and nothing is written
unfoldable pub lookup_many : (ℕ → Found) → List ℕ → List ℕ → Left
unfolding left_by
lookup_many look keys old = cond (ltb (length old) (length keys)) (left (refused_at 20 0) old) (left_by look keys old)
