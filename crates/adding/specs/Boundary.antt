-- Demand 2 of the functions for C, step by step (SCOPE 22.6).
use Rattle.std.specs.Prelude.{ℕ, ◌/◌, ◌≤◌, ◌≡◌, List, [], ◌∷◌, ◌++◌, length, take}
use Rattle.vectors.specs.Bounds.{max_variables}
use Rattle.record.specs.Tables.{Tables}
use Rattle.file.specs.File.{longest_file}
use Rattle.bridge.specs.Calls.{left, build_call, given_call, write_call, read_call}
use Rattle.bridge.specs.Boundary.{Exact}
use Rattle.adding.specs.Calls.{add_call}

-- the bytes that igu_write puts into a target
abbrev pub file_bytes : List ℕ → Tables → List ℕ → List ℕ
file_bytes words t target = let f = write_call words t target in take (f.answer / 256) f.target

-- a list of vectors of n bits, and the record and the tables that calls have left of it, each with the answer 0
pub data ByCalls (n : ℕ) : List ℕ → List ℕ → Tables → Type 0 where
  -- igu_build
  built : (degree cells allowance : ℕ) (vs : List ℕ) (t : Tables) → (build_call n degree cells allowance vs t).answer ≡ 0
      → ByCalls n vs (build_call n degree cells allowance vs t).words (build_call n degree cells allowance vs t).tables
  -- igu_build_given
  given : (p n1 cells allowance : ℕ) (variables vs : List ℕ) (t : Tables) → length variables ≡ max_variables → (given_call n p n1 cells allowance variables vs t).answer ≡ 0
      → ByCalls n vs (given_call n p n1 cells allowance variables vs t).words (given_call n p n1 cells allowance variables vs t).tables
  -- igu_add: one vector more
  added : {vs words : List ℕ} {t : Tables} → ByCalls n vs words t → (x : ℕ) → (add_call words t x).answer ≡ 0
      → ByCalls n (vs ++ (x ∷ [])) (add_call words t x).words (add_call words t x).tables
  -- igu_write into a target that is long enough, and igu_read of those bytes
  carried : {vs words : List ℕ} {t : Tables} → ByCalls n vs words t → (target : List ℕ) (into : Tables) → longest_file ≤ length target
      → (read_call (file_bytes words t target) into).answer ≡ 0
      → ByCalls n vs (read_call (file_bytes words t target) into).words (read_call (file_bytes words t target) into).tables

-- SCOPE 16.2, 22.6: igu_lookup and igu_recover answer by the list, with each vector added at its end
abbrev pub ExactByCalls : Type 0
ExactByCalls = (n : ℕ) (vs words : List ℕ) (t : Tables) → ByCalls n vs words t → Exact n vs (left 0 words t)
