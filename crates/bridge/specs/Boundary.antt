-- Demand 2 at the boundary: what a caller in C or Rust has of an accepted build.
use Rattle.std.specs.Prelude.{ℕ, suc, ◌*◌, ◌/◌, ◌^◌, ◌≤◌, ◌<◌, ◌≡◌, List, map, length, get_or, take}
use Rattle.lists.specs.Members.{All}
use Rattle.record.specs.Holds.{index_of}
use Rattle.recover.specs.Recover.{recovered}
use Rattle.record.specs.Tables.{Tables, over}
use Rattle.file.specs.File.{longest_file}
use Rattle.file.specs.Facts.{Roomy}
use Rattle.bridge.specs.Calls.{Left, lookup_call, recovered_in, indexed, many_call, write_call, read_call}

-- SCOPE 16.2 of the functions for C: where the answer is 0, with record and tables as the call left them
pub record Exact (n : ℕ) (vs : List ℕ) (l : Left) : Type 0 where
  -- igu_lookup of a key of n bits answers with the index of the vector that equals it, and 0 where none does
  pub lookup_exact : l.answer ≡ 0 → (x : ℕ) → x < 2 ^ n → lookup_call l.words l.tables x ≡ 256 * index_of vs x
  -- igu_recover of an index gives its vector
  pub recovery_exact : l.answer ≡ 0 → (i : ℕ) → i < length vs → recovered_in l.words l.tables (suc i) ≡ recovered (get_or vs i 0)

-- SCOPE 9.5 then says of igu_lookup_many: with a word for each key of n bits the answer is 0, and each word becomes the index of the vector that equals its
-- key, and 0 where none does
abbrev pub ExactTogether : ℕ → List ℕ → Left → Type 0
ExactTogether n vs l =
    l.answer ≡ 0 → (keys old : List ℕ) → All (λ x. x < 2 ^ n) keys → length keys ≤ length old
    → many_call l.words l.tables keys old ≡ indexed 0 (over (map (index_of vs) keys) old)

-- SCOPE 20.14 of the functions for C: a unit that igu_write has put into a target that is long enough, and that igu_read takes from those bytes into
-- tables that are long enough, answers by the list
abbrev pub Carries : ℕ → List ℕ → Left → Type 0
Carries n vs l =
    l.answer ≡ 0 → (target : List ℕ) (into : Tables) → longest_file ≤ length target → Roomy into
    → let f = write_call l.words l.tables target in
    let r = read_call (take (f.answer / 256) f.target) into in
    (r.answer ≡ 0) × Exact n vs r
