-- Bytes with a text written at a place.
use Rattle.std.specs.Prelude.{ℕ, ◌+◌, ◌-◌, ◌^◌, ◌≤◌, ◌≡◌, List, ◌++◌, length, take, drop}
use Rattle.std.specs.List.{AllZip}
use Rattle.print.specs.Line.{fields}

unfoldable pub put_at : List ℕ → ℕ → List ℕ → List ℕ
put_at old at text = take at old ++ (text ++ drop (at + length text) old)

-- what is left by a call that writes a text at a place: the place past it, and the text there, if it ends within the bytes
pub record Written (old : List ℕ) (at : ℕ) (text out : List ℕ) (end : ℕ) : Type 0 where
  pub place : end ≡ at + length text
  pub size : length out ≡ length old
  pub is : end ≤ length old → out ≡ put_at old at text

-- .. and when the text is a name, and behind it a number for each value
pub record WrittenFields {A : Type 0} (R : A → ℕ → Type 0) (name : List ℕ) (xs : List A) (old : List ℕ) (at : ℕ) (out : List ℕ) (end : ℕ) : Type 0 where
  pub numbers : List ℕ
  pub each : AllZip R xs numbers
  pub written : Written old at (name ++ fields numbers) out end

-- the largest place that a word holds
abbrev pub max_place : ℕ
max_place = 2 ^ 64 - 1
