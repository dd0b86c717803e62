-- What the choosing rule says of the candidate taken.
use Rattle.std.specs.Prelude.{ℕ, ◌≤◌, ◌<◌, ◌≡◌, List, length, get_or}
use Rattle.vectors.specs.declared.Kind.{Kind}
use Rattle.vectors.specs.declared.Kind.TheVariants.{One}

-- SCOPE 4.4: no candidate leaves fewer pairs than the one taken, nor an earlier one as few; f says what each leaves
pub record Least (f : Kind → ℕ) (cs : List Kind) (b : Kind) : Type 0 where
  pub at : ℕ
  pub below : at < length cs
  pub is : get_or cs at (One 0) ≡ b
  pub least : (i : ℕ) → i < length cs → f b ≤ f (get_or cs i (One 0))
  pub first : (i : ℕ) → i < at → f b < f (get_or cs i (One 0))
