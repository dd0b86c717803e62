-- Keys looked up together in the unit of SCOPE 15.3, computed.
use Rattle.std.specs.Prelude.{ℕ, ◌≡◌, refl, List, [], ◌∷◌, pos, replicate}
use Rattle.vectors.specs.declared.Kind.TheVariants.{One, Two}
use Rattle.record.specs.declared.Record.{Record}
use Rattle.record.specs.Record.{mark_built, variables_of}
use Rattle.record.specs.Tables.{Tables, lent}
use Rattle.lookup.specs.Lookup.{lookup_of}
use Rattle.many.specs.Lookups.{Left, refused_at, left, lookup_many}
use Rattle.many.specs.Image.{image_of}

-- the unit, with so many vectors by its record
abbrev unit : ℕ → Record
unit k =
    record { n = 6; p = 3; n1 = 2; k = k; cells = 7; kept = 41; tries = 15; excess = pos 0; variables = variables_of 2 (One 2 ∷ One 3 ∷ Two 4 5 ∷ []); mark = mark_built }

abbrev tables : Tables
tables = lent (0 ∷ 2 ∷ 4 ∷ 5 ∷ []) (5 ∷ 1 ∷ 7 ∷ 2 ∷ 4 ∷ 3 ∷ 6 ∷ []) (0 ∷ 0 ∷ 1 ∷ 2 ∷ 10 ∷ 16 ∷ 23 ∷ 25 ∷ [])

-- keys looked up into so many words, each of which is 9
abbrev after : ℕ → List ℕ → ℕ → Left
after k keys words = lookup_many (lookup_of (unit k) tables) keys (replicate words 9)

pub record Table : Type 0 where
  -- the two keys of the README, and another; two words more are lent
  pub found : after 7 (20 ∷ 6 ∷ 55 ∷ []) 5 ≡ left (refused_at 0 0) (3 ∷ 0 ∷ 6 ∷ 9 ∷ 9 ∷ [])
  -- the first key beyond 6 bits is the second; the keys after it are looked up
  pub beyond : after 7 (20 ∷ 64 ∷ 18 ∷ 65 ∷ []) 4 ≡ left (refused_at 6 2) (3 ∷ 0 ∷ 2 ∷ 0 ∷ [])
  pub no_keys : after 7 [] 2 ≡ left (refused_at 0 0) (9 ∷ 9 ∷ [])
  -- the record is not well formed
  pub unformed : after 0 (20 ∷ 6 ∷ []) 3 ≡ left (refused_at 14 1) (0 ∷ 0 ∷ 9 ∷ [])
  pub too_short : after 7 (20 ∷ 6 ∷ []) 1 ≡ left (refused_at 20 0) (9 ∷ [])
  -- column 1, row 2, no kept input; column 0, row 3, no kept input
  pub images : (image_of (unit 7) 20 ≡ 5) × (image_of (unit 7) 6 ≡ 6)

pub many_samples : Table
unfolding lookup_many lookup_of
many_samples = record { found = refl; beyond = refl; no_keys = refl; unformed = refl; too_short = refl; images = (refl, refl) }
