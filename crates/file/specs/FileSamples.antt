-- The file of the unit that the program prints for the list S, computed (SCOPE 15.3, 20.10).
use Rattle.std.specs.Prelude.{ℕ, ◌+◌, ◌*◌, ◌≡◌, refl, List, [], ◌∷◌, ◌++◌, length, take, drop, replicate}
use Rattle.record.specs.declared.Record.{Record}
use Rattle.build.specs.Build.{Outcome, build_chosen}
use Rattle.unit.specs.Samples.{S, nines}
use Rattle.block.specs.Block.{block_size, check_at}
use Rattle.file.specs.File.{size_of, file_of}
use Rattle.file.specs.Write.{refused, write_of}

-- the unit, lent a word more in each table than it has
abbrev built : Outcome
built = build_chosen 6 2 7 15 S (nines 5 8 9)

abbrev file : List ℕ
file = file_of built.built.unit built.tables

-- so many bytes of block i from a place on
abbrev part : ℕ → ℕ → ℕ → List ℕ
part i at size = take size (drop (block_size * i + at) file)

-- that unit with other kept inputs
abbrev unsound : Record
unsound = let u = built.built.unit in record { n = u.n; p = u.p; n1 = u.n1; k = u.k; cells = u.cells; kept = 42; tries = u.tries; excess = u.excess; variables = u.variables; mark = u.mark }

pub record FileTable : Type 0 where
  pub size : (length file ≡ 2048) × (size_of built.built.unit ≡ 2048)
  -- the opening, the letters, n, p, n1, k, L, tries, and the three variables
  pub head : part 0 0 25 ≡ 85 ∷ 1 ∷ 0 ∷ 0 ∷ 0x49 ∷ 0x47 ∷ 0x55 ∷ 0x31 ∷ 6 ∷ 3 ∷ 2 ∷ 7 ∷ 0 ∷ 7 ∷ 0 ∷ 15 ∷ 0 ∷ 0 ∷ 0 ∷ 2 ∷ 0 ∷ 3 ∷ 0 ∷ 4 ∷ 5 ∷ []
  pub head_rest : part 0 25 483 ≡ replicate 483 0
  -- the tables, each from a new block
  pub h : part 1 0 12 ≡ 72 ∷ 1 ∷ 1 ∷ 0 ∷ 0 ∷ 0 ∷ 2 ∷ 0 ∷ 4 ∷ 0 ∷ 5 ∷ 0 ∷ []
  pub h_rest : part 1 12 496 ≡ replicate 496 0
  pub g : part 2 0 18 ≡ 71 ∷ 1 ∷ 2 ∷ 0 ∷ 5 ∷ 0 ∷ 1 ∷ 0 ∷ 7 ∷ 0 ∷ 2 ∷ 0 ∷ 4 ∷ 0 ∷ 3 ∷ 0 ∷ 6 ∷ 0 ∷ []
  pub aux : part 3 0 28 ≡ 65 ∷ 1 ∷ 3 ∷ 0 ∷ replicate 8 0 ++ (0 ∷ replicate 7 0) ++ (1 ∷ replicate 7 0)
  -- the checks
  pub head_check : part 0 check_at 4 ≡ 162 ∷ 1 ∷ 167 ∷ 52 ∷ []
  pub h_check : part 1 check_at 4 ≡ 85 ∷ 0 ∷ 75 ∷ 168 ∷ []
  pub g_check : part 2 check_at 4 ≡ 102 ∷ 0 ∷ 67 ∷ 201 ∷ []
  pub aux_check : part 3 check_at 4 ≡ 146 ∷ 0 ∷ 196 ∷ 18 ∷ []
  -- the refusals
  pub not_sound : write_of unsound built.tables (replicate 2048 7) ≡ refused 14 (replicate 2048 7)
  pub too_short : write_of built.built.unit built.tables (replicate 2047 7) ≡ refused 20 (replicate 2047 7)

pub file_samples : FileTable
unfolding file_of write_of build_chosen
file_samples = record {
  size = (refl, refl);
  head = refl;
  head_rest = refl;
  h = refl;
  h_rest = refl;
  g = refl;
  aux = refl;
  head_check = refl;
  h_check = refl;
  g_check = refl;
  aux_check = refl;
  not_sound = refl;
  too_short = refl;
}
