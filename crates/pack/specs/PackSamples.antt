-- The list S packed, from the bytes read to the bytes written, computed (SCOPE 15.3, 20.10); a text that is no list, and a refusal.
use Rattle.std.specs.Prelude.{ℕ, ◌≡◌, refl, List, [], ◌∷◌, length, take}
use Rattle.print.specs.Ascii.{ascii}
use Rattle.pack.specs.Pack.{pack_of}

abbrev file : List ℕ
file = pack_of (ascii "6 2 7 16 18 20 28 32 55 58")

pub record Table : Type 0 where
  -- four blocks; the opening, the letters, n, p, n1, k, L, tries, and the three variables
  pub size : length file ≡ 2048
  pub head : take 25 file ≡ 85 ∷ 1 ∷ 0 ∷ 0 ∷ 0x49 ∷ 0x47 ∷ 0x55 ∷ 0x31 ∷ 6 ∷ 3 ∷ 2 ∷ 7 ∷ 0 ∷ 7 ∷ 0 ∷ 15 ∷ 0 ∷ 0 ∷ 0 ∷ 2 ∷ 0 ∷ 3 ∷ 0 ∷ 4 ∷ 5 ∷ []
  -- SCOPE 15.4: one cell less
  pub refusal : pack_of (ascii "6 2 6 16 18 20 28 32 55 58\n") ≡ ascii "refused 13 3\n"
  -- SCOPE 14.3 c: two separators together
  pub no_list : pack_of (ascii "6 2  7 16") ≡ ascii "input\n"

pub samples : Table
unfolding pack_of
samples = record { size = refl; head = refl; refusal = refl; no_list = refl }
