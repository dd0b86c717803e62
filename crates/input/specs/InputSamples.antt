-- Texts that are read and texts that are not: one table, a field for each, and one claim, at the end.
use Rattle.std.specs.Prelude.{ℕ, zero, suc, ◌≡◌, refl, true, List, [], ◌∷◌, ◌++◌, replicate}
use Rattle.input.specs.Input.{input_of, vectors_of, no_input}

-- 6 2 7 16 18 20 28 32 55 58
abbrev pub page : List ℕ
page = 54 ∷ 32 ∷ 50 ∷ 32 ∷ 55 ∷ 32 ∷ 49 ∷ 54 ∷ 32 ∷ 49 ∷ 56 ∷ 32 ∷ 50 ∷ 48 ∷ 32 ∷ 50 ∷ 56 ∷ 32 ∷ 51 ∷ 50 ∷ 32 ∷ 53 ∷ 53 ∷ 32 ∷ 53 ∷ 56 ∷ []

-- so many ones, a space between, and a final newline
abbrev pub ones : ℕ → List ℕ
ones zero = []
ones (suc zero) = 49 ∷ 10 ∷ []
ones (suc (suc n)) = 49 ∷ 32 ∷ ones (suc n)

pub record Table : Type 0 where
  -- the list S
  pub page_read : input_of page 8 ≡ record { good = true; n = 6; degree = 2; cells = 7; count = 7 }
  pub page_vectors : vectors_of page (replicate 8 9) ≡ 16 ∷ 18 ∷ 20 ∷ 28 ∷ 32 ∷ 55 ∷ 58 ∷ 9 ∷ []
  -- one final newline
  pub line_read : input_of (page ++ (10 ∷ [])) 7 ≡ record { good = true; n = 6; degree = 2; cells = 7; count = 7 }
  pub line_vectors : vectors_of (page ++ (10 ∷ [])) (replicate 7 9) ≡ 16 ∷ 18 ∷ 20 ∷ 28 ∷ 32 ∷ 55 ∷ 58 ∷ []
  -- newlines between: 6, 2 and 7, a line each
  pub lines : input_of (54 ∷ 10 ∷ 50 ∷ 10 ∷ 55 ∷ 10 ∷ []) 0 ≡ record { good = true; n = 6; degree = 2; cells = 7; count = 0 }
  -- leading zeros: 30 of them
  pub zeros : input_of (replicate 30 48 ++ (54 ∷ 32 ∷ 50 ∷ 32 ∷ 55 ∷ [])) 0 ≡ record { good = true; n = 6; degree = 2; cells = 7; count = 0 }
  -- 2^64 - 1 as a vector
  pub largest : vectors_of (54 ∷ 32 ∷ 50 ∷ 32 ∷ 55 ∷ 32 ∷ 49 ∷ 56 ∷ 52 ∷ 52 ∷ 54 ∷ 55 ∷ 52 ∷ 52 ∷ 48 ∷ 55 ∷ 51 ∷ 55 ∷ 48 ∷ 57 ∷ 53 ∷ 53 ∷ 49 ∷ 54 ∷ 49 ∷ 53 ∷ []) (0 ∷ []) ≡ 18446744073709551615 ∷ []
  -- 1,024 vectors
  pub most : input_of (ones 1027) 1024 ≡ record { good = true; n = 1; degree = 1; cells = 1; count = 1024 }
  -- too few numbers: none, none in a line, 6 and 2
  pub few : input_of ([]) 0 ≡ no_input
  pub few_line : input_of (10 ∷ []) 0 ≡ no_input
  pub few_two : input_of (54 ∷ 32 ∷ 50 ∷ []) 0 ≡ no_input
  -- a byte that is neither digit nor separator: 6 2 x7
  pub other : input_of (54 ∷ 32 ∷ 50 ∷ 32 ∷ 120 ∷ 55 ∷ []) 0 ≡ no_input
  -- an empty field: 6 and 2 with two spaces between; two final newlines
  pub together : input_of (54 ∷ 32 ∷ 32 ∷ 50 ∷ 32 ∷ 55 ∷ []) 0 ≡ no_input
  pub together_end : input_of (54 ∷ 32 ∷ 50 ∷ 32 ∷ 55 ∷ 10 ∷ 10 ∷ []) 0 ≡ no_input
  -- a separator that the text opens with
  pub front : input_of (32 ∷ 54 ∷ 32 ∷ 50 ∷ 32 ∷ 55 ∷ []) 0 ≡ no_input
  -- a final space: the last byte; before the final newline
  pub space_end : input_of (54 ∷ 32 ∷ 50 ∷ 32 ∷ 55 ∷ 32 ∷ []) 0 ≡ no_input
  pub space_line : input_of (54 ∷ 32 ∷ 50 ∷ 32 ∷ 55 ∷ 32 ∷ 10 ∷ []) 0 ≡ no_input
  -- a number that is too large: 2^64
  pub above : input_of (54 ∷ 32 ∷ 50 ∷ 32 ∷ 55 ∷ 32 ∷ 49 ∷ 56 ∷ 52 ∷ 52 ∷ 54 ∷ 55 ∷ 52 ∷ 52 ∷ 48 ∷ 55 ∷ 51 ∷ 55 ∷ 48 ∷ 57 ∷ 53 ∷ 53 ∷ 49 ∷ 54 ∷ 49 ∷ 54 ∷ []) 1 ≡ no_input
  -- 1,025 vectors
  pub many : input_of (ones 1028) 2000 ≡ no_input
  -- a byte above 64 KiB, and 64 KiB
  pub above_64 : input_of (replicate 65532 48 ++ (54 ∷ 32 ∷ 50 ∷ 32 ∷ 55 ∷ [])) 0 ≡ no_input
  pub just_64 : input_of (replicate 65531 48 ++ (54 ∷ 32 ∷ 50 ∷ 32 ∷ 55 ∷ [])) 0 ≡ record { good = true; n = 6; degree = 2; cells = 7; count = 0 }
  -- seven vectors and six words
  pub no_room : input_of (page) 6 ≡ no_input
  pub no_room_vectors : vectors_of page (replicate 6 9) ≡ replicate 6 9

pub table : Table
unfolding input_of vectors_of
table =
    record {
      page_read = refl;
      page_vectors = refl;
      line_read = refl;
      line_vectors = refl;
      lines = refl;
      zeros = refl;
      largest = refl;
      most = refl;
      few = refl;
      few_line = refl;
      few_two = refl;
      other = refl;
      together = refl;
      together_end = refl;
      front = refl;
      space_end = refl;
      space_line = refl;
      above = refl;
      many = refl;
      above_64 = refl;
      just_64 = refl;
      no_room = refl;
      no_room_vectors = refl;
    }
