-- A sentence with numbers in it (SCOPE 14.10). In its form the letter A stands for the first number, B for the second and so on; any other byte stands for itself.
use Rattle.std.specs.Prelude.{ℕ, ◌-◌, true, false, List, [], ◌∷◌, ◌++◌, leb, ltb, length, get_or}
use Rattle.print.specs.Decimal.{decimal}
use Rattle.print.specs.Print.{Printed, printed, fitted, max_fields}

-- the letter of the first number, A
abbrev pub first_letter : ℕ
first_letter = 65

-- what is written for a byte of a form: a number's digits for its letter
unfoldable pub piece_of : List ℕ → ℕ → List ℕ
unfolding decimal
piece_of numbers b =
    elim (ltb b first_letter) [
      | true ↦ b ∷ []
      | false ↦ elim (ltb (b - first_letter) (length numbers)) [ true ↦ decimal (get_or numbers (b - first_letter) 0) | false ↦ b ∷ [] ]
    ]

unfoldable pub sentence : List ℕ → List ℕ → List ℕ
unfolding piece_of
sentence numbers [] = []
sentence numbers (b ∷ bs) = piece_of numbers b ++ sentence numbers bs

-- nothing where the form is too long
unfoldable pub sentence_of : List ℕ → List ℕ → List ℕ → Printed
unfolding sentence fitted
sentence_of form numbers out = elim (leb (length form) max_fields) [ true ↦ fitted (sentence numbers form) out | false ↦ printed 0 out ]
