-- How long a page is at the most: five digits for each word of H and G, 20 for each other number, and a space each. Assumes nothing.
use Prim.Native.Nat.{ℕ, suc, ◌+◌, ◌*◌, ◌^◌, ◌≤◌, ◌<◌}
use native.Mathlib.Omega.{arith}
use native.Mathlib.Nat.{mul-suc}
use mathlib.Core.List.{List, [], ◌∷◌, ◌++◌}
use lib.IntN.{ℤ}
use lib.ListN.{length, length-append}
use mir.Syntax.{w64}
use mir.Val.{SFits}
use Rattle.lists.specs.Members.{All}
use Rattle.lists.proofs.Entries.Members.{all_map}
use Rattle.print.specs.Decimal.{decimal}
use Rattle.print.specs.Line.{newline, fields, line, lines}
use Rattle.print.specs.Print.{refused_name, page_of, refused_text}
use Rattle.print.proofs.Decimals.Digits.{length_below, length_half, length_word}
use Rattle.print.proofs.Decimals.Signs.{signed_low}

-- numbers of at most b digits
fields_low : (b : ℕ) (xs : List ℕ) → All (λ x. length (decimal x) ≤ b) xs → length (fields xs) ≤ suc b * length xs
unfolding fields
fields_low b [] a = omega arith
fields_low b (x ∷ xs) a = rw (mul-suc (suc b) (length xs)) (omega (arith, a.0, fields_low b xs a.1, length-append (decimal x) (fields xs)))

pub halves_low : (xs : List ℕ) → All (λ x. x < 2 ^ 16) xs → length (fields xs) ≤ 6 * length xs
halves_low xs a = fields_low 5 xs (all_map _ _ length_half xs a)

pub words_low : (xs : List ℕ) → All (λ x. x < 2 ^ 64) xs → length (fields xs) ≤ 21 * length xs
words_low xs a = fields_low 20 xs (all_map _ _ length_word xs a)

-- numbers of at most 20 digits, a line each
pub lines_low : (xs : List ℕ) → All (λ x. x < 10 ^ 20) xs → length (lines xs) ≤ 21 * length xs
unfolding lines
lines_low [] a = omega arith
lines_low (x ∷ xs) a =
    omega (arith, length_below 19 x a.0, lines_low xs a.1, length-append (decimal x ++ (newline ∷ [])) (lines xs), length-append (decimal x) (newline ∷ []))

-- a name, the numbers and a newline
line_low : (name xs : List ℕ) → length (line name xs) ≤ length name + length (fields xs) + 1
unfolding line
line_low name xs = simp length-append (omega arith)

pub refused_low : (number place : ℕ) → number < 2 ^ 64 → place < 2 ^ 64 → length (refused_text number place) ≤ 50
refused_low number place a b = omega (arith, line_low refused_name (number ∷ place ∷ []), words_low (number ∷ place ∷ []) (a, (b, tt)))

module _ (numbers : List ℕ) (excess : ℤ) (masks : List ℕ) (kept : ℕ) (h g aux : List ℕ) where
  pub page_low : All (λ x. x < 2 ^ 64) numbers → SFits w64 excess → All (λ x. x < 2 ^ 64) masks → kept < 2 ^ 64 → All (λ x. x < 2 ^ 16) h → All (λ x. x < 2 ^ 16) g
      → All (λ x. x < 2 ^ 64) aux
      → length (page_of numbers excess masks kept h g aux) ≤ 21 * length numbers + 21 * length masks + 6 * length h + 6 * length g + 21 * length aux + 66
  unfolding page_of
  page_low a f b k c d e =
      simp length-append
      (omega (
        arith,
        words_low numbers a,
        signed_low excess f,
        words_low masks b,
        length_word kept k,
        halves_low h c,
        halves_low g d,
        words_low aux e,
      ))
