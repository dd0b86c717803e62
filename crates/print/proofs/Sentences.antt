-- A sentence written byte by byte of its form. Assumes nothing.
use Prim.Native.Nat.{ℕ, ◌+◌, ◌-◌, ◌^◌, ◌≤◌, ◌<◌}
use native.Mathlib.Omega.{arith}
use mathlib.Core.Path.{◌≡◌, refl}
use mathlib.Core.Bool.{Bool, true, false}
use mathlib.Core.List.{List, [], ◌∷◌}
use borrow.Author.Tests.{le-leb, lt-leb, lt-ltb, le-ltb}
use lib.Dec.{ltb}
use lib.ListN.{length, get_or, length-append}
use Rattle.print.specs.Decimal.{decimal}
use Rattle.print.specs.Print.{printed, fitted, max_fields}
use Rattle.print.specs.Sentence.{first_letter, piece_of, sentence, sentence_of}
use Rattle.print.proofs.Decimals.Digits.{length_word}
use Rattle.print.proofs.Writing.Words.{Short}

module _ (ns : List ℕ) (b : ℕ) where
  pub piece_low : b < first_letter → piece_of ns b ≡ b ∷ []
  unfolding piece_of
  piece_low h = rw (lt-ltb b first_letter h, piece_of)

  module _ (h : first_letter ≤ b) where
    pub piece_number : b - first_letter < length ns → piece_of ns b ≡ decimal (get_or ns (b - first_letter) 0)
    unfolding piece_of
    piece_number k = rw (le-ltb b first_letter h, lt-ltb (b - first_letter) (length ns) k, piece_of)

    pub piece_other : length ns ≤ b - first_letter → piece_of ns b ≡ b ∷ []
    unfolding piece_of
    piece_other k = rw (le-ltb b first_letter h, le-ltb (b - first_letter) (length ns) k, piece_of)

-- how many bytes a byte of a form takes at the most, and a form, with so many numbers of a word each
unfoldable width : ℕ → ℕ → ℕ
width n b = elim (ltb b first_letter) [ true ↦ 1 | false ↦ elim (ltb (b - first_letter) n) [ true ↦ 20 | false ↦ 1 ] ]

unfoldable pub widest : ℕ → List ℕ → ℕ
unfolding width
widest n [] = 0
widest n (b ∷ bs) = width n b + widest n bs

module _ (ns : List ℕ) (fit : (i : ℕ) → get_or ns i 0 < 2 ^ 64) where
  piece_width : (b : ℕ) → (length (piece_of ns b) ≤ width (length ns) b) × (width (length ns) b ≤ 20)
  unfolding piece_of width
  piece_width b = go (ltb b first_letter) (ltb (b - first_letter) (length ns))
    where
      go : (s t : Bool) → (length {A = ℕ} (elim s [ true ↦ b ∷ [] | false ↦ elim t [ true ↦ decimal (get_or ns (b - first_letter) 0) | false ↦ b ∷ [] ] ]) ≤ elim s [ true ↦ 1 | false ↦ elim t [ true ↦ 20 | false ↦ 1 ] ])
          × (elim s [ true ↦ 1 | false ↦ elim t [ true ↦ 20 | false ↦ 1 ] ] ≤ 20)
      go true t = (omega arith, omega arith)
      go false true = (length_word (get_or ns (b - first_letter) 0) (fit (b - first_letter)), omega arith)
      go false false = (omega arith, omega arith)

  pub sentence_short : Short (sentence ns) (piece_of ns)
  unfolding sentence
  sentence_short = record { pieces = record { none = refl; more = λ x xs. refl }; few = λ x h. omega (arith, piece_width x) }

  pub sentence_low : (form : List ℕ) → length (sentence ns form) ≤ widest (length ns) form
  unfolding sentence widest
  sentence_low [] = omega arith
  sentence_low (b ∷ bs) = omega (arith, piece_width b, sentence_low bs, length-append (piece_of ns b) (sentence ns bs))

module _ (form ns out : List ℕ) where
  pub sentence_many : max_fields < length form → printed 0 out ≡ sentence_of form ns out
  unfolding sentence_of
  sentence_many h = rw (lt-leb (length form) max_fields h, sentence_of)

  pub sentence_few : length form ≤ max_fields → fitted (sentence ns form) out ≡ sentence_of form ns out
  unfolding sentence_of
  sentence_few h = rw (le-leb (length form) max_fields h, sentence_of)
