-- The fewest squares are the most gained: the best candidate by either. Assumes nothing.
use Prim.Native.Nat.{ℕ, ◌+◌, ◌-◌, ◌*◌, ◌≤◌}
use native.Mathlib.Nat.{mul-le-mul, le_trans}
use native.Mathlib.Omega.{arith}
use mathlib.Core.Path.{◌≡◌, refl, sym, ap₂, ◌∙◌}
use mathlib.Core.Bool.{Bool, true, false}
use mathlib.Core.List.{List, [], ◌∷◌}
use lib.Dec.{ltb}
use lib.ListN.{length, drop, length-take, length-drop}
use borrow.Author.Tests.{ltb-true, ltb-false, lt-ltb, le-ltb}
use Rattle.lists.specs.Cut.{cut}
use Rattle.lists.specs.Members.{All}
use Rattle.vectors.specs.declared.Kind.{Kind}
use Rattle.vectors.specs.Variable.{value_of}
use Rattle.choice.specs.Choice.{best_of}
use Rattle.choice.specs.Inner.Split.{members, tally, square, squares}
use Rattle.choice.proofs.Choice.Squares.{tally_le, best_agree_on}
use Rattle.vectors.proofs.Bits.Xor.{Linear}
use Rattle.choice.specs.Inner.Gain.{splits, gains}
use Rattle.choice.specs.Inner.Best.{score_of}
use Rattle.choice.proofs.Counting.Columns.{value_linear}
use Rattle.choice.proofs.Counting.Splits.{gains_le}

-- the sizes of the groups, squared
unfoldable pub size_squares : List (List ℕ) → ℕ
size_squares [] = 0
size_squares (g ∷ gs) = length g * length g + size_squares gs

square_splits : (a n : ℕ) → a ≤ n → square a n + 2 * splits a n ≡ n * n
square_splits a n h = go (n - a) (omega arith)
  where
    go : (z : ℕ) → n ≡ a + z → a * a + z * z + 2 * (a * z) ≡ n * n
    go z e = rw e (omega arith)

pub squares_gains : (f : ℕ → ℕ) → Linear f → (gs : List (List ℕ)) → squares f gs + 2 * gains f gs ≡ size_squares gs
unfolding squares gains size_squares
squares_gains f l [] = refl
squares_gains f l (g ∷ gs) = omega (arith, square_splits (tally f g) (length g) (tally_le f l.low g), squares_gains f l gs)

-- comparing one of two numbers is comparing the other, the other way round
ltb_other : (a b c d m : ℕ) → a + 2 * c ≡ m → b + 2 * d ≡ m → ltb a b ≡ ltb d c
ltb_other a b c d m p q = go (ltb d c) refl
  where
    go : (t : Bool) → ltb d c ≡ t → ltb a b ≡ t
    go true e = lt-ltb a b (omega (arith, ltb-true d c e))
    go false e = le-ltb a b (omega (arith, ltb-false d c e))

pub ltb_rest : (c d m : ℕ) → c ≤ m → d ≤ m → ltb d c ≡ ltb (m - c) (m - d)
ltb_rest c d m p q = go (ltb d c) refl
  where
    go : (t : Bool) → ltb d c ≡ t → t ≡ ltb (m - c) (m - d)
    go true e = sym (lt-ltb (m - c) (m - d) (omega (arith, ltb-true d c e)))
    go false e = sym (le-ltb (m - c) (m - d) (omega (arith, ltb-false d c e)))

-- fewer squares exactly when more is gained
pub squares_gains_ltb : (f h : ℕ → ℕ) → Linear f → Linear h → (gs : List (List ℕ)) → ltb (squares f gs) (squares h gs) ≡ ltb (gains h gs) (gains f gs)
squares_gains_ltb f h l m gs =
    ltb_other (squares f gs) (squares h gs) (gains f gs) (gains h gs) (size_squares gs) (squares_gains f l gs) (squares_gains h m gs)

-- the best candidate by what each gains, of most at most
pub best_gains : (sizes words : List ℕ) (most : ℕ) (g : Kind → ℕ) → ((k : Kind) → gains (λ x. value_of x k) (cut sizes words) ≤ most)
    → (cs : List Kind) → All (λ k. g k ≡ gains (λ x. value_of x k) (cut sizes words)) cs → best_of (score_of sizes words) cs ≡ best_of (λ k. most - g k) cs
best_gains sizes words most g few cs a = best_agree_on (score_of sizes words) (λ k. most - g k) (λ k. g k ≡ gain k) same cs a
  where
    gain : Kind → ℕ
    gain k = gains (λ x. value_of x k) (cut sizes words)

    same : (c d : Kind) → g c ≡ gain c → g d ≡ gain d → ltb (score_of sizes words c) (score_of sizes words d) ≡ ltb (most - g c) (most - g d)
    same c d p q =
        squares_gains_ltb (λ x. value_of x c) (λ x. value_of x d) (value_linear c) (value_linear d) (cut sizes words)
        ∙ ltb_rest (gain c) (gain d) most (few c) (few d) ∙ ap₂ (λ m n. ltb (most - m) (most - n)) (sym p) (sym q)

-- ---- how much is gained at most

cut_few : (sizes words : List ℕ) → members (cut sizes words) ≤ length words
unfolding members cut
cut_few [] words = omega arith
cut_few (s ∷ sizes) words = omega (arith, cut_few sizes (drop s words), length-take s words, length-drop s words)

pub gains_words : (k : Kind) (sizes words : List ℕ) → gains (λ x. value_of x k) (cut sizes words) ≤ length words * length words
gains_words k sizes words = le_trans (gains_le (λ x. value_of x k) (value_linear k) (cut sizes words)) (mul-le-mul (cut_few sizes words) (cut_few sizes words))
