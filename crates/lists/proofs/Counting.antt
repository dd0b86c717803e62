-- Numbers that go to different numbers are no more than those. Assumes nothing.
use Prim.Native.Nat.{ℕ, zero, suc, ◌≤◌, ◌<◌}
use native.Mathlib.Omega.{arith}
use mathlib.Core.Path.{◌≡◌, refl, sym, ◌∙◌}
use mathlib.Core.Bool.{Bool, true, false, cond}
use mathlib.Core.List.{List}
use mathlib.Core.Logic.{⊎_elim}
use borrow.Author.Tests.{eqb-true, eqb-false}
use lib.Dec.{eqb}
use lib.ListN.{length, get_or}
use Rattle.lists.specs.First.{repeated}
use Rattle.lists.specs.Members.{All}
use Rattle.lists.proofs.Tests.{le_or_lt}
use Rattle.lists.proofs.Entries.Alls.{all_at}
use Rattle.lists.proofs.Finding.Repeats.{repeated_zero}

-- the numbers below a go to numbers below b, no two to one
pub record Into (a b : ℕ) (f : ℕ → ℕ) : Type 0 where
  pub below : (x : ℕ) → x < a → f x < b
  pub apart : (x y : ℕ) → x < a → y < a → f x ≡ f y → x ≡ y

pub into_le : (b a : ℕ) (f : ℕ → ℕ) → Into a b f → a ≤ b
into_le b zero f i = omega arith
into_le zero (suc a) f i = absurd (omega (arith, i.below 0 (omega arith)))
into_le (suc b) (suc a) f i = let h : a ≤ b = into_le b a g small in omega arith
  where
    -- what would go to b goes where a does
    g : ℕ → ℕ
    g x = cond (eqb (f x) b) (f a) (f x)

    small : Into a b g
    small =
        record {
          below = λ x h. go x h (eqb (f x) b) refl;
          apart = λ x y hx hy e. both x y hx hy (eqb (f x) b) (eqb (f y) b) refl refl e;
        }
      where
        go : (x : ℕ) → x < a → (t : Bool) → eqb (f x) b ≡ t → cond t (f a) (f x) < b
        go x h true e =
            let n : (f a ≡ b → ⊥) = λ q. let z : x ≡ a = i.apart x a (omega arith) (omega arith) (eqb-true (f x) b e ∙ sym q) in omega arith in
            omega (arith, i.below a (omega arith))
        go x h false e = let n : (f x ≡ b → ⊥) = eqb-false (f x) b e in omega (arith, i.below x (omega arith))

        both : (x y : ℕ) → x < a → y < a → (s t : Bool) → eqb (f x) b ≡ s → eqb (f y) b ≡ t → cond s (f a) (f x) ≡ cond t (f a) (f y) → x ≡ y
        both x y hx hy true true es et e = i.apart x y (omega arith) (omega arith) (eqb-true (f x) b es ∙ sym (eqb-true (f y) b et))
        both x y hx hy false false es et e = i.apart x y (omega arith) (omega arith) e
        both x y hx hy true false es et e = let z : a ≡ y = i.apart a y (omega arith) (omega arith) e in absurd (omega arith)
        both x y hx hy false true es et e = let z : x ≡ a = i.apart x a (omega arith) (omega arith) e in absurd (omega arith)

-- entries below m, no two of them equal, are at most m
pub different_few : (m : ℕ) (xs : List ℕ) → All (λ x. x < m) xs → repeated xs ≡ 0 → length xs ≤ m
different_few m xs a e = into_le m (length xs) (λ i. get_or xs i 0) (record { below = λ i h. all_at (λ x. x < m) xs i 0 a h; apart = one })
  where
    one : (i j : ℕ) → i < length xs → j < length xs → get_or xs i 0 ≡ get_or xs j 0 → i ≡ j
    one i j h g q =
        ⊎_elim
        (λ l. ⊎_elim (λ k. omega arith) (λ k. absurd (repeated_zero xs e i j k g q)) (le_or_lt j i))
        (λ l. absurd (repeated_zero xs e j i l h (sym q)))
        (le_or_lt i j)
