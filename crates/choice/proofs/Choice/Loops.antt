-- The best of the candidates, one after the other: the single inputs, then the pairs. Assumes nothing.
use Prim.Native.Nat.{ℕ, zero, suc, ◌-◌, ◌≤◌, ◌<◌}
use native.Mathlib.Omega.{arith}
use mathlib.Core.Path.{◌≡◌, refl, ◌∙◌}
use mathlib.Core.Bool.{cond}
use mathlib.Core.List.{List, [], ◌∷◌, ◌++◌}
use lib.Dec.{eqb, ltb}
use borrow.Author.Tests.{eq-eqb, ne_eqb, lt-ltb, le-ltb}
use Rattle.vectors.specs.declared.Kind.{Kind}
use Rattle.vectors.specs.declared.Kind.TheVariants.{One}
use Rattle.choice.specs.Choice.{ones, twos, candidates, fewest, best_of}

-- the better of b and the next, c
abbrev pub better : (Kind → ℕ) → Kind → Kind → Kind
better f b c = cond (ltb (f c) (f b)) c b

pub better_new : (f : Kind → ℕ) (b c : Kind) → f c < f b → better f b c ≡ c
better_new f b c h = rw (lt-ltb (f c) (f b) h)

pub better_old : (f : Kind → ℕ) (b c : Kind) → f b ≤ f c → better f b c ≡ b
better_old f b c h = rw (le-ltb (f c) (f b) h)

pub fewest_append : (f : Kind → ℕ) (b : Kind) (cs ds : List Kind) → fewest f b (cs ++ ds) ≡ fewest f (fewest f b cs) ds
unfolding fewest
fewest_append f b [] ds = refl
fewest_append f b (c ∷ cs) ds = fewest_append f (better f b c) cs ds

-- ---- the best of all candidates: of the single inputs after x_1, then of the pairs

best_of_lem : (f : Kind → ℕ) (n degree : ℕ) → 0 < n
    → best_of f (candidates n degree) ≡ fewest f (fewest f (One 1) (ones (n - 1) 2)) (cond (eqb degree 2) (twos n 1) [])
unfolding best_of candidates ones
best_of_lem f zero degree h = absurd (omega arith)
best_of_lem f (suc n) degree h =
    let e : suc n - 1 ≡ n = omega arith in
    rw e (fewest_append f (One 1) (ones n 2) (cond (eqb degree 2) (twos (suc n) 1) []))

pub best_one : (f : Kind → ℕ) (n degree : ℕ) → 0 < n → (degree ≡ 2 → ⊥) → best_of f (candidates n degree) ≡ fewest f (One 1) (ones (n - 1) 2)
unfolding fewest
best_one f n degree h k = best_of_lem f n degree h ∙ rw (ne_eqb degree 2 k)

pub best_two : (f : Kind → ℕ) (n degree : ℕ) → 0 < n → degree ≡ 2 → best_of f (candidates n degree) ≡ fewest f (fewest f (One 1) (ones (n - 1) 2)) (twos n 1)
best_two f n degree h k = best_of_lem f n degree h ∙ rw (eq-eqb degree 2 k)
