-- A part of a list. Assumes nothing.
use Prim.Native.Nat.{ℕ, zero, suc, ◌+◌, ◌≤◌, min}
use native.Mathlib.Omega.{arith}
use mathlib.Core.Path.{◌≡◌, refl, sym, ap, ◌∙◌}
use mathlib.Core.List.{List, [], ◌∷◌}
use native.Mathlib.Nat.{min-eq_left, min-eq_right}
use mathlib.Core.Logic.{⊎_elim}
use lib.ListN.{length, take, drop}
use lib.Seq.{take-take, take_all}
use Rattle.lists.proofs.Tests.{le_or_lt}

-- k entries from place i on, of the first n
pub part_take : {A : Type 0} (k i n : ℕ) (l : List A) → i + k ≤ n → take k (drop i (take n l)) ≡ take k (drop i l)
part_take k zero n l h = take-take k n l (omega arith)
part_take k (suc i) zero l h = absurd (omega arith)
part_take k (suc i) (suc n) [] h = refl
part_take k (suc i) (suc n) (x ∷ l) h = part_take k i n l (omega arith)

-- as many entries as are asked for, but no more than there are
pub take_least : {A : Type 0} (p : ℕ) (l : List A) (n : ℕ) → length l ≡ n → take (min p n) l ≡ take p l
take_least p l n e =
    ⊎_elim (λ h. ap (λ (i : ℕ). take i l) (min-eq_left h))
    (λ h. ap (λ (i : ℕ). take i l) (min-eq_right {n = n} {m = p} (omega arith)) ∙ take_all n l (omega arith) ∙ sym (take_all p l (omega arith))) (le_or_lt p n)
