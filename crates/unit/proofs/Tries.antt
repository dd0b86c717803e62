-- Demand 3 fixes the tries: the sum over the occupied rows in any order. Assumes nothing.
use Prim.Native.Nat.{ℕ, zero, suc, ◌+◌, ◌≤◌, ◌<◌}
use native.Mathlib.Nat.{zero-add}
use native.Mathlib.Omega.{arith}
use mathlib.Core.Path.{◌≡◌, refl, sym, ap, ◌∙◌, subst}
use mathlib.Core.Bool.{Bool, true, false, cond}
use mathlib.Core.List.{List, [], ◌∷◌}
use mathlib.Core.Logic.{inr}
use lib.Dec.{eqb}
use lib.ListN.{get_or}
use borrow.Author.Tests.{eqb-true, eqb-false}
use Rattle.lists.specs.First.{has}
use Rattle.lists.proofs.Finding.Has.{has_self, has_other, has_in, in_has}
use Rattle.rows.specs.Care.{Care}
use Rattle.rows.specs.Demand.{Once, tries_of}
use Rattle.unit.specs.Demand3.{Shifted}

-- displacement plus one over those of the first n rows that are in the order
unfoldable sum_in : List ℕ → List ℕ → ℕ → ℕ
unfolding has
sum_in h order zero = 0
sum_in h order (suc n) = cond (has n order) (suc (get_or h n 0)) 0 + sum_in h order n

module _ (h : List ℕ) where
  sum_past : (order : List ℕ) (r n : ℕ) → n ≤ r → sum_in h (r ∷ order) n ≡ sum_in h order n
  unfolding sum_in
  sum_past order r zero l = refl
  sum_past order r (suc n) l = rw (has_other n r order (λ e. omega arith), sum_past order r n (omega arith))

  sum_more : (order : List ℕ) (r n : ℕ) → has r order ≡ false → r < n → sum_in h (r ∷ order) n ≡ suc (get_or h r 0) + sum_in h order n
  unfolding sum_in
  sum_more order r zero e l = absurd (omega arith)
  sum_more order r (suc n) e l = go (eqb r n) refl (sum_more order r n e)
    where
      go : (t : Bool) → eqb r n ≡ t → (r < n → sum_in h (r ∷ order) n ≡ suc (get_or h r 0) + sum_in h order n)
          → cond (has n (r ∷ order)) (suc (get_or h n 0)) 0 + sum_in h (r ∷ order) n ≡ suc (get_or h r 0) + (cond (has n order) (suc (get_or h n 0)) 0 + sum_in h order n)
      go true q u =
          let z : r ≡ n = eqb-true r n q in
          let here : has n (r ∷ order) ≡ true = subst (λ (m : ℕ). has m (r ∷ order) ≡ true) z (has_self r order) in
          let before : has n order ≡ false = subst (λ (m : ℕ). has m order ≡ false) z e in
          rw (here, before, sum_past order r n (omega arith)) (omega (arith, ap (λ (m : ℕ). get_or h m 0) z))
      go false q u =
          let z : r ≡ n → ⊥ = eqb-false r n q in
          rw (has_other n r order (λ y. z (sym y))) (omega (arith, u (omega (arith, z))))

  sum_none : (n : ℕ) → sum_in h [] n ≡ 0
  unfolding sum_in
  sum_none zero = refl
  sum_none (suc n) = zero-add _ ∙ sum_none n

  tries_sum : (order : List ℕ) (n : ℕ) → Once order → ((r : ℕ) → has r order ≡ true → r < n) → tries_of h order ≡ sum_in h order n
  unfolding tries_of Once
  tries_sum [] n o l = sym (sum_none n)
  tries_sum (r ∷ order) n o l =
      rw (sum_more order r n o.0 (l r (has_self r order)))
      (ap (λ (x : ℕ). suc (get_or h r 0) + x) (tries_sum order n o.1 (λ q m. l q (in_has q (r ∷ order) (inr (has_in q order m))))))

  sum_same : (a b : List ℕ) → ((r : ℕ) → has r a ≡ has r b) → (n : ℕ) → sum_in h a n ≡ sum_in h b n
  unfolding sum_in
  sum_same a b e zero = refl
  sum_same a b e (suc n) = rw (e n, sum_same a b e n)

-- two figures for the same displacements are equal
pub tries_one : (cs : List Care) (rows cells : ℕ) (h : List ℕ) (a b : ℕ) → Shifted cs rows cells h a → Shifted cs rows cells h b → a ≡ b
tries_one cs rows cells h a b s t =
    s.tries_are ∙ tries_sum h s.order rows s.once (λ r m. (s.only_occupied r m).0)
    ∙ sum_same h s.order t.order same rows
    ∙ sym (tries_sum h t.order rows t.once (λ r m. (t.only_occupied r m).0)) ∙ sym t.tries_are
  where
    same : (r : ℕ) → has r s.order ≡ has r t.order
    same r = go (has r s.order) (has r t.order) refl refl
      where
        go : (x y : Bool) → has r s.order ≡ x → has r t.order ≡ y → x ≡ y
        go true true p q = refl
        go false false p q = refl
        go true false p q = let o = s.only_occupied r p in sym (t.all_occupied r o.0 o.1) ∙ q
        go false true p q = let o = t.only_occupied r q in sym p ∙ s.all_occupied r o.0 o.1
