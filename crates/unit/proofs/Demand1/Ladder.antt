-- Checks that answer for causes: the ladder gives the first that has a cause, and no other. Assumes nothing.
use Prim.Native.Nat.{ℕ, zero, suc}
use native.Mathlib.Omega.{arith}
use mathlib.Core.Path.{◌≡◌, refl, sym, ◌∙◌}
use mathlib.Core.Bool.{Bool, true, false}
use mathlib.Core.List.{List, [], ◌∷◌, ◌++◌}
use mathlib.Core.Logic.{inl, inr}
use Rattle.build.specs.Built.{Refusal}
use Rattle.build.specs.Refusals.{refuse_if, refuse_at, or_else, ladder}
use Rattle.unit.specs.Demand1.{Cause, Gives, cause}

-- the check passes exactly where the cause does not hold, gives the cause's number and its place, and the cause has one place
pub record Answers (r : Refusal) (c : Cause) : Type 0 where
  pub none : r.number ≡ 0 → (q : ℕ) → c.at q → ⊥
  pub some : (r.number ≡ 0 → ⊥) → (r.number ≡ c.number) × c.at r.place
  pub one : (p q : ℕ) → c.at p → c.at q → p ≡ q

abbrev pub AnswersAll : List Refusal → List Cause → Type 0
AnswersAll [] [] = Unit {0}
AnswersAll [] (c ∷ cs) = ⊥
AnswersAll (r ∷ rs) [] = ⊥
AnswersAll (r ∷ rs) (c ∷ cs) = Answers r c × AnswersAll rs cs

pub answers_append : (rs : List Refusal) (cs : List Cause) (ss : List Refusal) (ds : List Cause) → AnswersAll rs cs → AnswersAll ss ds → AnswersAll (rs ++ ss) (cs ++ ds)
answers_append [] [] ss ds a b = b
answers_append [] (c ∷ cs) ss ds a b = absurd a
answers_append (r ∷ rs) [] ss ds a b = absurd a
answers_append (r ∷ rs) (c ∷ cs) ss ds a b = (a.0, answers_append rs cs ss ds a.1 b)

-- the ladder gives the first that has a cause
pub ladder_gives : (rs : List Refusal) (cs : List Cause) → AnswersAll rs cs → Gives cs (ladder rs).number (ladder rs).place
unfolding ladder
ladder_gives [] [] a = (refl, refl)
ladder_gives [] (c ∷ cs) a = absurd a
ladder_gives (r ∷ rs) [] a = absurd a
ladder_gives (r ∷ rs) (c ∷ cs) a = go r.number refl (ladder_gives rs cs a.1)
  where
    go : (m : ℕ) → r.number ≡ m → Gives cs (ladder rs).number (ladder rs).place
        → Gives (c ∷ cs) (or_else m r (ladder rs)).number (or_else m r (ladder rs)).place
    go zero e g = inr (a.0.none e, g)
    go (suc m) e g = inl (a.0.some (λ z. omega arith))

-- each cause has one place
abbrev pub OnePlace : List Cause → Type 0
OnePlace [] = Unit {0}
OnePlace (c ∷ cs) = ((p q : ℕ) → c.at p → c.at q → p ≡ q) × OnePlace cs

pub answers_one : (rs : List Refusal) (cs : List Cause) → AnswersAll rs cs → OnePlace cs
answers_one [] [] a = tt
answers_one [] (c ∷ cs) a = absurd a
answers_one (r ∷ rs) [] a = absurd a
answers_one (r ∷ rs) (c ∷ cs) a = (a.0.one, answers_one rs cs a.1)

-- .. and the first that has a cause is one number with one place
pub gives_one : (cs : List Cause) → OnePlace cs → (m p m' p' : ℕ) → Gives cs m p → Gives cs m' p' → (m ≡ m') × (p ≡ p')
gives_one [] a m p m' p' g h = (g.0 ∙ sym h.0, g.1 ∙ sym h.1)
gives_one (c ∷ cs) a m p m' p' (inl g) (inl h) = (g.0 ∙ sym h.0, a.0 p p' g.1 h.1)
gives_one (c ∷ cs) a m p m' p' (inl g) (inr h) = absurd (h.0 p g.1)
gives_one (c ∷ cs) a m p m' p' (inr g) (inl h) = absurd (g.0 p' h.1)
gives_one (c ∷ cs) a m p m' p' (inr g) (inr h) = gives_one cs a.1 m p m' p' g.1 h.1

-- ---- the two forms of a check

pub if_answers : (m : ℕ) (test : Bool) (P : Type 0) → (test ≡ true → P) → (test ≡ false → P → ⊥) → Answers (refuse_if (suc m) test) (cause (suc m) P)
if_answers m true P y n =
    record { none = λ z q a. absurd (omega arith); some = λ h. (refl, (refl, y refl)); one = λ p q a b. a.0 ∙ sym b.0 }
if_answers m false P y n =
    record { none = λ z q a. n refl a.1; some = λ h. absurd (h refl); one = λ p q a b. a.0 ∙ sym b.0 }

pub at_answers : (m i : ℕ) (C : ℕ → Type 0) → (i ≡ 0 → (q : ℕ) → C q → ⊥) → ((i ≡ 0 → ⊥) → C i) → ((p q : ℕ) → C p → C q → p ≡ q)
    → Answers (refuse_at (suc m) i) (record { number = suc m; at = C })
at_answers m zero C n y o = record { none = λ z. n refl; some = λ h. absurd (h refl); one = o }
at_answers m (suc i) C n y o = record { none = λ z q a. absurd (omega arith); some = λ h. (refl, y (λ z. omega arith)); one = o }
