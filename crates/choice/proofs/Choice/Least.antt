-- The candidate taken: none leaves fewer pairs, nor an earlier one as few. Assumes nothing.
use Prim.Native.Nat.{ℕ, zero, suc, ◌≤◌, ◌<◌}
use native.Mathlib.Omega.{arith}
use mathlib.Core.Path.{◌≡◌, refl, ap, sym, ◌∙◌}
use mathlib.Core.Bool.{Bool, true, false, cond}
use mathlib.Core.List.{List, [], ◌∷◌}
use mathlib.Core.Logic.{⊎_elim}
use lib.Dec.{ltb}
use lib.ListN.{length, get_or}
use borrow.Author.Tests.{ltb-true, ltb-false}
use Rattle.lists.proofs.Tests.{le_or_lt}
use Rattle.vectors.specs.declared.Kind.{Kind}
use Rattle.vectors.specs.declared.Kind.TheVariants.{One}
use Rattle.choice.specs.Choice.{leaves, fewest, best_of, next_of}
use Rattle.choice.specs.Least.{Least}

module _ (f : Kind → ℕ) where
  -- a candidate after b that leaves no fewer
  least_skip : (b c : Kind) (cs : List Kind) (r : Kind) → f b ≤ f c → Least f (b ∷ cs) r → Least f (b ∷ c ∷ cs) r
  least_skip b c cs r h l = go l.at l.below l.is l.first
    where
      least : (i : ℕ) → i < suc (suc (length cs)) → f r ≤ f (get_or (b ∷ c ∷ cs) i (One 0))
      least zero k = l.least zero (omega arith)
      least (suc zero) k = omega (arith, l.least zero (omega arith))
      least (suc (suc i)) k = l.least (suc i) (omega arith)

      go : (a : ℕ) → a < suc (length cs) → get_or (b ∷ cs) a (One 0) ≡ r → ((i : ℕ) → i < a → f r < f (get_or (b ∷ cs) i (One 0))) → Least f (b ∷ c ∷ cs) r
      go zero k e g = record { at = zero; below = omega arith; is = e; least = least; first = λ i q. absurd (omega arith) }
      go (suc a) k e g = record { at = suc (suc a); below = omega arith; is = e; least = least; first = first }
        where
          first : (i : ℕ) → i < suc (suc a) → f r < f (get_or (b ∷ c ∷ cs) i (One 0))
          first zero q = g zero (omega arith)
          first (suc zero) q = omega (arith, g zero (omega arith))
          first (suc (suc i)) q = g (suc i) (omega arith)

  -- a candidate after b that leaves fewer
  least_take : (b c : Kind) (cs : List Kind) (r : Kind) → f c < f b → Least f (c ∷ cs) r → Least f (b ∷ c ∷ cs) r
  least_take b c cs r h l = record { at = suc l.at; below = omega (arith, l.below); is = l.is; least = least; first = first }
    where
      least : (i : ℕ) → i < suc (suc (length cs)) → f r ≤ f (get_or (b ∷ c ∷ cs) i (One 0))
      least zero k = omega (arith, l.least zero (omega arith))
      least (suc i) k = l.least i (omega arith)

      first : (i : ℕ) → i < suc l.at → f r < f (get_or (b ∷ c ∷ cs) i (One 0))
      first zero k = omega (arith, l.least zero (omega arith))
      first (suc i) k = l.first i (omega arith)

  fewest_least : (b : Kind) (cs : List Kind) → Least f (b ∷ cs) (fewest f b cs)
  unfolding fewest
  fewest_least b [] = record { at = zero; below = omega arith; is = refl; least = least; first = λ i q. absurd (omega arith) }
    where
      least : (i : ℕ) → i < 1 → f b ≤ f (get_or (b ∷ []) i (One 0))
      least zero k = omega arith
      least (suc i) k = absurd (omega arith)
  fewest_least b (c ∷ cs) = go (ltb (f c) (f b)) refl (fewest_least (cond (ltb (f c) (f b)) c b) cs)
    where
      go : (t : Bool) → ltb (f c) (f b) ≡ t → Least f (cond t c b ∷ cs) (fewest f (cond t c b) cs) → Least f (b ∷ c ∷ cs) (fewest f (cond t c b) cs)
      go true e l = least_take b c cs _ (ltb-true (f c) (f b) e) l
      go false e l = least_skip b c cs _ (ltb-false (f c) (f b) e) l

  pub best_least : (cs : List Kind) → 0 < length cs → Least f cs (best_of f cs)
  unfolding best_of
  best_least [] h = absurd (omega arith)
  best_least (c ∷ cs) h = fewest_least c cs

  -- SCOPE 4.4: there is only one such candidate
  pub least_one : (cs : List Kind) (b c : Kind) → Least f cs b → Least f cs c → b ≡ c
  least_one cs b c l m = sym l.is ∙ ap (λ (i : ℕ). get_or cs i (One 0)) same ∙ m.is
    where
      no_earlier : (b c : Kind) (l : Least f cs b) (m : Least f cs c) → l.at < m.at → ⊥
      no_earlier b c l m h =
          let p : f c < f b = rw l.is at (m.first l.at h) in
          let q : f b ≤ f c = rw m.is at (l.least m.at m.below) in
          omega arith

      same : l.at ≡ m.at
      same = ⊎_elim (λ p. ⊎_elim (λ q. omega arith) (λ q. absurd (no_earlier b c l m q)) (le_or_lt m.at l.at)) (λ p. absurd (no_earlier c b m l p)) (le_or_lt l.at m.at)

pub next_least : (vs : List ℕ) (taken cs : List Kind) → 0 < length cs → Least (leaves vs taken) cs (next_of cs vs taken)
unfolding next_of
next_least vs taken cs h = best_least (leaves vs taken) cs h
