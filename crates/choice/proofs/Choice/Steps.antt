-- The choice step by step: each takes the least, and what holds of each step. Assumes nothing.
use Prim.Native.Nat.{ℕ, zero, suc, ◌+◌, ◌^◌, ◌≤◌, ◌<◌}
use native.Mathlib.Omega.{arith}
use mathlib.Core.Path.{◌≡◌, refl, sym, ◌∙◌}
use mathlib.Core.Bool.{Bool, true, false, true≢false}
use mathlib.Core.List.{List, [], ◌∷◌, ◌++◌}
use mathlib.Core.Logic.{⊎_elim}
use lib.ListN.{length, get_or, take, length-append, get_or-append}
use lib.Seq.{take-suc, take-append-le, take_at, get_or_at}
use borrow.Author.Tests.{eqb-false}
use Rattle.lists.proofs.Tests.{le_or_lt}
use Rattle.lists.specs.Members.{All}
use Rattle.vectors.specs.declared.Kind.{Kind}
use Rattle.vectors.specs.declared.Kind.TheVariants.{One}
use Rattle.choice.specs.Choice.{pairs, left, leaves, candidates, apart, next_of, choose_in}
use Rattle.choice.specs.Least.{Least}
use Rattle.choice.proofs.Choice.Least.{next_least}
use Rattle.choice.proofs.Choice.Fewer.{fewer}

-- P of those before and of the next
abbrev pub Each : (List Kind → Kind → Type 0) → List Kind → Type 0
Each P ks = (i : ℕ) → i < length ks → P (take i ks) (get_or ks i (One 0))

each_more : (P : List Kind → Kind → Type 0) (ks : List Kind) (c : Kind) → Each P ks → P ks c → Each P (ks ++ (c ∷ []))
each_more P ks c f h i lt = ⊎_elim old new (le_or_lt (suc i) (length ks))
  where
    old : suc i ≤ length ks → P (take i (ks ++ (c ∷ []))) (get_or (ks ++ (c ∷ [])) i (One 0))
    old k = rw (take-append-le i ks (c ∷ []) (omega arith), get_or-append ks (c ∷ []) (One 0) i k) (f i k)

    new : length ks < suc i → P (take i (ks ++ (c ∷ []))) (get_or (ks ++ (c ∷ [])) i (One 0))
    new k =
        let e : length ks ≡ i = omega (arith, length-append ks (c ∷ [])) in
        rw (take_at ks (c ∷ []) i e, get_or_at ks c [] (One 0) i e) h

-- ---- going along the choice

module _ (cs : List Kind) (vs : List ℕ) where
  pub choose_stop : (f : ℕ) (taken : List Kind) → apart vs taken ≡ true → choose_in f cs vs taken ≡ taken
  unfolding choose_in
  choose_stop zero taken e = refl
  choose_stop (suc f) taken e = rw (e, choose_in)

  pub choose_more : (f : ℕ) (taken : List Kind) → apart vs taken ≡ false → choose_in (suc f) cs vs taken ≡ choose_in f cs vs (taken ++ (next_of cs vs taken ∷ []))
  unfolding choose_in
  choose_more f taken e = rw (e, choose_in)

  -- P of how many may still be taken, those taken, and the result
  module _ (P : ℕ → List Kind → List Kind → Type 0) (none : (taken : List Kind) → P 0 taken taken) (stop : (f : ℕ) (taken : List Kind) → apart vs taken ≡ true → P f taken taken)
      (more : (f : ℕ) (taken result : List Kind) → apart vs taken ≡ false → P f (taken ++ (next_of cs vs taken ∷ [])) result → P (suc f) taken result) where
    choose_along : (f : ℕ) (taken : List Kind) → P f taken (choose_in f cs vs taken)
    unfolding choose_in
    choose_along zero taken = none taken
    choose_along (suc f) taken = go (apart vs taken) refl (choose_along f (taken ++ (next_of cs vs taken ∷ [])))
      where
        go : (t : Bool) → apart vs taken ≡ t → P f (taken ++ (next_of cs vs taken ∷ [])) (choose_in f cs vs (taken ++ (next_of cs vs taken ∷ []))) → P (suc f) taken (choose_in (suc f) cs vs taken)
        go true e r = rw (choose_stop (suc f) taken e) (stop (suc f) taken e)
        go false e r = rw (choose_more f taken e) (more f taken _ e r)

  pub choose_each : (P : List Kind → Kind → Type 0) → ((taken : List Kind) → apart vs taken ≡ false → P taken (next_of cs vs taken)) → (f : ℕ) → Each P (choose_in f cs vs [])
  choose_each P next f =
      choose_along (λ f taken result. Each P taken → Each P result) (λ taken h. h) (λ f taken e h. h) (λ f taken result e r h. r (each_more P taken _ h (next taken e))) f []
      (λ i lt. absurd (omega arith))

  -- at most f variables are taken
  pub choice_few : (f : ℕ) → length (choose_in f cs vs []) ≤ f
  choice_few f =
      let r = choose_along (λ f taken result. length result ≤ length taken + f) (λ taken. omega arith) (λ f taken e. omega arith)
      (λ f taken result e r. omega (arith, length-append taken (next_of cs vs taken ∷ []))) f [] in
      omega arith

  -- SCOPE 11.1, refusal 11: where two vectors still agree, all f are taken
  pub choice_full : (f : ℕ) → apart vs (choose_in f cs vs []) ≡ false → length (choose_in f cs vs []) ≡ f
  choice_full f h =
      let r = choose_along (λ f taken result. apart vs result ≡ false → length result ≡ length taken + f) (λ taken g. omega arith) (λ f taken e g. absurd (true≢false (sym e ∙ g)))
      (λ f taken result e r g. omega (arith, r g, length-append taken (next_of cs vs taken ∷ []))) f [] h in
      omega arith

-- each variable of the choice is the first candidate of those that leave the fewest pairs
pub choice_least : (f : ℕ) (cs : List Kind) (vs : List ℕ) → 0 < length cs → (i : ℕ) → i < length (choose_in f cs vs [])
    → Least (leaves vs (take i (choose_in f cs vs []))) cs (get_or (choose_in f cs vs []) i (One 0))
choice_least f cs vs h = choose_each cs vs (λ taken c. Least (leaves vs taken) cs c) (λ taken e. next_least vs taken cs h) f

-- ---- each step lowers the number of pairs

apart_false : (vs : List ℕ) (taken : List Kind) → apart vs taken ≡ false → 0 < left vs taken
unfolding apart
apart_false vs taken e = let z : left vs taken ≡ 0 → ⊥ = eqb-false (left vs taken) 0 e in omega (arith, z)

-- each variable of the choice lowers the number of pairs left
pub choice_falls : (f n degree : ℕ) (vs : List ℕ) → 0 < n → All (λ v. v < 2 ^ n) vs → pairs vs ≡ 0 → (i : ℕ) → i < length (choose_in f (candidates n degree) vs [])
    → left vs (take (suc i) (choose_in f (candidates n degree) vs [])) < left vs (take i (choose_in f (candidates n degree) vs []))
choice_falls f n degree vs some low differ i h =
    rw (take-suc (choose_in f cs vs []) i (One 0) h) (choose_each cs vs (λ taken c. leaves vs taken c < left vs taken) (λ taken e. fewer n degree vs taken some low differ (apart_false vs taken e)) f i h)
  where
    cs : List Kind
    cs = candidates n degree
