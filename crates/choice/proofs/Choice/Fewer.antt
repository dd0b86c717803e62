-- Each step lowers the number of pairs: two vectors that agree on the taken variables differ at an input. Assumes nothing.
use Prim.Native.Nat.{ℕ, zero, suc, ◌/◌, ◌%◌, ◌^◌, ◌≤◌, ◌<◌}
use native.Mathlib.Omega.{arith}
use native.Mathlib.Nat.{pow-succ'}
use mathlib.Core.Path.{◌≡◌, refl, sym, ◌∙◌}
use mathlib.Core.Bool.{Bool, true, false}
use mathlib.Core.List.{List, [], ◌∷◌, ◌++◌}
use lib.Dec.{eqb}
use borrow.Author.Tests.{eqb-true, eqb-false}
use Rattle.lists.specs.Members.{In, All}
use Rattle.lists.proofs.Entries.Members.{all_in}
use Rattle.lists.proofs.Entries.Joined.{in_at}
use Rattle.vectors.specs.declared.Kind.{Kind}
use Rattle.vectors.specs.declared.Kind.TheVariants.{One}
use Rattle.vectors.specs.Bits.{input}
use Rattle.vectors.specs.Variable.{value_of, number_of}
use Rattle.choice.specs.Choice.{pairs, left, leaves, candidates, next_of}
use Rattle.choice.specs.Least.{Least}
use Rattle.vectors.proofs.Bits.Laws.{bit_suc}
use Rattle.choice.proofs.Choice.Numbers.{snoc_split}
use Rattle.choice.proofs.Choice.Pairs.{In2, pairs_fewer, pairs_found}
use Rattle.choice.proofs.Choice.Candidates.{candidate_one, candidates_some}
use Rattle.choice.proofs.Choice.Least.{next_least}

-- ---- two different words of n bits differ at an input

pub record Differ (n u v : ℕ) : Type 0 where
  pub i : ℕ
  pub from : 1 ≤ i
  pub to : i ≤ n
  pub differ : input u i ≡ input v i → ⊥

pub differs : (n u v : ℕ) → u < 2 ^ n → v < 2 ^ n → (u ≡ v → ⊥) → Differ n u v
differs zero u v a b h = absurd (h (omega arith))
differs (suc n) u v a b h = go (eqb (u % 2) (v % 2)) refl (λ p q r. differs n (u / 2) (v / 2) p q r)
  where
    down : Differ n (u / 2) (v / 2) → Differ (suc n) u v
    down d = fix d.i d.from d.to d.differ
      where
        fix : (i : ℕ) → 1 ≤ i → i ≤ n → (input (u / 2) i ≡ input (v / 2) i → ⊥) → Differ (suc n) u v
        fix zero f t g = absurd (omega arith)
        fix (suc j) f t g = record { i = suc (suc j); from = omega arith; to = omega arith; differ = λ e. g (sym (bit_suc u j) ∙ e ∙ bit_suc v j) }

    go : (t : Bool) → eqb (u % 2) (v % 2) ≡ t → (u / 2 < 2 ^ n → v / 2 < 2 ^ n → (u / 2 ≡ v / 2 → ⊥) → Differ n (u / 2) (v / 2)) → Differ (suc n) u v
    go true p r =
        let e : u % 2 ≡ v % 2 = eqb-true (u % 2) (v % 2) p in
        down (r (omega (arith, pow-succ' 2 n)) (omega (arith, pow-succ' 2 n)) (λ q. h (omega arith)))
    go false p r = record { i = 1; from = omega arith; to = omega arith; differ = λ e. eqb-false (u % 2) (v % 2) p (omega arith) }

-- ---- the theorem

least_in : (f : Kind → ℕ) (cs : List Kind) (b c : Kind) → Least f cs b → In c cs → f b ≤ f c
least_in f cs b c l m = let r = in_at c cs (One 0) m in rw r.2 at (l.least r.0 r.1)

-- while two different vectors agree on the variables taken, the next one lowers the number of pairs
pub fewer : (n degree : ℕ) (vs : List ℕ) (taken : List Kind) → 0 < n → All (λ v. v < 2 ^ n) vs → pairs vs ≡ 0 → 0 < left vs taken
    → leaves vs taken (next_of (candidates n degree) vs taken) < left vs taken
unfolding left
fewer n degree vs taken some low differ h =
    let cs = candidates n degree in
    let k = pairs_found (number_of taken) vs h differ in
    let d = differs n k.u k.v (all_in (λ v. v < 2 ^ n) k.u vs low k.first) (all_in (λ v. v < 2 ^ n) k.v vs low k.second) k.apart in
    let l = next_least vs taken cs (candidates_some n degree some) in
    omega (arith, least_in (leaves vs taken) cs (next_of cs vs taken) (One d.i) l (candidate_one n degree d.i d.from d.to), less k.u k.v d.i k.both k.agree d.differ)
  where
    less : (u v i : ℕ) → In2 u v vs → number_of taken u ≡ number_of taken v → (input u i ≡ input v i → ⊥) → leaves vs taken (One i) < left vs taken
    less u v i m e g =
        pairs_fewer (number_of taken) (number_of (taken ++ (One i ∷ []))) (λ a b p. (snoc_split taken (One i) a b p).0) u v e (λ p. g (unfold value_of in (snoc_split taken (One i) u v p).1)) vs m
