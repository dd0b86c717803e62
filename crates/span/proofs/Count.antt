-- How many inputs are kept: the vectors of n bits are as many as the values of the variables times those of the kept inputs. Assumes nothing.
use Prim.Native.Nat.{ℕ, suc, ◌+◌, ◌*◌, ◌/◌, ◌%◌, ◌^◌, ◌≤◌, ◌<◌}
use native.Mathlib.Nat.{mod-lt}
use native.Mathlib.Omega.{arith}
use mathlib.Core.Path.{◌≡◌, sym, ap, ap₂, ◌∙◌}
use mathlib.Core.List.{List}
use mathlib.Core.Logic.{⊎_elim}
use lib.Count.{ones}
use lib.ListN.{length}
use lib.Pow.{pow_pos, pow-lt, shr_lt, split}
use Rattle.lists.specs.Members.{All}
use Rattle.lists.proofs.Tests.{le_or_lt}
use Rattle.lists.proofs.Counting.{Into, into_le}
use Rattle.vectors.specs.declared.Kind.{Kind}
use Rattle.vectors.specs.Variable.{number_of}
use Rattle.vectors.specs.Word.{pack_in}
use Rattle.vectors.proofs.Variables.Numbers.{number_lt, parts}
use Rattle.vectors.proofs.Words.Packing.{pack_lt_ones}
use Rattle.vectors.proofs.Words.Laws.{sum_lt}
use Rattle.span.specs.Span.{kept, first_dependent}
use Rattle.span.proofs.Spans.{kept_lt}
use Rattle.span.proofs.Unique.{unique}
use Rattle.span.proofs.Labels.Edges.{Edge}
use Rattle.span.proofs.Labels.Recovery.{read_with, Recovered, recovered}

pow_le : (i j : ℕ) → 2 ^ i ≤ 2 ^ j → i ≤ j
pow_le i j h = ⊎_elim (λ l. l) (λ l. absurd (omega (arith, pow-lt {i = j} {j = i} l))) (le_or_lt i j)

module _ (n : ℕ) (ks : List Kind) (f : All (Edge n) ks) (e : first_dependent ks ≡ 0) where
  abbrev p : ℕ
  p = length ks

  abbrev o : ℕ
  o = ones (kept n ks)

  -- a vector by its values and its kept inputs
  seen : Into (2 ^ n) (2 ^ (p + o)) (λ x. number_of ks x + 2 ^ p * pack_in n (kept n ks) x)
  seen =
      record {
        below = λ x h. sum_lt p o _ _ (number_lt ks x) (pack_lt_ones n (kept n ks) x (kept_lt n ks));
        apart = λ x y hx hy q.
            let s = parts (2 ^ p) _ _ _ _ (number_lt ks x) (number_lt ks y) q in
            unique n ks x y hx hy s.0 s.1;
      }

  -- the vector that is read off
  read : Into (2 ^ (p + o)) (2 ^ n) (λ y. read_with n ks (suc n) (y % 2 ^ p) (y / 2 ^ p))
  read =
      record {
        below = λ y h. (at y h).below;
        apart = λ y z hy hz q.
            let r : y % 2 ^ p ≡ z % 2 ^ p = sym (at y hy).values ∙ ap (number_of ks) q ∙ (at z hz).values in
            let s : y / 2 ^ p ≡ z / 2 ^ p = sym (at y hy).rest ∙ ap (pack_in n (kept n ks)) q ∙ (at z hz).rest in
            sym (split y p) ∙ ap₂ (λ (t u : ℕ). t * 2 ^ p + u) s r ∙ split z p;
      }
    where
      at : (y : ℕ) → y < 2 ^ (p + o) → Recovered n ks (y % 2 ^ p) (y / 2 ^ p) (read_with n ks (suc n) (y % 2 ^ p) (y / 2 ^ p))
      at y h =
          let c : p + o ≡ o + p = omega arith in
          recovered n ks (suc n) (y % 2 ^ p) (y / 2 ^ p) (omega arith) f e (mod-lt y (pow_pos p)) (shr_lt o p (rw c at h))

  -- SCOPE 6.2: p independent variables leave n - p inputs to be kept
  pub kept_number : ones (kept n ks) + length ks ≡ n
  kept_number = omega (arith, pow_le n (p + o) (into_le _ _ _ seen), pow_le (p + o) n (into_le _ _ _ read))
