-- The loops over tags: through the variables, through the inputs, and a number put together bit by bit. Assumes nothing.
use Prim.Native.Nat.{ℕ, zero, suc, ◌+◌, ◌-◌, ◌*◌, ◌/◌, ◌%◌, ◌^◌, ◌≤◌, ◌<◌}
use native.Mathlib.Nat.{zero-add, one-mul, mul-add, mul-one, mul-zero, add_assoc}
use native.Mathlib.Numerals.{add-one}
use native.Mathlib.Omega.{arith}
use mathlib.Core.Path.{◌≡◌, refl, sym, ap, ap₂, ◌∙◌}
use mathlib.Core.Bool.{Bool, true, false, cond}
use mathlib.Core.List.{List, ◌∷◌, map}
use borrow.Author.Tests.{eqb-true}
use lib.Dec.{eqb}
use lib.ListN.{length, get_or, drop}
use lib.Seq.{drop-cons, drop-length}
use Rattle.vectors.specs.declared.Kind.{Kind}
use Rattle.vectors.specs.Variable.{earlier, later}
use Rattle.vectors.proofs.Bits.Laws.{pow_next, shift_next}
use Rattle.span.specs.Span.{kept_in}
use Rattle.span.specs.Inner.Tags.{half, met, joined, tags_on, grounded_on, merged, kept_on, read_off}
use Rattle.span.proofs.Spans.{kept_yes, kept_no}
use Rattle.span.proofs.Labels.Tied.{Tied, length_merged, spans_node, tied_node}
use Rattle.span.proofs.Labels.Tags.{half_at, half_joined, merged_same}

-- ---- a number from its lowest bit on: x has those below j, and rest is what is left of the total

pub record Low (total x j rest : ℕ) : Type 0 where
  pub low : x < 2 ^ j
  pub sum : total ≡ x + 2 ^ j * rest

pub low_none : (total : ℕ) → Low total 0 0 total
low_none total = record { low = omega arith; sum = sym (zero-add _ ∙ one-mul _) }

times_bit : (q b : ℕ) → b < 2 → q * b ≤ q
times_bit q zero h = omega (arith, mul-zero q)
times_bit q (suc zero) h = omega (arith, mul-one q)
times_bit q (suc (suc b)) h = absurd (omega arith)

pub low_more : (total x j b rest rest' x' : ℕ) → b < 2 → rest ≡ b + 2 * rest' → x' ≡ x + 2 ^ j * b → Low total x j rest → Low total x' (j + 1) rest'
low_more total x j b rest rest' x' h e q r =
    let l : 2 ^ j * b ≤ 2 ^ j = times_bit (2 ^ j) b h in
    record {
      low = omega (arith, r.low, pow_next j);
      sum = r.sum ∙ ap (λ (t : ℕ). x + 2 ^ j * t) e ∙ ap (λ (t : ℕ). x + t) (mul-add (2 ^ j) b (2 * rest'))
          ∙ sym (add_assoc x (2 ^ j * b) (2 ^ j * (2 * rest'))) ∙ ap₂ ◌+◌ (sym q) (shift_next j rest');
    }

pub low_all : (total x j rest : ℕ) → rest ≡ 0 → Low total x j rest → x ≡ total
low_all total x j rest e r = sym (r.sum ∙ ap (λ (t : ℕ). x + 2 ^ j * t) e ∙ omega (arith, mul-zero (2 ^ j)))

-- ---- joining by the variables: at the loop's head the tags after those before i, v the values left

pub tags_more : (ks : List Kind) (v : ℕ) (c c' : List ℕ) (i : ℕ) (d : Kind) → i < length ks
    → c' ≡ joined c (earlier (get_or ks i d)) (later (get_or ks i d)) (v % 2)
    → tags_on (drop i ks) v c ≡ tags_on (drop (i + 1) ks) (v / 2) c'
unfolding tags_on
tags_more ks v c c' i d h m = rw (m, drop-cons ks i d h, add-one i)

pub tags_end : (ks : List Kind) (v : ℕ) (c : List ℕ) (i : ℕ) → length ks ≡ i → tags_on (drop i ks) v c ≡ c
unfolding tags_on
tags_end ks v c i e = rw (← e, drop-length ks)

-- ---- joining to the ground: at the loop's head j inputs passed, w the kept inputs left

module _ (n j w : ℕ) (c : List ℕ) (h : j < n) where
  step : n - j ≡ suc (n - (j + 1))
  step = omega arith

  pub ground_more : (w' : ℕ) (c' : List ℕ) → w' ≡ cond (met c (j + 1) 0) w (w / 2) → c' ≡ joined c (j + 1) 0 (w % 2)
      → grounded_on (n - j) j w c ≡ grounded_on (n - (j + 1)) (j + 1) w' c'
  unfolding grounded_on
  ground_more w' c' e q = rw (step, e, q, add-one j)

  pub kept_more : (c' : List ℕ) (v : ℕ) → v < 2 → c' ≡ joined c (j + 1) 0 v
      → kept_on (n - j) j (map half c) ≡ cond (met c (j + 1) 0) 0 1 + 2 * kept_on (n - (j + 1)) (j + 1) (map half c')
  unfolding kept_on
  kept_more c' v l q = rw (step, q, half_joined c (j + 1) 0 v l, add-one j, half_at c (suc j), half_at c 0)

  pub read_more : read_off (n - j) j c ≡ (get_or c (j + 1) 0 + get_or c 0 0) % 2 + 2 * read_off (n - (j + 1)) (j + 1) c
  unfolding read_off
  read_more = rw (step, add-one j)

module _ (n j : ℕ) (c : List ℕ) (e : j ≡ n) where
  over : n - j ≡ 0
  over = omega arith

  pub ground_end : (w : ℕ) → grounded_on (n - j) j w c ≡ c
  unfolding grounded_on
  ground_end w = rw over

  pub kept_end : kept_on (n - j) j c ≡ 0
  unfolding kept_on
  kept_end = rw over

  pub read_end : read_off (n - j) j c ≡ 0
  unfolding read_off
  read_end = rw over

-- ---- the inputs that are kept by labels are those of the rule

pub kept_tied : (d j : ℕ) (ms c : List ℕ) → Tied ms c → j + d < length c → kept_on d j c ≡ kept_in d j ms
unfolding kept_on kept_in
kept_tied zero j ms c t l = refl
kept_tied (suc d) j ms c t l = go (eqb (get_or c (suc j) 0) (get_or c 0 0)) refl (λ ms' c' t' l'. kept_tied d (suc j) ms' c' t' l')
  where
    go : (y : Bool) → eqb (get_or c (suc j) 0) (get_or c 0 0) ≡ y
        → ((ms c : List ℕ) → Tied ms c → suc j + d < length c → kept_on d (suc j) c ≡ kept_in d (suc j) ms)
        → cond y 0 1 + 2 * kept_on d (suc j) (merged c (suc j) 0) ≡ kept_in (suc d) j ms
    go true e ih =
        rw (kept_yes d j ms (spans_node ms c t j (omega arith) ∙ e), merged_same c (suc j) 0 (eqb-true _ _ e))
        (zero-add _ ∙ ap (λ (x : ℕ). 2 * x) (ih ms c t (omega arith)))
    go false e ih =
        rw (kept_no d j ms (spans_node ms c t j (omega arith) ∙ e))
        (ap (λ (x : ℕ). 1 + 2 * x) (ih (2 ^ j ∷ ms) (merged c (suc j) 0) (tied_node ms c t j (omega arith)) (omega (arith, length_merged c (suc j) 0))))
