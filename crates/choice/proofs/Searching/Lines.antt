-- The best line by line is the best of all candidates. Assumes nothing.
use Prim.Native.Nat.{ℕ, zero, suc, ◌+◌, ◌-◌, ◌≤◌, ◌<◌}
use native.Mathlib.Omega.{arith}
use mathlib.Core.Path.{◌≡◌, refl, sym, ap, subst, ◌∙◌}
use mathlib.Core.Bool.{Bool, true, false, cond, true≢false}
use mathlib.Core.List.{List, [], ◌∷◌}
use lib.Dec.{eqb, ltb}
use borrow.Author.Tests.{lt-ltb, eqb-true, eqb-false}
use Rattle.vectors.specs.declared.Kind.{Kind}
use Rattle.vectors.specs.Variable.{earlier, later}
use Rattle.vectors.specs.declared.Kind.TheVariants.{One, Two}
use Rattle.choice.specs.Choice.{ones, twos_at, twos, candidates, fewest, best_of}
use Rattle.choice.proofs.Choice.Loops.{better, fewest_append, best_one, best_two}
use Rattle.choice.specs.declared.search.Best.{Best}
use Rattle.choice.specs.Inner.Search.{better_of, best_line, best_lines, none_best, lines_of}
use Rattle.choice.proofs.Counting.Agree.{ltb_rest}
use Rattle.choice.proofs.Searching.Order.{kind_of}

-- no more lines than inputs
pub lines_few : (n degree : ℕ) → 0 < n → lines_of n degree ≤ n
lines_few n degree h = go (eqb degree 2)
  where
    go : (t : Bool) → cond t n 1 ≤ n
    go true = omega arith
    go false = h

-- input i with d inputs from j on
kinds : ℕ → ℕ → ℕ → List Kind
kinds i zero j = []
kinds i (suc d) j = kind_of i j ∷ kinds i d (suc j)

kinds_ones : (d j : ℕ) → kinds 0 d j ≡ ones d j
unfolding kinds ones
kinds_ones zero j = refl
kinds_ones (suc d) j = ap (λ (l : List Kind). One j ∷ l) (kinds_ones d (suc j))

kinds_twos : (i d j : ℕ) → kinds (suc i) d j ≡ twos_at d (suc i) j
unfolding kinds twos_at
kinds_twos i zero j = refl
kinds_twos i (suc d) j = ap (λ (l : List Kind). Two (suc i) j ∷ l) (kinds_twos i d (suc j))

module _ (g : ℕ → ℕ → ℕ) (most n : ℕ) (low : (i j : ℕ) → i < j → j ≤ n → g i j ≤ most) where
  -- what a candidate leaves of most
  abbrev left : Kind → ℕ
  left k = most - g (earlier k) (later k)

  -- a candidate with what it tells apart
  abbrev held : Kind → Best
  held k = record { i = earlier k; j = later k; gain = g (earlier k) (later k) }

  abbrev Low : Kind → Type 0
  Low k = g (earlier k) (later k) ≤ most

  low_pair : (i j : ℕ) → i < j → j ≤ n → Low (kind_of i j)
  low_pair zero j h l = low zero j h l
  low_pair (suc i) j h l = low (suc i) j h l

  -- one more
  better_held : (b c : Kind) → Low b → Low c → (cond (ltb (held b).gain (held c).gain) (held c) (held b) ≡ held (better left b c)) × Low (better left b c)
  better_held b c p q = go (ltb (g (earlier b) (later b)) (g (earlier c) (later c))) (ltb (left c) (left b)) (ltb_rest (g (earlier c) (later c)) (g (earlier b) (later b)) most q p)
    where
      go : (s t : Bool) → s ≡ t → (cond s (held c) (held b) ≡ held (cond t c b)) × Low (cond t c b)
      go true true e = (refl, q)
      go false false e = (refl, p)
      go true false e = absurd (true≢false e)
      go false true e = absurd (true≢false (sym e))

  better_pair : (b : Kind) (i j : ℕ) → i < j → j ≤ n → Low b → (better_of g (held b) i j ≡ held (better left b (kind_of i j))) × Low (better left b (kind_of i j))
  better_pair b zero j h l p = better_held b (One j) p (low zero j h l)
  better_pair b (suc i) j h l p = better_held b (Two (suc i) j) p (low (suc i) j h l)

  -- a line
  line_held : (b : Kind) (i d j : ℕ) → i < j → j + d ≤ n + 1 → Low b → (best_line g (held b) i d j ≡ held (fewest left b (kinds i d j))) × Low (fewest left b (kinds i d j))
  unfolding best_line fewest kinds
  line_held b i zero j h m p = (refl, p)
  line_held b i (suc d) j h m p =
      let (e, q) = better_pair b i j h (omega arith) p in
      let (r, s) = line_held (better left b (kind_of i j)) i d (suc j) (omega arith) (omega arith) q in
      (ap (λ (x : Best). best_line g x i d (suc j)) e ∙ r, s)

  -- the pairs
  lines_held : (b : Kind) (i d : ℕ) → suc i + d ≡ n → Low b → best_lines g n (held b) (suc i) d ≡ held (fewest left b (twos (suc d) (suc i)))
  unfolding best_lines twos twos_at fewest
  lines_held b i zero m p = refl
  lines_held b i (suc d) m p =
      let e : n - suc i ≡ suc d = omega arith in
      let (r, s) = line_held b (suc i) (suc d) (suc (suc i)) (omega arith) (omega arith) p in
      let k : kinds (suc i) (suc d) (suc (suc i)) ≡ twos_at (suc d) (suc i) (suc (suc i)) = kinds_twos i (suc d) (suc (suc i)) in
      ap (λ (c : ℕ). best_lines g n (best_line g (held b) (suc i) c (suc (suc i))) (suc (suc i)) d) e
      ∙ ap (λ (x : Best). best_lines g n x (suc (suc i)) d) r
      ∙ lines_held (fewest left b (kinds (suc i) (suc d) (suc (suc i)))) (suc i) d (omega arith) s
      ∙ ap (λ (l : List Kind). held (fewest left (fewest left b l) (twos (suc d) (suc (suc i))))) k
      ∙ ap held (sym (fewest_append left b (twos_at (suc d) (suc i) (suc (suc i))) (twos (suc d) (suc (suc i)))))

  -- x_1 first
  first_held : better_of g none_best 0 1 ≡ held (One 1)
  first_held = go (g 0 1)
    where
      go : (v : ℕ) → ◌≡◌ {A = Best} (cond (ltb 0 v) (record { i = 0; j = 1; gain = v }) none_best) (record { i = 0; j = 1; gain = v })
      go zero = refl
      go (suc v) = rw (lt-ltb 0 (suc v) (omega arith)) refl

  module _ (m : ℕ) (h : n ≡ suc m) where
    ones_held : (best_line g none_best 0 n 1 ≡ held (fewest left (One 1) (ones (n - 1) 2))) × Low (fewest left (One 1) (ones (n - 1) 2))
    unfolding best_line
    ones_held =
        let d : n - 1 ≡ m = omega arith in
        let (r, s) = line_held (One 1) 0 m 2 (omega arith) (omega arith) (low 0 1 (omega arith) (omega arith)) in
        let q : fewest left (One 1) (kinds 0 m 2) ≡ fewest left (One 1) (ones (n - 1) 2) = ap (fewest left (One 1)) (kinds_ones m 2 ∙ ap (λ (c : ℕ). ones c 2) (sym d)) in
        (ap (λ (c : ℕ). best_line g none_best 0 c 1) h ∙ ap (λ (x : Best). best_line g x 0 m 2) first_held ∙ r ∙ ap held q, subst Low q s)

    -- the line of the single inputs, then the others
    lines_first : (d : ℕ) → best_lines g n none_best 0 (suc d) ≡ best_lines g n (best_line g none_best 0 n 1) 1 d
    unfolding best_lines
    lines_first d = let e : n - 0 ≡ n = omega arith in ap (λ (c : ℕ). best_lines g n (best_line g none_best 0 c 1) 1 d) e

    lines_one : best_lines g n (best_line g none_best 0 n 1) 1 0 ≡ best_line g none_best 0 n 1
    unfolding best_lines
    lines_one = refl

    -- all lines
    pub lines_best : (degree : ℕ) → best_lines g n none_best 0 (lines_of n degree) ≡ held (best_of left (candidates n degree))
    lines_best degree = go (eqb degree 2) refl
      where
        go : (t : Bool) → eqb degree 2 ≡ t → best_lines g n none_best 0 (cond t n 1) ≡ held (best_of left (candidates n degree))
        go false e = lines_first 0 ∙ lines_one ∙ ones_held.0 ∙ ap held (sym (best_one left n degree (omega arith) (eqb-false degree 2 e)))
        go true e =
            ap (best_lines g n none_best 0) h ∙ lines_first m ∙ ap (λ (x : Best). best_lines g n x 1 m) ones_held.0
            ∙ lines_held (fewest left (One 1) (ones (n - 1) 2)) 0 m (omega arith) ones_held.1
            ∙ ap (λ (c : ℕ). held (fewest left (fewest left (One 1) (ones (n - 1) 2)) (twos c 1))) (sym h)
            ∙ ap held (sym (best_two left n degree (omega arith) (eqb-true degree 2 e)))
