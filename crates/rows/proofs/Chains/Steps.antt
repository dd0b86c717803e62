-- The chains of vectors in AUX, and the marks of the rows. Assumes nothing.
use Prim.Native.Nat.{ℕ, zero, suc, ◌+◌, ◌-◌, ◌≤◌, ◌<◌}
use native.Mathlib.Omega.{arith}
use mathlib.Core.Path.{◌≡◌, refl, sym, ap, ◌∙◌}
use mathlib.Core.Bool.{Bool, true, false}
use mathlib.Core.List.{List, [], ◌∷◌}
use lib.Dec.{ltb, leb}
use lib.ListN.{length, get_or, take, drop, length-drop}
use lib.Seq.{take_all, get_or-drop}
use borrow.Author.Tests.{ltb-true, ltb-false, lt-ltb, le-ltb, le-leb, lt-leb}
use Rattle.rows.specs.Care.{Care}
use Rattle.rows.specs.Answer.{care_of}
use Rattle.rows.specs.Inner.Chains.{next_in, weight_in, chain_in, chain, Rises, Weighs, mark_bit}

-- ---- the words after the first, as the code takes them

pub tail_is : (ws : List ℕ) → take (length ws - 1) (drop 1 ws) ≡ drop 1 ws
tail_is ws = take_all (length ws - 1) (drop 1 ws) (omega (arith, length-drop 1 ws))

pub tail_at : (ws : List ℕ) (i : ℕ) → get_or (take (length ws - 1) (drop 1 ws)) i 0 ≡ get_or ws (i + 1) 0
tail_at ws i =
    let n : 1 + i ≡ i + 1 = omega arith in
    ap (λ (l : List ℕ). get_or l i 0) (tail_is ws) ∙ get_or-drop 1 ws i 0 ∙ ap (λ (j : ℕ). get_or ws j 0) n

-- ---- a walk along the links

module _ (ws : List ℕ) where
  in_end : (f j : ℕ) → length ws ≤ j → chain_in f ws j ≡ []
  unfolding chain_in
  in_end zero j l = refl
  in_end (suc f) j l = rw (le-ltb j (length ws) l, chain_in)

  in_step : (f j : ℕ) → j < length ws → chain_in (suc f) ws j ≡ care_of j (get_or ws j 0) ∷ chain_in f ws (next_in (get_or ws j 0))
  unfolding chain_in
  in_step f j l = rw (lt-ltb j (length ws) l, chain_in)

  -- past the words there is none
  pub chain_end : (j : ℕ) → length ws ≤ j → chain ws j ≡ []
  unfolding chain
  chain_end j l = in_end (length ws) j l

  in_length : (f j : ℕ) → length (chain_in f ws j) ≤ f
  unfolding chain_in
  in_length zero j = omega arith
  in_length (suc f) j = go (ltb j (length ws)) refl (in_length f (next_in (get_or ws j 0)))
    where
      go : (t : Bool) → ltb j (length ws) ≡ t → length (chain_in f ws (next_in (get_or ws j 0))) ≤ f → length (chain_in (suc f) ws j) ≤ suc f
      go true e i = rw (in_step f j (ltb-true j (length ws) e)) (omega arith)
      go false e i = rw (in_end (suc f) j (ltb-false j (length ws) e)) (omega arith)

  -- a chain has no more vectors than there are words
  pub chain_length : (j : ℕ) → length (chain ws j) ≤ length ws
  unfolding chain
  chain_length j = in_length (length ws) j

module _ (b : ℕ) (ws : List ℕ) (rises : Rises b ws) where
  in_enough : (f h j : ℕ) → b < j → length ws ≤ j + f → length ws ≤ j + h → chain_in f ws j ≡ chain_in h ws j
  in_enough zero h j p l m = in_end ws zero j (omega arith) ∙ sym (in_end ws h j (omega arith))
  in_enough (suc f) zero j p l m = in_end ws (suc f) j (omega arith) ∙ sym (in_end ws zero j (omega arith))
  in_enough (suc f) (suc h) j p l m = go (ltb j (length ws)) refl (in_enough f h (next_in (get_or ws j 0)))
    where
      n : ℕ
      n = next_in (get_or ws j 0)

      go : (t : Bool) → ltb j (length ws) ≡ t → (b < n → length ws ≤ n + f → length ws ≤ n + h → chain_in f ws n ≡ chain_in h ws n)
          → chain_in (suc f) ws j ≡ chain_in (suc h) ws j
      go true e i =
          let a : j < length ws = ltb-true j (length ws) e in
          let u : j < n = rises j p a in
          in_step ws f j a ∙ ap (λ (l : List Care). care_of j (get_or ws j 0) ∷ l) (i (omega arith) (omega arith) (omega arith)) ∙ sym (in_step ws h j a)
      go false e i = in_end ws (suc f) j (ltb-false j (length ws) e) ∙ sym (in_end ws (suc h) j (ltb-false j (length ws) e))

  -- the chain at a vector is that vector, and the chain at the next
  pub chain_step : (j : ℕ) → b < j → j < length ws → chain ws j ≡ care_of j (get_or ws j 0) ∷ chain ws (next_in (get_or ws j 0))
  unfolding chain
  chain_step j p l = in_enough (length ws) (suc (length ws)) j p (omega arith) (omega arith) ∙ in_step ws (length ws) j l

-- ---- two lists of words that agree past b have the same chains there

module _ (b : ℕ) (ws ws' : List ℕ) (rises : Rises b ws) (size : length ws' ≡ length ws) (same : (j : ℕ) → b < j → get_or ws' j 0 ≡ get_or ws j 0) where
  in_agree : (f j : ℕ) → b < j → chain_in f ws' j ≡ chain_in f ws j
  unfolding chain_in
  in_agree zero j l = refl
  in_agree (suc f) j l = go (ltb j (length ws)) refl (in_agree f (next_in (get_or ws j 0)))
    where
      go : (t : Bool) → ltb j (length ws) ≡ t → (b < next_in (get_or ws j 0) → chain_in f ws' (next_in (get_or ws j 0)) ≡ chain_in f ws (next_in (get_or ws j 0)))
          → chain_in (suc f) ws' j ≡ chain_in (suc f) ws j
      go true e i =
          let a : j < length ws = ltb-true j (length ws) e in
          let u : j < next_in (get_or ws j 0) = rises j l a in
          in_step ws' f j (omega arith) ∙ rw (same j l, i (omega arith)) (sym (in_step ws f j a))
      go false e i =
          let a : length ws ≤ j = ltb-false j (length ws) e in
          in_end ws' (suc f) j (omega arith) ∙ sym (in_end ws (suc f) j a)

  pub chain_agree : (j : ℕ) → b < j → chain ws' j ≡ chain ws j
  unfolding chain
  chain_agree j l = rw size (in_agree (length ws) j l)

-- ---- the weight at a vector

-- how many vectors there are from j on, by the weight in its word; 0 past the end
pub weight_from : List ℕ → ℕ → ℕ
weight_from ws j = elim (ltb j (length ws)) [ true ↦ weight_in (get_or ws j 0) | false ↦ 0 ]

pub weight_in_lem : (ws : List ℕ) (j : ℕ) → j < length ws → weight_from ws j ≡ weight_in (get_or ws j 0)
unfolding weight_from
weight_in_lem ws j l = rw (lt-ltb j (length ws) l, weight_from)

pub weight_out : (ws : List ℕ) (j : ℕ) → length ws ≤ j → weight_from ws j ≡ 0
unfolding weight_from
weight_out ws j l = rw (le-ltb j (length ws) l, weight_from)

-- it is how many the chain has
pub weight_chain : (b : ℕ) (ws : List ℕ) → Weighs b ws → (j : ℕ) → b < j → weight_from ws j ≡ length (chain ws j)
weight_chain b ws weighs j l = go (ltb j (length ws)) refl
  where
    go : (t : Bool) → ltb j (length ws) ≡ t → weight_from ws j ≡ length (chain ws j)
    go true e = let a : j < length ws = ltb-true j (length ws) e in weight_in_lem ws j a ∙ weighs j l a
    go false e = let a : length ws ≤ j = ltb-false j (length ws) e in weight_out ws j a ∙ sym (ap length (chain_end ws j a))

-- ---- the vector that a mark stands at

-- past the end for a row that is placed or empty
pub head_of : ℕ → ℕ → ℕ
head_of end x = elim (leb x mark_bit) [ true ↦ end | false ↦ x - mark_bit ]

pub head_none : (end x : ℕ) → x ≤ mark_bit → head_of end x ≡ end
unfolding head_of
head_none end x l = rw (le-leb x mark_bit l, head_of)

pub head_some : (end x : ℕ) → mark_bit < x → head_of end x ≡ x - mark_bit
unfolding head_of
head_some end x l = rw (lt-leb x mark_bit l, head_of)

-- what the code adds to a word for a row of the mark x: the vector that it stands at and the weight there, or the end and 0
pub record Met (ws : List ℕ) (x next later : ℕ) : Type 0 where
  pub next_is : next ≡ head_of (length ws) x
  pub later_is : later ≡ weight_from ws next

pub weight_none : (ws : List ℕ) (x : ℕ) → x ≤ mark_bit → weight_from ws (head_of (length ws) x) ≡ 0
weight_none ws x l = rw (head_none (length ws) x l) (weight_out ws (length ws) (omega arith))

pub weight_some : (ws : List ℕ) (x : ℕ) → mark_bit < x → x - mark_bit < length ws → weight_from ws (head_of (length ws) x) ≡ weight_in (get_or ws (x - mark_bit) 0)
weight_some ws x l h = rw (head_some (length ws) x l) (weight_in_lem ws (x - mark_bit) h)

pub met_none : (ws : List ℕ) (x : ℕ) → x ≤ mark_bit → Met ws x (length ws) 0
met_none ws x l = record { next_is = sym (head_none (length ws) x l); later_is = sym (weight_out ws (length ws) (omega arith)) }

pub met_some : (ws : List ℕ) (x first v : ℕ) → mark_bit < x → first ≡ x - mark_bit → first < length ws → v ≡ weight_in (get_or ws first 0) → Met ws x first v
met_some ws x first v l e h w = record { next_is = e ∙ sym (head_some (length ws) x l); later_is = w ∙ sym (weight_in_lem ws first h) }
