-- The best candidate line by line: the best so far, no candidate before telling more apart. Assumes nothing.
use Prim.Native.Nat.{ℕ, zero, suc, ◌+◌, ◌-◌, ◌≤◌, ◌<◌}
use native.Mathlib.Nat.{le_trans}
use native.Mathlib.Numerals.{add-one}
use native.Mathlib.Omega.{arith}
use mathlib.Core.Path.{◌≡◌, refl, sym, ap, ap₂, subst, ◌∙◌}
use mathlib.Core.Bool.{Bool, true, false, cond}
use mathlib.Core.Logic.{◌⊎◌, inl, ⊎_elim}
use lib.Dec.{ltb}
use borrow.Author.Tests.{ltb-true, ltb-false, lt-ltb, le-ltb}
use Rattle.lists.proofs.Tests.{le_or_lt}
use Rattle.vectors.specs.Bits.{input}
use Rattle.vectors.specs.Bounds.{max_inputs}
use Rattle.choice.specs.declared.search.Best.{Best}
use Rattle.choice.specs.Inner.Search.{rank, better_of, best_line, best_lines, none_best, Above, Beaten, LineIs}

module _ (g : ℕ → ℕ → ℕ) where
  pub better_new : (b : Best) (i j v : ℕ) → v ≡ g i j → b.gain < v → record { i = i; j = j; gain = v } ≡ better_of g b i j
  better_new b i j v e h = let l : b.gain < g i j = omega arith in rw (lt-ltb b.gain (g i j) l, e)

  pub better_old : (b : Best) (i j : ℕ) → g i j ≤ b.gain → b ≡ better_of g b i j
  better_old b i j h = rw (le-ltb b.gain (g i j) h)

  better_high : (b : Best) (i j : ℕ) → (b.gain ≤ (better_of g b i j).gain) × (g i j ≤ (better_of g b i j).gain)
  better_high b i j = go (ltb b.gain (g i j)) refl
    where
      go : (t : Bool) → ltb b.gain (g i j) ≡ t → (b.gain ≤ (cond t (record { i = i; j = j; gain = g i j }) b).gain) × (g i j ≤ (cond t (record { i = i; j = j; gain = g i j }) b).gain)
      go true e = let l = ltb-true b.gain (g i j) e in (omega arith, omega arith)
      go false e = let l = ltb-false b.gain (g i j) e in (omega arith, omega arith)

  module _ (n : ℕ) where
    -- ---- no candidate before tells more apart

    -- none is before the first
    pub above_none : Above g n none_best (rank 0 1)
    above_none i j h l p = absurd (omega arith)

    -- one more
    above_more : n ≤ max_inputs → (b : Best) (i j : ℕ) → i < j → j ≤ n → Above g n b (rank i j) → Above g n (better_of g b i j) (rank i j + 1)
    above_more fits b i j h l a x y p q r =
        ⊎_elim (λ m. le_trans (a x y p q m) (better_high b i j).0) (λ m. here (omega arith) (omega arith)) (le_or_lt (suc (rank x y)) (rank i j))
      where
        here : x ≡ i → y ≡ j → g x y ≤ (better_of g b i j).gain
        here s t = subst (λ (v : ℕ). v ≤ (better_of g b i j).gain) (sym (ap₂ g s t)) (better_high b i j).1

    -- no candidate stands between the last of a line and the first of the next
    pub above_line : n ≤ max_inputs → (b : Best) (i : ℕ) → Above g n b (rank i (n + 1)) → Above g n b (rank (i + 1) (i + 1 + 1))
    above_line fits b i a x y p q r = a x y p q (omega arith)

    -- a candidate with a tied input tells no more apart
    pub above_tied : (tied : ℕ) → Beaten tied g n → (b : Best) (i j : ℕ) → i < j → j ≤ n → Above g n b (rank i j) → (input tied i ≡ 1) ⊎ (input tied j ≡ 1) → g i j ≤ b.gain
    above_tied tied beaten b i j h l a t = beaten i j h l t b.gain a

    -- ---- a line

    pub record Lineing (i : ℕ) (best b : Best) (j : ℕ) : Type 0 where
      pub after : i < j
      pub within : j ≤ n + 1
      pub is : best_line g b i (n + 1 - j) j ≡ best_line g best i (n - i) (i + 1)
      pub high : Above g n b (rank i j)

    pub lineing_start : (i : ℕ) (best : Best) → i ≤ n → Above g n best (rank i (i + 1)) → Lineing i best best (i + 1)
    lineing_start i best h a =
        let e : n + 1 - (i + 1) ≡ n - i = omega arith in
        record { after = omega arith; within = omega arith; is = ap (λ (d : ℕ). best_line g best i d (i + 1)) e; high = a }

    pub lineing_more : n ≤ max_inputs → (i : ℕ) (best b : Best) (j : ℕ) (r : Best) → j ≤ n → r ≡ better_of g b i j → Lineing i best b j → Lineing i best r (j + 1)
    unfolding best_line
    lineing_more fits i best b j r h e s =
        let d : n + 1 - j ≡ suc (n + 1 - (j + 1)) = omega arith in
        let q : best_line g b i (n + 1 - j) j ≡ best_line g (better_of g b i j) i (n + 1 - (j + 1)) (j + 1) =
        ap (λ (m : ℕ). best_line g b i m j) d ∙ ap (λ (m : ℕ). best_line g (better_of g b i j) i (n + 1 - (j + 1)) m) (sym (add-one j)) in
        rw e
        record { after = omega (arith, s.after); within = omega arith; is = sym q ∙ s.is; high = λ x y p t r. above_more fits b i j s.after h s.high x y p t (omega arith) }

    pub lineing_end : (i : ℕ) (best b : Best) (j : ℕ) → n < j → Lineing i best b j → LineIs g n i best b
    unfolding best_line
    lineing_end i best b j h s =
        let e : n + 1 - j ≡ 0 = omega arith in
        record { is = sym (ap (λ (d : ℕ). best_line g b i d j) e) ∙ s.is; high = λ x y p q r. s.high x y p q (omega arith) }

    -- a tied line leaves the best as it is
    module _ (fits : n ≤ max_inputs) (tied : ℕ) (beaten : Beaten tied g n) (i : ℕ) (t : input tied i ≡ 1) where
      line_tied : (b : Best) (d j : ℕ) → i < j → j + d ≤ n + 1 → Above g n b (rank i j) → (b ≡ best_line g b i d j) × Above g n b (rank i (j + d))
      unfolding best_line
      line_tied b zero j h m a = (refl, λ x y p q r. a x y p q (omega arith))
      line_tied b (suc d) j h m a =
          let o : b ≡ better_of g b i j = better_old b i j (above_tied tied beaten b i j h (omega arith) a (inl t)) in
          let c : Above g n b (rank i (suc j)) = λ x y p q r. subst (λ (e : Best). g x y ≤ e.gain) (sym o) (above_more fits b i j h (omega arith) a x y p q (omega arith)) in
          let (e, f) = line_tied b d (suc j) (omega arith) (omega arith) c in
          (e ∙ ap (λ (x : Best). best_line g x i d (suc j)) o, λ x y p q r. f x y p q (omega arith))

      pub tied_line : (b : Best) → i ≤ n → Above g n b (rank i (i + 1)) → LineIs g n i b b
      tied_line b h a =
          let (e, f) = line_tied b (n - i) (i + 1) (omega arith) (omega arith) a in
          record { is = e; high = λ x y p q r. f x y p q (omega arith) }

    -- so does a line where nothing tells more apart
    module _ (b : Best) (top : (i j : ℕ) → i < j → j ≤ n → g i j ≤ b.gain) where
      line_top : (i d j : ℕ) → i < j → j + d ≤ n + 1 → b ≡ best_line g b i d j
      unfolding best_line
      line_top i zero j h m = refl
      line_top i (suc d) j h m =
          line_top i d (suc j) (omega arith) (omega arith) ∙ ap (λ (x : Best). best_line g x i d (suc j)) (better_old b i j (top i j h (omega arith)))

      pub top_line : (i : ℕ) → i ≤ n → LineIs g n i b b
      top_line i h = record { is = line_top i (n - i) (i + 1) (omega arith) (omega arith); high = λ x y p q r. top x y p q }

    -- ---- the lines

    pub record Going (goal b : Best) (lines i : ℕ) : Type 0 where
      pub within : i ≤ lines
      pub is : best_lines g n b i (lines - i) ≡ goal
      pub high : Above g n b (rank i (i + 1))

    pub going_start : (lines : ℕ) → Going (best_lines g n none_best 0 lines) none_best lines 0
    going_start lines = let e : lines - 0 ≡ lines = omega arith in record { within = omega arith; is = ap (best_lines g n none_best 0) e; high = above_none }

    pub going_more : n ≤ max_inputs → (goal b r : Best) (lines i : ℕ) → i < lines → LineIs g n i b r → Going goal b lines i → Going goal r lines (i + 1)
    unfolding best_lines
    going_more fits goal b r lines i h s w =
        let d : lines - i ≡ suc (lines - (i + 1)) = omega arith in
        let q : best_lines g n b i (lines - i) ≡ best_lines g n (best_line g b i (n - i) (i + 1)) (i + 1) (lines - (i + 1)) =
        ap (λ (m : ℕ). best_lines g n b i m) d ∙ ap (λ (m : ℕ). best_lines g n (best_line g b i (n - i) m) m (lines - (i + 1))) (sym (add-one i)) in
        record { within = omega arith; is = ap (λ (x : Best). best_lines g n x (i + 1) (lines - (i + 1))) s.is ∙ sym q ∙ w.is; high = above_line fits r i s.high }

    pub going_end : (goal b : Best) (lines i : ℕ) → lines ≤ i → Going goal b lines i → b ≡ goal
    unfolding best_lines
    going_end goal b lines i h w = let e : lines - i ≡ 0 = omega arith in sym (ap (best_lines g n b i) e) ∙ w.is
