-- What an answer says of the placing, with an allowance of a tries. Assumes nothing.
use Prim.Native.Nat.{ℕ}
use mathlib.Core.Path.{◌≡◌, refl, sym, ap, ◌∙◌}
use mathlib.Core.List.{List}
use Rattle.rows.specs.Place.{Placing}
use Rattle.rows.specs.Allowance.{end_within}
use Rattle.rows.specs.Answer.{Left, left, settle, Placed}
use Rattle.rows.specs.End.{End, All, NoFit, Over, Unfit}

module _ (a : ℕ) (P : Placing) (h g : List ℕ) where
  pub settle_all : end_within a P ≡ All → settle a P h g ≡ left (record { end = All; tries = P.state.tries }) P.state.h P.state.g
  unfolding settle
  settle_all e = rw (e, settle)

  pub settle_stuck : (row tried cells : ℕ) → end_within a P ≡ NoFit row tried cells
      → settle a P h g ≡ left (record { end = NoFit row tried cells; tries = P.state.tries }) h g
  unfolding settle
  settle_stuck row tried cells e = rw (e, settle)

  pub settle_over : (row : ℕ) → end_within a P ≡ Over row → settle a P h g ≡ left (record { end = Over row; tries = 0 }) h g
  unfolding settle
  settle_over row e = rw (e, settle)

  settle_unfit : end_within a P ≡ Unfit → settle a P h g ≡ left (record { end = Unfit; tries = 0 }) h g
  unfolding settle
  settle_unfit e = rw (e, settle)

  settle_end : (settle a P h g).answer.end ≡ end_within a P
  settle_end = go (end_within a P) refl
    where
      end : Left → End
      end l = l.answer.end

      go : (e : End) → end_within a P ≡ e → (settle a P h g).answer.end ≡ end_within a P
      go All q = ap end (settle_all q) ∙ sym q
      go (NoFit row tried cells) q = ap end (settle_stuck row tried cells q) ∙ sym q
      go (Over row) q = ap end (settle_over row q) ∙ sym q
      go Unfit q = ap end (settle_unfit q) ∙ sym q

-- the answer r, with h and g left of h₀ and g₀: all rows are placed
pub record Done (a : ℕ) (P : Placing) (r : Placed) (h g : List ℕ) : Type 0 where
  pub end_is : end_within a P ≡ All
  pub tries_are : r.tries ≡ P.state.tries
  pub rows_are : h ≡ P.state.h
  pub cells_are : g ≡ P.state.g

-- a row has no displacement, or the tries exceed the allowance
pub record Refused (a : ℕ) (P : Placing) (h g h₀ g₀ : List ℕ) (end : End) : Type 0 where
  pub end_is : end_within a P ≡ end
  pub rows_are : h ≡ h₀
  pub cells_are : g ≡ g₀

module _ (a : ℕ) (P : Placing) (r : Placed) (h g h₀ g₀ : List ℕ) (is : left r h g ≡ settle a P h₀ g₀) where
  -- the answer ends as the placing does
  pub same_end : end_within a P ≡ r.end
  same_end = sym (ap (λ (l : Left). l.answer.end) is ∙ settle_end a P h₀ g₀)

  pub when_all : r.end ≡ All → Done a P r h g
  when_all e =
      let q = same_end ∙ e in
      let s = is ∙ settle_all a P h₀ g₀ q in
      record { end_is = q; tries_are = ap (λ (l : Left). l.answer.tries) s; rows_are = ap (λ (l : Left). l.h) s; cells_are = ap (λ (l : Left). l.g) s }

  pub when_stuck : (row tried cells : ℕ) → r.end ≡ NoFit row tried cells → Refused a P h g h₀ g₀ (NoFit row tried cells)
  when_stuck row tried cells e =
      let q = same_end ∙ e in
      let s = is ∙ settle_stuck a P h₀ g₀ row tried cells q in
      record { end_is = q; rows_are = ap (λ (l : Left). l.h) s; cells_are = ap (λ (l : Left). l.g) s }

  pub when_over : (row : ℕ) → r.end ≡ Over row → Refused a P h g h₀ g₀ (Over row)
  when_over row e =
      let q = same_end ∙ e in
      let s = is ∙ settle_over a P h₀ g₀ row q in
      record { end_is = q; rows_are = ap (λ (l : Left). l.h) s; cells_are = ap (λ (l : Left). l.g) s }
