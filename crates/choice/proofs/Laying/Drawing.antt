-- The blocks turned on their side, one after the other. Assumes nothing.
use Prim.Native.Nat.{ℕ, zero, suc, ◌+◌, ◌-◌, ◌*◌, ◌≤◌, ◌<◌}
use native.Mathlib.Omega.{arith}
use native.Mathlib.Nat.{eq-or-lt_of_le}
use mathlib.Core.Path.{◌≡◌, refl, sym, ap, ◌∙◌}
use mathlib.Core.List.{List, ◌++◌}
use mathlib.Core.Logic.{◌⊎◌, inl, inr}
use lib.ListN.{length, get_or, take, drop, length-append, length-drop, get_or-append}
use lib.Seq.{drop-drop, drop_at, get_or-take, get_or-append-add, length-take-le}
use Rattle.transpose.specs.Turn.{column, turned, turned_in}
use Rattle.transpose.proofs.Columns.{turned_length, turned_at, turned_in_lem}
use Rattle.choice.specs.Inner.Layout.{max_blocks, block, input_column}
use Rattle.vectors.specs.Bounds.{max_inputs}
use Rattle.choice.specs.Inner.Judged.{columns_size, column_at, Drawn}

-- the first blocks are turned, and what stands after them is as before
pub record Drawing (items columns : List ℕ) (done : ℕ) : Type 0 where
  pub drawn : Drawn items columns done
  pub left : drop (64 * done) columns ≡ drop (64 * done) items

pub drawing_none : (items : List ℕ) → length items ≡ columns_size → Drawing items items 0
drawing_none items e = record { drawn = record { size = e; are = λ i w h l. absurd (omega arith) }; left = refl }

-- block w is turned where it stands
module _ (items before ys : List ℕ) (w : ℕ) (h : w < max_blocks) (is : ys ≡ turned_in (block w before)) (d : Drawing items before w) where
  abbrev front : List ℕ
  front = take (64 * w) before

  abbrev rest : List ℕ
  rest = drop 64 (drop (64 * w) before)

  abbrev after : List ℕ
  after = front ++ (ys ++ rest)

  turned_is : ys ≡ turned (block w items)
  turned_is =
      let long : 64 ≤ length (drop (64 * w) before) = omega (arith, length-drop (64 * w) before, d.drawn.size) in
      is ∙ turned_in_lem (block w before) (length-take-le 64 (drop (64 * w) before) long) ∙ ap (λ (l : List ℕ). turned (take 64 l)) d.left

  front_long : length front ≡ 64 * w
  front_long = length-take-le (64 * w) before (omega (arith, d.drawn.size))

  ys_long : length ys ≡ 64
  ys_long = ap length turned_is ∙ turned_length (block w items)

  after_long : length after ≡ columns_size
  after_long =
      let e : length rest ≡ length before - 64 * w - 64 = length-drop 64 (drop (64 * w) before) ∙ ap (λ (n : ℕ). n - 64) (length-drop (64 * w) before) in
      omega (arith, length-append front (ys ++ rest), length-append ys rest, e, front_long, ys_long, d.drawn.size)

  here : (i : ℕ) → i < 64 → get_or after (64 * w + i) 0 ≡ column i (block w items)
  here i l =
      ap (λ (n : ℕ). get_or after (n + i) 0) (sym front_long) ∙ get_or-append-add front (ys ++ rest) i 0 ∙ get_or-append ys rest 0 i (omega (arith, ys_long))
      ∙ ap (λ (l : List ℕ). get_or l i 0) turned_is ∙ turned_at i (block w items) l

  kept : (x : ℕ) → x < 64 * w → get_or after x 0 ≡ get_or before x 0
  kept x l = get_or-append front (ys ++ rest) 0 x (omega (arith, front_long)) ∙ get_or-take (64 * w) before x 0 l

  are_more : (i v : ℕ) → i ≤ max_inputs → v < w + 1 → column_at after i v ≡ input_column i (block v items)
  are_more zero v l k = refl
  are_more (suc i) v l k = let low : v ≤ w = omega arith in go (eq-or-lt_of_le low)
    where
      go : (v ≡ w) ⊎ (v < w) → get_or after (64 * v + i) 0 ≡ column i (block v items)
      go (inl e) = rw e (here i (omega arith))
      go (inr q) = kept (64 * v + i) (omega arith) ∙ d.drawn.are (suc i) v l q

  left_more : drop (64 * (w + 1)) after ≡ drop (64 * (w + 1)) items
  left_more =
      let e : 64 * (w + 1) ≡ 64 * w + 64 = omega arith in
      rw e
      (sym (drop-drop 64 (64 * w) after) ∙ ap (drop 64) (drop_at front (ys ++ rest) (64 * w) front_long) ∙ drop_at ys rest 64 ys_long ∙ ap (drop 64) d.left
      ∙ drop-drop 64 (64 * w) items)

  pub drawing_more : Drawing items (take (64 * w) before ++ (ys ++ drop 64 (drop (64 * w) before))) (w + 1)
  drawing_more = record { drawn = record { size = after_long; are = are_more }; left = left_more }
