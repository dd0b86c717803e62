-- A loop along the groups of a list: the next is group g, and its members begin at from. Assumes nothing.
use Prim.Native.Nat.{ℕ, suc, ◌+◌, ◌-◌, ◌≤◌, ◌<◌}
use native.Mathlib.Omega.{arith}
use native.Mathlib.Numerals.{add-one}
use mathlib.Core.Path.{◌≡◌, ap, ◌∙◌}
use mathlib.Core.List.{List, [], ◌∷◌}
use lib.ListN.{length, get_or, take, drop, length-drop, drop_of_length-le}
use lib.Seq.{drop-cons, drop-drop, length-take-le}
use Rattle.lists.specs.Cut.{cut, total}

-- the part of a list that is lent as from..to
abbrev pub lent : ℕ → ℕ → List ℕ → List ℕ
lent from to l = take (to - from) (drop from l)

pub record Walk (sizes l : List ℕ) (from g : ℕ) : Type 0 where
  pub within : g ≤ length sizes
  pub sum : from + total (drop g sizes) ≡ length l

-- the groups still to come
abbrev pub rest : List ℕ → List ℕ → ℕ → ℕ → List (List ℕ)
rest sizes l from g = cut (drop g sizes) (drop from l)

pub walk_start : (sizes l : List ℕ) → total sizes ≡ length l → Walk sizes l 0 0
walk_start sizes l h = record { within = omega arith; sum = omega arith }

pub walk_end : (sizes l : List ℕ) (from g : ℕ) → length sizes ≤ g → rest sizes l from g ≡ []
unfolding cut
walk_end sizes l from g h = rw (drop_of_length-le sizes h)

module _ {sizes l : List ℕ} {from g : ℕ} (w : Walk sizes l from g) (d : ℕ) (h : g < length sizes) where
  total_next : total (drop g sizes) ≡ get_or sizes g d + total (drop (suc g) sizes)
  unfolding total
  total_next = ap total (drop-cons sizes g d h)

  pub walk_fits : from + get_or sizes g d ≤ length l
  walk_fits = omega (arith, total_next, w.sum)

  pub walk_next : Walk sizes l (from + get_or sizes g d) (g + 1)
  walk_next = record { within = omega arith; sum = rw (add-one g) (omega (arith, total_next, w.sum)) }

  pub walk_cut : rest sizes l from g ≡ lent from (from + get_or sizes g d) l ∷ rest sizes l (from + get_or sizes g d) (g + 1)
  unfolding cut
  walk_cut =
      let e : from + get_or sizes g d - from ≡ get_or sizes g d = omega arith in
      ap (λ (ss : List ℕ). cut ss (drop from l)) (drop-cons sizes g d h) ∙ rw (add-one g, e, drop-drop (get_or sizes g d) from l)

  pub walk_length : length (lent from (from + get_or sizes g d) l) ≡ get_or sizes g d
  walk_length =
      let e : from + get_or sizes g d - from ≡ get_or sizes g d = omega arith in
      rw e (length-take-le (get_or sizes g d) (drop from l) (omega (arith, walk_fits, length-drop from l)))
