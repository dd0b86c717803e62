-- A row by its mark, beside its displacement in the placing. Assumes nothing.
use Prim.Native.Nat.{ℕ, ◌+◌, ◌-◌, ◌≤◌, ◌<◌}
use native.Mathlib.Omega.{arith}
use mathlib.Core.Path.{◌≡◌, refl, sym, ap, ◌∙◌}
use mathlib.Core.Bool.{Bool, true, false}
use mathlib.Core.List.{List, [], ◌∷◌, map}
use lib.Dec.{eqb}
use lib.ListN.{length, get_or, set, length-map}
use lib.Seq.{get_or-set_same, get_or-set_other}
use borrow.Author.Tests.{eqb-true, eqb-false}
use Rattle.lists.specs.First.{has}
use Rattle.lists.proofs.Finding.Has.{has_other, has_self}
use Rattle.rows.specs.Care.{Care, in_row, weight_of, open_weight}
use Rattle.rows.specs.Answer.{owned}
use Rattle.rows.specs.Inner.Chains.{chain, chain_of, Rises, Weighs, Mark, empty, start, mark_bit}
use Rattle.rows.proofs.Placing.Open.{open_is}
use Rattle.rows.proofs.Chains.Steps.{weight_from, head_of, weight_out, weight_chain, head_none, head_some}
use Rattle.rows.proofs.Chains.Walks.{chain_pos}
use Rattle.rows.proofs.Answers.Owned.{owned_row}

-- the row r, of the mark x and the displacement y: it is placed or empty; or it is marked, and its chain has its vectors
pub data RowState (owner : ℕ) (ws : List ℕ) (cs : List Care) (order : List ℕ) (r x y : ℕ) : Type 0 where
  shut : x ≤ mark_bit → x ≡ y → open_weight cs order r ≡ 0 → RowState owner ws cs order r x y
  marked : mark_bit < x → x < mark_bit + length ws → chain_of owner ws (x - mark_bit) ≡ in_row r cs → has r order ≡ false → RowState owner ws cs order r x y

module _ (owner : ℕ) (ws : List ℕ) (cs : List Care) (order : List ℕ) where
  marked_weight : (r x : ℕ) → chain_of owner ws (x - mark_bit) ≡ in_row r cs → has r order ≡ false → length (chain ws (x - mark_bit)) ≡ open_weight cs order r
  unfolding weight_of
  marked_weight r x e n = sym (length-map (chain ws (x - mark_bit)) (owned owner)) ∙ ap length e ∙ sym (open_is cs order r n)

  pub row_weight : Weighs 0 ws → {r x y : ℕ} → RowState owner ws cs order r x y → weight_from ws (head_of (length ws) x) ≡ open_weight cs order r
  row_weight weighs {r} {x} (shut a b c) = rw (head_none (length ws) x a) (weight_out ws (length ws) (omega arith) ∙ sym c)
  row_weight weighs {r} {x} (marked a b c n) =
      rw (head_some (length ws) x a) (weight_chain 0 ws weighs (x - mark_bit) (omega arith) ∙ marked_weight r x c n)

  pub row_none : Rises 0 ws → {r x y : ℕ} → RowState owner ws cs order r x y → open_weight cs order r ≡ 0 → x ≡ y
  row_none rises (shut a b c) z = b
  row_none rises {r} {x} (marked a b c n) z = absurd (omega (arith, marked_weight r x c n, chain_pos ws rises (x - mark_bit) (omega arith) (omega arith)))

  pub row_open : {r x y : ℕ} → RowState owner ws cs order r x y → mark_bit < x → chain_of owner ws (x - mark_bit) ≡ in_row r cs
  row_open (shut a b c) l = absurd (omega arith)
  row_open (marked a b c n) l = c

  -- another row is placed
  row_other : {i x y : ℕ} (r : ℕ) → (i ≡ r → ⊥) → RowState owner ws cs order i x y → RowState owner ws cs (r ∷ order) i x y
  unfolding open_weight
  row_other {i} r n (shut a b c) = shut a b (rw (has_other i r order n) c)
  row_other {i} r n (marked a b c d) = marked a b c (has_other i r order n ∙ d)

  -- the row itself is placed
  row_self : (r d : ℕ) → d ≤ mark_bit → RowState owner ws cs (r ∷ order) r d d
  unfolding open_weight
  row_self r d l = shut l refl (rw (has_self r order))

  pub row_set : (h hm : List ℕ) (r d : ℕ) → d ≤ mark_bit → r < length h → r < length hm → (i : ℕ) → RowState owner ws cs order i (get_or h i 0) (get_or hm i 0)
      → RowState owner ws cs (r ∷ order) i (get_or (set h r d) i 0) (get_or (set hm r d) i 0)
  row_set h hm r d l a b i s = go (eqb i r) refl
    where
      go : (t : Bool) → eqb i r ≡ t → RowState owner ws cs (r ∷ order) i (get_or (set h r d) i 0) (get_or (set hm r d) i 0)
      go true e = rw (eqb-true i r e, get_or-set_same h r d 0 a, get_or-set_same hm r d 0 b) (row_self r d l)
      go false e = rw (get_or-set_other h r i d 0 (eqb-false i r e), get_or-set_other hm r i d 0 (eqb-false i r e)) (row_other r (eqb-false i r e) s)

-- a row at the start
pub row_start : (owner : ℕ) (ws : List ℕ) (cs : List Care) (r x y : ℕ) → y ≡ 0 → Mark 0 ws (in_row r cs) x → RowState owner ws (map (owned owner) cs) [] r x y
unfolding open_weight weight_of has
row_start owner ws cs r x y e (empty a b) = shut (omega arith) (omega arith) (ap length (owned_row owner r cs ∙ ap (map (owned owner)) b))
row_start owner ws cs r x y e (start a b c) = marked a b (ap (map (owned owner)) c ∙ sym (owned_row owner r cs)) refl
