-- The least power of two, doubled until it is enough. Assumes nothing.
use Prim.Native.Nat.{ℕ, zero, suc, ◌*◌, ◌^◌, ◌≤◌, ◌<◌}
use native.Mathlib.Omega.{arith}
use native.Mathlib.Nat.{mul_assoc, mul_comm, le_trans, le_of_eq, le-mul_of_pos_right, pow-succ'}
use lib.Pow.{pow_pos}
use mathlib.Core.Path.{◌≡◌, refl, sym, ap, ◌∙◌}
use borrow.Author.Tests.{lt-ltb, le-ltb}
use Rattle.input.specs.Input.{max_listed}
use Rattle.keys.specs.Keys.{doublings, power_from, cells_for, cells_by}

-- so many doublings are left
pub record Doubling (k cells : ℕ) : Type 0 where
  pub left : ℕ
  pub some : 0 < cells
  pub enough : cells * 2 ^ left ≡ 2 ^ doublings
  pub is : cells_for k ≡ power_from left cells (2 * k)

module _ (k : ℕ) (few : k ≤ max_listed) where
  pub doubling_none : Doubling k 1
  unfolding cells_for
  doubling_none = record { left = doublings; some = omega arith; enough = refl; is = refl }

  module _ (cells : ℕ) (w : Doubling k cells) where
    pub doubling_more : cells < 2 * k → Doubling k (cells * 2)
    unfolding power_from
    doubling_more h = go w.left w.enough w.is
      where
        go : (l : ℕ) → cells * 2 ^ l ≡ 2 ^ doublings → cells_for k ≡ power_from l cells (2 * k) → Doubling k (cells * 2)
        go zero e i = absurd (omega arith)
        go (suc l) e i =
            record {
              left = l;
              some = omega (arith, w.some);
              enough = mul_assoc cells 2 (2 ^ l) ∙ ap (λ (x : ℕ). cells * x) (sym (pow-succ' 2 l)) ∙ e;
              is = i ∙ rw (lt-ltb cells (2 * k) h, power_from) (ap (λ (c : ℕ). power_from l c (2 * k)) (mul_comm 2 cells));
            }

    pub doubling_end : 2 * k ≤ cells → cells ≡ cells_for k
    unfolding power_from
    doubling_end h = go w.left w.is
      where
        go : (l : ℕ) → cells_for k ≡ power_from l cells (2 * k) → cells ≡ cells_for k
        go zero i = sym i
        go (suc l) i = sym (i ∙ rw (le-ltb cells (2 * k) h, power_from))

    -- and no more cells than there may be
    pub doubling_low : cells ≤ 2 ^ doublings
    doubling_low = go w.left w.enough
      where
        go : (l : ℕ) → cells * 2 ^ l ≡ 2 ^ doublings → cells ≤ 2 ^ doublings
        go l e = le_trans (le-mul_of_pos_right cells (pow_pos l)) (le_of_eq e)

-- ---- the cells that are asked for

module _ (cells k : ℕ) where
  pub cells_none : cells ≡ 0 → cells_for k ≡ cells_by cells k
  unfolding cells_by
  cells_none e = rw e

  pub cells_asked : (cells ≡ 0 → ⊥) → cells ≡ cells_by cells k
  unfolding cells_by
  cells_asked n = go cells n
    where
      go : (c : ℕ) → (c ≡ 0 → ⊥) → c ≡ cells_by c k
      go zero n = absurd (n refl)
      go (suc c) n = refl
