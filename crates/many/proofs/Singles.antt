-- The bits of a mask, each as a mask of its own. Assumes nothing.
use Prim.Native.Nat.{ℕ, zero, suc, ◌+◌, ◌*◌, ◌/◌, ◌%◌, ◌^◌}
use native.Mathlib.Nat.{mod-mod}
use native.Mathlib.Numerals.{add-one}
use mathlib.Core.Path.{◌≡◌, refl, sym, ap, ap₂, ◌∙◌}
use mathlib.Core.List.{List, [], ◌∷◌}
use lib.Pow.{shr-shr}
use Rattle.vectors.specs.Word.{pack_bit, pack_in}
use Rattle.vectors.proofs.Bits.Laws.{digit, ones_at}
use Rattle.vectors.specs.Masks.{value_by, number_by}
use Rattle.many.specs.Inner.Images.{singles}

-- ---- the bits of a mask

pub singles_even : (d j m : ℕ) → m % 2 ≡ 0 → singles (suc d) j m ≡ singles d (suc j) (m / 2)
unfolding singles
singles_even d j m e = rw (e, singles)

pub singles_odd : (d j m : ℕ) → m % 2 ≡ 1 → singles (suc d) j m ≡ 2 ^ j ∷ singles d (suc j) (m / 2)
unfolding singles
singles_odd d j m e = rw (e, singles)

pub singles_zero : (d j : ℕ) → singles d j 0 ≡ []
unfolding singles
singles_zero zero j = refl
singles_zero (suc d) j = singles_zero d (suc j)

pub value_single : (j x : ℕ) → value_by (2 ^ j) x ≡ x / 2 ^ j % 2
value_single j x = ap (λ (n : ℕ). n % 2) (ones_at x j) ∙ mod-mod (x / 2 ^ j) 2

-- they make the bits of x at the mask's places
pub singles_number : (d j m x : ℕ) → number_by (singles d j m) x ≡ pack_in d m (x / 2 ^ j)
unfolding number_by pack_in singles
singles_number zero j m x = refl
singles_number (suc d) j m x =
    let s : x / 2 ^ suc j ≡ x / 2 ^ j / 2 = sym (shr_after j) in
    digit (λ r. m % 2 ≡ r → number_by (singles (suc d) j m) x ≡ pack_in (suc d) m (x / 2 ^ j))
    (λ e. ap (λ (l : List ℕ). number_by l x) (singles_even d j m e) ∙ singles_number d (suc j) (m / 2) x ∙ ap (pack_in d (m / 2)) s
    ∙ sym (ap (λ (r : ℕ). pack_bit r (x / 2 ^ j % 2) (pack_in d (m / 2) (x / 2 ^ j / 2))) e))
    (λ e. ap (λ (l : List ℕ). number_by l x) (singles_odd d j m e)
    ∙ ap₂ (λ (v n : ℕ). v + 2 * n) (value_single j x) (singles_number d (suc j) (m / 2) x ∙ ap (pack_in d (m / 2)) s)
    ∙ sym (ap (λ (r : ℕ). pack_bit r (x / 2 ^ j % 2) (pack_in d (m / 2) (x / 2 ^ j / 2))) e))
    m refl
  where
    shr_after : (j : ℕ) → x / 2 ^ j / 2 ≡ x / 2 ^ suc j
    shr_after j = shr-shr x j 1 ∙ ap (λ (k : ℕ). x / 2 ^ k) (add-one j)
