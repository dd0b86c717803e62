-- A signed word: its sign and its magnitude. Assumes nothing.
use Prim.Native.Nat.{ℕ, suc, ◌-◌, ◌^◌, ◌≤◌, ◌<◌}
use native.Mathlib.Omega.{arith}
use mathlib.Core.Path.{◌≡◌, refl, sym, ap, ◌∙◌}
use mathlib.Core.Bool.{Bool, true, false, true≢false}
use borrow.Author.Tests.{le-ltb, ltb-true}
use lib.IntN.{ℤ, pos, negsuc, nat_abs, ◌-ℤ◌}
use lib.Signed.{lt_z}
use mir.Facts.{to_z-of_z}
use mir.Syntax.{w64}
use mir.Val.{SFits, to_z, of_z}

-- the code's test for a negative number
abbrev pub negative : ℤ → Bool
negative z = lt_z (to_z w64 (of_z w64 z)) (pos 0)

-- what the code makes of a negative number: one less than its magnitude
abbrev pub flipped : ℤ → ℤ
flipped z = negsuc 0 -ℤ to_z w64 (of_z w64 z)

pub test_is : (z : ℤ) → SFits w64 z → negative z ≡ lt_z z (pos 0)
test_is z f = ap (λ (y : ℤ). lt_z y (pos 0)) (to_z-of_z f)

pub record Below (z : ℤ) : Type 0 where
  pub turned : flipped z ≡ pos (nat_abs z - 1)
  pub fits : SFits w64 (flipped z)
  pub some : 0 < nat_abs z
  pub low : nat_abs z ≤ 2 ^ 63

flip_is : (m : ℕ) → negsuc 0 -ℤ negsuc m ≡ pos (suc m - 1)
flip_is m = rw (le-ltb (suc m) 1 (omega arith))

pub below : (z : ℤ) → SFits w64 z → negative z ≡ true → Below z
below (pos n) f h = absurd (let l = ltb-true n 0 (sym (test_is (pos n) f) ∙ h) in omega arith)
below (negsuc m) f h =
    let e : flipped (negsuc m) ≡ pos (suc m - 1) = ap (λ (y : ℤ). negsuc 0 -ℤ y) (to_z-of_z f) ∙ flip_is m in
    let l : m < 2 ^ 63 = f.sfits in
    let k : suc m - 1 < 2 ^ 63 = omega arith in
    record { turned = e; fits = record { sfits = rw e k }; some = omega arith; low = l }

pub above : (z : ℤ) → SFits w64 z → negative z ≡ false → (z ≡ pos (nat_abs z)) × (nat_abs z < 2 ^ 63)
above (pos n) f h = (refl, f.sfits)
above (negsuc m) f h = absurd (true≢false (sym (test_is (negsuc m) f) ∙ h))
