-- The text of a signed word. Assumes nothing.
use Prim.Native.Nat.{suc, ◌^◌, ◌≤◌, ◌<◌}
use native.Mathlib.Omega.{arith}
use mathlib.Core.Path.{◌≡◌, refl, sym, ◌∙◌}
use mathlib.Core.Bool.{true, false, true≢false}
use mathlib.Core.List.{◌∷◌}
use borrow.Author.Tests.{ltb-true}
use lib.IntN.{ℤ, pos, negsuc, nat_abs}
use lib.ListN.{length}
use mir.Syntax.{w64}
use mir.Val.{SFits}
use Rattle.lists.proofs.Signs.{negative, test_is}
use Rattle.print.specs.Decimal.{decimal, minus, signed}
use Rattle.print.proofs.Decimals.Digits.{length_word}

pub text_below : (z : ℤ) → SFits w64 z → negative z ≡ true → signed z ≡ minus ∷ decimal (nat_abs z)
unfolding signed
text_below (pos n) f h = absurd (let l = ltb-true n 0 (sym (test_is (pos n) f) ∙ h) in omega arith)
text_below (negsuc m) f h = refl

pub text_above : (z : ℤ) → SFits w64 z → negative z ≡ false → signed z ≡ decimal (nat_abs z)
unfolding signed
text_above (pos n) f h = refl
text_above (negsuc m) f h = absurd (true≢false (sym (test_is (negsuc m) f) ∙ h))

pub signed_low : (z : ℤ) → SFits w64 z → length (signed z) ≤ 21
unfolding signed
signed_low (pos n) f = let l : n < 2 ^ 63 = f.sfits in omega (arith, length_word n (omega arith))
signed_low (negsuc m) f = let l : m < 2 ^ 63 = f.sfits in omega (arith, length_word (suc m) (omega arith))
