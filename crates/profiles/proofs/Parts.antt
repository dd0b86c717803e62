-- The start and the size of a profile that is there. Assumes nothing.
use Prim.Native.Nat.{ℕ, zero, suc, ◌+◌, ◌-◌, ◌*◌}
use native.Mathlib.Nat.{suc-mul, add-sub_cancel_left}
use native.Mathlib.Omega.{arith}
use mathlib.Core.Path.{◌≡◌, refl, sym}
use mathlib.Core.List.{List}
use lib.ListN.{take, drop}
use Rattle.profiles.specs.View.{bytes_of}

pub bytes_some : (number size : ℕ) → (number ≡ 0 → ⊥) → bytes_of number size ≡ size
bytes_some zero size n = absurd (n refl)
bytes_some (suc i) size n = refl

pub start_size : (number size : ℕ) → (number ≡ 0 → ⊥) → (number - 1) * size + size ≡ number * size
start_size zero size n = absurd (n refl)
start_size (suc i) size n = let e : suc i - 1 ≡ i = omega arith in rw e (sym (suc-mul i size))

-- a part of so many bytes, as it is lent
pub part_of : (at n : ℕ) (s : List ℕ) → take (at + n - at) (drop at s) ≡ take n (drop at s)
part_of at n s = rw add-sub_cancel_left
