-- What a stage asks of its distance and mask, by computation over the 64 columns. Assumes nothing.
use Prim.Native.Nat.{ℕ, zero, suc, ◌+◌, ◌*◌, ◌/◌, ◌%◌, ◌^◌, ◌<◌}
use native.Mathlib.Omega.{arith}
use mathlib.Core.Path.{◌≡◌, refl}
use mathlib.Core.Bool.{Bool, true, false, ◌&&◌}
use lib.Arith.{lt_of_le-ne}
use lib.Dec.{eqb}
use lib.Pow.{pow_pos}
use borrow.Author.Tests.{eqb-true, eqb-false}
use Rattle.std.proofs.lemmas.Bool.{and_parts}
use Rattle.vectors.specs.Bits.{bit}
use Rattle.transpose.specs.Stage.{Distance}

-- whether the mask has, of the first n columns, those of the even blocks of j
abbrev picks : ℕ → ℕ → ℕ → Bool
picks j mask zero = true
picks j mask (suc n) = eqb (bit mask n + n / j % 2) 1 && picks j mask n

picked : (j mask n : ℕ) → picks j mask n ≡ true → (c : ℕ) → c < n → bit mask c + c / j % 2 ≡ 1
picked j mask zero e c h = absurd (omega arith)
picked j mask (suc n) e c h = go (eqb c n) refl (picked j mask n (and_parts (eqb (bit mask n + n / j % 2) 1) (picks j mask n) e).1 c)
  where
    go : (t : Bool) → eqb c n ≡ t → (c < n → bit mask c + c / j % 2 ≡ 1) → bit mask c + c / j % 2 ≡ 1
    go true q f = rw (eqb-true c n q) (eqb-true (bit mask n + n / j % 2) 1 (and_parts (eqb (bit mask n + n / j % 2) 1) (picks j mask n) e).0)
    go false q f = f (lt_of_le-ne (omega arith) (eqb-false c n q))

-- the distance 2 ^ s
pub distance : (s mask : ℕ) → 32 / 2 ^ s * 2 ^ s ≡ 32 → picks (2 ^ s) mask 64 ≡ true → Distance (2 ^ s) mask
distance s mask b e = record { pos = pow_pos s; blocks = b; picks = picked (2 ^ s) mask 64 e }
