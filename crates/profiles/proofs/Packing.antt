-- The packing tells keys apart: two keys within their widths pack to one word exactly when they are equal in every field. Assumes nothing.
use Prim.Native.Nat.{ℕ, ◌+◌, ◌*◌, ◌^◌, ◌<◌}
use native.Mathlib.Omega.{arith}
use mathlib.Core.Path.{◌≡◌, ap}
use mathlib.Core.Bool.{true, ◌&&◌}
use lib.Dec.{ltb}
use borrow.Author.Tests.{ltb-true}
use Rattle.lists.proofs.Tests.{and_true}
use Rattle.profiles.specs.declared.Key.{Key}
use Rattle.profiles.specs.Key.{press_bits, ink_bits, substrate_bits, screen_bits, day_bits, key_bits, in_widths, packed}
use Rattle.profiles.specs.Facts.{Tells}

-- every field is within its width
pub record Widths (k : Key) : Type 0 where
  pub press : k.press < 2 ^ press_bits
  pub ink : k.ink < 2 ^ ink_bits
  pub substrate : k.substrate < 2 ^ substrate_bits
  pub screen : k.screen < 2 ^ screen_bits
  pub day : k.day < 2 ^ day_bits

pub widths : (k : Key) → in_widths k ≡ true → Widths k
unfolding in_widths
widths k h =
    let d = and_true (ltb k.press (2 ^ press_bits) && ltb k.ink (2 ^ ink_bits) && ltb k.substrate (2 ^ substrate_bits) && ltb k.screen (2 ^ screen_bits)) (ltb k.day (2 ^ day_bits)) h in
    let c = and_true (ltb k.press (2 ^ press_bits) && ltb k.ink (2 ^ ink_bits) && ltb k.substrate (2 ^ substrate_bits)) (ltb k.screen (2 ^ screen_bits)) d.0 in
    let b = and_true (ltb k.press (2 ^ press_bits) && ltb k.ink (2 ^ ink_bits)) (ltb k.substrate (2 ^ substrate_bits)) c.0 in
    let a = and_true (ltb k.press (2 ^ press_bits)) (ltb k.ink (2 ^ ink_bits)) b.0 in
    record {
      press = ltb-true k.press (2 ^ press_bits) a.0;
      ink = ltb-true k.ink (2 ^ ink_bits) a.1;
      substrate = ltb-true k.substrate (2 ^ substrate_bits) b.1;
      screen = ltb-true k.screen (2 ^ screen_bits) c.1;
      day = ltb-true k.day (2 ^ day_bits) d.1;
    }

-- a packed key has no bit beyond its 56
pub packed_low : (k : Key) → in_widths k ≡ true → packed k < 2 ^ key_bits
unfolding packed
packed_low k h = let w = widths k h in omega arith

-- a field of 8 or 12 bits and what stands above it
below_8 : (a b c d : ℕ) → a < 2 ^ 8 → b < 2 ^ 8 → a + 2 ^ 8 * c ≡ b + 2 ^ 8 * d → (a ≡ b) × (c ≡ d)
below_8 a b c d l m e = (omega arith, omega arith)

below_12 : (a b c d : ℕ) → a < 2 ^ 12 → b < 2 ^ 12 → a + 2 ^ 12 * c ≡ b + 2 ^ 12 * d → (a ≡ b) × (c ≡ d)
below_12 a b c d l m e = (omega arith, omega arith)

pub packed_tells : Tells packed
unfolding packed
packed_tells = record { apart = apart; same = λ a b e. ap packed e }
  where
    apart : (a b : Key) → in_widths a ≡ true → in_widths b ≡ true → packed a ≡ packed b → a ≡ b
    apart a b h g e =
        let v = widths a h in
        let w = widths b g in
        let p = below_8 a.press b.press _ _ v.press w.press e in
        let i = below_12 a.ink b.ink _ _ v.ink w.ink p.1 in
        let s = below_12 a.substrate b.substrate _ _ v.substrate w.substrate i.1 in
        let c = below_8 a.screen b.screen _ _ v.screen w.screen s.1 in
        λ j. record { press = p.0 j; ink = i.0 j; substrate = s.0 j; screen = c.0 j; day = c.1 j }
