-- The bytes of a number, and the number that bytes make. Assumes nothing.
use mathlib.Core.Path.{◌≡◌, refl, sym, ap, ap₂, ◌∙◌}
use mathlib.Core.List.{List, [], ◌∷◌, ◌++◌}
use Prim.Native.Nat.{ℕ, zero, suc, ◌+◌, ◌*◌, ◌/◌, ◌%◌, ◌^◌, ◌-◌, ◌≤◌, ◌<◌}
use native.Mathlib.Nat.{mod-one, mod-lt, pow-suc, one-le-pow}
use native.Mathlib.Omega.{arith}
use lib.Arith.{mod-mul}
use lib.ListN.{length, drop, replicate, length-append, length-replicate}
use borrow.Rule.Slice.PartMut.{put_mid}
use Rattle.std.proofs.Common.{w64}
use Rattle.std.specs.Int.{from_le_bytes}
use Rattle.lists.specs.Members.{All}
use Rattle.lists.proofs.Writing.Over.{drop_replicate}
use Rattle.block.specs.Bytes.{little_of, value_of}
use Rattle.block.proofs.Laying.Words.{length_little}

abbrev pub Bytes : List ℕ → Type 0
Bytes = All (λ (x : ℕ). x < 256)

pub little_bytes : (m w : ℕ) → Bytes (little_of m w)
unfolding little_of
little_bytes zero w = tt
little_bytes (suc m) w = (mod-lt w (omega arith), little_bytes m (w / 256))

-- the number of the lowest m bytes
pub value_little : (m w : ℕ) → value_of (little_of m w) ≡ w % 256 ^ m
unfolding little_of value_of
value_little zero w = sym (mod-one w)
value_little (suc m) w =
    let e : w % 256 ^ suc m ≡ w / 256 % 256 ^ m * 256 + w % 256 = ap (λ (x : ℕ). w % x) (pow-suc 256 m) ∙ mod-mul w (one-le-pow m 256 (omega arith)) (omega arith) in
    ap (λ (v : ℕ). w % 256 + 256 * v) (value_little m (w / 256)) ∙ omega arith

-- the bytes of the number that bytes make
pub little_value : (m : ℕ) (b : List ℕ) → length b ≡ m → Bytes b → little_of m (value_of b) ≡ b
unfolding little_of value_of
little_value zero [] e a = refl
little_value zero (x ∷ b) e a = absurd (omega arith)
little_value (suc m) [] e a = absurd (omega arith)
little_value (suc m) (x ∷ b) e a =
    let h : x < 256 = a.0 in
    let low : (x + 256 * value_of b) % 256 ≡ x = omega arith in
    let high : (x + 256 * value_of b) / 256 ≡ value_of b = omega arith in
    ap₂ (λ (y v : ℕ). y ∷ little_of m v) low high ∙ ap (λ (l : List ℕ). x ∷ l) (little_value m b (omega arith) a.1)

-- bytes see a number modulo 256^m
pub little_mod : (m w : ℕ) → little_of m (w % 256 ^ m) ≡ little_of m w
little_mod m w = ap (little_of m) (sym (value_little m w)) ∙ little_value m (little_of m w) (length_little m w) (little_bytes m w)

-- ---- eight bytes

-- zeros behind bytes add nothing
value_zeros : (b : List ℕ) (n : ℕ) → value_of (b ++ replicate n 0) ≡ value_of b
unfolding value_of
value_zeros [] zero = refl
value_zeros [] (suc n) = omega (arith, value_zeros [] n)
value_zeros (x ∷ b) n = ap (λ (v : ℕ). x + 256 * v) (value_zeros b n)

value_eight : (b : List ℕ) → length b ≡ 8 → from_le_bytes w64 b ≡ value_of b
unfolding value_of
value_eight (a ∷ b ∷ c ∷ d ∷ e ∷ f ∷ g ∷ h ∷ []) n = omega arith
value_eight _ n = absurd (omega arith)

-- so many bytes read as the first of eight, the others 0
pub value_part : (s : ℕ) (b : List ℕ) → length b ≡ s → s ≤ 8 → from_le_bytes w64 (put_mid 0 s (replicate 8 0) b) ≡ value_of b
value_part s b n h =
    let z : drop s (replicate 8 0) ≡ replicate (8 - s) 0 = drop_replicate s 8 0 in
    let e : put_mid 0 s (replicate 8 0) b ≡ b ++ replicate (8 - s) 0 = ap (λ (l : List ℕ). b ++ l) z in
    ap (from_le_bytes w64) e ∙ value_eight (b ++ replicate (8 - s) 0) (length-append b (replicate (8 - s) 0) ∙ omega (arith, length-replicate {A = ℕ} (8 - s) 0)) ∙ value_zeros b (8 - s)
