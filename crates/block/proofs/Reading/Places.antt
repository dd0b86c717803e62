-- Numbers and words at a place, byte by byte. Assumes nothing.
use mathlib.Core.Path.{◌≡◌, refl, sym, ap, ◌∙◌}
use mathlib.Core.List.{List, [], ◌∷◌}
use Prim.Native.Nat.{ℕ, zero, suc, ◌+◌, ◌-◌, ◌*◌, ◌^◌, ◌≤◌, ◌<◌, min}
use native.Mathlib.Nat.{pow-suc, one-le-pow}
use native.Mathlib.Omega.{arith}
use lib.ListN.{length, get_or, take, drop, length-take, length-drop, drop_of_length-le}
use lib.Seq.{drop-drop, take-nil}
use Rattle.lists.proofs.Entries.Alls.{all_take, all_drop}
use Rattle.lists.proofs.Entries.Parts.{take_least}
use Rattle.block.specs.Bytes.{value_of, number_at, words_at}
use Rattle.block.proofs.Reading.Numbers.{Bytes}

-- bytes that are not there count as 0
pub number_short : (m at size : ℕ) (b : List ℕ) → at ≤ length b → size ≡ min m (length b - at) → number_at size at b ≡ number_at m at b
unfolding number_at
number_short m at size b h e = ap (λ (n : ℕ). value_of (take n (drop at b))) e ∙ ap value_of (take_least m (drop at b) (length b - at) (length-drop at b))

pub number_none : (m at : ℕ) (b : List ℕ) → length b < at → 0 ≡ number_at m at b
unfolding number_at value_of
number_none m at b h = let e : drop at b ≡ [] = drop_of_length-le b {i = at} (omega arith) in sym (rw (e, take-nil))

-- m bytes make a number below 256^m
value_low : (m : ℕ) (b : List ℕ) → length b ≤ m → Bytes b → value_of b < 256 ^ m
unfolding value_of
value_low m [] h a = one-le-pow m 256 (omega arith)
value_low zero (x ∷ b) h a = absurd (omega arith)
value_low (suc m) (x ∷ b) h a = rw (pow-suc 256 m) (omega (arith, a.0, value_low m b (omega arith) a.1))

pub number_low : (m at : ℕ) (b : List ℕ) → Bytes b → number_at m at b < 256 ^ m
unfolding number_at
number_low m at b a = value_low m (take m (drop at b)) (omega (arith, length-take m (drop at b))) (all_take _ m (drop at b) (all_drop _ at b a))

-- ---- words

pub length_words_at : (m count : ℕ) (b : List ℕ) → length (words_at m count b) ≡ count
unfolding words_at
length_words_at m zero b = refl
length_words_at m (suc count) b = ap suc (length_words_at m count (drop m b))

-- word i begins at m * i
pub word_at : (m count i : ℕ) (b : List ℕ) → i < count → get_or (words_at m count b) i 0 ≡ value_of (take m (drop (m * i) b))
unfolding words_at
word_at m zero i b h = absurd (omega arith)
word_at m (suc count) zero b h = let e : m * 0 ≡ 0 = omega arith in rw e
word_at m (suc count) (suc i) b h =
    let e : m + m * i ≡ m * suc i = omega arith in
    word_at m count i (drop m b) (omega arith) ∙ ap (λ (l : List ℕ). value_of (take m l)) (drop-drop (m * i) m b ∙ ap (λ (n : ℕ). drop n b) e)
