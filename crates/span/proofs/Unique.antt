-- The variables' values and the kept inputs fix one vector. Assumes nothing.
use Prim.Native.Nat.{ℕ, zero, suc, ◌+◌, ◌*◌, ◌/◌, ◌^◌, ◌≤◌, ◌<◌}
use native.Mathlib.Nat.{mod-lt, zero-lt-suc, zero-add, add-zero, div-one}
use native.Mathlib.Numerals.{add-one}
use native.Mathlib.Omega.{arith}
use mathlib.Core.Path.{◌≡◌, refl, sym, ap, ap₂, ◌∙◌}
use mathlib.Core.Bool.{Bool, true, false}
use mathlib.Core.List.{List, [], ◌∷◌, map}
use lib.Pow.{shr-shr}
use lib.ListN.{length}
use Rattle.lists.specs.Members.{All}
use Rattle.vectors.specs.declared.Kind.{Kind}
use Rattle.vectors.specs.Bits.{bit}
use Rattle.vectors.specs.Variable.{mask_of, number_of, column_of}
use Rattle.span.specs.Span.{spans, kept_in, kept}
use Rattle.vectors.specs.Word.{pack_in, word_of}
use Rattle.vectors.proofs.Bits.Laws.{ext}
use Rattle.vectors.proofs.Variables.Numbers.{number_head, number_split, parts}
use Rattle.vectors.proofs.Words.Packing.{pack_even, pack_odd}
use Rattle.vectors.proofs.Words.Laws.{word_parts}
use Rattle.vectors.proofs.Bits.Xor.{parity, parity_linear, parity_bit, parity_value}
use Rattle.span.proofs.Spans.{agree, kept_yes, kept_no}

-- x and y agree on the masks
abbrev pub Alike : ℕ → ℕ → List ℕ → Type 0
Alike x y ms = All (λ m. parity x m ≡ parity y m) ms

-- vectors with the same number agree on the variables
pub number_alike : (ks : List Kind) (x y : ℕ) → number_of ks x ≡ number_of ks y → Alike x y (map mask_of ks)
number_alike [] x y h = tt
number_alike (k ∷ ks) x y h =
    let e = number_head k ks x y h in
    (parity_value x k ∙ e.0 ∙ sym (parity_value y k), number_alike ks x y e.1)

-- .. and on what the variables span
pub alike_span : (x y : ℕ) (ms : List ℕ) (w : ℕ) → Alike x y ms → spans ms w ≡ true → parity x w ≡ parity y w
alike_span x y ms w a h = agree (parity x) (parity y) (parity_linear x) (parity_linear y) ms a w h

-- ---- d bits from j on

Above : (x y d j : ℕ) → Type 0
Above x y d j = (i : ℕ) → i < d → bit x (j + i) ≡ bit y (j + i)

above_suc : (x y d j : ℕ) → bit x j ≡ bit y j → Above x y d (suc j) → Above x y (suc d) j
unfolding Above
above_suc x y d j e f zero h = ap (bit x) (add-zero j) ∙ e ∙ sym (ap (bit y) (add-zero j))
above_suc x y d j e f (suc i) h =
    let g : j + suc i ≡ suc j + i = omega arith in
    ap (bit x) g ∙ f i (omega arith) ∙ sym (ap (bit y) g)

half_shr : (x j : ℕ) → x / 2 ^ j / 2 ≡ x / 2 ^ suc j
half_shr x j = shr-shr x j 1 ∙ ap (λ (k : ℕ). x / 2 ^ k) (add-one j)

even_at : (d k x j : ℕ) → pack_in (suc d) (2 * k) (x / 2 ^ j) ≡ pack_in d k (x / 2 ^ suc j)
even_at d k x j = pack_even d k (x / 2 ^ j) ∙ ap (pack_in d k) (half_shr x j)

odd_at : (d k x j : ℕ) → pack_in (suc d) (1 + 2 * k) (x / 2 ^ j) ≡ bit x j + 2 * pack_in d k (x / 2 ^ suc j)
odd_at d k x j = pack_odd d k (x / 2 ^ j) ∙ ap (λ (t : ℕ). bit x j + 2 * pack_in d k t) (half_shr x j)

unique_in : (d j : ℕ) (ms : List ℕ) (x y : ℕ) → Alike x y ms → pack_in d (kept_in d j ms) (x / 2 ^ j) ≡ pack_in d (kept_in d j ms) (y / 2 ^ j) → Above x y d j
unfolding Above
unique_in zero j ms x y a e = λ i h. absurd (omega arith)
unique_in (suc d) j ms x y a e = go (spans ms (2 ^ j)) refl (λ ms' a' e'. unique_in d (suc j) ms' x y a' e')
  where
    go : (b : Bool) → spans ms (2 ^ j) ≡ b
        → ((ms : List ℕ) → Alike x y ms → pack_in d (kept_in d (suc j) ms) (x / 2 ^ suc j) ≡ pack_in d (kept_in d (suc j) ms) (y / 2 ^ suc j) → Above x y d (suc j))
        → Above x y (suc d) j
    go true s ih =
        let q = rw (kept_yes d j ms s) at e in
        above_suc x y d j (sym (parity_bit x j) ∙ alike_span x y ms (2 ^ j) a s ∙ parity_bit y j)
        (ih ms a (sym (even_at d (kept_in d (suc j) ms) x j) ∙ q ∙ even_at d (kept_in d (suc j) ms) y j))
    go false s ih =
        let q = rw (kept_no d j ms s) at e in
        let k : ℕ = kept_in d (suc j) (2 ^ j ∷ ms) in
        let h = parts 2 (bit x j) (pack_in d k (x / 2 ^ suc j)) (bit y j) (pack_in d k (y / 2 ^ suc j))
        (mod-lt (x / 2 ^ j) (zero-lt-suc 1)) (mod-lt (y / 2 ^ j) (zero-lt-suc 1)) (sym (odd_at d k x j) ∙ q ∙ odd_at d k y j) in
        above_suc x y d j h.0 (ih (2 ^ j ∷ ms) (parity_bit x j ∙ h.0 ∙ sym (parity_bit y j), a) h.1)

-- vectors of n bits that agree on every variable and on every kept input are equal
pub unique : (n : ℕ) (ks : List Kind) (x y : ℕ) → x < 2 ^ n → y < 2 ^ n
    → number_of ks x ≡ number_of ks y → pack_in n (kept n ks) x ≡ pack_in n (kept n ks) y → x ≡ y
unfolding Above kept
unique n ks x y hx hy v p =
    let k : ℕ = kept_in n 0 (map mask_of ks) in
    let f : Above x y n 0 = unique_in n 0 (map mask_of ks) x y (number_alike ks x y v) (ap (pack_in n k) (div-one x) ∙ p ∙ sym (ap (pack_in n k) (div-one y))) in
    ext n hx hy (λ i h. sym (ap (bit x) (zero-add i)) ∙ f i h ∙ ap (bit y) (zero-add i))

-- what a lookup compares fixes the vector: two of n bits with the same word and the same column are equal
pub one_vector : (n n1 : ℕ) (ks : List Kind) (x y : ℕ) → n1 ≤ length ks → x < 2 ^ n → y < 2 ^ n
    → word_of n n1 ks (kept n ks) x ≡ word_of n n1 ks (kept n ks) y → column_of n1 ks x ≡ column_of n1 ks y → x ≡ y
one_vector n n1 ks x y h hx hy w c =
    let s = word_parts n n1 ks (kept n ks) x y h w in
    unique n ks x y hx hy
    (number_split ks n1 x h ∙ ap₂ (λ (t u : ℕ). t + 2 ^ n1 * u) s.0 c ∙ sym (number_split ks n1 y h)) s.1
