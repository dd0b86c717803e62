-- What masks span by XOR, and the kept inputs by one step. Assumes nothing.
use Prim.Native.Nat.{ℕ, zero, suc, ◌+◌, ◌*◌, ◌/◌, ◌%◌, ◌^◌, ◌<◌}
use native.Mathlib.Nat.{zero-lt-suc, zero-add, pow-suc}
use native.Mathlib.Omega.{arith}
use mathlib.Core.Path.{◌≡◌, refl, sym, ap, ap₂, ◌∙◌}
use mathlib.Core.Bool.{Bool, true, false, ◌||◌}
use mathlib.Core.List.{List, [], ◌∷◌, ◌++◌, map}
use mathlib.Core.Logic.{◌⊎◌, ⊎_elim}
use lib.Bits.{bit_xor}
use lib.Count.{ones, ones_step}
use borrow.Author.Tests.{eqb-true}
use Rattle.std.proofs.lemmas.Bool.{or_cases, or_right}
use Rattle.lists.specs.Members.{All}
use Rattle.vectors.specs.declared.Kind.{Kind}
use Rattle.vectors.specs.Variable.{mask_of}
use Rattle.span.specs.Span.{spans, kept_in, kept}
use Rattle.vectors.proofs.Bits.Xor.{xor_assoc, xor_left_comm, xor_cancel, Linear}

-- ---- a mask more

pub spans_cons : (m : ℕ) (ms : List ℕ) (w : ℕ) → spans (m ∷ ms) w ≡ true → (spans ms w ≡ true) ⊎ (spans ms (bit_xor m w) ≡ true)
unfolding spans
spans_cons m ms w h = or_cases (spans ms w) (spans ms (bit_xor m w)) h

pub spans_more : (m : ℕ) (ms : List ℕ) (w : ℕ) → spans ms w ≡ true → spans (m ∷ ms) w ≡ true
unfolding spans
spans_more m ms w h = rw h

pub spans_with : (m : ℕ) (ms : List ℕ) (w : ℕ) → spans ms (bit_xor m w) ≡ true → spans (m ∷ ms) w ≡ true
unfolding spans
spans_with m ms w h = or_right (spans ms w) (spans ms (bit_xor m w)) h

-- what is spanned is closed under XOR
pub spans_xor : (ms : List ℕ) (u v : ℕ) → spans ms u ≡ true → spans ms v ≡ true → spans ms (bit_xor u v) ≡ true
unfolding spans
spans_xor [] u v hu hv = rw (eqb-true u 0 hu, eqb-true v 0 hv)
spans_xor (m ∷ ms) u v hu hv =
    ⊎_elim
    (λ a. ⊎_elim
    (λ b. spans_more m ms _ (spans_xor ms u v a b))
    (λ b. spans_with m ms _ (rw xor_left_comm at (spans_xor ms u (bit_xor m v) a b)))
    (spans_cons m ms v hv))
    (λ a. ⊎_elim
    (λ b. spans_with m ms _ (rw xor_assoc at (spans_xor ms (bit_xor m u) v a b)))
    (λ b. spans_more m ms _ (rw (xor_assoc, xor_left_comm u m v, xor_cancel) at (spans_xor ms (bit_xor m u) (bit_xor m v) a b)))
    (spans_cons m ms v hv))
    (spans_cons m ms u hu)

-- ---- order does not count

swap_or : (a b c d : Bool) → ((a || b) || (c || d)) ≡ ((a || c) || (b || d))
swap_or true b c d = refl
swap_or false true true d = refl
swap_or false true false d = refl
swap_or false false true d = refl
swap_or false false false d = refl

pub spans_middle : (ls : List ℕ) (m : ℕ) (ms : List ℕ) (w : ℕ) → spans (ls ++ (m ∷ ms)) w ≡ spans (m ∷ (ls ++ ms)) w
unfolding spans
spans_middle [] m ms w = refl
spans_middle (l ∷ ls) m ms w =
    ap₂ ◌||◌ (spans_middle ls m ms w) (spans_middle ls m ms (bit_xor l w))
    ∙ swap_or (spans (ls ++ ms) w) (spans (ls ++ ms) (bit_xor m w)) (spans (ls ++ ms) (bit_xor l w)) (spans (ls ++ ms) (bit_xor m (bit_xor l w)))
    ∙ ap (λ (x : ℕ). (spans (ls ++ ms) w || spans (ls ++ ms) (bit_xor l w)) || (spans (ls ++ ms) (bit_xor m w) || spans (ls ++ ms) x)) (xor_left_comm m l w)

-- ---- linear functions

-- linear functions that agree on the masks agree on what is spanned
pub agree : (φ ψ : ℕ → ℕ) → Linear φ → Linear ψ → (ms : List ℕ) → All (λ m. φ m ≡ ψ m) ms → (w : ℕ) → spans ms w ≡ true → φ w ≡ ψ w
unfolding spans
agree φ ψ lφ lψ [] s w h = rw (eqb-true w 0 h) (lφ.zero ∙ sym lψ.zero)
agree φ ψ lφ lψ (m ∷ ms) s w h =
    ⊎_elim
    (λ a. agree φ ψ lφ lψ ms s.1 w a)
    (λ a. cancel (φ m) (φ w) (ψ m) (ψ w) (sym (lφ.xor m w) ∙ agree φ ψ lφ lψ ms s.1 (bit_xor m w) a ∙ lψ.xor m w) s.0 (lφ.low w) (lψ.low w))
    (spans_cons m ms w h)
  where
    cancel : (a b c d : ℕ) → (a + b) % 2 ≡ (c + d) % 2 → a ≡ c → b < 2 → d < 2 → b ≡ d
    cancel a b c d e f hb hd = omega arith

-- ---- the kept inputs

pub kept_yes : (d j : ℕ) (ms : List ℕ) → spans ms (2 ^ j) ≡ true → kept_in (suc d) j ms ≡ 2 * kept_in d (suc j) ms
unfolding kept_in
kept_yes d j ms e = rw (e, kept_in)

pub kept_no : (d j : ℕ) (ms : List ℕ) → spans ms (2 ^ j) ≡ false → kept_in (suc d) j ms ≡ 1 + 2 * kept_in d (suc j) (2 ^ j ∷ ms)
unfolding kept_in
kept_no d j ms e = rw (e, kept_in)

kept_in_lt : (d j : ℕ) (ms : List ℕ) → kept_in d j ms < 2 ^ d
unfolding kept_in
kept_in_lt zero j ms = zero-lt-suc 0
kept_in_lt (suc d) j ms = go (spans ms (2 ^ j)) refl (kept_in_lt d (suc j) ms) (kept_in_lt d (suc j) (2 ^ j ∷ ms))
  where
    go : (y : Bool) → spans ms (2 ^ j) ≡ y → kept_in d (suc j) ms < 2 ^ d → kept_in d (suc j) (2 ^ j ∷ ms) < 2 ^ d → kept_in (suc d) j ms < 2 ^ suc d
    go true e h g = rw (kept_yes d j ms e, pow-suc 2 d) (omega arith)
    go false e h g = rw (kept_no d j ms e, pow-suc 2 d) (omega arith)

-- the kept inputs are within n
pub kept_lt : (n : ℕ) (ks : List Kind) → kept n ks < 2 ^ n
unfolding kept
kept_lt n ks = kept_in_lt n 0 (map mask_of ks)

pub ones_even : (x : ℕ) → ones (2 * x) ≡ ones x
ones_even x =
    let h : 2 * x / 2 ≡ x = omega arith in
    let o : 2 * x % 2 ≡ 0 = omega arith in
    ones_step (2 * x) ∙ rw (h, o) (zero-add _)

pub ones_odd : (x : ℕ) → ones (1 + 2 * x) ≡ suc (ones x)
ones_odd x =
    let h : (1 + 2 * x) / 2 ≡ x = omega arith in
    let o : (1 + 2 * x) % 2 ≡ 1 = omega arith in
    ones_step (1 + 2 * x) ∙ rw (h, o) (omega arith)
