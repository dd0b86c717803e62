-- Texts written at places of a list of bytes. Assumes nothing.
use Prim.Native.Nat.{ℕ, suc, ◌+◌, ◌≤◌, ◌<◌}
use native.Mathlib.Omega.{arith}
use native.Mathlib.Nat.{add-zero, add_assoc}
use native.Mathlib.Numerals.{add-one}
use mathlib.Core.Path.{◌≡◌, sym, ap, ap₂, ◌∙◌}
use mathlib.Core.List.{List, [], ◌∷◌, ◌++◌, append_assoc}
use lib.ListN.{length, get_or, take, drop, set, length-append, length-drop, take-append-drop}
use lib.Seq.{length-take-le, take-suc, set_at, set_split, take_at, drop-append-add, drop-drop}
use Rattle.print.specs.Inner.Written.{put_at}

pub put_nil : (old : List ℕ) (at : ℕ) → put_at old at [] ≡ old
unfolding put_at
put_nil old at = rw (add-zero at) (take-append-drop at old)

pub length_put : (old : List ℕ) (at : ℕ) (a : List ℕ) → at + length a ≤ length old → length (put_at old at a) ≡ length old
unfolding put_at
length_put old at a h =
    simp (length-append, length-drop) (omega (arith, length-take-le at old (omega arith)))

-- one byte
pub put_one : (old : List ℕ) (at b : ℕ) → at < length old → set old at b ≡ put_at old at (b ∷ [])
unfolding put_at
put_one old at b h = set_split old at b h ∙ ap (λ (i : ℕ). take at old ++ (b ∷ drop i old)) (sym (add-one at))

-- a text after a text
pub put_put : (old : List ℕ) (at : ℕ) (a b : List ℕ) → at + length a ≤ length old
    → put_at (put_at old at a) (at + length a) b ≡ put_at old at (a ++ b)
unfolding put_at
put_put old at a b h =
    let p : List ℕ = take at old ++ a in
    let q : List ℕ = drop (at + length a) old in
    let l : length p ≡ at + length a = length-append (take at old) a ∙ ap (λ (i : ℕ). i + length a) (length-take-le at old (omega arith)) in
    let s : take at old ++ (a ++ q) ≡ p ++ q = sym (append_assoc (take at old) a q) in
    let e : drop (at + length a + length b) (p ++ q) ≡ drop (at + length (a ++ b)) old =
    ap (λ (i : ℕ). drop (i + length b) (p ++ q)) (sym l) ∙ drop-append-add p q (length b) ∙ drop-drop (length b) (at + length a) old
    ∙ ap (λ (i : ℕ). drop i old) (add_assoc at (length a) (length b) ∙ ap (λ (i : ℕ). at + i) (sym (length-append a b))) in
    ap₂ (λ (x y : List ℕ). take (at + length a) x ++ (b ++ drop (at + length a + length b) y)) s s
    ∙ ap₂ (λ (x y : List ℕ). x ++ (b ++ y)) (take_at p q (at + length a) l) e
    ∙ append_assoc (take at old) a (b ++ drop (at + length (a ++ b)) old)
    ∙ ap (λ (x : List ℕ). take at old ++ x) (sym (append_assoc a b (drop (at + length (a ++ b)) old)))

-- a byte before a text
pub put_front : (old : List ℕ) (i b : ℕ) (a : List ℕ) → i < length old → set (put_at old (suc i) a) i b ≡ put_at old i (b ∷ a)
unfolding put_at
put_front old i b a h =
    let y : ℕ = get_or old i 0 in
    let r : List ℕ = a ++ drop (suc i + length a) old in
    let e : suc i + length a ≡ i + suc (length a) = omega arith in
    ap (λ (x : List ℕ). set (x ++ r) i b) (take-suc old i 0 h)
    ∙ ap (λ (x : List ℕ). set x i b) (append_assoc (take i old) (y ∷ []) r)
    ∙ set_at (take i old) y r b i (length-take-le i old (omega arith))
    ∙ ap (λ (j : ℕ). take i old ++ (b ∷ (a ++ drop j old))) e
