-- Tables written from the front, word by word. Assumes nothing.
use Prim.Native.Nat.{ℕ, suc, ◌+◌, ◌≤◌, ◌<◌}
use native.Mathlib.Omega.{arith}
use native.Mathlib.Numerals.{add-one}
use mathlib.Core.Path.{◌≡◌, refl, sym, ap, ◌∙◌}
use mathlib.Core.List.{List, [], ◌∷◌, ◌++◌, map, append-nil, map-append}
use lib.ListN.{length, get_or, take, drop, set, length-set, length-map, drop_of_length-le}
use lib.Seq.{take-suc, take_all, drop-cons, set_at, append_snoc, length-take-le}

-- words 1 to i are f of the first i vectors, after a word 0
pub record Writing (f : ℕ → ℕ) (vs old words : List ℕ) (i : ℕ) : Type 0 where
  pub size : length words ≡ suc (length vs)
  pub low : i ≤ length vs
  pub is : words ≡ (0 ∷ map f (take i vs)) ++ drop (suc i) old

pub writing_none : (f : ℕ → ℕ) (vs old : List ℕ) → length old ≡ suc (length vs) → Writing f vs (set old 0 0) (set old 0 0) 0
writing_none f vs [] e = absurd (omega arith)
writing_none f vs (x ∷ old) e = record { size = e; low = omega arith; is = refl }

pub writing_more : {f : ℕ → ℕ} {vs old words : List ℕ} {i : ℕ} (v : ℕ) → length old ≡ suc (length vs) → Writing f vs old words i → i < length vs → v ≡ f (get_or vs i 0)
    → Writing f vs old (set words (i + 1) v) (i + 1)
writing_more {f} {vs} {old} {words} {i} v s w h e =
    let g : suc i < length old = omega arith in
    let l : length (0 ∷ map f (take i vs)) ≡ suc i = ap suc (length-map (take i vs) f ∙ length-take-le i vs (omega arith)) in
    record {
      size = length-set words (i + 1) v ∙ w.size;
      low = omega arith;
      is =
          rw (w.is, add-one i, drop-cons old (suc i) 0 g, e, take-suc vs i 0 h, map-append f (take i vs) (get_or vs i 0 ∷ []))
          (set_at (0 ∷ map f (take i vs)) (get_or old (suc i) 0) (drop (suc (suc i)) old) (f (get_or vs i 0)) (suc i) l
          ∙ sym (append_snoc (0 ∷ map f (take i vs)) (f (get_or vs i 0)) (drop (suc (suc i)) old)));
    }

pub writing_end : {f : ℕ → ℕ} {vs old words : List ℕ} {i : ℕ} → length old ≡ suc (length vs) → Writing f vs old words i → length vs ≤ i → words ≡ 0 ∷ map f vs
writing_end {f} {vs} {old} {words} {i} s w h =
    w.is ∙ rw (take_all i vs h, drop_of_length-le old {i = suc i} (omega arith)) (append-nil (0 ∷ map f vs))
