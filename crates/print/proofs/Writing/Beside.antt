-- The lines of a text written, a number behind each. Assumes nothing.
use Prim.Native.Nat.{ℕ, ◌+◌, ◌*◌, ◌^◌, ◌≤◌, ◌<◌}
use native.Mathlib.Omega.{arith}
use native.Mathlib.Numerals.{add-one}
use mathlib.Core.Path.{◌≡◌, refl, sym, ap, ◌∙◌}
use mathlib.Core.List.{List, [], ◌∷◌, ◌++◌, append-nil, append_assoc}
use borrow.Author.Tests.{eq-eqb, ne_eqb}
use lib.ListN.{length, get_or, drop}
use lib.Seq.{drop-cons}
use Rattle.std.proofs.lemmas.List.{drop_all}
use Rattle.std.proofs.Common.{Iter}
use Rattle.std.specs.Borrow.{Bor}
use Rattle.std.specs.Prelude.{Option, Some, None}
use Rattle.std.specs.Option.{unwrap_or, option_copied}
use Rattle.std.specs.Slice.Iter.{iter_rest, iter_steps}
use Rattle.print.specs.Decimal.{decimal}
use Rattle.print.specs.Line.{space, newline, numbered, beside}
use Rattle.print.specs.Inner.Written.{Written}
use Rattle.print.proofs.Decimals.Digits.{length_word}
use Rattle.print.proofs.Writing.Pieces.{written_none, written_more}

-- a line's end, and another byte
module _ (b : ℕ) (bs ns : List ℕ) where
  beside_line : b ≡ newline → beside (b ∷ bs) ns ≡ (space ∷ decimal (get_or ns 0 0)) ++ (b ∷ beside bs (drop 1 ns))
  unfolding beside numbered
  beside_line e = rw (eq-eqb b newline e, numbered, beside) (append_assoc (space ∷ decimal (get_or ns 0 0)) (b ∷ []) (beside bs (drop 1 ns)))

  beside_byte : (b ≡ newline → ⊥) → beside (b ∷ bs) ns ≡ b ∷ beside bs ns
  unfolding beside numbered
  beside_byte e = rw (ne_eqb b newline e, numbered, beside) refl

-- the first i bytes are written, in at most 22 bytes each, and the numbers before the rest
pub record Besides (text ns old : List ℕ) (at : ℕ) (out : List ℕ) (end i : ℕ) (rest : List ℕ) : Type 0 where
  pub done : List ℕ
  pub split : beside text ns ≡ done ++ beside (drop i text) rest
  pub so_far : Written old at done out end
  pub low : end ≤ at + 22 * i

module _ {text ns old : List ℕ} {at : ℕ} where
  pub besides_none : {rest : List ℕ} → rest ≡ ns → Besides text ns old at old at 0 rest
  besides_none e = record { done = []; split = rw e refl; so_far = written_none; low = omega arith }

  module _ {out : List ℕ} {end i : ℕ} {rest : List ℕ} (w : Besides text ns old at out end i rest) (h : i < length text) where
    next_is : drop i text ≡ get_or text i 0 ∷ drop (i + 1) text
    next_is = drop-cons text i 0 h ∙ ap (λ (k : ℕ). get_or text i 0 ∷ drop k text) (sym (add-one i))

    -- a byte that ends a line, behind its number
    pub besides_line : {mid out' : List ℕ} {between end' n : ℕ} {left : List ℕ} → get_or text i 0 ≡ newline → n ≡ get_or rest 0 0 → left ≡ drop 1 rest → n < 2 ^ 64
        → Written out end (space ∷ decimal n) mid between → Written mid between (get_or text i 0 ∷ []) out' end' → Besides text ns old at out' end' (i + 1) left
    besides_line {n = n} {left = left} e en el low f g =
        let t : List ℕ = (space ∷ decimal n) ++ (get_or text i 0 ∷ []) in
        record {
          done = w.done ++ t;
          split =
              w.split
              ∙ ap (λ (l : List ℕ). w.done ++ l)
              (ap (λ (l : List ℕ). beside l rest) next_is ∙ beside_line (get_or text i 0) (drop (i + 1) text) rest e
              ∙ rw (sym en, sym el) (sym (append_assoc (space ∷ decimal n) (get_or text i 0 ∷ []) (beside (drop (i + 1) text) left))))
              ∙ sym (append_assoc w.done t (beside (drop (i + 1) text) left));
          so_far = written_more w.so_far (written_more f g);
          low = omega (arith, w.low, f.place, g.place, length_word n low);
        }

    pub besides_byte : {out' : List ℕ} {end' : ℕ} → (get_or text i 0 ≡ newline → ⊥) → Written out end (get_or text i 0 ∷ []) out' end'
        → Besides text ns old at out' end' (i + 1) rest
    besides_byte e f =
        record {
          done = w.done ++ (get_or text i 0 ∷ []);
          split =
              w.split
              ∙ ap (λ (l : List ℕ). w.done ++ l) (ap (λ (l : List ℕ). beside l rest) next_is ∙ beside_byte (get_or text i 0) (drop (i + 1) text) rest e)
              ∙ sym (append_assoc w.done (get_or text i 0 ∷ []) (beside (drop (i + 1) text) rest));
          so_far = written_more w.so_far f;
          low = omega (arith, w.low, f.place);
        }

  pub besides_end : {out : List ℕ} {end i : ℕ} {rest : List ℕ} → Besides text ns old at out end i rest → length text ≤ i → Written old at (beside text ns) out end
  unfolding beside
  besides_end {i = i} {rest = rest} w h =
      let d : w.done ≡ beside text ns =
      sym (w.split ∙ ap (λ (l : List ℕ). w.done ++ beside l rest) (drop_all i text h) ∙ append-nil w.done) in
      rw d at w.so_far

-- the number that an iterator gives for a line, 0 where it has none, and what it has left
pub number_next : (s t : Iter ℕ) (r : Option (Bor ℕ)) (c : Option ℕ) (n : ℕ) → iter_steps s r t → c ≡ option_copied r → n ≡ unwrap_or c 0
    → (n ≡ get_or (iter_rest s) 0 0) × (iter_rest t ≡ drop 1 (iter_rest s))
number_next s t None c n h k e = none (iter_rest s) h.0 (ap iter_rest h.1)
  where
    none : (l : List ℕ) → length l ≡ 0 → iter_rest t ≡ l → (n ≡ get_or l 0 0) × (iter_rest t ≡ drop 1 l)
    none [] _ i = (rw k at e, i)
    none (x ∷ l) z i = absurd (omega arith)
number_next s t (Some x) c n h k e = rw h (rw k at e, refl)
