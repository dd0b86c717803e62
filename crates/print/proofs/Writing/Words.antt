-- Numbers written one after another, after a name. Assumes nothing.
use Prim.Native.Nat.{ℕ, ◌+◌, ◌*◌, ◌^◌, ◌≤◌, ◌<◌}
use native.Mathlib.Numerals.{add-one}
use native.Mathlib.Omega.{arith}
use mathlib.Core.Path.{◌≡◌, refl, sym, ap, ◌∙◌}
use mathlib.Core.List.{List, [], ◌∷◌, ◌++◌, append-nil, append_assoc}
use lib.ListN.{length, get_or, take, length-append}
use lib.Seq.{take-suc}
use Rattle.std.proofs.lemmas.List.{take_all}
use Rattle.std.specs.List.{AllZip, each_same}
use Rattle.print.specs.Decimal.{decimal}
use Rattle.print.specs.Line.{space, newline, fields, lines}
use Rattle.print.specs.Inner.Written.{Written, WrittenFields}
use Rattle.print.proofs.Decimals.Digits.{length_word}
use Rattle.print.proofs.Writing.Pieces.{Pieces, Writing, written_more, writing_none, writing_more}

-- a text with a piece of at most 21 bytes for each entry
pub record Short (text : List ℕ → List ℕ) (piece : ℕ → List ℕ) : Type 0 where
  pub pieces : Pieces text piece
  pub few : (x : ℕ) → x < 2 ^ 64 → length (piece x) ≤ 21

pub field_short : Short fields (λ x. space ∷ decimal x)
unfolding fields
field_short = record { pieces = record { none = refl; more = λ x xs. refl }; few = λ x h. omega (arith, length_word x h) }

pub line_short : Short lines (λ x. decimal x ++ (newline ∷ []))
unfolding lines
line_short = record { pieces = record { none = refl; more = λ x xs. refl }; few = λ x h. omega (arith, length_word x h, length-append (decimal x) (newline ∷ [])) }

-- the first i numbers are written, in at most 21 bytes each
pub record Filling (text : List ℕ → List ℕ) (old : List ℕ) (at : ℕ) (xs out : List ℕ) (end i : ℕ) : Type 0 where
  pub so_far : Writing text old at xs out end i
  pub low : end ≤ at + 21 * i

module _ {text : List ℕ → List ℕ} {piece : ℕ → List ℕ} (p : Short text piece) {old : List ℕ} {at : ℕ} {xs : List ℕ} where
  pub filling_none : Filling text old at xs old at 0
  filling_none = record { so_far = writing_none p.pieces; low = omega arith }

  module _ {out : List ℕ} {end i : ℕ} (f : Filling text old at xs out end i) where
    pub filling_more : {out' : List ℕ} {end' : ℕ} → i < length xs → get_or xs i 0 < 2 ^ 64 → Written out end (piece (get_or xs i 0)) out' end'
        → Filling text old at xs out' end' (i + 1)
    filling_more h b w =
        record {
          so_far = writing_more p.pieces f.so_far h w;
          low = omega (arith, f.low, w.place, p.few (get_or xs i 0) b);
        }

-- ---- numbers after a name: what each word of some type converts to

fields_more : (xs : List ℕ) (x : ℕ) → fields (xs ++ (x ∷ [])) ≡ fields xs ++ (space ∷ decimal x)
unfolding fields
fields_more [] x = ap (λ (l : List ℕ). space ∷ l) (append-nil (decimal x))
fields_more (y ∷ xs) x =
    ap (λ (l : List ℕ). space ∷ (decimal y ++ l)) (fields_more xs x) ∙ sym (append_assoc (space ∷ decimal y) (fields xs) (space ∷ decimal x))

zip_more : {A : Type 0} (R : A → ℕ → Type 0) (xs : List A) (ys : List ℕ) (x : A) (y : ℕ) → AllZip R xs ys → R x y → AllZip R (xs ++ (x ∷ [])) (ys ++ (y ∷ []))
zip_more R [] [] x y a r = (r, tt)
zip_more R [] (z ∷ ys) x y a r = absurd a
zip_more R (w ∷ xs) [] x y a r = absurd a
zip_more R (w ∷ xs) (z ∷ ys) x y a r = (a.0, zip_more R xs ys x y a.1 r)

-- the name and the first i numbers are written
pub record Named {A : Type 0} (R : A → ℕ → Type 0) (name old : List ℕ) (at : ℕ) (xs : List A) (out : List ℕ) (end i : ℕ) : Type 0 where
  pub so_far : WrittenFields R name (take i xs) old at out end
  pub low : end ≤ at + length name + 21 * i

module _ {A : Type 0} {R : A → ℕ → Type 0} {name old : List ℕ} {at : ℕ} {xs : List A} where
  pub named_none : {out : List ℕ} {end : ℕ} → Written old at name out end → Named R name old at xs out end 0
  unfolding fields
  named_none w =
      record { so_far = record { numbers = []; each = tt; written = rw (sym (append-nil name)) at w }; low = omega (arith, w.place) }

  module _ {out : List ℕ} {end i : ℕ} (m : Named R name old at xs out end i) where
    pub named_more : {out' : List ℕ} {end' n : ℕ} {x : A} → i < length xs → x ≡ get_or xs i x → R x n → n < 2 ^ 64 → Written out end (space ∷ decimal n) out' end'
        → Named R name old at xs out' end' (i + 1)
    named_more {n = n} {x = x} h e r b w =
        let f = m.so_far in
        record {
          so_far = record {
            numbers = f.numbers ++ (n ∷ []);
            each = rw (add-one i, take-suc xs i x h, sym e) (zip_more R (take i xs) f.numbers x n f.each r);
            written = rw (fields_more f.numbers n, sym (append_assoc name (fields f.numbers) (space ∷ decimal n))) (written_more f.written w);
          };
          low = omega (arith, m.low, w.place, length_word n b);
        }

    pub named_end : length xs ≤ i → WrittenFields R name xs old at out end
    named_end h = rw (take_all i xs h) at m.so_far

-- numbers that convert to themselves
pub as_they_are : {name xs old out : List ℕ} {at end : ℕ} → WrittenFields (λ x y. y ≡ x) name xs old at out end → Written old at (name ++ fields xs) out end
as_they_are {xs = xs} w = rw (each_same xs w.numbers w.each) at w.written
