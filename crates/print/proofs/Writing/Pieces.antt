-- A text written piece after piece. Assumes nothing.
use Prim.Native.Nat.{ℕ, suc, ◌+◌, ◌≤◌, ◌<◌}
use native.Mathlib.Omega.{arith}
use native.Mathlib.Numerals.{add-one}
use mathlib.Core.Path.{◌≡◌, refl, sym, ap, ap₂, ◌∙◌}
use mathlib.Core.List.{List, [], ◌∷◌, ◌++◌, append-nil, append_assoc}
use lib.ListN.{length, get_or, drop, set, length-append, length-set}
use lib.Seq.{drop-cons, drop-length}
use Rattle.print.specs.Inner.Written.{Written, put_at}
use Rattle.print.proofs.Writing.Puts.{put_nil, put_one, put_put}

module _ {old : List ℕ} {at : ℕ} where
  pub written_none : Written old at [] old at
  written_none = record { place = omega arith; size = refl; is = λ h. sym (put_nil old at) }

  -- a text, and one right after it
  pub written_more : {a mid b out : List ℕ} {end last : ℕ} → Written old at a mid end → Written mid end b out last → Written old at (a ++ b) out last
  written_more {a} {mid} {b} {out} {end} {last} v w =
      record {
        place = omega (arith, v.place, w.place, length-append a b);
        size = w.size ∙ v.size;
        is = λ h.
            w.is (omega (arith, v.size))
            ∙ ap₂ (λ (o : List ℕ) (i : ℕ). put_at o i b) (v.is (omega (arith, w.place))) v.place
            ∙ put_put old at a b (omega (arith, v.place, w.place));
      }

  -- a text that does not end within the bytes is not written
  pub written_not : (a : List ℕ) {end : ℕ} → end ≡ at + length a → length old < end → Written old at a old end
  written_not a e l = record { place = e; size = refl; is = λ h. absurd (omega arith) }

  pub written_byte : (b : ℕ) → at < length old → Written old at (b ∷ []) (set old at b) (at + 1)
  written_byte b h = record { place = refl; size = length-set old at b; is = λ _. put_one old at b h }

-- a text of a list that has a piece for each entry
pub record Pieces (text : List ℕ → List ℕ) (piece : ℕ → List ℕ) : Type 0 where
  pub none : text [] ≡ []
  pub more : (x : ℕ) (xs : List ℕ) → text (x ∷ xs) ≡ piece x ++ text xs

-- the pieces of the first i entries are written
pub record Writing (text : List ℕ → List ℕ) (old : List ℕ) (at : ℕ) (xs out : List ℕ) (end i : ℕ) : Type 0 where
  pub within : i ≤ length xs
  pub done : List ℕ
  pub split : text xs ≡ done ++ text (drop i xs)
  pub so_far : Written old at done out end

module _ {text : List ℕ → List ℕ} {piece : ℕ → List ℕ} (p : Pieces text piece) {old : List ℕ} {at : ℕ} {xs : List ℕ} where
  pub writing_none : Writing text old at xs old at 0
  writing_none = record { within = omega arith; done = []; split = refl; so_far = written_none }

  module _ {out : List ℕ} {end i : ℕ} (w : Writing text old at xs out end i) where
    pub writing_more : {out' : List ℕ} {end' : ℕ} → i < length xs → Written out end (piece (get_or xs i 0)) out' end' → Writing text old at xs out' end' (i + 1)
    writing_more h f =
        record {
          within = omega arith;
          done = w.done ++ piece (get_or xs i 0);
          split =
              w.split
              ∙ ap (λ (l : List ℕ). w.done ++ text l) (drop-cons xs i 0 h)
              ∙ ap (λ (l : List ℕ). w.done ++ l) (p.more (get_or xs i 0) (drop (suc i) xs))
              ∙ sym (append_assoc w.done (piece (get_or xs i 0)) (text (drop (suc i) xs)))
              ∙ ap (λ (j : ℕ). (w.done ++ piece (get_or xs i 0)) ++ text (drop j xs)) (sym (add-one i));
          so_far = written_more w.so_far f;
        }

    pub writing_end : length xs ≤ i → Written old at (text xs) out end
    writing_end h =
        let e : i ≡ length xs = omega (arith, w.within) in
        let d : w.done ≡ text xs =
        sym (w.split ∙ ap (λ (j : ℕ). w.done ++ text (drop j xs)) e ∙ ap (λ (l : List ℕ). w.done ++ text l) (drop-length xs) ∙ ap (λ (l : List ℕ). w.done ++ l) p.none ∙ append-nil w.done) in
        rw d at w.so_far

-- a name is its own text, a byte a piece
pub byte_pieces : Pieces (λ (xs : List ℕ). xs) (λ x. x ∷ [])
byte_pieces = record { none = refl; more = λ x xs. refl }
