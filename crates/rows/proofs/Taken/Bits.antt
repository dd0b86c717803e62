-- The bits of the cells beside the cells: as they start, after a cell is taken, and what they say of a row. Assumes nothing.
use Prim.Native.Nat.{ℕ, ◌+◌, ◌-◌, ◌*◌, ◌/◌, ◌%◌, ◌^◌, max, ◌≤◌, ◌<◌}
use native.Mathlib.Omega.{arith}
use mathlib.Core.Path.{◌≡◌, refl, sym, ap, ap₂, ◌∙◌}
use mathlib.Core.Bool.{Bool, true, false, ◌&&◌}
use mathlib.Core.List.{List, [], ◌∷◌}
use mathlib.Core.Logic.{◌⊎◌, inl, inr}
use lib.Bits.{bit_or}
use lib.Dec.{eqb, ltb}
use lib.ListN.{length, get_or, set, length-set}
use lib.Seq.{get_or-set_same, get_or-set_other}
use borrow.Author.Tests.{ltb-true, ne_eqb, eqb-true, eqb-false}
use Rattle.lists.proofs.Tests.{and_true, le_or_lt}
use Rattle.vectors.specs.Bits.{bit}
use Rattle.vectors.specs.Bounds.{max_cells}
use Rattle.rows.specs.Care.{Care}
use Rattle.rows.specs.Fit.{cell_of, is_free, inside, clear}
use Rattle.rows.specs.Inner.Taken.{taken_cells, taken_words, bit_in, shut_bit, Taken, shut_row}
use Rattle.rows.proofs.Taken.Words.{window_low, window_high, set_here, set_there}

-- ---- a window

pub window_bits : (taken : List ℕ) (start : ℕ) → get_or taken (start / 64) 0 < 2 ^ 64 → (t : ℕ) → t < 64
    → bit (bit_or (get_or taken (start / 64) 0 / 2 ^ (start % 64)) (get_or taken (start / 64 + 1) 0 * 2 ^ 1 % 2 ^ 64 * 2 ^ (63 - start % 64) % 2 ^ 64)) t
    ≡ bit_in taken (start + t)
window_bits taken start a< t t< = go (le_or_lt 64 (start % 64 + t))
  where
    go : (64 ≤ start % 64 + t) ⊎ (start % 64 + t < 64)
        → bit (bit_or (get_or taken (start / 64) 0 / 2 ^ (start % 64)) (get_or taken (start / 64 + 1) 0 * 2 ^ 1 % 2 ^ 64 * 2 ^ (63 - start % 64) % 2 ^ 64)) t
        ≡ bit_in taken (start + t)
    go (inr l) =
        let p : start / 64 ≡ (start + t) / 64 = omega arith in
        let q : start % 64 + t ≡ (start + t) % 64 = omega arith in
        window_low (get_or taken (start / 64) 0) (get_or taken (start / 64 + 1) 0) (start % 64) (omega arith) t l
        ∙ ap₂ (λ (i k : ℕ). bit (get_or taken i 0) k) p q
    go (inl l) =
        let p : start / 64 + 1 ≡ (start + t) / 64 = omega arith in
        let q : start % 64 + t - 64 ≡ (start + t) % 64 = omega arith in
        window_high (get_or taken (start / 64) 0) (get_or taken (start / 64 + 1) 0) (start % 64) (omega arith) a< t t< l
        ∙ ap₂ (λ (i k : ℕ). bit (get_or taken i 0) k) p q

-- ---- what the bits say of a row

both : (f k : Bool) → max (shut_bit f) (shut_bit k) ≡ shut_bit (f && k)
both false false = refl
both false true = refl
both true false = refl
both true true = refl

shut_true : (b : Bool) → shut_bit b ≡ 0 → b ≡ true
shut_true true e = refl
shut_true false e = absurd (omega arith)

shut_false : (b : Bool) → shut_bit b ≡ 1 → b ≡ false
shut_false true e = absurd (omega arith)
shut_false false e = refl

module _ (g taken : List ℕ) (bits : Taken g taken) (d t : ℕ) (t< : t < 64) where
  row_is : (m : List Care) → inside taken_cells d m ≡ true → shut_row taken (d + t) m ≡ shut_bit (clear g (d + t) m)
  unfolding shut_row inside clear
  row_is [] h = refl
  row_is (c ∷ m) h =
      let p = and_true (ltb (cell_of c d) taken_cells) (inside taken_cells d m) h in
      let l : cell_of c d < taken_cells = ltb-true (cell_of c d) taken_cells p.0 in
      ap₂ max (bits.bits (cell_of c (d + t)) (omega arith)) (row_is m p.1) ∙ both (is_free g (cell_of c (d + t))) (clear g (d + t) m)

  module _ (m : List Care) (h : inside taken_cells d m ≡ true) (x : ℕ) (e : bit x t ≡ shut_row taken (d + t) m) where
    pub row_open : bit x t ≡ 0 → clear g (d + t) m ≡ true
    row_open z = shut_true (clear g (d + t) m) (sym (row_is m h) ∙ sym e ∙ z)

    pub row_shut : bit x t ≡ 1 → clear g (d + t) m ≡ false
    row_shut z = shut_false (clear g (d + t) m) (sym (row_is m h) ∙ sym e ∙ z)

-- ---- a cell is taken: its bit is set

module _ (taken : List ℕ) (c : ℕ) (low : c / 64 < length taken) where
  bit_here : bit_in (set taken (c / 64) (bit_or (get_or taken (c / 64) 0) (1 * 2 ^ (c % 64) % 2 ^ 64))) c ≡ 1
  bit_here = ap (λ (w : ℕ). bit w (c % 64)) (get_or-set_same taken (c / 64) _ 0 low) ∙ set_here (get_or taken (c / 64) 0) (c % 64) (omega arith)

  bit_there : (e : ℕ) → (e ≡ c → ⊥) → bit_in (set taken (c / 64) (bit_or (get_or taken (c / 64) 0) (1 * 2 ^ (c % 64) % 2 ^ 64))) e ≡ bit_in taken e
  bit_there e n = by (eqb (e / 64) (c / 64)) refl
    where
      x : ℕ
      x = bit_or (get_or taken (c / 64) 0) (1 * 2 ^ (c % 64) % 2 ^ 64)

      by : (b : Bool) → eqb (e / 64) (c / 64) ≡ b → bit_in (set taken (c / 64) x) e ≡ bit_in taken e
      by true q =
          let k : e / 64 ≡ c / 64 = eqb-true (e / 64) (c / 64) q in
          ap (λ (i : ℕ). bit (get_or (set taken (c / 64) x) i 0) (e % 64)) k
          ∙ ap (λ (w : ℕ). bit w (e % 64)) (get_or-set_same taken (c / 64) x 0 low)
          ∙ set_there (get_or taken (c / 64) 0) (c % 64) (omega arith) (e % 64) (omega arith) (λ r. n (omega arith))
          ∙ ap (λ (i : ℕ). bit (get_or taken i 0) (e % 64)) (sym k)
      by false q = ap (λ (w : ℕ). bit w (e % 64)) (get_or-set_other taken (c / 64) (e / 64) x 0 (eqb-false (e / 64) (c / 64) q))

  -- the cells g become g', where c alone is taken besides
  pub taken_more : (g g' : List ℕ) → length g' ≤ max_cells → Taken g taken → (get_or g' c 0 ≡ 0 → ⊥) → ((e : ℕ) → (e ≡ c → ⊥) → get_or g' e 0 ≡ get_or g e 0)
      → Taken g' (set taken (c / 64) (bit_or (get_or taken (c / 64) 0) (1 * 2 ^ (c % 64) % 2 ^ 64)))
  taken_more g g' few s own same = record { few = few; size = length-set taken (c / 64) _ ∙ s.size; bits = λ e h. by e h (eqb e c) refl }
    where
      by : (e : ℕ) → e < 64 * taken_words → (b : Bool) → eqb e c ≡ b
          → bit_in (set taken (c / 64) (bit_or (get_or taken (c / 64) 0) (1 * 2 ^ (c % 64) % 2 ^ 64))) e ≡ shut_bit (is_free g' e)
      by e h true q = rw (eqb-true e c q, ne_eqb (get_or g' c 0) 0 own) bit_here
      by e h false q = let n = eqb-false e c q in rw (same e n) (bit_there e n ∙ s.bits e h)

pub taken_put : (g taken : List ℕ) (c v : ℕ) → Taken g taken → c < length g → 0 < v
    → Taken (set g c v) (set taken (c / 64) (bit_or (get_or taken (c / 64) 0) (1 * 2 ^ (c % 64) % 2 ^ 64)))
taken_put g taken c v s l p =
    taken_more taken c (omega (arith, s.size, s.few)) g (set g c v) (simp length-set s.few) s (λ z. omega (arith, get_or-set_same g c v 0 l)) (λ e n. get_or-set_other g c e v 0 n)
