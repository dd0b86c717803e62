-- The bits made from the cells, 64 cells at a time. Assumes nothing.
use Prim.Native.Nat.{ℕ, zero, suc, ◌+◌, ◌-◌, ◌*◌, ◌/◌, ◌%◌, ◌^◌, min, ◌≤◌, ◌<◌}
use native.Mathlib.Nat.{zero-div, pow-suc}
use native.Mathlib.Omega.{arith}
use mathlib.Core.Path.{◌≡◌, refl, sym, ap, ap₂, ◌∙◌}
use mathlib.Core.Bool.{Bool, true, false, not}
use mathlib.Core.List.{List, [], ◌∷◌, ◌++◌}
use mathlib.Core.Logic.{◌⊎◌, inl, inr, ⊎_elim}
use lib.Dec.{eqb}
use lib.ListN.{length, get_or, set, take, drop, replicate, length-set, length-append, length-drop, length-take, length-replicate, get_or-replicate, get_or-append, drop_of_length-le}
use lib.Seq.{get_or-set_same, get_or-set_other, get_or-take, get_or-drop, get_or-append_seam, take-append_seam, take-take, take_all, drop-append_seam, drop-drop}
use mir.Val.{bool_byte}
use borrow.Author.Tests.{eqb-true, eqb-false}
use Rattle.std.specs.List.{push}
use Rattle.std.proofs.lemmas.List.{get_or_past}
use Rattle.lists.proofs.Tests.{le_or_lt}
use Rattle.vectors.specs.Bits.{bit}
use Rattle.vectors.specs.Bounds.{max_cells}
use Rattle.vectors.proofs.Bits.Laws.{bit_suc}
use Rattle.vectors.proofs.Bits.Sets.{bit_past}
use Rattle.rows.specs.Fit.{is_free}
use Rattle.rows.specs.Inner.Taken.{taken_words, bit_in, shut_bit, Taken}
use Rattle.rows.proofs.Fits.Needed.{past_free}

pub shut_low : (b : Bool) → shut_bit b < 2
shut_low true = omega arith
shut_low false = omega arith

-- the bit of a cell with the word w
shut_word : (w v : ℕ) → v ≡ bool_byte (not (eqb w 0)) → v ≡ shut_bit (eqb w 0)
shut_word w v e = go (eqb w 0) e
  where
    go : (t : Bool) → v ≡ bool_byte (not t) → v ≡ shut_bit t
    go true q = q
    go false q = q

-- ---- one word's cells: those past the rest, which is still to come, are in the low bits

pub record Gathering (cells rest : List ℕ) (bits : ℕ) : Type 0 where
  pub is : rest ≡ take (length rest) cells
  pub within : length rest ≤ length cells
  pub low : bits < 2 ^ (length cells - length rest)
  pub are : (t : ℕ) → length rest + t < length cells → bit bits t ≡ shut_bit (is_free cells (length rest + t))

pub gathering_none : (cells : List ℕ) → Gathering cells cells 0
gathering_none cells =
    record {
      is = sym (take_all (length cells) cells (omega arith));
      within = omega arith;
      low = (let z : length cells - length cells ≡ 0 = omega arith in rw z (omega arith));
      are = λ t h. absurd (omega arith);
    }

-- one cell more, with the word w
module _ (cells rest rest' : List ℕ) (w bits v : ℕ) (e : rest ≡ push rest' w) (s : Gathering cells rest bits) where
  more : length rest ≡ length rest' + 1
  more = ap length e ∙ length-append rest' (w ∷ [])

  there : get_or cells (length rest') 0 ≡ w
  there =
      sym (get_or-take (length rest) cells (length rest') 0 (omega (arith, more)))
      ∙ ap (λ (l : List ℕ). get_or l (length rest') 0) (sym s.is ∙ e) ∙ get_or-append_seam rest' w [] 0

  pub gathering_more : v ≡ bool_byte (not (eqb w 0)) → Gathering cells rest' (bits * 2 + v)
  gathering_more q =
      record {
        is =
            sym (take-append_seam rest' (w ∷ [])) ∙ ap (take (length rest')) (sym e ∙ s.is)
            ∙ take-take (length rest') (length rest) cells (omega (arith, more));
        within = omega (arith, s.within, more);
        low =
            (let n : length cells - length rest' ≡ suc (length cells - length rest) = omega (arith, s.within, more) in
            rw n (omega (arith, s.low, pow-suc 2 (length cells - length rest), v_low)));
        are = at;
      }
    where
      v_is : v ≡ shut_bit (is_free cells (length rest'))
      v_is = shut_word w v q ∙ ap (λ (x : ℕ). shut_bit (eqb x 0)) (sym there)

      v_low : v < 2
      v_low = omega (arith, v_is, shut_low (is_free cells (length rest')))

      at : (t : ℕ) → length rest' + t < length cells → bit (bits * 2 + v) t ≡ shut_bit (is_free cells (length rest' + t))
      at zero h =
          let z : length rest' + 0 ≡ length rest' = omega arith in
          let b : bit (bits * 2 + v) 0 ≡ v = omega (arith, v_low) in
          b ∙ v_is ∙ ap (λ (c : ℕ). shut_bit (is_free cells c)) (sym z)
      at (suc t) h =
          let z : length rest + t ≡ length rest' + suc t = omega (arith, more) in
          let b : (bits * 2 + v) / 2 ≡ bits = omega (arith, v_low) in
          bit_suc (bits * 2 + v) t ∙ ap (λ (n : ℕ). bit n t) b ∙ s.are t (omega arith) ∙ ap (λ (c : ℕ). shut_bit (is_free cells c)) z

-- all of them; past the cells every cell is free
pub gathering_end : (cells rest : List ℕ) (bits : ℕ) → length rest ≡ 0 → Gathering cells rest bits → (t : ℕ) → bit bits t ≡ shut_bit (is_free cells t)
gathering_end cells rest bits z s t = go (le_or_lt (length cells) t)
  where
    n : length rest + t ≡ t
    n = omega (arith, z)

    go : (length cells ≤ t) ⊎ (t < length cells) → bit bits t ≡ shut_bit (is_free cells t)
    go (inr l) = s.are t (omega (arith, z)) ∙ ap (λ (c : ℕ). shut_bit (is_free cells c)) n
    go (inl l) = bit_past (length cells - length rest) bits t s.low (omega (arith, z)) ∙ ap (λ (w : ℕ). shut_bit (eqb w 0)) (sym (past_free cells t l))

-- ---- the words: the first 64 q cells are looked at

-- the word of a cell among the first i; past them it is 0
first_out : (g : List ℕ) (i c : ℕ) → i ≤ c → get_or (take i g) c 0 ≡ 0
first_out g zero c l = refl
first_out [] (suc i) c l = refl
first_out (w ∷ g) (suc i) zero l = absurd (omega arith)
first_out (w ∷ g) (suc i) (suc c) l = first_out g i c (omega arith)

first_next : (g : List ℕ) (q c : ℕ) → (c / 64 ≡ q → ⊥) → get_or (take (64 * (q + 1)) g) c 0 ≡ get_or (take (64 * q) g) c 0
first_next g q c n =
    ⊎_elim
    (λ l. first_out g (64 * (q + 1)) c (omega (arith, n)) ∙ sym (first_out g (64 * q) c l))
    (λ l. get_or-take (64 * (q + 1)) g c 0 (omega arith) ∙ sym (get_or-take (64 * q) g c 0 l))
    (le_or_lt (64 * q) c)

pub taken_none : (g taken : List ℕ) → taken ≡ replicate taken_words 0 → Taken (take 0 g) taken
taken_none g taken e =
    record {
      few = omega arith;
      size = ap length e ∙ length-replicate {A = ℕ} taken_words 0;
      bits = λ c h.
          ap (λ (l : List ℕ). bit_in l c) e
          ∙ ap (λ (w : ℕ). bit w (c % 64)) (get_or-replicate taken_words (c / 64) 0 0 (omega arith)) ∙ ap (λ (n : ℕ). n % 2) (zero-div (2 ^ (c % 64)));
    }

-- one word more
pub taken_next : (g taken : List ℕ) (q bits : ℕ) → length g ≤ max_cells → Taken (take (64 * q) g) taken → q < length taken
    → ((t : ℕ) → t < 64 → bit bits t ≡ shut_bit (is_free g (64 * q + t))) → Taken (take (64 * (q + 1)) g) (set taken q bits)
taken_next g taken q bits m s l are = record { few = omega (arith, length-take (64 * (q + 1)) g, m); size = length-set taken q bits ∙ s.size; bits = λ c h. by c h (eqb (c / 64) q) refl }
  where
    by : (c : ℕ) → c < 64 * taken_words → (b : Bool) → eqb (c / 64) q ≡ b → bit_in (set taken q bits) c ≡ shut_bit (is_free (take (64 * (q + 1)) g) c)
    by c h true e =
        let k : c / 64 ≡ q = eqb-true (c / 64) q e in
        let z : 64 * q + c % 64 ≡ c = omega arith in
        ap (λ (i : ℕ). bit (get_or (set taken q bits) i 0) (c % 64)) k
        ∙ ap (λ (w : ℕ). bit w (c % 64)) (get_or-set_same taken q bits 0 l)
        ∙ are (c % 64) (omega arith)
        ∙ ap (λ (n : ℕ). shut_bit (is_free g n)) z
        ∙ ap (λ (w : ℕ). shut_bit (eqb w 0)) (sym (get_or-take (64 * (q + 1)) g c 0 (omega arith)))
    by c h false e =
        let n = eqb-false (c / 64) q e in
        ap (λ (w : ℕ). bit w (c % 64)) (get_or-set_other taken q (c / 64) bits 0 n)
        ∙ s.bits c h
        ∙ ap (λ (w : ℕ). shut_bit (eqb w 0)) (sym (first_next g q c n))

-- the next 64 cells, or as many as there are
pub record Chunk (g taken rest' : List ℕ) (q bits : ℕ) : Type 0 where
  pub left : rest' ≡ drop (64 * (q + 1)) g
  pub few : 64 * (q + 1) < length g + 64
  pub bits_are : Taken (take (64 * (q + 1)) g) (set taken q bits)

pub taken_chunk : (g taken rest cells rest' : List ℕ) (q bits : ℕ) → rest ≡ drop (64 * q) g → rest ≡ cells ++ rest' → length cells ≡ min 64 (length rest) → 0 < length rest
    → length g ≤ max_cells → Taken (take (64 * q) g) taken → ((t : ℕ) → t < 64 → bit bits t ≡ shut_bit (is_free cells t)) → Chunk g taken rest' q bits
taken_chunk g taken rest cells rest' q bits d e n p m s are =
    record {
      left = by (le_or_lt 64 (length rest));
      few = omega (arith, size);
      bits_are = taken_next g taken q bits m s (omega (arith, size, s.size)) (λ t h. are t h ∙ ap (λ (w : ℕ). shut_bit (eqb w 0)) (cell t h));
    }
  where
    size : length rest ≡ length g - 64 * q
    size = ap length d ∙ length-drop (64 * q) g

    left_is : rest' ≡ drop (length cells) rest
    left_is = sym (drop-append_seam cells rest') ∙ ap (drop (length cells)) (sym e)

    by : (64 ≤ length rest) ⊎ (length rest < 64) → rest' ≡ drop (64 * (q + 1)) g
    by (inl l) =
        let c : length cells ≡ 64 = omega (arith, n) in
        let z : 64 * q + 64 ≡ 64 * (q + 1) = omega arith in
        left_is ∙ ap₂ (λ (i : ℕ) (l : List ℕ). drop i l) c d ∙ drop-drop 64 (64 * q) g ∙ ap (λ (i : ℕ). drop i g) z
    by (inr l) =
        left_is ∙ drop_of_length-le rest {i = length cells} (omega (arith, n)) ∙ sym (drop_of_length-le g {i = 64 * (q + 1)} (omega (arith, size)))

    cell : (t : ℕ) → t < 64 → get_or cells t 0 ≡ get_or g (64 * q + t) 0
    cell t h = go (le_or_lt (length cells) t)
      where
        go : (length cells ≤ t) ⊎ (t < length cells) → get_or cells t 0 ≡ get_or g (64 * q + t) 0
        go (inr l) = sym (get_or-append cells rest' 0 t l) ∙ ap (λ (x : List ℕ). get_or x t 0) (sym e ∙ d) ∙ get_or-drop (64 * q) g t 0
        go (inl l) = get_or_past cells t 0 l ∙ sym (get_or_past g (64 * q + t) 0 (omega (arith, n, size)))
