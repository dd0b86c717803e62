-- The answer for a key from its image. Assumes nothing.
use Prim.Native.Nat.{ℕ, zero, suc, ◌+◌, ◌-◌, ◌*◌, ◌/◌, ◌^◌, ◌≤◌, ◌<◌}
use native.Mathlib.Nat.{mul_comm, add_comm}
use native.Mathlib.Omega.{arith}
use mathlib.Core.Path.{◌≡◌, refl, sym, ap, ap₂, ◌∙◌}
use mathlib.Core.Bool.{Bool, true, false, cond}
use mathlib.Core.List.{List}
use borrow.Author.Tests.{le-leb}
use lib.Bits.{bit_and, and_mask}
use lib.Dec.{eqb}
use lib.ListN.{length, get_or}
use lib.Pow.{high, low, pow_pos, pow_mono}
use Rattle.vectors.specs.Variable.{row_of, column_of}
use Rattle.vectors.proofs.Variables.Numbers.{column_lt}
use Rattle.vectors.proofs.Words.Laws.{word_row}
use Rattle.record.specs.declared.Record.{Record}
use Rattle.vectors.specs.Bounds.{max_inputs, max_side}
use Rattle.record.specs.Inner.Formed.{WellFormed}
use Rattle.record.specs.Record.{kinds_in}
use Rattle.record.specs.Tables.{Tables}
use Rattle.record.specs.Leads.{word_in, cell_in}
use Rattle.lookup.specs.Lookup.{found, not_found, compared, answer, lookup_of}
use Rattle.lookup.proofs.Lookups.{answer_out, answer_in, compared_none, compared_above, lookup_beyond, lookup_answer}
use Rattle.many.specs.declared.find.Frame.{Frame}
use Rattle.vectors.specs.Masks.{number_by}
use Rattle.many.specs.Image.{image_of, Linear}
use Rattle.many.specs.Inner.Images.{table_words, byte_bits, key_bytes, image_masks, Tabled, Narrow, FrameOf, Room, Opened}
use Rattle.many.proofs.Linear.{number_linear, key_bytes_lem}

-- ---- the parts of an image

module _ (u : Record) (f : Frame) (x y : ℕ) (o : FrameOf u f) (e : y ≡ image_of u x) where
  column_below : column_of u.n1 (kinds_in u) x < 2 ^ (u.p - u.n1)
  column_below = rw o.kinds at (column_lt u.n1 (kinds_in u) x)

  turned : y ≡ word_in u x * 2 ^ (u.p - u.n1) + column_of u.n1 (kinds_in u) x
  turned = e ∙ add_comm _ _ ∙ ap (λ (q : ℕ). q + column_of u.n1 (kinds_in u) x) (mul_comm (2 ^ (u.p - u.n1)) (word_in u x))

  -- above the column stands the word
  pub word_of : y / 2 ^ f.shift ≡ word_in u x
  word_of = ap₂ (λ (a k : ℕ). a / 2 ^ k) turned o.shift ∙ high (word_in u x) (u.p - u.n1) column_below

  column_of_lem : bit_and y f.columns ≡ column_of u.n1 (kinds_in u) x
  column_of_lem = ap₂ bit_and turned o.columns ∙ and_mask _ (u.p - u.n1) ∙ low (word_in u x) (u.p - u.n1) column_below

  module _ (word : ℕ) (w : word ≡ word_in u x) (t : Tables) where
    row_of_lem : bit_and word f.rows ≡ row_of u.n1 (kinds_in u) x
    row_of_lem = ap₂ bit_and w o.rows ∙ and_mask _ u.n1 ∙ word_row u.n u.n1 (kinds_in u) u.kept x (omega (arith, o.kinds, o.rows_in))

    -- the cell that is read
    abbrev pub cell_at : ℕ
    cell_at = get_or t.h (bit_and word f.rows) 0 + bit_and y f.columns

    cell_of : cell_at ≡ cell_in u t x
    cell_of = ap₂ (λ (a c : ℕ). get_or t.h a 0 + c) row_of_lem column_of_lem

    pub held_out : f.cells ≤ cell_at → compared u t.aux x 0 ≡ answer u t x
    held_out h = sym (compared_none u t.aux x 0 refl) ∙ answer_out u t x cell_at cell_of (rw o.cells at h)

    pub held_in : cell_at < f.cells → (i : ℕ) → i ≡ get_or t.g cell_at 0 → compared u t.aux x i ≡ answer u t x
    held_in h i d = ap (compared u t.aux x) d ∙ answer_in u t x cell_at cell_of (rw o.cells at h)

-- ---- the tables are long enough

pub frame_room : (u : Record) (t : Tables) (f : Frame) (images : ℕ) → WellFormed u t → FrameOf u f → images ≡ table_words
    → Room f images (length t.h) (length t.g) (length t.aux)
frame_room u t f images w o e =
    record {
      images_held = e;
      fits = record {
        shift_low = omega (arith, o.shift, o.columns_few);
        columns_low = omega (arith, o.columns, pow_pos (u.p - u.n1), pow_mono {i = u.p - u.n1} {j = max_side} o.columns_few);
        rows_held = omega (arith, o.rows, pow_pos u.n1, w.rows_held);
        cells_held = omega (arith, o.cells, w.cells_held);
      };
      words_held = omega (arith, o.k, w.words_held);
    }

-- ---- an index that is not above k

compared_found : (u : Record) (aux : List ℕ) (x i : ℕ) → i ≤ u.k → found (cond (eqb (get_or aux i 0) (word_in u x)) i 0) ≡ compared u aux x i
unfolding compared
compared_found u aux x zero h = go (eqb (get_or aux 0 0) (word_in u x))
  where
    go : (same : Bool) → found (cond same 0 0) ≡ found 0
    go true = refl
    go false = refl
compared_found u aux x (suc i) h = rw (le-leb (suc i) u.k h, compared) (go (eqb (get_or aux (suc i) 0) (word_in u x)))
  where
    go : (same : Bool) → found (cond same (suc i) 0) ≡ elim same [ true ↦ found (suc i) | false ↦ found 0 ]
    go true = refl
    go false = refl

-- ---- a key beyond n, and another, whose cell holds i

module _ (u : Record) (t : Tables) (f : Frame) (images : List ℕ) (o : Opened u t f images) (x : ℕ) where
  pub key_beyond : f.last < x → not_found 6 ≡ lookup_of u t x
  key_beyond h = lookup_beyond u t x o.formed (omega (arith, o.frame.last, pow_pos u.n))

  -- y is what the tables give for it
  pub image_is : x ≤ f.last → (wide : Bool) (y : ℕ) → x < 2 ^ max_inputs → Narrow wide f.last
      → ((number : ℕ → ℕ) (bytes : ℕ) → Linear number → Tabled bytes number images → x < 2 ^ (byte_bits * bytes) → Narrow wide x → y ≡ number x)
      → y ≡ image_of u x
  image_is h wide y b n e =
      let k : x < 2 ^ u.n = omega (arith, o.frame.last, pow_pos u.n) in
      e (number_by (image_masks u)) (key_bytes u.n) (number_linear (image_masks u)) o.tabled (key_bytes_lem u.n x k) (λ z. omega (arith, n z)) ∙ o.image x b

  module _ (h : x ≤ f.last) (i : ℕ) (e : compared u t.aux x i ≡ answer u t x) where
    compared_is : compared u t.aux x i ≡ lookup_of u t x
    compared_is = e ∙ lookup_answer u t x o.formed (omega (arith, o.frame.last, pow_pos u.n))

    pub key_above : f.k < i → not_found 14 ≡ lookup_of u t x
    key_above g = compared_above u t.aux x i (rw o.frame.k at g) ∙ compared_is

    pub key_found : (word r : ℕ) → i ≤ f.k → word ≡ word_in u x → r ≡ cond (eqb (get_or t.aux i 0) word) i 0 → found r ≡ lookup_of u t x
    key_found word r g w d =
        ap found (d ∙ ap (λ (v : ℕ). cond (eqb (get_or t.aux i 0) v) i 0) w) ∙ compared_found u t.aux x i (rw o.frame.k at g) ∙ compared_is
