-- Where a vector belongs, and the number whose first cell that is. Assumes nothing.
use Prim.Native.Nat.{ℕ, suc, ◌+◌, ◌-◌, ◌*◌, ◌/◌, ◌%◌, ◌^◌, ◌≤◌, ◌<◌}
use native.Mathlib.Nat.{lt_of_lt_of_le}
use native.Mathlib.Numerals.{add-one}
use native.Mathlib.Omega.{arith}
use mathlib.Core.Path.{◌≡◌, sym, ap, ◌∙◌}
use mathlib.Core.Bool.{true, false, true≢false}
use mathlib.Core.List.{List}
use lib.Count.{ones}
use lib.ListN.{length, get_or, take, length-take}
use lib.Pow.{pow_mono}
use lib.Seq.{get_or-take}
use borrow.Author.Tests.{le-ltb}
use Rattle.std.proofs.Common.{None, Some}
use Rattle.lists.proofs.Finding.Equals.{first_equal}
use Rattle.vectors.specs.Bounds.{max_inputs, max_variables, max_rows, max_side, outside}
use Rattle.vectors.specs.Masks.{masks_in, number_by}
use Rattle.vectors.specs.Variable.{number_of, row_of, column_of}
use Rattle.vectors.specs.Word.{pack_in}
use Rattle.vectors.proofs.Variables.Masking.{masks_all, masks_length, number_masks, number_fits}
use Rattle.vectors.proofs.Variables.Numbers.{kinds_length}
use Rattle.vectors.proofs.Words.Laws.{word_lt, word_sum}
use Rattle.record.specs.declared.Record.{Record}
use Rattle.record.specs.Record.{kinds_in}
use Rattle.record.specs.Tables.{Tables}
use Rattle.record.specs.Leads.{word_in}
use Rattle.record.specs.Inner.Formed.{InBounds, RightInputs}
use Rattle.record.proofs.Formed.{inside}
use Rattle.lookup.proofs.Pass.{values_row, values_column, row_below, column_below}
use Rattle.recover.specs.Recover.{first_cell}
use Rattle.add.specs.Inner.Seats.{seat_of, FirstsAre, NumberFound}

-- ---- the seat

module _ (u : Record) (x : ℕ) (b : InBounds u) (size : length u.variables ≡ max_variables) where
  within : u.p ≤ length u.variables
  within = omega (arith, b.few)

  many : length (kinds_in u) ≡ u.p
  many = kinds_length u.variables u.p within

  -- the values of the variables
  pub masks_many : (m : List ℕ) → m ≡ masks_in u.p u.variables → length (take u.p m) ≡ u.p
  masks_many m e = ap (λ (l : List ℕ). length (take u.p l)) e ∙ ap length (masks_all u.variables u.p within) ∙ masks_length (kinds_in u) ∙ many

  pub values_are : (m : List ℕ) (v : ℕ) → x < 2 ^ max_inputs → m ≡ masks_in u.p u.variables → v ≡ number_by (take u.p m) x % 2 ^ max_inputs → v ≡ number_of (kinds_in u) x
  values_are m v l e f =
      f
      ∙ number_fits (take u.p m) x (omega (arith, masks_many m e, b.few))
      ∙ ap (λ (l : List ℕ). number_by (take u.p l) x) e
      ∙ ap (λ (l : List ℕ). number_by l x) (masks_all u.variables u.p within)
      ∙ number_masks (kinds_in u) x l

  module _ (values : ℕ) (v : values ≡ number_of (kinds_in u) x) where
    row_is : values % 2 ^ u.n1 ≡ row_of u.n1 (kinds_in u) x
    row_is = ap (λ (n : ℕ). n % 2 ^ u.n1) v ∙ values_row u.variables u.p u.n1 x within b.rows_in

    pub row_low : values % 2 ^ u.n1 < 2 ^ u.n1
    row_low = omega (arith, row_is, row_below u.variables u.p u.n1 x within b.rows_in)

    column_is : values / 2 ^ u.n1 ≡ column_of u.n1 (kinds_in u) x
    column_is = ap (λ (n : ℕ). n / 2 ^ u.n1) v ∙ values_column u.variables u.p u.n1 x within b.rows_in

    -- the word
    module _ (r : RightInputs u) (rest : ℕ) (p : rest ≡ pack_in max_inputs u.kept x) where
      rows_in : u.n1 ≤ length (kinds_in u)
      rows_in = omega (arith, many, b.rows_in)

      room : u.n1 + ones u.kept ≤ max_inputs
      room = omega (arith, r.kept_number, b.rows_in, b.within, b.inputs)

      word_is : values % 2 ^ u.n1 + rest * 2 ^ u.n1 % 2 ^ max_inputs ≡ word_in u x
      word_is = word_sum u.n u.n1 (kinds_in u) u.kept x rows_in max_inputs _ rest r.kept_in b.inputs room row_is p

      pub word_fits : values % 2 ^ u.n1 + rest * 2 ^ u.n1 % 2 ^ max_inputs < 2 ^ max_inputs
      word_fits = rw word_is (word_lt u.n u.n1 (kinds_in u) u.kept x rows_in max_inputs r.kept_in room)

      pub seat_is : (h : List ℕ) (row : ℕ) → row ≡ values % 2 ^ u.n1
          → record { n1 = u.n1; row = row; displacement = get_or h row 0; column = values / 2 ^ u.n1; word = row + rest * 2 ^ u.n1 % 2 ^ max_inputs } ≡ seat_of u h x
      seat_is h row e = rw (e, column_is, word_is, row_is)

  -- its row and its column are low
  pub seat_row : row_of u.n1 (kinds_in u) x < 2 ^ u.n1
  seat_row = row_below u.variables u.p u.n1 x within b.rows_in

  pub seat_column : column_of u.n1 (kinds_in u) x < max_rows
  seat_column =
      lt_of_lt_of_le (column_below u.variables u.p u.n1 x within b.rows_in) (pow_mono {i = u.p - u.n1} {j = max_side} b.columns_few)

-- ---- the number whose first cell it is

module _ (u : Record) (t : Tables) (cell : ℕ) where
  -- the first cell of a number is below L and holds the number
  pub cell_low : (i : ℕ) → first_cell u t i ≡ suc cell → cell < u.cells
  cell_low i e = omega (arith, (first_equal _ _ _ e).below, length-take u.cells t.g)

  pub cell_holds : (i : ℕ) → first_cell u t i ≡ suc cell → get_or t.g cell 0 ≡ i
  cell_holds i e = sym (get_or-take u.cells t.g cell 0 (cell_low i e)) ∙ (first_equal _ _ _ e).equal

  number_none : ((i : ℕ) → 0 < i → i ≤ u.k → first_cell u t i ≡ suc cell → ⊥) → NumberFound u t cell None
  number_none n = record { only = λ i p q e. absurd (n i p q e); some = λ i z. absurd (cc z) }

  pub number_out : u.cells ≤ cell → NumberFound u t cell None
  number_out l = number_none (λ i p q e. omega (arith, cell_low i e))

  module _ (i : ℕ) (h : i ≡ get_or t.g cell 0) where
    pub number_outside : outside 1 u.k i ≡ true → NumberFound u t cell None
    number_outside o = number_none (λ j p q e. let z : i ≡ j = h ∙ cell_holds j e in true≢false (sym o ∙ rw (z, le-ltb j 1 p, le-ltb u.k j q)))

    module _ (firsts : List ℕ) (f : FirstsAre u t firsts) (o : outside 1 u.k i ≡ false) where
      first_is : get_or firsts i 0 ≡ first_cell u t i
      first_is = let p = inside 1 u.k i o in f i p.0 p.1

      pub number_later : (get_or firsts i 0 ≡ cell + 1 → ⊥) → NumberFound u t cell None
      number_later n = number_none (λ j p q e. let z : i ≡ j = h ∙ cell_holds j e in n (first_is ∙ ap (first_cell u t) z ∙ e ∙ sym (add-one cell)))

      pub number_here : get_or firsts i 0 ≡ cell + 1 → NumberFound u t cell (Some i)
      number_here e =
          record {
            only = λ j p q r. ap Some (h ∙ cell_holds j r);
            some = λ j z.
                let s : i ≡ j = cc z in
                let p = inside 1 u.k i o in
                rw (← s) (p.0, p.1, sym first_is ∙ e ∙ add-one cell);
          }
