-- The row of x in a listed unit: its vectors as the words of AUX and the first cells say them. Assumes nothing.
use Prim.Native.Nat.{ℕ, zero, suc, ◌+◌, ◌-◌, ◌%◌, ◌^◌, ◌<◌}
use native.Mathlib.Nat.{lt_of_lt_of_le}
use native.Mathlib.Numerals.{add-one}
use native.Mathlib.Omega.{arith}
use mathlib.Core.Path.{◌≡◌, refl, sym, ap, ap₂, ◌∙◌}
use mathlib.Core.Bool.{Bool, true, false}
use mathlib.Core.List.{List, [], ◌∷◌, ◌++◌}
use borrow.Author.Tests.{eqb-true}
use lib.Dec.{eqb}
use lib.ListN.{length, get_or, set, drop, drop_of_length-le}
use lib.Pow.{pow_mono}
use lib.Seq.{drop-cons, get_or-take, length-take-le}
use Rattle.lists.specs.Members.{All}
use Rattle.vectors.specs.Bounds.{max_rows, max_side}
use Rattle.vectors.specs.Variable.{row_of, column_of}
use Rattle.vectors.proofs.Variables.Numbers.{column_lt}
use Rattle.rows.specs.Care.{Care, cares_by, keep, in_row}
use Rattle.rows.specs.Fit.{cell_of}
use Rattle.record.specs.declared.Record.{Record}
use Rattle.record.specs.Record.{kinds_in}
use Rattle.record.specs.Tables.{Tables}
use Rattle.record.specs.Leads.{cell_in}
use Rattle.record.specs.Inner.Formed.{WellFormed}
use Rattle.record.proofs.Formed.{well_formed_facts}
use Rattle.record.proofs.Soundness.{Sound, sound_says}
use Rattle.recover.specs.Recover.{first_cell}
use Rattle.recover.specs.Every.{listed, list_in}
use Rattle.recover.proofs.Recovery.{OneVector}
use Rattle.recover.proofs.Every.{listed_length, listed_entry, listed_sound}
use Rattle.build.specs.Build.{cares_from}
use Rattle.add.specs.declared.Seat.{Seat}
use Rattle.add.specs.Add.{newcomer, row_mates, lifted}
use Rattle.add.specs.Inner.Seats.{seat_of, FirstsAre}
use Rattle.add.specs.Inner.Moves.{words_in, cells_in}
use Rattle.add.specs.Inner.Mates.{row_in, mate_at, mates_from, mates, group, Stand, Stands, Held, cleared}
use Rattle.add.proofs.Moving.Refitting.{mates_all}

-- the vectors lifted one after the other
lifted_is : (u : Record) (t : Tables) (d : ℕ) (cs : List Care) (g : List ℕ) → All (λ c. first_cell u t c.index - 1 ≡ cell_of c d) cs → lifted u t cs g ≡ cleared g d cs
unfolding lifted cleared
lifted_is u t d [] g a = refl
lifted_is u t d (c ∷ cs) g a =
    ap (λ (n : ℕ). lifted u t cs (set g n 0)) a.0 ∙ lifted_is u t d cs (set g (cell_of c d) 0) a.1

module _ (u : Record) (t : Tables) (x : ℕ) (L : listed u t ≡ true) (firsts : List ℕ) (F : FirstsAre u t firsts) where
  abbrev s : Seat
  s = seat_of u t.h x

  abbrev aux : List ℕ
  aux = words_in u t

  S : Sound u t
  S = sound_says u t (listed_sound u t L)

  W : WellFormed u t
  W = well_formed_facts u t S.well_formed_lem

  pub aux_length : length aux ≡ suc u.k
  aux_length = length-take-le (u.k + 1) t.aux (omega (arith, W.words_held)) ∙ add-one u.k

  pub cells_length : length (cells_in u t) ≡ u.cells
  cells_length = length-take-le u.cells t.g W.cells_held

  abbrev v : ℕ → ℕ
  v j = get_or (list_in u t) j 0

  -- ---- entry j, whose number is j + 1

  module _ (j : ℕ) (h : j < u.k) where
    entry : OneVector u t (suc j) (v j)
    entry = listed_entry u t L j h

    row_is : row_in s aux (suc j) ≡ row_of u.n1 (kinds_in u) (v j)
    row_is = ap (λ (w : ℕ). w % 2 ^ u.n1) (get_or-take (u.k + 1) t.aux (suc j) 0 (omega arith)) ∙ sym entry.row_is

    first_is : get_or firsts (suc j) 0 ≡ suc (cell_in u t (v j))
    first_is = F (suc j) (omega arith) (omega arith) ∙ entry.first

    column_low : column_of u.n1 (kinds_in u) (v j) < max_rows
    column_low =
        lt_of_lt_of_le (column_lt u.n1 (kinds_in u) (v j))
        (pow_mono {i = length (kinds_in u) - u.n1} {j = max_side} (omega (arith, S.variables, W.bounds.columns_few)))

    -- of the row of x
    module _ (r : row_of u.n1 (kinds_in u) (v j) ≡ s.row) where
      cell_is : cell_in u t (v j) ≡ s.displacement + column_of u.n1 (kinds_in u) (v j)
      cell_is = ap (λ (n : ℕ). get_or t.h n 0 + column_of u.n1 (kinds_in u) (v j)) r

      column_is : get_or firsts (suc j) 0 - 1 - s.displacement ≡ column_of u.n1 (kinds_in u) (v j)
      column_is = omega (arith, first_is, cell_is)

      stand : Stand s (length (cells_in u t)) (get_or firsts (suc j) 0)
      stand =
          record {
            above = omega (arith, first_is, cell_is);
            within = omega (arith, first_is, entry.cell_below, cells_length);
            narrow = omega (arith, column_is, column_low);
          }

      held : get_or (cells_in u t) (get_or firsts (suc j) 0 - 1) 0 ≡ suc j
      held =
          let e : get_or firsts (suc j) 0 - 1 ≡ cell_in u t (v j) = omega (arith, first_is) in
          rw e (get_or-take u.cells t.g (cell_in u t (v j)) 0 entry.cell_below ∙ entry.holds)

      lies : first_cell u t (suc j) - 1 ≡ cell_of (mate_at s firsts (suc j)) s.displacement
      lies = omega (arith, entry.first, cell_is, column_is)

  -- ---- by the number

  module _ (P : ℕ → Type 0) (at : (j : ℕ) → j < u.k → row_of u.n1 (kinds_in u) (v j) ≡ s.row → P (suc j)) where
    by_number : (i : ℕ) → 0 < i → i < length aux → row_in s aux i ≡ s.row → P i
    by_number zero p h r = absurd (omega arith)
    by_number (suc j) p h r = let l : j < u.k = omega (arith, aux_length) in at j l (sym (row_is j l) ∙ r)

  pub stands : Stands s aux firsts (length (cells_in u t))
  stands = by_number (λ i. Stand s (length (cells_in u t)) (get_or firsts i 0)) stand

  pub holds : Held s aux firsts (cells_in u t)
  holds = by_number (λ i. get_or (cells_in u t) (get_or firsts i 0 - 1) 0 ≡ i) held

  -- ---- the row

  -- a number is in the row by its word as it is by its vector
  step : (j : ℕ) → j < u.k → (cs ds : List Care) → cs ≡ ds
      → keep (eqb (row_in s aux (suc j)) s.row) (mate_at s firsts (suc j)) cs
      ≡ keep (eqb (row_of u.n1 (kinds_in u) (v j)) s.row) (record { index = suc j; row = row_of u.n1 (kinds_in u) (v j); column = column_of u.n1 (kinds_in u) (v j) }) ds
  step j h cs ds e =
      ap (λ (n : ℕ). keep (eqb n s.row) (mate_at s firsts (suc j)) cs) (row_is j h) ∙ go (eqb (row_of u.n1 (kinds_in u) (v j)) s.row) refl
    where
      go : (b : Bool) → eqb (row_of u.n1 (kinds_in u) (v j)) s.row ≡ b
          → keep b (mate_at s firsts (suc j)) cs ≡ keep b (record { index = suc j; row = row_of u.n1 (kinds_in u) (v j); column = column_of u.n1 (kinds_in u) (v j) }) ds
      go true q =
          let r = eqb-true _ _ q in
          rw (r, column_is j h r, e)
      go false q = e

  from_is : (m j : ℕ) → m + j ≡ u.k → mates_from s aux firsts (suc j) m ≡ in_row s.row (cares_from (suc j) u.n1 (kinds_in u) (drop j (list_in u t)))
  unfolding mates_from in_row cares_from cares_by
  from_is zero j e = rw (drop_of_length-le (list_in u t) {i = j} (omega (arith, listed_length u t L)))
  from_is (suc m) j e =
      rw (drop-cons (list_in u t) j 0 (omega (arith, listed_length u t L))) (step j (omega arith) _ _ (from_is m (suc j) (omega arith)))

  pub mates_are : mates s aux firsts ≡ row_mates u t x
  unfolding row_mates
  mates_are =
      let e : length aux - 1 ≡ u.k = omega (arith, aux_length) in
      ap (mates_from s aux firsts 1) e ∙ from_is u.k 0 (omega arith)

  pub group_is : group s aux firsts ≡ row_mates u t x ++ (newcomer u x ∷ [])
  group_is = ap₂ (λ (cs : List Care) (n : ℕ). cs ++ (record { index = n; row = s.row; column = s.column } ∷ [])) mates_are aux_length

  -- lifted as the first cells say
  pub lifted_cells : (g : List ℕ) → lifted u t (row_mates u t x) g ≡ cleared g s.displacement (mates s aux firsts)
  lifted_cells g =
      ap (λ (cs : List Care). lifted u t cs g) (sym mates_are)
      ∙ lifted_is u t s.displacement (mates s aux firsts) g
      (mates_all s aux firsts (λ c. first_cell u t c.index - 1 ≡ cell_of c s.displacement)
      (by_number (λ i. first_cell u t i - 1 ≡ cell_of (mate_at s firsts i) s.displacement) lies) (omega (arith, aux_length)))
