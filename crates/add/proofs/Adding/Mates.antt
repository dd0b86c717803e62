-- The registered vectors of a row, in a unit that is listed: each lies in the first cell that holds its number. Assumes nothing.
use Prim.Native.Nat.{ℕ, suc, ◌+◌, ◌<◌}
use native.Mathlib.Omega.{arith}
use mathlib.Core.Path.{◌≡◌, sym, ap, ◌∙◌}
use mathlib.Core.Bool.{true}
use mathlib.Core.List.{List}
use lib.ListN.{get_or}
use Rattle.lists.specs.Members.{In}
use Rattle.vectors.specs.Variable.{row_of}
use Rattle.rows.specs.Care.{Care}
use Rattle.rows.proofs.Fits.Cells.{in_row_lem, row_in}
use Rattle.record.specs.declared.Record.{Record}
use Rattle.record.specs.Record.{kinds_in}
use Rattle.record.specs.Tables.{Tables}
use Rattle.record.specs.Leads.{cell_in}
use Rattle.recover.specs.Recover.{first_cell}
use Rattle.recover.specs.Every.{listed, list_in}
use Rattle.recover.proofs.Every.{listed_length, listed_entry}
use Rattle.build.specs.Build.{cares_from}
use Rattle.build.proofs.Holding.Cares.{care_of, cares_in, cares_entry}
use Rattle.add.specs.Add.{row_mates}

module _ (u : Record) (t : Tables) (x : ℕ) (L : listed u t ≡ true) where
  -- vector i + 1 of the list, and its row
  abbrev entry : ℕ → ℕ
  entry i = get_or (list_in u t) i 0

  abbrev row : ℕ → ℕ
  row v = row_of u.n1 (kinds_in u) v

  abbrev cares : List Care
  cares = cares_from 1 u.n1 (kinds_in u) (list_in u t)

  abbrev pub care_at : ℕ → Care
  care_at i = care_of u.n1 (kinds_in u) (1 + i) (entry i)

  -- the first cell that holds its number is its own
  pub first_own : (i : ℕ) → i < u.k → first_cell u t (1 + i) ≡ suc (cell_in u t (entry i))
  first_own i h = let e : 1 + i ≡ suc i = omega arith in rw e (listed_entry u t L i h).first

  pub mate_in : (i : ℕ) → i < u.k → row (entry i) ≡ row x → In (care_at i) (row_mates u t x)
  unfolding row_mates
  mate_in i h e = row_in (row x) (care_at i) cares (cares_in u.n1 (kinds_in u) 1 (list_in u t) i (omega (arith, listed_length u t L))) e

  pub record Mate (c : Care) : Type 0 where
    pub at : ℕ
    pub below : at < u.k
    pub is : c ≡ care_at at
    pub in_row_lem : row (entry at) ≡ row x

  pub mate_is : (c : Care) → In c (row_mates u t x) → Mate c
  unfolding row_mates
  mate_is c i =
      let q = in_row_lem (row x) c cares i in
      let e = cares_entry u.n1 (kinds_in u) 1 (list_in u t) c q.0 in
      record { at = e.at; below = omega (arith, e.below, listed_length u t L); is = e.is; in_row_lem = sym (ap (λ (a : Care). a.row) e.is) ∙ q.1 }

  -- its own cell
  pub mate_cell : (c : Care) → (m : Mate c) → first_cell u t c.index ≡ suc (cell_in u t (entry m.at))
  mate_cell c m = ap (λ (a : Care). first_cell u t a.index) m.is ∙ first_own m.at m.below
