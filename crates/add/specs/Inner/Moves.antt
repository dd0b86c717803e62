-- The new vector placed, by its seat and the first cells.
use Rattle.std.specs.Prelude.{ℕ, suc, ◌+◌, ◌^◌, ◌≤◌, ◌<◌, Bool, true, false, ◌&&◌, List, ltb, length, set, take}
use Rattle.vectors.specs.Bounds.{max_vectors, max_variables, max_cells, max_rows}
use Rattle.rows.specs.Fit.{is_free, first_fit, put, At, None}
use Rattle.record.specs.declared.Record.{Record}
use Rattle.record.specs.Record.{excess_of}
use Rattle.record.specs.Tables.{Tables, over}
use Rattle.build.specs.Build.{Outcome, refused, accepted}
use Rattle.add.specs.declared.Seat.{Seat}
use Rattle.add.specs.Add.{amended}
use Rattle.add.specs.Inner.Mates.{Stands, Held, mates_from, group, cleared, bare}

-- AUX up to the word of the last number, and the cells
abbrev pub words_in : Record → Tables → List ℕ
words_in u t = take (u.k + 1) t.aux

abbrev pub cells_in : Record → Tables → List ℕ
cells_in u t = take u.cells t.g

-- what is known where a vector is placed
pub record Ready (u : Record) (t : Tables) (firsts : List ℕ) (s : Seat) : Type 0 where
  pub few : u.k < max_vectors
  pub variables : u.p ≤ max_variables
  pub words : suc u.k < length t.aux
  pub cells : u.cells ≤ length t.g
  pub cells_few : u.cells ≤ max_cells
  pub firsts_held : u.k < length firsts
  pub row : s.row < length t.h
  pub column : s.column < max_rows
  pub displacement : s.displacement < 2 ^ 16
  pub stands : Stands s (words_in u t) firsts (length (cells_in u t))
  pub holds : Held s (words_in u t) firsts (cells_in u t)

-- with H and G so, and the word of the new vector in AUX
abbrev pub accepted_by : Record → Tables → Seat → List ℕ → List ℕ → Outcome
accepted_by u t s h g = record { built = accepted (amended u); tables = record { h = h; g = g; aux = set t.aux (suc u.k) s.word } }

-- the row moved
unfoldable pub moved_by : Record → Tables → List ℕ → Seat → Outcome
unfolding mates_from cleared first_fit put excess_of
moved_by u t firsts s =
    elim (first_fit (bare s (words_in u t) firsts (cells_in u t)) (group s (words_in u t) firsts)) [
      | At d ↦ accepted_by u t s (set t.h s.row d) (over (put (bare s (words_in u t) firsts (cells_in u t)) d (group s (words_in u t) firsts)) t.g)
      | None tried needed ↦ refused (record { number = 13; place = s.row }) t
    ]

-- the cell is below L and free
abbrev pub free_in : List ℕ → ℕ → ℕ → Bool
free_in g cells cell = ltb cell cells && is_free g cell

-- the vector in its cell, if there is room; else its row moved
unfoldable pub placed_by : Record → Tables → List ℕ → Seat → Outcome
unfolding moved_by excess_of
placed_by u t firsts s =
    elim (free_in t.g u.cells (s.displacement + s.column)) [
      | true ↦ accepted_by u t s t.h (set t.g (s.displacement + s.column) (suc u.k))
      | false ↦ moved_by u t firsts s
    ]
