-- The least L of the list S, from the bytes read to the bytes written, computed (SCOPE 15.3, 15.4); a text that is no list, and a refusal.
use Rattle.std.specs.Prelude.{◌≡◌, refl}
use Rattle.print.specs.Ascii.{ascii}
use Rattle.cells.specs.Cells.{cells_of}

pub record Table : Type 0 where
  -- L is not read
  pub least : cells_of (ascii "6 2 0 16 18 20 28 32 55 58") ≡ ascii "cells 7\n"
  -- SCOPE 15.10
  pub equal : cells_of (ascii "6 1 1 5 5\n") ≡ ascii "refused 7 2\n"
  -- SCOPE 14.3 c: two separators together
  pub no_list : cells_of (ascii "6 2  7 16") ≡ ascii "input\n"

pub samples : Table
unfolding cells_of
samples = record { least = refl; equal = refl; no_list = refl }
