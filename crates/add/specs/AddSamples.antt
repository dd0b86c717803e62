-- Vectors added to sample units, computed (SCOPE 22.8).
use Rattle.std.specs.Prelude.{ℕ, ◌≡◌, refl, [], ◌∷◌, pos}
use Rattle.vectors.specs.declared.Kind.TheVariants.{One}
use Rattle.record.specs.Record.{mark_amended}
use Rattle.record.specs.Tables.{lent}
use Rattle.build.specs.Build.{Outcome, build_chosen, build_given, refused}
use Rattle.unit.specs.Samples.{S, nines, given}
use Rattle.lookup.specs.Lookup.{found, lookup_of}
use Rattle.add.specs.Add.{add_of}

-- the unit of 15.3 with a cell and a word of AUX more, and that of 15.8
abbrev unit_s : ℕ → Outcome
unit_s cells = build_chosen 6 2 cells 15 S (nines 4 8 9)

abbrev unit8 : Outcome
unit8 = build_given 3 (given (One 1 ∷ One 2 ∷ One 3 ∷ [])) 3 2 6 10 (0 ∷ 1 ∷ 2 ∷ 3 ∷ []) (nines 4 6 6)

abbrev added : Outcome → ℕ → Outcome
added o x = add_of o.built.unit o.tables x

pub record Table : Type 0 where
  -- the cell is free: one cell and one word
  pub free_cell : (added unit8 7).tables ≡ lent (0 ∷ 1 ∷ 2 ∷ 3 ∷ []) (1 ∷ 2 ∷ 3 ∷ 4 ∷ 5 ∷ 0 ∷ []) (0 ∷ 0 ∷ 1 ∷ 2 ∷ 3 ∷ 3 ∷ [])
  pub free_record : ((added unit8 7).built.unit.k ≡ 5) × ((added unit8 7).built.unit.tries ≡ 10) × ((added unit8 7).built.unit.excess ≡ pos 0) × ((added unit8 7).built.unit.mark ≡ mark_amended)
  -- the cell is taken: row 0 is lifted and moves
  pub moved_row : (added unit8 4).tables ≡ lent (4 ∷ 1 ∷ 2 ∷ 3 ∷ []) (0 ∷ 2 ∷ 3 ∷ 4 ∷ 1 ∷ 5 ∷ []) (0 ∷ 0 ∷ 1 ∷ 2 ∷ 3 ∷ 0 ∷ [])
  pub moved_found : lookup_of (added unit8 4).built.unit (added unit8 4).tables 4 ≡ found 5
  -- with one cell more 6 has room in the unit of 15.3, after row 3 has moved; without it there is none
  pub fits : (added (unit_s 8) 6).tables ≡ lent (0 ∷ 2 ∷ 4 ∷ 6 ∷ []) (5 ∷ 1 ∷ 7 ∷ 2 ∷ 4 ∷ 3 ∷ 8 ∷ 6 ∷ []) (0 ∷ 0 ∷ 1 ∷ 2 ∷ 10 ∷ 16 ∷ 23 ∷ 25 ∷ 3 ∷ [])
  pub full : added (unit_s 7) 6 ≡ refused (record { number = 13; place = 3 }) (unit_s 7).tables
  -- registered already; a bit beyond n; alike on every variable
  pub known : added (unit_s 7) 20 ≡ refused (record { number = 40; place = 3 }) (unit_s 7).tables
  pub beyond : added (unit_s 7) 64 ≡ refused (record { number = 6; place = 8 }) (unit_s 7).tables
  pub alike : added (unit_s 7) 21 ≡ refused (record { number = 10; place = 8 }) (unit_s 7).tables

pub samples : Table
unfolding build_chosen build_given add_of lookup_of
samples = record {
  free_cell = refl;
  free_record = (refl, refl, refl, refl);
  moved_row = refl;
  moved_found = refl;
  fits = refl;
  full = refl;
  known = refl;
  beyond = refl;
  alike = refl;
}
