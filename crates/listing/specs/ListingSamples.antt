-- The list of the unit that is built for the list S, computed (SCOPE 15.3); and a unit whose G has lost an index.
use Rattle.std.specs.Prelude.{◌≡◌, refl, set}
use Rattle.record.specs.Tables.{Tables, lent}
use Rattle.build.specs.Build.{Outcome, build_chosen}
use Rattle.unit.specs.Samples.{S, nines}
use Rattle.print.specs.Ascii.{ascii}
use Rattle.listing.specs.Listing.{list_text}

abbrev built : Outcome
built = build_chosen 6 2 7 15 S (nines 5 8 9)

-- without index 6
abbrev damaged : Tables
damaged = let t = built.tables in lent t.h (set t.g 6 0) t.aux

pub record Table : Type 0 where
  pub whole : list_text built.built.unit built.tables ≡ ascii "6\n16\n18\n20\n28\n32\n55\n58\n"
  pub lost : list_text built.built.unit damaged ≡ ascii "refused 14 0\n"

pub samples : Table
unfolding list_text build_chosen
samples = record { whole = refl; lost = refl }
