use native.Mathlib.Omega.{arith}
use mathlib.Core.Path.{◌≡◌, sym}
use lib.ListN.{length}
use Rattle.vectors.specs.Bounds.{max_variables}
use Rattle.vectors.specs.Variable.{number_of}
use Rattle.record.specs.Record.{kinds_in}
use Rattle.add.proofs.Seating.{masks_many, values_are, row_low, word_fits, seat_is}
use Rattle.add.proofs.find_seat.Goals as goal
use Rattle.add.proofs.find_seat.Goals.{After-number-values}

size : (c : After-number-values) → length c.args.unit.variables ≡ max_variables
size c = omega (arith, c.well_formed)

values : (c : After-number-values) → c.number-values.result ≡ number_of (kinds_in c.args.unit) c.args.x
values c = values_are c.args.unit c.args.x c.requires.formed.0 (size c) _ _ c.ranges.x.fits c.masks-masks.ensures c.number-values.ensures

pub slice_bounds-number-end : goal.slice_bounds-number-end
slice_bounds-number-end c = sym (masks_many c.args.unit c.args.x c.requires.formed.0 (omega (arith, c.well_formed)) _ c.masks-masks.ensures)

pub bounds-h-row : goal.bounds-h-row
bounds-h-row c =
    let q = (goal.at.bounds-h-row c).After-number-values in
    omega (arith, c.low-row.ensures, row_low c.args.unit c.args.x c.requires.formed.0 (size q) _ (values q), c.requires.formed.2)

pub overflow_add-word : goal.overflow_add-word
overflow_add-word c =
    let q = (goal.at.overflow_add-word c).After-number-values in
    omega (arith, word_fits c.args.unit c.args.x c.requires.formed.0 (size q) _ (values q) c.requires.formed.1 _ c.pack.ensures, c.low-row.ensures)

pub returns : goal.returns
returns c =
    let q = (goal.at.returns c).After-number-values in
    record {
      seat = seat_is c.args.unit c.args.x c.requires.formed.0 (size q) _ (values q) c.requires.formed.1 _ c.pack.ensures c.args.h.now _ c.low-row.ensures;
      low = (c.type_inv.h c.low-row.result).fits;
    }
