use native.Mathlib.Omega.{arith}
use mathlib.Core.Path.{◌≡◌, sym, ap, ◌∙◌}
use lib.ListN.{length, take}
use Rattle.lists.proofs.Entries.Members.{all_map}
use Rattle.vectors.specs.Masks.{masks_of}
use Rattle.vectors.proofs.Variables.Numbers.{kinds_length}
use Rattle.vectors.proofs.Variables.Masking.{masks_length, masks_all}
use Rattle.build.specs.Inner.Charts.{kinds_by}
use Rattle.build.proofs.Writing.Written.{wide, places_placed}
use Rattle.build.proofs.finish.place_all.Goals as goal
use Rattle.build.proofs.finish.place_all.Goals.{After-masks-masks}

size : (c : After-masks-masks) → length (kinds_by c.args.chart) ≡ c.args.chart.p
size c = kinds_length c.args.chart.variables c.args.chart.p (omega (arith, c.args.chart.few, c.well_formed))

-- the masks of all p variables
masks_are : (c : After-masks-masks) → take c.args.chart.p c.masks-masks.result ≡ masks_of (kinds_by c.args.chart)
masks_are c = ap (take c.args.chart.p) c.masks-masks.ensures ∙ masks_all c.args.chart.variables c.args.chart.p (omega (arith, c.args.chart.few, c.well_formed))

masks_size : (c : After-masks-masks) → length (take c.args.chart.p c.masks-masks.result) ≡ c.args.chart.p
masks_size c = ap length (masks_are c) ∙ masks_length (kinds_by c.args.chart) ∙ size c

pub slice_bounds-write_places-end : goal.slice_bounds-write_places-end
slice_bounds-write_places-end c = sym (masks_size (goal.at.slice_bounds-write_places-end c).After-masks-masks)

pub write_places-requires : goal.write_places-requires
write_places-requires c =
    let q = (goal.at.write_places-requires c).After-masks-masks in
    let s = c.args.chart.split in
    (c.requires.0, omega (arith, masks_size q, size q, s.rows_in), s.rows_few, omega (arith, masks_size q, size q, s.columns_few))

pub returns : goal.returns
returns c =
    let q = (goal.at.returns c).After-masks-masks in
    let s = c.args.chart.split in
    c.place.ensures.g_after
    ∙ places_placed c.args.chart.n1 (kinds_by c.args.chart) (length c.args.g.now) c.args.allowance c.args.chart.vectors.now _ _ _ _
    s.rows_in s.rows_few s.columns_few (all_map _ _ (wide c.args.chart.listed) c.args.chart.vectors.now c.args.chart.listed.within) c.args.chart.listed.few c.requires.2 (masks_are q) c.write_places.ensures
    c.requires.1 (c.fill.ensures.after (λ y e. e))
