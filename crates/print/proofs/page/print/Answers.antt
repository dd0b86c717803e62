use Prim.Native.Nat.{ℕ, ◌*◌, ◌%◌, ◌^◌}
use Rattle.vectors.specs.Bounds.{max_inputs}
use native.Mathlib.Omega.{arith}
use mathlib.Core.Path.{◌≡◌, sym, ap, ◌∙◌}
use mathlib.Core.Bool.{true}
use mathlib.Core.List.{List}
use lib.ListN.{length, take}
use lib.Seq.{length-take-le}
use mir.Facts.{to_z-of_z}
use mir.Syntax.{w64}
use Rattle.record.specs.Tables.{Tables, lent}
use Rattle.vectors.specs.Masks.{masks_of}
use Rattle.vectors.proofs.Variables.Masking.{masks_all}
use Rattle.record.specs.Record.{kinds_in}
use Rattle.record.specs.Formed.{well_formed}
use Rattle.record.specs.Inner.Formed.{WellFormed}
use Rattle.record.proofs.Formed.{well_formed_facts, few_words}
use Rattle.print.specs.Print.{fitted}
use Rattle.print.proofs.Pages.Fitting.{print_unformed, print_formed}
use Rattle.print.proofs.Pages.Formed.{rows_are, text_is}
use Rattle.print.proofs.page.print.Goals as goal
use Rattle.print.proofs.page.print.Lts.View
use Rattle.print.proofs.page.print.Goals.{After-masks-1, After-masks-masks, Else-not-well_formed, Start}

abbrev tables : Start → Tables
tables s = lent s.args.h.now s.args.g.now s.args.aux.now

-- the start, from where the unit is well formed
abbrev at_formed : Else-not-well_formed → Start
at_formed c = c.before.before.before.before.before.before.before

formed : (c : Else-not-well_formed) → let s = at_formed c in well_formed s.args.unit (tables s) ≡ true
formed c = sym c.well_formed-2.ensures ∙ c.if-not-well_formed.false

facts : (c : Else-not-well_formed) → let s = at_formed c in WellFormed s.args.unit (tables s)
facts c = let s = at_formed c in well_formed_facts s.args.unit (tables s) (formed c)

-- the parts that are lent are as long as they should be
masks_are : (c : After-masks-masks) → let s = at_formed (View.up-Else-not-well_formed _ _ _ c.before.before.before) in take s.args.unit.p c.masks-masks.result ≡ masks_of (kinds_in s.args.unit)
masks_are c =
    let s = at_formed (View.up-Else-not-well_formed _ _ _ c.before.before.before) in
    let u = s.args.unit in
    ap (take u.p) c.masks-masks.ensures ∙ masks_all u.variables u.p (omega (arith, (facts (View.up-Else-not-well_formed _ _ _ c.before.before.before)).bounds.few))

masks_held : (c : After-masks-masks) → let s = at_formed (View.up-Else-not-well_formed _ _ _ c.before.before.before) in length (take s.args.unit.p c.masks-masks.result) ≡ s.args.unit.p
masks_held c =
    let s = at_formed (View.up-Else-not-well_formed _ _ _ c.before.before.before) in
    length-take-le s.args.unit.p c.masks-masks.result (omega (arith, (facts (View.up-Else-not-well_formed _ _ _ c.before.before.before)).bounds.few, c.masks-masks.type_inv))

rows_held : (c : Else-not-well_formed) → let s = at_formed c in length (take (1 * 2 ^ s.args.unit.n1 % 2 ^ max_inputs) s.args.h.now) ≡ 1 * 2 ^ s.args.unit.n1 % 2 ^ max_inputs
rows_held c =
    let s = at_formed c in
    length-take-le _ s.args.h.now (omega (arith, (rows_are s.args.unit.n1 (facts c).bounds.rows_few).0, (facts c).rows_held))

cells_held : (c : Else-not-well_formed) → let s = at_formed c in length (take s.args.unit.cells s.args.g.now) ≡ s.args.unit.cells
cells_held c =
    let s = at_formed c in
    length-take-le s.args.unit.cells s.args.g.now (facts c).cells_held

pub returns-then-not-well_formed : goal.returns-then-not-well_formed
returns-then-not-well_formed c =
    print_unformed c.args.unit (tables (goal.at.returns-then-not-well_formed c).Start) c.args.out.now (sym c.well_formed-2.ensures ∙ c.if-not-well_formed.true)

pub overflow_sub-numbers : goal.overflow_sub-numbers
overflow_sub-numbers c = (facts (goal.at.overflow_sub-numbers c).Else-not-well_formed).bounds.rows_in

pub overflow_shl-rows : goal.overflow_shl-rows
overflow_shl-rows c = omega (arith, (facts (goal.at.overflow_shl-rows c).Else-not-well_formed).bounds.rows_few)

pub overflow_add-last : goal.overflow_add-last
overflow_add-last c =
    let s = at_formed (goal.at.overflow_add-last c).Else-not-well_formed in
    omega (arith, (few_words s.args.unit (tables s) (formed (goal.at.overflow_add-last c).Else-not-well_formed)).0)

pub slice_bounds-masks-end : goal.slice_bounds-masks-end
slice_bounds-masks-end c = omega (arith, (facts (goal.at.slice_bounds-masks-end c).Else-not-well_formed).bounds.few, c.masks-masks.type_inv)

pub slice_bounds-fit_page-end-2 : goal.slice_bounds-fit_page-end-2
slice_bounds-fit_page-end-2 c = sym (masks_held (goal.at.slice_bounds-fit_page-end-2 c).After-masks-masks)

pub slice_bounds-fit_page-end-3 : goal.slice_bounds-fit_page-end-3
slice_bounds-fit_page-end-3 c = sym (rows_held (goal.at.slice_bounds-fit_page-end-3 c).Else-not-well_formed)

pub slice_bounds-fit_page-end-4 : goal.slice_bounds-fit_page-end-4
slice_bounds-fit_page-end-4 c = sym (cells_held (goal.at.slice_bounds-fit_page-end-4 c).Else-not-well_formed)

pub slice_bounds-fit_page-end-5 : goal.slice_bounds-fit_page-end-5
slice_bounds-fit_page-end-5 c = sym (length-take-le _ _ (omega (arith, (facts (goal.at.slice_bounds-fit_page-end-5 c).Else-not-well_formed).words_held)))

pub fit_page-requires : goal.fit_page-requires
fit_page-requires c =
    let s = at_formed (goal.at.fit_page-requires c).Else-not-well_formed in
    let r = rows_are s.args.unit.n1 (facts (goal.at.fit_page-requires c).Else-not-well_formed).bounds.rows_few in
    let w = few_words s.args.unit (tables s) (formed (goal.at.fit_page-requires c).Else-not-well_formed) in (
      omega arith,
      omega (arith, masks_held (goal.at.fit_page-requires c).After-masks-masks, (facts (goal.at.fit_page-requires c).Else-not-well_formed).bounds.few),
      omega (arith, rows_held (goal.at.fit_page-requires c).Else-not-well_formed, r.0, r.1),
      omega (arith, cells_held (goal.at.fit_page-requires c).Else-not-well_formed, w.1),
      omega (arith, sym (slice_bounds-fit_page-end-5 (goal.at.fit_page-requires c).After-masks-1), w.0),
    )

pub returns : goal.returns
returns c =
    let s = at_formed (goal.at.returns c).Else-not-well_formed in
    c.fit_page.ensures
    ∙ ap (λ (text : List ℕ). fitted text s.args.out.now) (text_is s.args.unit (tables s) (facts (goal.at.returns c).Else-not-well_formed) (to_z-of_z {w = w64} (record { sfits = c.struct_told-1.given.1.1.1.1.1.1.1.0.1 })) (masks_are (goal.at.returns c).After-masks-masks) (rows_are s.args.unit.n1 (facts (goal.at.returns c).Else-not-well_formed).bounds.rows_few).0)
    ∙ print_formed s.args.unit (tables s) s.args.out.now (formed (goal.at.returns c).Else-not-well_formed)
