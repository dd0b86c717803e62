use Prim.Native.Nat.{ℕ, ◌≤◌}
use native.Mathlib.Omega.{arith}
use mathlib.Core.Path.{◌≡◌, sym, ap, ap₂, ◌∙◌}
use mathlib.Core.List.{List, ◌∷◌, map}
use lib.Count.{ones}
use lib.ListN.{length, take}
use lib.Seq.{length-take-le}
use mir.Facts.{to_z-of_z}
use mir.Syntax.{w64}
use Rattle.vectors.specs.Masks.{masks_of, word_by}
use Rattle.vectors.proofs.Variables.Numbers.{kinds_length}
use Rattle.vectors.proofs.Variables.Masking.{masks_length, masks_first}
use Rattle.span.specs.Span.{kept}
use Rattle.span.proofs.Labels.Edges.{inputs_same, kinds_same}
use Rattle.build.specs.Inner.Charts.{kinds_by}
use Rattle.build.proofs.Writing.Written.{kept_room, words_are, unit_is}
use Rattle.build.proofs.finish.accept.Goals as goal
use Rattle.build.proofs.finish.accept.Goals.{After-kept_inputs-kept, After-masks-masks}

size : (c : After-masks-masks) → length (kinds_by c.args.chart) ≡ c.args.chart.p
size c = kinds_length c.args.chart.variables c.args.chart.p (omega (arith, c.args.chart.few, c.well_formed))

few : (c : After-masks-masks) → c.args.chart.n1 ≤ c.args.chart.p
few c = omega (arith, size c, c.args.chart.split.rows_in)

-- the masks of the row variables
row_part : (c : After-masks-masks) → let t = c.args.chart in take t.n1 c.masks-masks.result ≡ masks_of (take t.n1 (kinds_by t))
row_part c =
    let t = c.args.chart in
    ap (take t.n1) c.masks-masks.ensures ∙ masks_first t.variables t.p t.n1 (omega (arith, c.args.chart.few, c.well_formed)) (few c)

row_size : (c : After-masks-masks) → length (take c.args.chart.n1 c.masks-masks.result) ≡ c.args.chart.n1
row_size c =
    let t = c.args.chart in
    ap length (row_part c) ∙ masks_length (take t.n1 (kinds_by t)) ∙ length-take-le t.n1 (kinds_by t) t.split.rows_in

-- the variables are not faulty, so they count as they are
kept_is : (c : After-kept_inputs-kept) → let t = c.args.chart in c.kept_inputs-kept.result ≡ kept t.n (kinds_by t)
kept_is c =
    let t = c.args.chart in
    c.kept_inputs-kept.ensures
    ∙ ap₂ kept (inputs_same t.n t.listed.inputs) (kinds_same t.n t.p t.variables t.listed.inputs t.split.right)

pub slice_bounds-masks-end : goal.slice_bounds-masks-end
slice_bounds-masks-end c = omega (arith, few (goal.at.slice_bounds-masks-end c).After-masks-masks, c.args.chart.few)

pub slice_bounds-write_words-end : goal.slice_bounds-write_words-end
slice_bounds-write_words-end c = sym (row_size (goal.at.slice_bounds-write_words-end c).After-masks-masks)

pub write_words-requires : goal.write_words-requires
write_words-requires c =
    let n = row_size (goal.at.write_words-requires c).After-masks-masks in
    let k = ap ones (kept_is (goal.at.write_words-requires c).After-kept_inputs-kept) in
    (c.requires, omega (arith, n, k, kept_room c.args.chart.listed c.args.chart.split))

pub overflow_cast-chart : goal.overflow_cast-chart
overflow_cast-chart c = omega (arith, c.args.chart.few)

pub overflow_cast-k : goal.overflow_cast-k
overflow_cast-k c = omega (arith, c.args.chart.listed.few)

pub returns : goal.returns
returns c =
    let m = (goal.at.returns c).After-masks-masks in
    let k = kept_is (goal.at.returns c).After-kept_inputs-kept in
    record {
      value = unit_is _ _ _ _ _ _ _ _ _ _ (sym (size m)) k (to_z-of_z {w = w64} (record { sfits = c.excess-excess.type_inv }) ∙ c.excess-excess.ensures) c.marked-marks.ensures;
      aux_after = c.write_words.ensures
          ∙ ap₂ (λ (m : List ℕ) (q : ℕ). 0 ∷ map (word_by m q) c.args.chart.vectors.now) (row_part m) k
          ∙ ap (λ (l : List ℕ). 0 ∷ l) (words_are c.args.chart.listed c.args.chart.split);
    }
