use Prim.Native.Nat.{ℕ, ◌+◌, ◌*◌, ◌%◌, ◌^◌, ◌≤◌, ◌<◌}
use native.Mathlib.Nat.{one-mul}
use native.Mathlib.Numerals.{add-one}
use native.Mathlib.Omega.{arith}
use mathlib.Core.Path.{◌≡◌, refl, sym, ap, ◌∙◌}
use mathlib.Core.Bool.{◌&&◌}
use mathlib.Core.List.{List}
use lib.Dec.{leb, ltb}
use lib.ListN.{length, take}
use Rattle.std.proofs.lemmas.List.{map-id}
use lib.Pow.{shl_exact}
use lib.Seq.{length-take-le}
use borrow.Author.Tests.{leb-true, ltb-true}
use Rattle.lists.proofs.Tests.{and_true}
use Rattle.vectors.specs.Bounds.{max_inputs}
use Rattle.record.specs.Tables.{lent}
use Rattle.record.specs.Inner.Formed.{InBounds}
use Rattle.record.proofs.Formed.{in_bounds}
use Rattle.block.specs.Block.{short_word, long_word, short_words, long_words}
use Rattle.file.specs.declared.layout.Starts.{Starts}
use Rattle.file.specs.File.{rows_in, words_in, h_first, g_first, aux_first}
use Rattle.file.specs.Decode.{table_in, tables_in}
use Rattle.load.proofs.Filling.{table_over}
use Rattle.load.proofs.tables.fill.Goals as goal
use Rattle.load.proofs.tables.fill.Goals.{Start}

bounds : (s : Start) → InBounds s.args.unit
bounds s = in_bounds s.args.unit s.requires.unit_value.0

-- the tables are long enough
held : (s : Start) → let u = s.args.unit in (rows_in u ≤ length s.args.h.now) × (u.cells ≤ length s.args.g.now) × (u.k < length s.args.aux.now)
held s =
    let u = s.args.unit in
    let p = and_true (leb (rows_in u) (length s.args.h.now) && leb u.cells (length s.args.g.now)) (ltb u.k (length s.args.aux.now)) s.requires.aux_value in
    let q = and_true (leb (rows_in u) (length s.args.h.now)) (leb u.cells (length s.args.g.now)) p.0 in
    (leb-true _ _ q.0, leb-true _ _ q.1, ltb-true _ _ p.1)

-- the code's number of rows
power : (s : Start) → 1 * 2 ^ s.args.unit.n1 % 2 ^ max_inputs ≡ 2 ^ s.args.unit.n1
power s = shl_exact {a = 1} 1 s.args.unit.n1 max_inputs (omega arith) (omega (arith, (bounds s).rows_few)) ∙ one-mul (2 ^ s.args.unit.n1)

rows_fit : (s : Start) → 1 * 2 ^ s.args.unit.n1 % 2 ^ max_inputs ≤ length s.args.h.now
rows_fit s = omega (arith, power s, (held s).0)

three : {a a' b b' d d' : List ℕ} → a ≡ a' → b ≡ b' → d ≡ d' → lent a b d ≡ lent a' b' d'
three p q r = cc

pub overflow_shl-rows : goal.overflow_shl-rows
overflow_shl-rows c = omega (arith, (bounds (goal.at.overflow_shl-rows c).Start).rows_few)

pub slice_bounds-fill_words-end : goal.slice_bounds-fill_words-end
slice_bounds-fill_words-end c = omega (arith, power (goal.at.slice_bounds-fill_words-end c).Start, (held (goal.at.slice_bounds-fill_words-end c).Start).0)

pub slice_bounds-fill_words-end-2 : goal.slice_bounds-fill_words-end-2
slice_bounds-fill_words-end-2 c = sym (length-take-le _ _ (omega (arith, power (goal.at.slice_bounds-fill_words-end-2 c).Start, (held (goal.at.slice_bounds-fill_words-end-2 c).Start).0)))

pub fill_words-requires : goal.fill_words-requires
fill_words-requires c = let n = length-take-le _ c.args.h.now (rows_fit (goal.at.fill_words-requires c).Start) in omega (arith, power (goal.at.fill_words-requires c).Start, n, c.requires.unit_value.1)

pub slice_bounds-fill_words-end-3 : goal.slice_bounds-fill_words-end-3
slice_bounds-fill_words-end-3 c = (held (goal.at.slice_bounds-fill_words-end-3 c).Start).1

pub slice_bounds-fill_words-end-4 : goal.slice_bounds-fill_words-end-4
slice_bounds-fill_words-end-4 c = sym (length-take-le _ _ (held (goal.at.slice_bounds-fill_words-end-4 c).Start).1)

pub fill_words-requires-2 : goal.fill_words-requires-2
fill_words-requires-2 c = let n = length-take-le _ c.args.g.now (held (goal.at.fill_words-requires-2 c).Start).1 in omega (arith, ap (λ (x : Starts). x.g) c.plan-starts.ensures, n, c.requires.unit_value.1)

pub slice_bounds-fill_words-end-5 : goal.slice_bounds-fill_words-end-5
slice_bounds-fill_words-end-5 c = omega (arith, (held (goal.at.slice_bounds-fill_words-end-5 c).Start).2)

pub slice_bounds-fill_words-end-6 : goal.slice_bounds-fill_words-end-6
slice_bounds-fill_words-end-6 c = sym (length-take-le _ _ (omega (arith, (held (goal.at.slice_bounds-fill_words-end-6 c).Start).2)))

pub fill_words-requires-3 : goal.fill_words-requires-3
fill_words-requires-3 c = let n = length-take-le (c.args.unit.k + 1) c.args.aux.now (omega (arith, (held (goal.at.fill_words-requires-3 c).Start).2)) in omega (arith, ap (λ (x : Starts). x.aux) c.plan-starts.ensures, n, c.requires.unit_value.1)

pub returns : goal.returns
unfolding tables_in
returns c =
    let u = c.args.unit in
    let f = c.args.file.now in
    let p = c.plan-starts.ensures in
    let a = table_over short_word short_words h_first (rows_in u) f c.args.h.now _ _ (omega arith) (power (goal.at.returns c).Start) (held (goal.at.returns c).Start).0 (sym (map-id _) ∙ c.fill_words.ensures) in
    let b = table_over short_word short_words (g_first u) u.cells f c.args.g.now _ _ (omega arith) refl (held (goal.at.returns c).Start).1 (sym (map-id _) ∙ c.fill_words-2.ensures ∙ ap (λ (x : Starts). table_in short_word short_words x.g (length (take u.cells c.args.g.now)) f) p) in
    let d = table_over long_word long_words (aux_first u) (words_in u) f c.args.aux.now _ _ (omega arith) (add-one u.k) (omega (arith, (held (goal.at.returns c).Start).2)) (sym (map-id _) ∙ c.fill_words-3.ensures ∙ ap (λ (x : Starts). table_in long_word long_words x.aux (length (take (u.k + 1) c.args.aux.now)) f) p) in
    three a b d
