use Prim.Native.Nat.{ℕ, ◌+◌, ◌-◌, ◌*◌}
use native.Mathlib.Omega.{arith}
use mathlib.Core.Path.{◌≡◌, refl, sym, ap, ap₂, ◌∙◌}
use mathlib.Core.List.{List, map}
use lib.ListN.{length, take, length-map}
use borrow.Rule.Slice.PartMut.{mid_of}
use Rattle.block.specs.declared.Opening.{Opening}
use Rattle.block.specs.Bytes.{words_of}
use Rattle.block.specs.Block.{block_size, block_of, in_block}
use Rattle.file.specs.Kinds.{byte_of}
use Rattle.file.specs.File.{blocks_for}
use Rattle.file.proofs.Laying.Stacks.{stacked_none, stacked_more, stacked_table, length_table_block, table_block_is, mapped_part}
use Rattle.file.proofs.writing.put.Goals as goal

pub loop-i-init : goal.loop-i-init
loop-i-init g c = stacked_none _ _ _

pub loop-i-preserved : goal.loop-i-preserved
loop-i-preserved g c =
    let w = g.W.Word in
    let a = c.args in
    let i = c.loop-i.i in
    let ws = map w.value a.words.now in
    let at = block_size * (a.first + i) in
    let part : map w.value (mid_of (c.PER_BLOCK-in-loop-i.result * i) (length a.words.now - c.PER_BLOCK-in-loop-i.result * i) a.words.now) ≡ mid_of (w.PER_BLOCK * i) (length ws - w.PER_BLOCK * i) ws =
    mapped_part w.value a.words.now (c.PER_BLOCK-in-loop-i.result * i) ∙ ap (λ (n : ℕ). mid_of (n * i) (length ws - n * i) ws) c.PER_BLOCK-in-loop-i.ensures in
    stacked_more _ a.first a.target.now c.loop-i.target _ c.fill.new.block i (length_table_block _ w.SIZE w.PER_BLOCK _ _ g.met.W.Word.held.fits) (omega (arith, c.requires.1, c.blocks_for-i-end.ensures.value ∙ ap (λ (n : ℕ). blocks_for n (length a.words.now)) c.PER_BLOCK.ensures))
    (table_block_is (byte_of a.kind) w.SIZE w.PER_BLOCK a.first ws _ i refl)
    (c.fill.ensures ∙ ap₂ (λ (o : Opening) (l : List ℕ). in_block (block_of o (words_of w.SIZE (take w.PER_BLOCK l))) (mid_of at (at + block_size - at) c.loop-i.target)) c.opening.ensures part) c.loop-i.invariant

pub returns : goal.returns
returns g c =
    let w = g.W.Word in
    stacked_table _ w.SIZE w.PER_BLOCK _ (map w.value c.args.words.now) _ _ c.loop-i.i {count = c.blocks_for-i-end.result} (omega arith)
    (c.blocks_for-i-end.ensures.value ∙ ap₂ blocks_for c.PER_BLOCK.ensures (sym (length-map c.args.words.now w.value))) c.loop-i.invariant
