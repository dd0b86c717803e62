use Prim.Native.Nat.{ℕ, ◌+◌, ◌-◌, ◌*◌, ◌<◌}
use native.Mathlib.Omega.{arith}
use mathlib.Core.Path.{◌≡◌, sym, ap, ap₂, ◌∙◌}
use mathlib.Core.List.{map}
use lib.ListN.{length, length-map}
use Rattle.std.specs.Int.{div_ceil}
use borrow.Rule.Slice.PartMut.{mid_of, put_mid}
use Rattle.block.specs.Block.{block_size}
use Rattle.block.specs.Look.{words_over}
use Rattle.file.specs.File.{blocks_for}
use Rattle.file.specs.Decode.{table_in}
use Rattle.file.proofs.Laying.Stacks.{mapped_part}
use Rattle.load.proofs.Filling.{ceil_is, words_left, words_done, mapped_put, filling_none, filling_more, filling_end, block_filled}
use Rattle.load.proofs.tables.fill_words.Goals as goal

pub loop-i-init : goal.loop-i-init
loop-i-init g c =
    let e : c.args.first + 0 ≡ c.args.first = omega arith in
    let z : g.W.Word.PER_BLOCK * 0 ≡ 0 = omega arith in
    rw (e, z) (filling_none _ _ _ _ _)

pub loop-i-preserved : goal.loop-i-preserved
loop-i-preserved g c =
    let w = g.W.Word in
    let held = g.met.W.Word.held in
    let a = c.args in
    let i = c.loop-i.i in
    let n = length a.words.now in
    let ws = map w.value c.loop-i.words in
    let new = map w.value c.words.new.words in
    let at = block_size * (a.first + i) in
    let long : length ws ≡ n = length-map c.loop-i.words w.value ∙ c.loop-i.auto.words in
    let more : i < blocks_for w.PER_BLOCK n = omega (arith, c.div_ceil-i-end.ensures ∙ ap (div_ceil n) c.PER_BLOCK.ensures ∙ ceil_is n w.PER_BLOCK held.some) in
    let below : w.PER_BLOCK * i < n = words_left w.PER_BLOCK n i held.some more in
    let e : new ≡ words_over w.SIZE w.PER_BLOCK (mid_of at (at + block_size - at) a.file.now) (mid_of (w.PER_BLOCK * i) (length ws - w.PER_BLOCK * i) ws) =
    c.words.ensures ∙ ap (words_over w.SIZE w.PER_BLOCK (mid_of at (at + block_size - at) a.file.now)) (mapped_part w.value c.loop-i.words (c.PER_BLOCK-in-loop-i.result * i) ∙ ap (λ (k : ℕ). mid_of (k * i) (length ws - k * i) ws) c.PER_BLOCK-in-loop-i.ensures) in
    let f = block_filled w.SIZE w.PER_BLOCK a.file.now ws new at (w.PER_BLOCK * i) held.fits (omega (arith, c.requires)) (omega arith) e in
    let put : map w.value (put_mid (c.PER_BLOCK-in-loop-i.result * i) (length c.loop-i.words - c.PER_BLOCK-in-loop-i.result * i) c.loop-i.words c.words.new.words) ≡ put_mid (w.PER_BLOCK * i) (length ws - w.PER_BLOCK * i) ws new =
    mapped_put w.value c.loop-i.words c.words.new.words (c.PER_BLOCK-in-loop-i.result * i) (length c.loop-i.words - c.PER_BLOCK-in-loop-i.result * i)
    ∙ ap₂ (λ (k n : ℕ). put_mid (k * i) (n - k * i) ws new) c.PER_BLOCK-in-loop-i.ensures (sym (length-map c.loop-i.words w.value)) in
    let next : a.first + (i + 1) ≡ a.first + i + 1 = omega arith in
    let per : w.PER_BLOCK * (i + 1) ≡ w.PER_BLOCK * i + w.PER_BLOCK = omega arith in
    rw (next, per) (filling_more w.SIZE w.PER_BLOCK a.first a.file.now (map w.value a.words.now) ws _ (a.first + i) (w.PER_BLOCK * i) held.some (omega (arith, length-map a.words.now w.value)) (put ∙ f) c.loop-i.invariant)

pub returns : goal.returns
returns g c =
    let w = g.W.Word in
    let n = length c.args.words.now in
    filling_end w.SIZE w.PER_BLOCK c.args.first c.args.file.now (map w.value c.args.words.now) _ _ _ g.met.W.Word.held.some (omega (arith, length-map c.args.words.now w.value, words_done w.PER_BLOCK n c.loop-i.i g.met.W.Word.held.some (omega (arith, c.div_ceil-i-end.ensures ∙ ap (div_ceil n) c.PER_BLOCK.ensures ∙ ceil_is n w.PER_BLOCK g.met.W.Word.held.some)))) c.loop-i.invariant
    ∙ ap (λ (k : ℕ). table_in w.SIZE w.PER_BLOCK c.args.first k c.args.file.now) (length-map c.args.words.now w.value)
