use native.Mathlib.Nat.{mod-eq_of_lt}
use native.Mathlib.Omega.{arith}
use mathlib.Core.Path.{◌≡◌, sym, ap, ap₂, ◌∙◌}
use mathlib.Core.List.{List, map}
use Prim.Native.Nat.{ℕ, ◌+◌, ◌*◌, ◌^◌, ◌≤◌, ◌<◌, min}
use lib.ListN.{length, length-map}
use Rattle.std.proofs.lemmas.List.{map-set}
use Rattle.lists.proofs.Entries.Alls.{at_all}
use Rattle.lists.proofs.Writing.Storing.{storing_none}
use Rattle.block.specs.Bytes.{number_at}
use Rattle.block.specs.Block.{payload_at, check_at, block_size}
use Rattle.block.specs.Look.{words_over}
use Rattle.block.proofs.Laying.Held.{held_word}
use Rattle.block.proofs.Reading.Numbers.{Bytes}
use Rattle.block.proofs.Reading.Places.{number_low}
use Rattle.block.proofs.Reading.Looks.{words_more, words_end}
use Rattle.block.proofs.read.words.Goals as goal

pub loop-i-init : goal.loop-i-init
loop-i-init g c = storing_none _ _ _

pub word-requires : goal.word-requires
word-requires g c =
    let w = g.W.Word in
    let h : payload_at + w.SIZE * c.loop-i.i + w.SIZE ≤ check_at = held_word w.SIZE w.PER_BLOCK c.loop-i.i g.met.W.Word.held (omega arith) in
    let k = c.in-Some.ensures.cases in
    let n : length c.in-Some.block.now ≡ block_size = ap length k.same ∙ k.long in
    rw (n, c.SIZE-in-loop-i.ensures, c.SIZE.ensures) (omega arith, g.met.W.Word.held.size_few)

pub offset_bounds-words-i : goal.offset_bounds-words-i
offset_bounds-words-i g c = grind arith

pub loop-i-preserved : goal.loop-i-preserved
loop-i-preserved g c =
    let w = g.W.Word in
    let b = c.in-Some.block.now in
    let bytes : Bytes c.args.block.now = at_all (λ (x : ℕ). x < 256) c.args.block.now 0 (λ i h. omega (arith, c.type_inv.block i)) in
    let e : c.word.result ≡ number_at w.SIZE (payload_at + w.SIZE * c.loop-i.i) b = rw (c.SIZE-in-loop-i.ensures, c.SIZE.ensures) at c.word.ensures in
    let low : number_at w.SIZE (payload_at + w.SIZE * c.loop-i.i) b < 256 ^ w.SIZE = number_low w.SIZE _ b (rw (sym c.in-Some.ensures.cases.same) at bytes) in
    let v : w.value c.of_number.result ≡ number_at w.SIZE (payload_at + w.SIZE * c.loop-i.i) b = c.of_number.ensures ∙ rw e (mod-eq_of_lt low) in
    rw (map-set w.value c.loop-i.words c.loop-i.i c.of_number.result)
    (words_more w.SIZE w.PER_BLOCK b (map w.value c.args.words.now) c.min-used.result c.loop-i.i (w.value c.of_number.result) (map w.value c.loop-i.words) c.loop-i-test.true v c.loop-i.invariant)

pub returns : goal.returns
returns g c =
    let w = g.W.Word in
    let k = c.in-Some.ensures.cases in
    let n : length c.in-Some.block.now ≡ block_size = ap length k.same ∙ k.long in
    words_end w.SIZE w.PER_BLOCK c.in-Some.block.now (map w.value c.args.words.now) c.min-used.result c.loop-i.i (map w.value c.loop-i.words) n (c.min-used.ensures ∙ ap₂ min c.PER_BLOCK.ensures (sym (length-map c.args.words.now w.value))) c.loop-i-test.false c.loop-i.invariant
    ∙ ap (λ (l : List ℕ). words_over w.SIZE w.PER_BLOCK l (map w.value c.args.words.now)) k.same
