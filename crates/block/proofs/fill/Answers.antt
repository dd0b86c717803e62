use native.Mathlib.Omega.{arith}
use Rattle.std.proofs.Common.{rules}
use mathlib.Core.Path.{◌≡◌, refl, sym, ap, ap₂, ◌∙◌}
use mathlib.Core.List.{List, map, ◌++◌}
use Prim.Native.Nat.{ℕ, ◌+◌, ◌-◌, ◌*◌, ◌<◌, ◌≤◌, min}
use lib.ListN.{length, get_or, take, drop, replicate, length-take, length-drop, length-map}
use lib.Seq.{sets, length-sets, get_or-take, length-take-le}
use borrow.Rule.Slice.PartMut.{post_of}
use Rattle.lists.proofs.Entries.Members.{get_d_map}
use Rattle.block.specs.Bytes.{little_of}
use Rattle.block.specs.Block.{payload_at, check_at, block_size, opening_of}
use Rattle.block.proofs.Laying.Held.{held_used, held_word}
use Rattle.block.proofs.Laying.Putting.{part_set, number_set}
use Rattle.block.proofs.Laying.Words.{length_opening, laying_none, laying_more, laying_end}
use Rattle.block.proofs.fill.Goals as goal
use Rattle.block.proofs.fill.Goals.{After-copy_from_slice, After-SIZE-in-loop-i, After-SIZE-2}

-- the block with its opening
begun : (g : _) (c : After-copy_from_slice g) → c.copy_from_slice.new.self ++ post_of 0 4 c.in-Some.block.now ≡ sets c.args.block.now 0 (opening_of c.args.opening)
begun g c =
    let b = c.in-Some.block.now in
    let w = c.in-Some.ensures.cases in
    let e : c.copy_from_slice.new.self ≡ opening_of c.args.opening = c.copy_from_slice.ensures.after ∙ c.bytes.ensures in
    let n : length c.copy_from_slice.new.self ≡ 4 = ap length e ∙ length_opening c.args.opening in
    part_set b c.copy_from_slice.new.self 0 4 n (omega (arith, ap length w.same, w.long)) ∙ ap₂ (λ (l o : List ℕ). sets l 0 o) w.same e

pub loop-i-init : goal.loop-i-init
loop-i-init g c =
    laying_none _ _ _ _ (ap length (begun g (goal.at.loop-i-init g c).After-copy_from_slice) ∙ length-sets c.args.block.now 0 (opening_of c.args.opening) ∙ c.in-Some.ensures.cases.long)

-- a word ends before the check
word_room : (g : _) (c : After-SIZE-in-loop-i g) → payload_at + c.SIZE.result * c.loop-i.i + c.SIZE-in-loop-i.result ≤ check_at
word_room g c =
    let w = g.W.Word in
    let n : c.loop-i.i < w.PER_BLOCK = omega (arith, length-take c.min-used.result c.args.words.now) in
    rw (c.SIZE-in-loop-i.ensures, c.SIZE.ensures) (held_word w.SIZE w.PER_BLOCK c.loop-i.i g.met.W.Word.held n)

pub slice_bounds-put_number-end : goal.slice_bounds-put_number-end
slice_bounds-put_number-end g c = let h = word_room g (goal.at.slice_bounds-put_number-end g c).After-SIZE-in-loop-i in omega arith

pub loop-i-preserved : goal.loop-i-preserved
loop-i-preserved g c =
    let w = g.W.Word in
    let a = c.args in
    let i = c.loop-i.i in
    let h : i < c.min-used.result = omega (arith, length-take c.min-used.result a.words.now) in
    let long : i < length a.words.now = omega arith in
    let v : get_or (map w.value a.words.now) i 0 ≡ c.to_number.result =
    get_d_map w.value a.words.now i c.w-item.result 0 long ∙ ap w.value (sym (c.w-item.is ∙ get_or-take c.min-used.result a.words.now i c.w-item.result h)) ∙ sym c.to_number.ensures in
    let at = payload_at + c.SIZE.result * i in
    let size : at + c.SIZE-in-loop-i.result - at ≡ c.SIZE-in-loop-i.result = omega arith in
    let room = word_room g (goal.at.loop-i-preserved g c).After-SIZE-in-loop-i in
    let e = number_set c.loop-i.block c.put_number.new.place at (at + c.SIZE-in-loop-i.result - at) c.to_number.result c.put_number.ensures (omega (arith, room, c.loop-i.invariant.long)) in
    let r : sets c.loop-i.block at (little_of (at + c.SIZE-in-loop-i.result - at) c.to_number.result) ≡ sets c.loop-i.block (payload_at + w.SIZE * i) (little_of w.SIZE c.to_number.result) = rw (size, c.SIZE-in-loop-i.ensures, c.SIZE.ensures) refl in
    laying_more _ _ _ _ _ _ _ h (omega (arith, length-map a.words.now w.value)) c.loop-i.invariant (rw v (e ∙ r))

-- the words end before the check
fits : (g : _) (c : After-SIZE-2 g) → payload_at + c.SIZE-2.result * c.min-used.result ≤ check_at
fits g c =
    let w = g.W.Word in
    rw c.SIZE-2.ensures (held_used w.SIZE w.PER_BLOCK c.min-used.result g.met.W.Word.held (omega arith))

pub slice_bounds-fill-count : goal.slice_bounds-fill-count
slice_bounds-fill-count g c = fits g (goal.at.slice_bounds-fill-count g c).After-SIZE-2

pub slice_bounds-fill-start : goal.slice_bounds-fill-start
slice_bounds-fill-start g c = fits g (goal.at.slice_bounds-fill-start g c).After-SIZE-2

pub returns : goal.returns
returns g c =
    let w = g.W.Word in
    let a = c.args in
    let used = c.min-used.result in
    let at = payload_at + c.SIZE-2.result * used in
    let long : length c.loop-i.block ≡ block_size = c.loop-i.invariant.long in
    let room : at ≤ check_at = fits g (goal.at.returns g c).After-SIZE-2 in
    let left : length (take (check_at - at) (drop at c.loop-i.block)) ≡ check_at - at = length-take-le (check_at - at) (drop at c.loop-i.block) (omega (arith, length-drop at c.loop-i.block)) in
    let z : c.fill.new.self ≡ replicate (check_at - at) 0 = c.fill.ensures.after (λ y e. search rules) ∙ ap (λ (n : ℕ). replicate n 0) left in
    laying_end w.SIZE w.PER_BLOCK a.opening (map w.value a.words.now) a.block.now _ _ _ _ _ _ g.met.W.Word.held.fits c.in-Some.ensures.cases.long (begun g (goal.at.returns g c).After-copy_from_slice)
    (c.min-used.ensures ∙ ap₂ min c.PER_BLOCK.ensures (sym (length-map a.words.now w.value))) (omega (arith, length-take used a.words.now)) c.loop-i.invariant
    (part_set c.loop-i.block c.fill.new.self at (check_at - at) (c.fill.ensures.len ∙ left) (omega arith) ∙ ap (sets c.loop-i.block at) z ∙ ap (λ (size : ℕ). sets c.loop-i.block (payload_at + size * used) (replicate (check_at - (payload_at + size * used)) 0)) c.SIZE-2.ensures) c.seal.ensures
