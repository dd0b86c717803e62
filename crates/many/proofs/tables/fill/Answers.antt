use borrow.Rule.Slice.PartMut.{post_of, same_len_mid}
use Prim.Native.Nat.{ℕ, ◌+◌, ◌-◌, ◌*◌}
use native.Mathlib.Omega.{arith}
use mathlib.Core.Path.{◌≡◌, ap, ◌∙◌}
use mathlib.Core.List.{List}
use lib.ListN.{length, get_or, drop, length-replicate}
use lib.Seq.{get_or-drop}
use Rattle.many.proofs.Linear.{tabled_none, tabled_more, part_length}
use Rattle.many.proofs.tables.fill.Goals as goal

pub loop-t-init : goal.loop-t-init
loop-t-init c =
    let e = c.requires.2 in
    (omega arith, ap length e ∙ length-replicate {A = ℕ} 2048 0, λ f l h. rw e (tabled_none f l))

pub fill_one-requires : goal.fill_one-requires
fill_one-requires c =
    let l = c.loop-t in (
      part_length 8 (8 * l.t) c.args.images.now (8 * l.t + 8 - 8 * l.t) (omega arith) (omega (arith, c.requires.0)),
      part_length 256 (256 * l.t) l.tables (256 * l.t + 256 - 256 * l.t) (omega arith) (omega (arith, l.invariant.1)),
    )

-- what comes after the part that is lent
after : (t : ℕ) (T : List ℕ) (k : ℕ) → get_or (post_of (256 * t) (256 * t + 256 - 256 * t) T) k 0 ≡ get_or T (256 * t + 256 + k) 0
after t T k =
    let e : 256 * t + 256 - 256 * t ≡ 256 = omega arith in
    let f : 256 * t + (256 + k) ≡ 256 * t + 256 + k = omega arith in
    rw e (get_or-drop 256 (drop (256 * t) T) k 0 ∙ get_or-drop (256 * t) T (256 + k) 0 ∙ ap (λ (i : ℕ). get_or T i 0) f)

pub loop-t-preserved : goal.loop-t-preserved
loop-t-preserved c =
    let l = c.loop-t in
    let d = c.fill_one in
    let p : 256 * l.t + 256 - 256 * l.t ≡ 256 = omega arith in
    let q : 8 * l.t + 8 - 8 * l.t ≡ 8 = omega arith in
    let s : length d.new.table ≡ 256 = d.auto.table ∙ part_length 256 (256 * l.t) l.tables (256 * l.t + 256 - 256 * l.t) p (omega (arith, l.invariant.1)) in (
      omega arith,
      same_len_mid (256 * l.t) (256 * l.t + 256 - 256 * l.t) l.tables d.new.table d.auto.table ∙ l.invariant.1,
      λ f g h. tabled_more f g _ l.tables d.new.table _ l.t (omega arith) (omega (arith, l.invariant.1)) s h (l.invariant.2 f g h) (λ k. after l.t l.tables k) (rw q at d.ensures),
    )

pub returns : goal.returns
returns c =
    let l = c.loop-t in
    let e : l.t ≡ c.args.bytes = omega arith in
    λ f g h. rw e at (l.invariant.2 f g h)
