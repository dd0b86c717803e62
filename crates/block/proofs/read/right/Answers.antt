use Prim.Native.Nat.{ℕ, ◌+◌, ◌%◌, ◌<◌}
use native.Mathlib.Omega.{arith}
use mathlib.Core.Path.{◌≡◌, sym, ap, ap₂, ◌∙◌}
use mathlib.Core.Bool.{Bool, ◌&&◌}
use mathlib.Core.List.{List}
use lib.ListN.{take}
use Rattle.std.proofs.Common.{rules}
use lib.Dec.{eqb}
use borrow.Author.Tests.{eq-eqb, ne_eqb}
use Rattle.lists.proofs.Entries.Alls.{at_all}
use Rattle.block.specs.Bytes.{number_at}
use Rattle.block.specs.Block.{check_at, modulus, sum_of, weigh, right_check}
use Rattle.block.proofs.Reading.Numbers.{Bytes}
use Rattle.block.proofs.Reading.Looks.{not_right, right_is}
use Rattle.block.proofs.read.right.Goals as goal
use Rattle.block.proofs.read.right.Goals.{After-from}

-- the check's numbers, and the sums
told : (c : After-from) → Bytes c.args.block.now → let b = c.args.block.now in
    right_check b ≡ (eqb c.word.result c.from.result && eqb (number_at 2 (check_at + 2) b) c.sums-s.result.weighed)
told c bytes =
    let b = c.args.block.now in
    let w = c.in-Some.ensures.cases in
    right_is b w.long bytes
    ∙ ap₂ (λ (x y : Bool). x && y)
    (ap₂ eqb (sym (c.word.ensures ∙ ap (number_at 2 check_at) w.same)) (sym (c.from.ensures ∙ c.sums-s.ensures.0 ∙ ap (λ (l : List ℕ). sum_of (take check_at l) % modulus) w.same)))
    (ap (eqb (number_at 2 (check_at + 2) b)) (sym (c.sums-s.ensures.1 ∙ ap (λ (l : List ℕ). weigh check_at (take check_at l) % modulus) w.same)))

pub returns-in_default : goal.returns-in_default
returns-in_default c = sym (not_right _ (search rules))

pub returns-then-word-from : goal.returns-then-word-from
returns-then-word-from c =
    let b = c.args.block.now in
    let bytes : Bytes b = at_all (λ (x : ℕ). x < 256) b 0 (λ i h. omega (arith, c.type_inv.block i)) in
    ap₂ eqb (c.word-then-word-from.ensures ∙ ap (number_at 2 (check_at + 2)) c.in-Some.ensures.cases.same) c.from-then-word-from.ensures
    ∙ sym (told (goal.at.returns-then-word-from c).After-from bytes ∙ rw (eq-eqb _ _ c.if-word-from.true))

pub returns-else-word-from : goal.returns-else-word-from
returns-else-word-from c =
    let b = c.args.block.now in
    let bytes : Bytes b = at_all (λ (x : ℕ). x < 256) b 0 (λ i h. omega (arith, c.type_inv.block i)) in
    sym (told (goal.at.returns-else-word-from c).After-from bytes ∙ rw (ne_eqb _ _ c.if-word-from.false))
