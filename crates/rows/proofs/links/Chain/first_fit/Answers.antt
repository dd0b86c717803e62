use Prim.Native.Nat.{◌+◌, ◌-◌, ◌^◌, ◌<◌}
use native.Mathlib.Omega.{arith}
use mathlib.Core.Path.{◌≡◌, sym, ◌∙◌}
use mathlib.Core.Bool.{true}
use lib.Count.{count_trailing_zeros}
use lib.ListN.{length}
use Rattle.rows.specs.Fit as fits
use Rattle.rows.specs.Inner.Chains.{chain}
use Rattle.rows.specs.Inner.Taken.{taken_cells}
use Rattle.rows.proofs.Fits.Needed.{Shut, FirstFree}
use Rattle.rows.proofs.Chains.Walks.{chain_pos, top_low, inside_yes}
use Rattle.rows.proofs.Taken.Search.{first_at, past_first, block_low, block_first, block_none}
use Rattle.rows.proofs.links.Chain.first_fit.Goals as goal
use Rattle.rows.proofs.links.Chain.first_fit.Goals.{After-top-c, In-loop-d, Then-open-ne0, else-loop-d-test, then-loop-d-test+else-open-ne0+else-d-end-d-gt64}

some : (c : After-top-c) → let s = c.args.self.now in 0 < length (chain s.words.now s.first)
some c = let s = c.args.self.now in chain_pos _ s.rises _ s.some.0 s.some.1

within : (c : In-loop-d) → let s = c.args.self.now in fits.inside taken_cells c.loop-d.d (chain s.words.now s.first) ≡ true
within c =
    inside_yes _ _ _ _ (some (goal.at.shut-open-requires c).After-top-c) c.top-c.ensures
    (omega (arith, top_low _ _ _ c.top-c.ensures, c.loop-d-test.true, c.requires.few))

pub shut-open-requires : goal.shut-open-requires
shut-open-requires c = within c

pub loop-d-preserved : goal.loop-d-preserved
loop-d-preserved c =
    let b : c.shut-open.result < 2 ^ 64 = omega (arith, c.shut-open.type_inv) in
    block_none _ _ c.requires _ _ (within (goal.at.loop-d-preserved c).In-loop-d) c.loop-d.invariant _ b c.shut-open.ensures c.if-open-ne0.false

-- some displacement of the block has room: the first is low, and the first that is free
open_low : (c : Then-open-ne0) → fits.inside taken_cells c.loop-d.d (chain c.args.self.now.words.now c.args.self.now.first) ≡ true
    → count_trailing_zeros 64 (2 ^ 64 - 1 - c.shut-open.result) < 64
open_low c w =
    let b : c.shut-open.result < 2 ^ 64 = omega (arith, c.shut-open.type_inv) in
    block_low _ _ c.requires _ _ w c.loop-d.invariant _ b c.shut-open.ensures c.if-open-ne0.true

open_first : (c : Then-open-ne0) → fits.inside taken_cells c.loop-d.d (chain c.args.self.now.words.now c.args.self.now.first) ≡ true
    → FirstFree c.args.g.now (chain c.args.self.now.words.now c.args.self.now.first) (c.loop-d.d + count_trailing_zeros 64 (2 ^ 64 - 1 - c.shut-open.result))
open_first c w =
    let b : c.shut-open.result < 2 ^ 64 = omega (arith, c.shut-open.type_inv) in
    block_first _ _ c.requires _ _ w c.loop-d.invariant _ b c.shut-open.ensures c.if-open-ne0.true

pub fit_at-requires : goal.fit_at-requires
fit_at-requires c =
    let k = goal.at.fit_at-requires c in
    (top_low _ _ _ c.top-c.ensures, omega (arith, open_low k.Then-open-ne0 (within k.In-loop-d), c.loop-d-test.true, c.requires.few))

pub returns-then-open-ne0 : goal.returns-then-open-ne0
returns-then-open-ne0 c =
    let k = goal.at.returns-then-open-ne0 c in
    c.fit_at.ensures ∙ sym (first_at _ _ _ _ (some k.After-top-c) c.top-c.ensures (open_first k.Then-open-ne0 (within k.In-loop-d)))

pub fit_at-requires-2 : goal.fit_at-requires-2
fit_at-requires-2 c = (top_low _ _ _ c.top-c.ensures, omega (arith, c.requires.few))

pub returns : goal.returns
returns c =
    let k = goal.at.returns c in
    let s = c.args.self.now in
    let shut : Shut c.args.g.now (chain s.words.now s.first) (length c.args.g.now) =
    λ e l. elim c.loop-d-test.branch [
      | else-loop-d-test w ↦ c.loop-d.invariant e (omega (arith, w.loop-d-test.false))
      | then-loop-d-test+else-open-ne0+else-d-end-d-gt64 w ↦
          let x : w.shut-open.result < 2 ^ 64 = omega (arith, w.shut-open.type_inv) in
          let i : fits.inside taken_cells c.loop-d.d (chain s.words.now s.first) ≡ true = inside_yes _ _ _ _ (some k.After-top-c) c.top-c.ensures (omega (arith, top_low _ _ _ c.top-c.ensures, w.loop-d-test.true, c.requires.few)) in
          block_none _ _ c.requires _ _ i c.loop-d.invariant _ x w.shut-open.ensures w.if-open-ne0.false e (omega arith)
    ] in
    c.fit_at-2.ensures ∙ sym (first_at _ _ _ _ (some k.After-top-c) c.top-c.ensures (past_first _ _ _ (omega arith) shut))
