-- Whether a cell and a word are in the chart. Assumes nothing.
use Prim.Native.Nat.{ℕ, ◌+◌, ◌-◌, ◌^◌, ◌≤◌, ◌<◌}
use mathlib.Core.Path.{◌≡◌}
use mathlib.Core.Bool.{true, ◌&&◌}
use mathlib.Core.List.{List}
use borrow.Author.Tests.{leb-true, ltb-true}
use lib.Dec.{leb, ltb}
use lib.ListN.{get_or}
use Rattle.lists.proofs.Tests.{and_true}
use Rattle.record.specs.declared.Record.{Record}
use Rattle.recover.specs.Recover.{row_in, in_chart}

-- what a cell and a word in the chart are
pub record Charted (u : Record) (h : List ℕ) (word cell : ℕ) : Type 0 where
  pub placed : get_or h (row_in u word) 0 ≤ cell
  pub column_in : cell - get_or h (row_in u word) 0 < 2 ^ (u.p - u.n1)
  pub word_in : word < 2 ^ (u.n1 + u.n - u.p)

pub charted : (u : Record) (h : List ℕ) (word cell : ℕ) → in_chart u h word cell ≡ true → Charted u h word cell
charted u h word cell f =
    let d = get_or h (row_in u word) 0 in
    let a = and_true (leb d cell && ltb (cell - d) (2 ^ (u.p - u.n1))) (ltb word (2 ^ (u.n1 + u.n - u.p))) f in
    let b = and_true (leb d cell) (ltb (cell - d) (2 ^ (u.p - u.n1))) a.0 in
    record { placed = leb-true _ _ b.0; column_in = ltb-true _ _ b.1; word_in = ltb-true _ _ a.1 }
