-- Refusals 1 to 12 with another number of cells. Assumes nothing.
use Prim.Native.Nat.{ℕ, suc, ◌≤◌, ◌<◌}
use mathlib.Core.Path.{◌≡◌, refl}
use mathlib.Core.Bool.{Bool, false, ◌||◌}
use mathlib.Core.List.{List, ◌++◌}
use lib.Dec.{ltb}
use lib.ListN.{length}
use borrow.Author.Tests.{le-ltb}
use Rattle.lists.proofs.Tests.{or_false}
use Rattle.vectors.specs.Bounds.{max_cells, outside}
use Rattle.build.specs.Built.{Refusal}
use Rattle.build.specs.Refusals.{refuse_if, ladder, list_checks}
use Rattle.build.proofs.Refusing.Ladder.{ladder_all, pass_all, pass_at, if_passed, list_passed}
use Rattle.build.proofs.Holding.Passed.{pass_both}

if_none : (m : ℕ) (b : Bool) → b ≡ false → (refuse_if m b).number ≡ 0
if_none m b e = rw e

pub list_room : (n : ℕ) (second : Refusal) (cells m : ℕ) (vs : List ℕ) (g g' aux : ℕ) (rs : List Refusal) → 0 < m → m ≤ max_cells → m ≤ g'
    → (ladder (list_checks n second cells vs g aux ++ rs)).number ≡ 0 → (ladder (list_checks n second m vs g' aux ++ rs)).number ≡ 0
list_room n second cells m vs g g' aux rs p l k h =
    let q = pass_at (list_checks n second cells vs g aux ++ rs) h in
    let b5 = or_false (ltb g cells) (ltb aux (suc (length vs))) (if_passed 4 _ (q 4)) in
    let q4 : outside 1 max_cells m ≡ false = rw (le-ltb m 1 p, le-ltb max_cells m l) in
    let q5 : (ltb g' m || ltb aux (suc (length vs))) ≡ false = rw (le-ltb g' m k, b5.1) in
    let rest = pass_all rs (pass_both (list_checks n second cells vs g aux) rs h).1 in
    ladder_all (λ r. r.number ≡ 0) refl (list_checks n second m vs g' aux ++ rs) (q 0, (q 1, (q 2, (if_none 4 _ q4, (if_none 5 _ q5, (q 5, (q 6, rest)))))))

-- past them there is a cell
pub some_cells : (n : ℕ) (second : Refusal) (cells : ℕ) (vs : List ℕ) (g aux : ℕ) (rs : List Refusal) → (ladder (list_checks n second cells vs g aux ++ rs)).number ≡ 0 → 0 < cells
some_cells n second cells vs g aux rs h = (list_passed n second cells vs g aux (pass_both (list_checks n second cells vs g aux) rs h).0).some_cells
