-- What is written of an accepted list is its least L. Assumes nothing.
use Prim.Native.Nat.{ℕ}
use native.Mathlib.Omega.{arith}
use mathlib.Core.Path.{◌≡◌, ap, ◌∙◌}
use mathlib.Core.List.{List}
use lib.ListN.{length, get_or, take, drop, length-append, length-drop, length-replicate}
use lib.Seq.{take_all}
use Rattle.vectors.specs.declared.Kind.{Kind}
use Rattle.vectors.specs.Bounds.{max_cells}
use Rattle.build.specs.Build.{Outcome, rows_share, chosen_kinds, chosen_refusal, placing_of, build_chosen}
use Rattle.build.specs.Cells.{chosen_builds, used, LeastCells}
use Rattle.build.proofs.Holding.Ends.{placing_cells, outcome_accepted}
use Rattle.build.proofs.Cells.Builds.{chosen_least}
use Rattle.answer.specs.Make.{roomy, program_allowance}
use Rattle.cells.specs.Cells.{wide_build}

-- there are as many cells as there can be
pub wide_length : (ns : List ℕ) → (wide_build ns).built.refusal ≡ 0 → length (wide_build ns).tables.g ≡ max_cells
unfolding wide_build build_chosen
wide_length ns z =
    let n = get_or ns 0 0 in
    let degree = get_or ns 1 0 in
    let vs = drop 3 ns in
    let ks : List Kind = chosen_kinds n degree vs in
    let n1 = rows_share (length ks) in
    let a = outcome_accepted n n1 ks max_cells program_allowance vs roomy (chosen_refusal n degree ks max_cells vs roomy) z in
    let G : List ℕ = (placing_of n1 ks max_cells vs).state.g in
    ap (λ (o : Outcome). length o.tables.g) a.is
    ∙ omega (arith, length-append G (drop (length G) roomy.g), length-drop (length G) roomy.g, placing_cells n1 ks max_cells vs, length-replicate {A = ℕ} max_cells 0)

-- of the cells that a build may take
of_taken : (ns : List ℕ) → (wide_build ns).built.refusal ≡ 0
    → LeastCells (chosen_builds (get_or ns 0 0) (get_or ns 1 0) (drop 3 ns)) program_allowance roomy (used (take max_cells (wide_build ns).tables.g))
unfolding wide_build
of_taken ns z = chosen_least (get_or ns 0 0) (get_or ns 1 0) (drop 3 ns) max_cells program_allowance roomy z

-- with so many cells or more the list is accepted, with fewer it is not
pub cells_least : (ns : List ℕ) → (wide_build ns).built.refusal ≡ 0
    → LeastCells (chosen_builds (get_or ns 0 0) (get_or ns 1 0) (drop 3 ns)) program_allowance roomy (used (wide_build ns).tables.g)
cells_least ns z =
    let e : take max_cells (wide_build ns).tables.g ≡ (wide_build ns).tables.g = take_all max_cells (wide_build ns).tables.g (omega (arith, wide_length ns z)) in
    rw e at (of_taken ns z)
