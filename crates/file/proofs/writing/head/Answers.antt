use Prim.Native.Nat.{ℕ, ◌≤◌}
use native.Mathlib.Omega.{arith}
use mathlib.Core.Path.{◌≡◌, refl, ap, ap₂, ◌∙◌}
use mathlib.Core.List.{List, ◌++◌}
use lib.ListN.{length, take, replicate, length-take}
use lib.Seq.{sets}
use borrow.Rule.Slice.PartMut.{put_mid}
use Rattle.block.specs.Bytes.{little_of}
use Rattle.block.specs.declared.Opening.{Opening}
use Rattle.block.specs.Block.{block_size, check_at, opening_of}
use Rattle.block.proofs.Laying.Putting.{part_set, part_long}
use Rattle.block.proofs.Laying.Words.{length_opened}
use Rattle.lists.proofs.Entries.Parts.{take_least}
use Rattle.vectors.specs.declared.Kind.{Kind}
use Rattle.vectors.specs.declared.Variable.{Variable}
use Rattle.vectors.specs.Bounds.{max_variables}
use Rattle.vectors.specs.Variable.{kinds_of}
use Rattle.vectors.proofs.Variables.Numbers.{kinds_many}
use Rattle.record.specs.Record.{kinds_in}
use Rattle.file.specs.Layout.{letters, variables_at}
use Rattle.file.specs.File.{variables_bytes}
use Rattle.file.proofs.Laying.Heads.{field_more, head_is}
use Rattle.file.proofs.writing.head.Goals as goal

pub slice_bounds-b-end-4 : goal.slice_bounds-b-end-4
slice_bounds-b-end-4 c =
    let b₁ = put_mid 4 4 c.opened-b.result c.copy_from_slice.new.self in
    let l₁ : length b₁ ≡ block_size = part_long c.opened-b.result c.copy_from_slice.new.self 4 4 c.copy_from_slice.ensures.len ∙ length_opened _ _ c.opened-b.ensures in
    let b₂ = put_mid 8 1 b₁ c.put_number.new.place in
    let l₂ : length b₂ ≡ block_size = part_long b₁ c.put_number.new.place 8 1 c.put_number.auto.place ∙ l₁ in
    let b₃ = put_mid 9 1 b₂ c.put_number-2.new.place in
    let l₃ : length b₃ ≡ block_size = part_long b₂ c.put_number-2.new.place 9 1 c.put_number-2.auto.place ∙ l₂ in
    let h : 11 ≤ length b₃ = omega (arith, l₃) in
    h

pub slice_bounds-b-end-5 : goal.slice_bounds-b-end-5
slice_bounds-b-end-5 c =
    let b₁ = put_mid 4 4 c.opened-b.result c.copy_from_slice.new.self in
    let l₁ : length b₁ ≡ block_size = part_long c.opened-b.result c.copy_from_slice.new.self 4 4 c.copy_from_slice.ensures.len ∙ length_opened _ _ c.opened-b.ensures in
    let b₂ = put_mid 8 1 b₁ c.put_number.new.place in
    let l₂ : length b₂ ≡ block_size = part_long b₁ c.put_number.new.place 8 1 c.put_number.auto.place ∙ l₁ in
    let b₃ = put_mid 9 1 b₂ c.put_number-2.new.place in
    let l₃ : length b₃ ≡ block_size = part_long b₂ c.put_number-2.new.place 9 1 c.put_number-2.auto.place ∙ l₂ in
    let b₄ = put_mid 10 1 b₃ c.put_number-3.new.place in
    let l₄ : length b₄ ≡ block_size = part_long b₃ c.put_number-3.new.place 10 1 c.put_number-3.auto.place ∙ l₃ in
    let h : 13 ≤ length b₄ = omega (arith, l₄) in
    h

pub slice_bounds-b-end-6 : goal.slice_bounds-b-end-6
slice_bounds-b-end-6 c =
    let b₁ = put_mid 4 4 c.opened-b.result c.copy_from_slice.new.self in
    let l₁ : length b₁ ≡ block_size = part_long c.opened-b.result c.copy_from_slice.new.self 4 4 c.copy_from_slice.ensures.len ∙ length_opened _ _ c.opened-b.ensures in
    let b₂ = put_mid 8 1 b₁ c.put_number.new.place in
    let l₂ : length b₂ ≡ block_size = part_long b₁ c.put_number.new.place 8 1 c.put_number.auto.place ∙ l₁ in
    let b₃ = put_mid 9 1 b₂ c.put_number-2.new.place in
    let l₃ : length b₃ ≡ block_size = part_long b₂ c.put_number-2.new.place 9 1 c.put_number-2.auto.place ∙ l₂ in
    let b₄ = put_mid 10 1 b₃ c.put_number-3.new.place in
    let l₄ : length b₄ ≡ block_size = part_long b₃ c.put_number-3.new.place 10 1 c.put_number-3.auto.place ∙ l₃ in
    let b₅ = put_mid 11 2 b₄ c.put_number-4.new.place in
    let l₅ : length b₅ ≡ block_size = part_long b₄ c.put_number-4.new.place 11 2 c.put_number-4.auto.place ∙ l₄ in
    let h : 15 ≤ length b₅ = omega (arith, l₅) in
    h

pub slice_bounds-b-end-7 : goal.slice_bounds-b-end-7
slice_bounds-b-end-7 c =
    let b₁ = put_mid 4 4 c.opened-b.result c.copy_from_slice.new.self in
    let l₁ : length b₁ ≡ block_size = part_long c.opened-b.result c.copy_from_slice.new.self 4 4 c.copy_from_slice.ensures.len ∙ length_opened _ _ c.opened-b.ensures in
    let b₂ = put_mid 8 1 b₁ c.put_number.new.place in
    let l₂ : length b₂ ≡ block_size = part_long b₁ c.put_number.new.place 8 1 c.put_number.auto.place ∙ l₁ in
    let b₃ = put_mid 9 1 b₂ c.put_number-2.new.place in
    let l₃ : length b₃ ≡ block_size = part_long b₂ c.put_number-2.new.place 9 1 c.put_number-2.auto.place ∙ l₂ in
    let b₄ = put_mid 10 1 b₃ c.put_number-3.new.place in
    let l₄ : length b₄ ≡ block_size = part_long b₃ c.put_number-3.new.place 10 1 c.put_number-3.auto.place ∙ l₃ in
    let b₅ = put_mid 11 2 b₄ c.put_number-4.new.place in
    let l₅ : length b₅ ≡ block_size = part_long b₄ c.put_number-4.new.place 11 2 c.put_number-4.auto.place ∙ l₄ in
    let b₆ = put_mid 13 2 b₅ c.put_number-5.new.place in
    let l₆ : length b₆ ≡ block_size = part_long b₅ c.put_number-5.new.place 13 2 c.put_number-5.auto.place ∙ l₅ in
    let h : 19 ≤ length b₆ = omega (arith, l₆) in
    h

pub put_variables-requires : goal.put_variables-requires
put_variables-requires c = omega (arith, length-take c.min.result c.args.unit.variables, c.min.ensures)

pub returns : goal.returns
unfolding little_of
returns c =
    let u = c.args.unit in
    let base = c.opened-b.result in
    let n : length base ≡ block_size = length_opened _ _ c.opened-b.ensures in
    let a₁ : List ℕ = letters in
    let a₂ : List ℕ = a₁ ++ little_of 1 u.n in
    let a₃ : List ℕ = a₂ ++ little_of 1 u.p in
    let a₄ : List ℕ = a₃ ++ little_of 1 u.n1 in
    let a₅ : List ℕ = a₄ ++ little_of 2 u.k in
    let a₆ : List ℕ = a₅ ++ little_of 2 u.cells in
    let e₁ = part_set base c.copy_from_slice.new.self 4 4 (ap length c.copy_from_slice.ensures.after) (omega arith) ∙ ap (sets base 4) c.copy_from_slice.ensures.after in
    let e₂ = field_more base _ a₁ c.put_number.new.place 8 1 u.n refl (omega arith) e₁ c.put_number.ensures in
    let e₃ = field_more base _ a₂ c.put_number-2.new.place 9 1 u.p refl (omega arith) e₂ c.put_number-2.ensures in
    let e₄ = field_more base _ a₃ c.put_number-3.new.place 10 1 u.n1 refl (omega arith) e₃ c.put_number-3.ensures in
    let e₅ = field_more base _ a₄ c.put_number-4.new.place 11 2 u.k refl (omega arith) e₄ c.put_number-4.ensures in
    let e₆ = field_more base _ a₅ c.put_number-5.new.place 13 2 u.cells refl (omega arith) e₅ c.put_number-5.ensures in
    let e₇ = field_more base _ a₆ c.put_number-6.new.place 15 4 u.tries refl (omega arith) e₆ c.put_number-6.ensures in
    let long : length u.variables ≡ max_variables = c.well_formed.0.1.1.1.1.1.1.1.1.1.1.0.1.0.1 in
    let kinds : kinds_of (take c.min.result u.variables) ≡ kinds_in u = ap (λ (l : List Variable). kinds_of l) (ap (λ (i : ℕ). take i u.variables) c.min.ensures ∙ take_least u.p u.variables max_variables long) in
    let few : length (kinds_in u) ≤ max_variables = omega (arith, kinds_many u.p u.variables, long) in
    head_is u base c.put_variables.new.head _ few (c.opened-b.ensures ∙ ap (λ (o : Opening). opening_of o ++ replicate check_at 0) c.opening.ensures) (c.put_variables.ensures ∙ ap₂ (λ (l : List ℕ) (ks : List Kind). sets l variables_at (variables_bytes ks)) e₇ kinds) _ c.from.ensures c.sealed.ensures
