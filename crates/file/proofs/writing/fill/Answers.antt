use Prim.Native.Nat.{ℕ, ◌*◌, ◌≤◌}
use native.Mathlib.Omega.{arith}
use mathlib.Core.Path.{◌≡◌, sym, ap, ◌∙◌}
use mathlib.Core.List.{List, ◌++◌}
use lib.ListN.{length, drop}
use lib.Seq.{sets, length-take-le}
use Rattle.std.proofs.lemmas.List.{map-id}
use Rattle.vectors.specs.Bounds.{max_variables}
use Rattle.vectors.proofs.Variables.Numbers.{kinds_many}
use Rattle.record.specs.Record.{kinds_in}
use Rattle.block.specs.Block.{block_size, short_word, long_word, short_words, long_words}
use Rattle.block.proofs.Laying.Putting.{part_long}
use Rattle.file.specs.Layout.{h_kind, g_kind, aux_kind}
use Rattle.file.specs.File.{table_of, h_first}
use Rattle.file.proofs.Laying.Files.{length_head, filled_is}
use Rattle.file.proofs.writing.fill.Goals as goal
use Rattle.file.proofs.writing.fill.Goals.{Start, After-copy_from_slice}

-- a record has 24 slots
variables_few : (s : Start) → length (kinds_in s.args.unit) ≤ max_variables
variables_few s =
    let u = s.args.unit in
    omega (arith, kinds_many u.p u.variables, s.well_formed.0.1.1.1.1.1.1.1.1.1.1.0.1.0.1)

-- the target's length stays
long : (c : After-copy_from_slice) → length (c.copy_from_slice.new.self ++ drop block_size c.args.target.now) ≡ length c.args.target.now
long c = part_long c.args.target.now c.copy_from_slice.new.self 0 block_size c.copy_from_slice.ensures.len

pub slice_bounds-copy_from_slice-end-2 : goal.slice_bounds-copy_from_slice-end-2
slice_bounds-copy_from_slice-end-2 c = sym (length-take-le block_size c.args.target.now (omega (arith, c.requires.room.2)))

pub copy_from_slice-requires : goal.copy_from_slice-requires
copy_from_slice-requires c = length-take-le block_size c.args.target.now (omega (arith, c.requires.room.2)) ∙ sym (ap length c.head.ensures ∙ length_head c.args.unit (variables_few (goal.at.copy_from_slice-requires c).Start))

pub put-requires : goal.put-requires
put-requires c = (omega (arith, c.requires.sizes, c.requires.few, c.requires.room), omega (arith, c.requires.sizes, c.requires.few, c.requires.room, long (goal.at.put-requires c).After-copy_from_slice))

pub put-requires-2 : goal.put-requires-2
put-requires-2 c = (omega (arith, c.requires.sizes, c.requires.few, c.requires.room), omega (arith, c.requires.sizes, c.requires.few, c.requires.room, c.put.auto.target, long (goal.at.put-requires-2 c).After-copy_from_slice))

pub put-requires-3 : goal.put-requires-3
put-requires-3 c = (omega (arith, c.requires.sizes, c.requires.few, c.requires.room), omega (arith, c.requires.sizes, c.requires.few, c.requires.room, c.put.auto.target, c.put-2.auto.target, long (goal.at.put-requires-3 c).After-copy_from_slice))

pub returns : goal.returns
returns c =
    let z = c.requires.sizes in
    let a = c.args in
    let p : c.put.new.target ≡ sets (c.copy_from_slice.new.self ++ drop block_size a.target.now) (block_size * h_first) (table_of h_kind short_word short_words h_first a.h.now) =
    c.put.ensures ∙ ap (λ (l : List ℕ). sets (c.copy_from_slice.new.self ++ drop block_size a.target.now) (block_size * h_first) (table_of h_kind short_word short_words h_first l)) (map-id a.h.now) in
    let q : c.put-2.new.target ≡ sets c.put.new.target (block_size * a.starts.g) (table_of g_kind short_word short_words a.starts.g a.g.now) =
    c.put-2.ensures ∙ ap (λ (l : List ℕ). sets c.put.new.target (block_size * a.starts.g) (table_of g_kind short_word short_words a.starts.g l)) (map-id a.g.now) in
    let r : c.put-3.new.target ≡ sets c.put-2.new.target (block_size * a.starts.aux) (table_of aux_kind long_word long_words a.starts.aux a.aux.now) =
    c.put-3.ensures ∙ ap (λ (l : List ℕ). sets c.put-2.new.target (block_size * a.starts.aux) (table_of aux_kind long_word long_words a.starts.aux l)) (map-id a.aux.now) in
    filled_is a.unit a.h.now a.g.now a.aux.now (record { variables_few = variables_few (goal.at.returns c).Start; rows = z.0; cells = z.1; words = z.2 })
    a.target.now c.head.result _ _ _ _ a.starts.g a.starts.aux c.requires.room.2 c.requires.room.0 c.requires.room.1 c.head.ensures (ap (λ (l : List ℕ). l ++ drop block_size a.target.now) c.copy_from_slice.ensures.after) p q r
