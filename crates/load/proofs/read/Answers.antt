use Prim.Native.Nat.{◌/◌, ◌%◌}
use native.Mathlib.Omega.{arith}
use mathlib.Core.Path.{◌≡◌, sym, ap, ◌∙◌}
use mathlib.Core.Bool.{true}
use lib.ListN.{length}
use Rattle.record.specs.declared.Record.{Record}
use Rattle.record.specs.Tables.{Tables, lent}
use Rattle.record.specs.Formed.{long_enough}
use Rattle.block.specs.Block.{block_size}
use Rattle.file.specs.Decode.{tables_in}
use Rattle.file.specs.Read.{right_checks, is_file, loaded_read}
use Rattle.load.specs.Load.{after}
use Rattle.load.specs.Inner.Said.{said_in}
use Rattle.load.proofs.Testing.Steps.{Told, file_told}
use Rattle.load.proofs.Cases.{read_none, read_wrong, read_other, read_short, read_whole}
use Rattle.load.proofs.read.Goals as goal
use Rattle.load.proofs.read.Goals.{In-Some, Else-not-is_file, Else-not-right_checks}

-- past 21: whole blocks
some : (c : In-Some) → length c.args.file.now ≡ 0 → ⊥
some c e = omega (arith, c.in-Some.blocks.some, ap length c.in-Some.ensures)

whole : (c : In-Some) → length c.args.file.now % block_size ≡ 0
whole c = rw (sym c.in-Some.ensures) c.in-Some.blocks.whole

-- past 22
checked : (c : Else-not-right_checks) → let f = c.args.file.now in right_checks (length f / block_size) f ≡ true
checked c = rw (sym c.in-Some.ensures) (sym c.right_checks.ensures ∙ c.if-not-right_checks.false)

-- past 23
is_file_lem : (c : Else-not-is_file) → is_file c.args.file.now ≡ true
is_file_lem c = rw (sym c.in-Some.ensures) (sym c.is_file.ensures ∙ c.if-not-is_file.false)

told : (c : Else-not-is_file) → Told c.args.file.now c.said-unit.result
told c = file_told _ _ (c.said-unit.ensures ∙ ap said_in c.in-Some.ensures) (is_file_lem c)

pub returns-in_default : goal.returns-in_default
returns-in_default c = read_none c.args.file.now _ c.in_default.ensures

pub returns-then-not-right_checks : goal.returns-then-not-right_checks
returns-then-not-right_checks c =
    let s = (goal.at.returns-then-not-right_checks c).In-Some in
    read_wrong _ _ (some s) (whole s) (rw (sym c.in-Some.ensures) (sym c.right_checks.ensures ∙ c.if-not-right_checks.true))

pub is_file-requires : goal.is_file-requires
is_file-requires c = record {
  unit_value = c.said-unit.ensures;
  file_value = sym c.right_checks.ensures ∙ c.if-not-right_checks.false;
}

pub returns-then-not-is_file : goal.returns-then-not-is_file
returns-then-not-is_file c =
    let s = (goal.at.returns-then-not-is_file c).In-Some in
    read_other _ _ (some s) (whole s) (checked (goal.at.returns-then-not-is_file c).Else-not-right_checks) (rw (sym c.in-Some.ensures) (sym c.is_file.ensures ∙ c.if-not-is_file.true))

pub returns-then-not-long_enough : goal.returns-then-not-long_enough
returns-then-not-long_enough c =
    let s = (goal.at.returns-then-not-long_enough c).In-Some in
    let t = lent c.args.h.now c.args.g.now c.args.aux.now in
    let l = ap (λ (v : Record). long_enough v t) (sym (told (goal.at.returns-then-not-long_enough c).Else-not-is_file).is) ∙ sym c.long_enough.ensures ∙ c.if-not-long_enough.true in
    read_short c.args.file.now t (some s) (whole s) (checked (goal.at.returns-then-not-long_enough c).Else-not-right_checks) (is_file_lem (goal.at.returns-then-not-long_enough c).Else-not-is_file) l

pub fill-requires : goal.fill-requires
fill-requires c = record {
  unit_value = ((told (goal.at.fill-requires c).Else-not-is_file).bounds, omega (arith, (told (goal.at.fill-requires c).Else-not-is_file).size));
  aux_value = sym c.long_enough.ensures ∙ c.if-not-long_enough.false;
}

pub returns : goal.returns
returns c =
    let s = (goal.at.returns c).In-Some in
    let u = c.said-unit.result in
    let f = c.args.file.now in
    let t = lent c.args.h.now c.args.g.now c.args.aux.now in
    let l = ap (λ (v : Record). long_enough v t) (sym (told (goal.at.returns c).Else-not-is_file).is) ∙ sym c.long_enough.ensures ∙ c.if-not-long_enough.false in
    ap (λ (x : Tables). after (record { refusal = 0; place = 0; unit = u }) x) c.fill.ensures
    ∙ ap (λ (v : Record). loaded_read v (tables_in v f) t) (told (goal.at.returns c).Else-not-is_file).is
    ∙ read_whole f t (some s) (whole s) (checked (goal.at.returns c).Else-not-right_checks) (is_file_lem (goal.at.returns c).Else-not-is_file) l
