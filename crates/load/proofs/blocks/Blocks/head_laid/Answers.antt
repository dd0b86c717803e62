use native.Mathlib.Omega.{arith}
use Prim.Native.Nat.{◌+◌, ◌*◌}
use mathlib.Core.Bool.{◌&&◌}
use mathlib.Core.Path.{◌≡◌, sym, ap, ◌∙◌}
use lib.ListN.{take}
use lib.Seq.{length-take-le}
use Rattle.block.specs.declared.Opening.{Opening}
use Rattle.block.specs.Block.{block_size}
use Rattle.block.specs.Look.{blank_from, laid_out}
use Rattle.file.specs.Layout.{head_kind, variables_at, mark_at, free_at}
use Rattle.file.specs.File.{opening}
use Rattle.load.specs.Inner.Laid.{has_letters, head_laid}
use Rattle.load.proofs.blocks.Blocks.head_laid.Goals as goal
use Rattle.load.proofs.blocks.Blocks.head_laid.Goals.{then-laid, else-laid, then-has_letters, else-has_letters}

pub slice_bounds-blank-end : goal.slice_bounds-blank-end
slice_bounds-blank-end c = sym (length-take-le mark_at c.args.self.bytes.now (omega (arith, c.args.self.some)))

pub returns-else-blank : goal.returns-else-blank
unfolding head_laid
returns-else-blank c =
    let f = c.args.self.bytes.now in
    let a = laid_out (opening head_kind 0) free_at (take block_size f) in
    let b = has_letters f in
    let d = blank_from (variables_at + 2 * c.args.p) (take mark_at f) in
    let ea : c.laid.result ≡ a = c.laid.ensures ∙ ap (λ (o : Opening). laid_out o free_at (take block_size f)) c.opening-head.ensures in
    let eb : c.if-laid.value ≡ (a && b) = elim c.if-laid.branch [ then-laid w ↦ rw (sym ea ∙ w.if-laid.true) (w.value-is ∙ w.has_letters.ensures) | else-laid w ↦ rw (sym ea ∙ w.if-laid.false) (w.value-is ∙ w.if-laid.false) ] in
    let ed : c.if-has_letters.value ≡ ((a && b) && d) = elim c.if-has_letters.branch [ then-has_letters w ↦ rw (sym eb ∙ w.if-has_letters.true) (w.value-is ∙ w.blank.ensures) | else-has_letters w ↦ rw (sym eb ∙ w.if-has_letters.false) (w.value-is ∙ w.if-has_letters.false) ] in
    c.if-blank.false ∙ sym (rw (sym ed ∙ c.if-blank.false))
