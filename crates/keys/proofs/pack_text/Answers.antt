use Prim.Native.Nat.{ℕ}
use mathlib.Core.Path.{sym, ap, ◌∙◌}
use mathlib.Core.List.{List}
use Rattle.print.specs.Print.{fitted}
use Rattle.input.proofs.Opening.{opens_long}
use Rattle.keys.specs.Keys.{header}
use Rattle.keys.proofs.Packs.{keys_long, keys_plain, keys_named}
use Rattle.keys.proofs.pack_text.Goals as goal

pub returns-then-text-gt-MAX_TEXT : goal.returns-then-text-gt-MAX_TEXT
returns-then-text-gt-MAX_TEXT c =
    c.text.ensures ∙ ap (λ (x : List ℕ). fitted x c.args.out.now) (keys_long c.args.degree c.args.cells c.args.text.now c.if-text-gt-MAX_TEXT.true)

pub slice_bounds-pack_lines-count : goal.slice_bounds-pack_lines-count
slice_bounds-pack_lines-count c = opens_long header c.args.text.now (sym c.opens.ensures ∙ c.if-opens.true)

pub slice_bounds-pack_lines-start : goal.slice_bounds-pack_lines-start
slice_bounds-pack_lines-start c = slice_bounds-pack_lines-count c

pub returns-then-opens : goal.returns-then-opens
returns-then-opens c =
    c.pack_lines.ensures ∙ ap (λ (x : List ℕ). fitted x c.args.out.now) (keys_named c.args.degree c.args.cells c.args.text.now c.if-text-gt-MAX_TEXT.false (sym c.opens.ensures ∙ c.if-opens.true))

pub returns : goal.returns
returns c =
    c.pack_lines-2.ensures ∙ ap (λ (x : List ℕ). fitted x c.args.out.now) (keys_plain c.args.degree c.args.cells c.args.text.now c.if-text-gt-MAX_TEXT.false (sym c.opens.ensures ∙ c.if-opens.false))
