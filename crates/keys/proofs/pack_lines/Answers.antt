use Prim.Native.Nat.{ℕ}
use native.Mathlib.Omega.{arith}
use mathlib.Core.Path.{◌≡◌, refl, sym, ap, ◌∙◌}
use mathlib.Core.Bool.{true, false}
use mathlib.Core.List.{List}
use lib.ListN.{take}
use lib.Seq.{length-take-le}
use Rattle.refusal.specs.declared.Refused.{Refused}
use Rattle.refusal.specs.Refusal.{number_of}
use Rattle.build.specs.Build.{build_chosen}
use Rattle.print.specs.Print.{fitted, refused_text}
use Rattle.answer.specs.Make.{roomy, program_allowance}
use Rattle.profiles.specs.Key.{key_bits}
use Rattle.keys.specs.Keys.{good_lines}
use Rattle.keys.specs.Inner.{all_narrow}
use Rattle.keys.proofs.Packs.{lines_bad, lines_wide, lines_packed}
use Rattle.keys.proofs.pack_lines.Goals as goal

pub returns-in-Err-NoList : goal.returns-in-Err-NoList
returns-in-Err-NoList c =
    let b : good_lines c.args.lines.now ≡ false = rw c.in-Err-NoList.field-0-is at c.in-Err-NoList.ensures in
    c.text.ensures ∙ ap (λ (x : List ℕ). fitted x c.args.out.now) (lines_bad c.args.degree c.args.cells c.args.lines.now b)

pub returns-in-Err-Wide : goal.returns-in-Err-Wide
returns-in-Err-Wide c =
    let r : (good_lines c.args.lines.now ≡ true) × (all_narrow c.args.lines.now ≡ false) = rw c.in-Err-Wide.field-0-is at c.in-Err-Wide.ensures in
    c.refused.ensures
    ∙ ap (λ (r : Refused). fitted (refused_text (number_of r.refusal) r.place) c.args.out.now) c.at.ensures
    ∙ ap (λ (x : List ℕ). fitted x c.args.out.now) (lines_wide c.args.degree c.args.cells c.args.lines.now r.0 _ (sym r.1) refl)

pub slice_bounds-build_chosen-end : goal.slice_bounds-build_chosen-end
slice_bounds-build_chosen-end c = sym (length-take-le _ _ (omega (arith, c.in-Ok.ensures.few, c.read.auto.words)))

pub returns : goal.returns
returns c =
    let r = c.in-Ok.ensures in
    c.write_built.ensures
    ∙ lines_packed c.args.degree c.args.cells c.args.lines.now r.good _ (sym r.narrow) refl _ _ _ _ c.read.new.words c.args.out.now _ r.number r.values
    (c.build_chosen-built.ensures ∙ ap (λ (m : ℕ). build_chosen key_bits c.args.degree m program_allowance (take c.in-Ok.count c.read.new.words) roomy) c.cells_by.ensures)
