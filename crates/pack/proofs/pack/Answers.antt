use Prim.Native.Nat.{ℕ}
use mathlib.Core.Path.{refl, ap, ◌∙◌}
use mathlib.Core.List.{List}
use Rattle.print.specs.Print.{fitted}
use Rattle.pack.proofs.Packs.{pack_bad, pack_good}
use Rattle.pack.proofs.pack.Goals as goal

pub returns-in_default : goal.returns-in_default
returns-in_default c =
    c.text.ensures
    ∙ ap (λ (x : List ℕ). fitted x c.args.out.now) (pack_bad c.args.text.now _ c.in_default.ensures refl)

pub returns : goal.returns
returns c = c.write_built.ensures ∙ pack_good c.args.text.now _ c.in-Some.ensures c.args.out.now refl
