use Prim.Native.Nat.{ℕ}
use mathlib.Core.Path.{refl, ap, ◌∙◌}
use mathlib.Core.List.{List}
use Rattle.print.specs.Print.{fitted}
use Rattle.keys.proofs.Packs.{keys_not, keys_asked}
use Rattle.keys.proofs.keys.Goals as goal

pub returns-in_default : goal.returns-in_default
returns-in_default c =
    c.text.ensures ∙ ap (λ (x : List ℕ). fitted x c.args.out.now) (keys_not c.args.words.now c.args.text.now _ c.in_default.ensures refl)

pub returns : goal.returns
returns c =
    c.pack_text.ensures ∙ ap (λ (x : List ℕ). fitted x c.args.out.now) (keys_asked c.args.words.now c.args.text.now _ c.in-Some.ensures refl)
