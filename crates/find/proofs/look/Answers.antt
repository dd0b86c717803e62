use Prim.Native.Nat.{ℕ}
use native.Mathlib.Omega.{arith}
use mathlib.Core.Path.{◌≡◌, sym, ◌∙◌}
use lib.ListN.{length, take, replicate, length-replicate}
use lib.Seq.{length-take-le, take_at}
use Rattle.many.specs.Lookups.{told}
use Rattle.find.proofs.Looks.{looked_answer, looked_indices}
use Rattle.find.proofs.look.Goals as goal

pub returns : goal.returns
returns c =
    let m = c.lookup_many-ended in
    let n : length c.args.keys.now ≡ length (take (length c.args.keys.now) (replicate 1024 0)) =
    sym (length-take-le (length c.args.keys.now) (replicate 1024 0) (omega (arith, length-replicate {A = ℕ} 1024 0, c.requires.1))) in
    let back : length m.new.indices ≡ length c.args.keys.now = m.auto.indices ∙ sym n in
    record {
      value = looked_answer _ _ _ _ m.new.indices (told m.result) m.ensures n;
      indices_after = c.widen.ensures ∙ take_at m.new.indices _ _ back ∙ looked_indices _ _ _ _ m.new.indices (told m.result) m.ensures n;
    }
