use Prim.Native.Nat.{ℕ}
use native.Mathlib.Omega.{arith}
use mathlib.Core.Path.{◌≡◌, refl, ap, ◌∙◌}
use mathlib.Core.List.{List}
use lib.ListN.{length, take, replicate, length-replicate}
use lib.Seq.{length-take-le}
use Rattle.refusal.proofs.Numbers.{numbered}
use Rattle.record.specs.Tables.{lent}
use Rattle.lookup.specs.Lookup.{lookup_of}
use Rattle.many.specs.Lookups.{first_refused}
use Rattle.print.specs.Print.{fitted}
use Rattle.find.specs.Find.{indices_of}
use Rattle.find.proofs.Looks.{find_no, find_refused, find_printed}
use Rattle.find.proofs.find.Goals as goal

pub returns-in_default : goal.returns-in_default
returns-in_default c =
    let t = lent c.args.h.now c.args.g.now c.args.aux.now in
    c.text.ensures ∙ ap (λ (x : List ℕ). fitted x c.args.out.now) (find_no c.args.unit t c.args.text.now c.in_default.ensures.is)

pub returns-in-Err : goal.returns-in-Err
returns-in-Err c =
    let t = lent c.args.h.now c.args.g.now c.args.aux.now in
    let r = c.in-Some.ensures.is in
    let e = c.in-Err.ensures.value ∙ ap (first_refused (lookup_of c.args.unit t) 1) r.2 in
    c.refused.ensures
    ∙ ap (λ (x : List ℕ). fitted x c.args.out.now) (find_refused c.args.unit t c.args.text.now r.0 _ e (λ z. omega (arith, numbered c.in-Err.refused.refusal)))

pub returns : goal.returns
returns c =
    let t = lent c.args.h.now c.args.g.now c.args.aux.now in
    let r = c.in-Some.ensures.is in
    let e = c.in_default-look.ensures.value ∙ ap (first_refused (lookup_of c.args.unit t) 1) r.2 in
    let n : length (take c.in-Some.count (replicate 1024 0)) ≡ c.in-Some.count = length-take-le c.in-Some.count (replicate 1024 0) (omega (arith, length-replicate {A = ℕ} 1024 0, r.1)) in
    c.beside.ensures
    ∙ find_printed c.args.unit t c.args.text.now r.0 _ e c.look.new.indices _ c.args.out.now c.in-Some.count refl (c.look.auto.indices ∙ n)
    (c.look.ensures.indices_after ∙ ap (indices_of c.args.unit t) r.2)
