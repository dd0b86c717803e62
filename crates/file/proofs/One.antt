-- One answer alone is told as the definition of writing says. Assumes nothing.
use Prim.Native.Nat.{ℕ}
use native.Mathlib.Omega.{arith}
use mathlib.Core.Path.{◌≡◌, refl, sym, ap, ◌∙◌}
use mathlib.Core.Bool.{Bool, true, false}
use mathlib.Core.List.{List}
use lib.Dec.{ltb}
use lib.ListN.{length}
use Rattle.std.proofs.Common.{Result, Ok, Err}
use Rattle.refusal.specs.declared.Refusal.{Refusal}
use Rattle.refusal.proofs.Numbers.{numbered, number_names}
use Rattle.record.specs.declared.Record.{Record}
use Rattle.record.specs.Tables.{Tables}
use Rattle.record.specs.Formed.{sound}
use Rattle.file.specs.File.{file_of}
use Rattle.file.specs.Write.{Written, Outcome, told, after, filled, write_of}

-- 13, beside which cells are needed, never comes out
filled_plain : (file target : List ℕ) → (filled file target).written.refusal ≡ 13 → ⊥
filled_plain file target = go (ltb (length target) (length file)) refl
  where
    go : (b : Bool) → ltb (length target) (length file) ≡ b → (filled file target).written.refusal ≡ 13 → ⊥
    go true e = rw (e, filled) (λ z. omega arith)
    go false e = rw (e, filled) (λ z. omega arith)

write_plain : (u : Record) (t : Tables) (target : List ℕ) → (write_of u t target).written.refusal ≡ 13 → ⊥
unfolding write_of
write_plain u t target = go (sound u t) refl
  where
    go : (b : Bool) → sound u t ≡ b → (write_of u t target).written.refusal ≡ 13 → ⊥
    go true e = rw (e, write_of) (filled_plain (file_of u t) target)
    go false e = rw (e, write_of) (λ z. omega arith)

told_one : (r s : Result ℕ Refusal) → ((told r).refusal ≡ 13 → ⊥) → told r ≡ told s → r ≡ s
told_one (Ok n) (Ok m) h e = ap Ok (ap (λ (w : Written). w.length) e)
told_one (Ok n) (Err b) h e = let q = ap (λ (w : Written). w.refusal) e in absurd (omega (arith, numbered b))
told_one (Err a) (Ok m) h e = let q = ap (λ (w : Written). w.refusal) e in absurd (omega (arith, numbered a))
told_one (Err a) (Err b) h e = ap Err (number_names a b h (ap (λ (w : Written). w.refusal) e))

pub write_one : (u : Record) (t : Tables) (target l m : List ℕ) (r s : Result ℕ Refusal) → after (told r) l ≡ write_of u t target → after (told s) m ≡ write_of u t target
    → r ≡ s
write_one u t target l m r s e f =
    told_one r s (λ z. write_plain u t target (ap (λ (o : Outcome). o.written.refusal) (sym e) ∙ z)) (ap (λ (o : Outcome). o.written) (e ∙ sym f))
