-- One answer alone is told as the definition of reading says. Assumes nothing.
use Prim.Native.Nat.{ℕ, ◌/◌}
use native.Mathlib.Omega.{arith}
use mathlib.Core.Path.{◌≡◌, refl, sym, ap, ◌∙◌}
use mathlib.Core.Bool.{Bool, true, false}
use mathlib.Core.List.{List}
use lib.ListN.{length}
use Rattle.std.proofs.Common.{Result, Ok, Err}
use Rattle.refusal.specs.declared.Refusal.{Refusal}
use Rattle.refusal.proofs.Numbers.{numbered, number_names}
use Rattle.record.specs.declared.Record.{Record}
use Rattle.record.specs.Tables.{Tables}
use Rattle.record.specs.Formed.{long_enough}
use Rattle.block.specs.Block.{block_size}
use Rattle.file.specs.Decode.{record_in}
use Rattle.file.specs.Read.{Reading, no_blocks, right_checks, is_file, read_unit, read_of}
use Rattle.load.specs.Load.{Loaded, told, after}

-- ---- 13, beside which cells are needed, never comes out

abbrev Plain : Reading → Type 0
Plain r = r.refusal ≡ 13 → ⊥

unit_plain : (u : Record) (file : List ℕ) (t : Tables) → Plain (read_unit u file t)
unit_plain u file t = go (long_enough u t) refl
  where
    go : (b : Bool) → long_enough u t ≡ b → Plain (read_unit u file t)
    go true e = rw (e, read_unit) (λ z. omega arith)
    go false e = rw (e, read_unit) (λ z. omega arith)

module _ (file : List ℕ) (t : Tables) where
  read_plain : Plain (read_of file t)
  unfolding read_of
  read_plain = blocks (no_blocks file) refl
    where
      whole : no_blocks file ≡ false → right_checks (length file / block_size) file ≡ true → (b : Bool) → is_file file ≡ b → Plain (read_of file t)
      whole f g true e = rw (f, g, e, read_of) (unit_plain (record_in file) file t)
      whole f g false e = rw (f, g, e, read_of) (λ z. omega arith)

      checked : no_blocks file ≡ false → (b : Bool) → right_checks (length file / block_size) file ≡ b → Plain (read_of file t)
      checked f true e = whole f e (is_file file) refl
      checked f false e = rw (f, e, read_of) (λ z. omega arith)

      blocks : (b : Bool) → no_blocks file ≡ b → Plain (read_of file t)
      blocks true e = rw (e, read_of) (λ z. omega arith)
      blocks false e = checked e (right_checks (length file / block_size) file) refl

-- ---- one answer

told_one : (r s : Result Record Refusal) → ((told r).refusal ≡ 13 → ⊥) → told r ≡ told s → r ≡ s
told_one (Ok u) (Ok v) h e = ap Ok (ap (λ (l : Loaded). l.unit) e)
told_one (Ok u) (Err b) h e = let q = ap (λ (l : Loaded). l.refusal) e in absurd (omega (arith, numbered b))
told_one (Err a) (Ok v) h e = let q = ap (λ (l : Loaded). l.refusal) e in absurd (omega (arith, numbered a))
told_one (Err a) (Err b) h e = ap Err (number_names a b h (ap (λ (l : Loaded). l.refusal) e))

abbrev loaded : Reading → Loaded
loaded r = record { refusal = r.refusal; place = r.place; unit = r.unit }

pub read_one : (file : List ℕ) (t v w : Tables) (r s : Result Record Refusal) → after (told r) v ≡ read_of file t → after (told s) w ≡ read_of file t → r ≡ s
read_one file t v w r s e f = told_one r s (λ z. read_plain file t (ap (λ (a : Reading). a.refusal) (sym e) ∙ z)) (ap loaded (e ∙ sym f))
