-- One answer alone is told as the definition of recovery says. Assumes nothing.
use Prim.Native.Nat.{ℕ, zero, suc}
use native.Mathlib.Omega.{arith}
use mathlib.Core.Path.{◌≡◌, refl, sym, ap, ◌∙◌}
use mathlib.Core.Bool.{Bool, true, false}
use lib.ListN.{get_or}
use Rattle.std.proofs.Common.{Result, Ok, Err}
use Rattle.refusal.specs.declared.Refusal.{Refusal}
use Rattle.refusal.proofs.Numbers.{numbered, number_names}
use Rattle.vectors.specs.Bounds.{outside}
use Rattle.record.specs.declared.Record.{Record}
use Rattle.record.specs.Tables.{Tables}
use Rattle.record.specs.Formed.{well_formed}
use Rattle.recover.specs.Recover.{Recovered, told, first_cell, fixes, vector_at, from_cell, recover_of}
use Rattle.recover.proofs.Recovery.{from_none, from_held, recover_unformed, recover_outside, recover_from}

abbrev Plain : Recovered → Type 0
Plain r = r.refusal ≡ 13 → ⊥

module _ (u : Record) (t : Tables) (i : ℕ) where
  at_plain : (word cell : ℕ) → Plain (vector_at u t word cell)
  unfolding vector_at
  at_plain word cell = go (fixes u t word cell) refl
    where
      go : (b : Bool) → fixes u t word cell ≡ b → Plain (vector_at u t word cell)
      go true e = rw (e, vector_at) (λ z. omega arith)
      go false e = rw (e, vector_at) (λ z. omega arith)

  from_plain : (word number : ℕ) → Plain (from_cell u t word number)
  from_plain word zero = rw (← from_none u t word 0 refl) (λ z. omega arith)
  from_plain word (suc cell) = rw (← from_held u t word (suc cell) cell refl) (at_plain word cell)

  plain : Plain (recover_of u t i)
  plain = formed (well_formed u t) refl
    where
      numbered' : well_formed u t ≡ true → (b : Bool) → outside 1 u.k i ≡ b → Plain (recover_of u t i)
      numbered' f true o = rw (← recover_outside u t i f o) (λ z. omega arith)
      numbered' f false o = rw (← recover_from u t i f o) (from_plain (get_or t.aux i 0) (first_cell u t i))

      formed : (b : Bool) → well_formed u t ≡ b → Plain (recover_of u t i)
      formed false f = rw (← recover_unformed u t i f) (λ z. omega arith)
      formed true f = numbered' f (outside 1 u.k i) refl

told_one : (r s : Result ℕ Refusal) → Plain (told r) → told r ≡ told s → r ≡ s
told_one (Ok v) (Ok w) h e = ap Ok (ap (λ (r : Recovered). r.vector) e)
told_one (Ok v) (Err b) h e = let q = ap (λ (r : Recovered). r.refusal) e in absurd (omega (arith, numbered b))
told_one (Err a) (Ok w) h e = let q = ap (λ (r : Recovered). r.refusal) e in absurd (omega (arith, numbered a))
told_one (Err a) (Err b) h e = ap Err (number_names a b h (ap (λ (r : Recovered). r.refusal) e))

pub recover_one : (u : Record) (t : Tables) (i : ℕ) (r s : Result ℕ Refusal) → told r ≡ recover_of u t i → told s ≡ recover_of u t i → r ≡ s
recover_one u t i r s e f = told_one r s (λ z. plain u t i (ap (λ (g : Recovered). g.refusal) (sym e) ∙ z)) (e ∙ sym f)
