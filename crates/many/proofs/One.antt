-- One answer alone is told as the definition of many lookups says. Assumes nothing.
use Prim.Native.Nat.{ℕ, zero, suc}
use native.Mathlib.Omega.{arith}
use mathlib.Core.Path.{◌≡◌, refl, sym, ap, ap₂, ◌∙◌}
use mathlib.Core.Bool.{Bool, true, false}
use mathlib.Core.List.{List, [], ◌∷◌}
use lib.Dec.{ltb}
use lib.ListN.{length}
use Rattle.std.proofs.Common.{Result, Ok, Err}
use Rattle.refusal.specs.declared.Refusal.{Refusal}
use Rattle.refusal.specs.declared.Refused.{Refused}
use Rattle.refusal.proofs.Numbers.{numbered, number_names}
use Rattle.record.specs.declared.Record.{Record}
use Rattle.record.specs.Tables.{Tables}
use Rattle.lookup.specs.Lookup.{Found, lookup_of}
use Rattle.lookup.proofs.Indices.{found_plain}
use Rattle.many.specs.Lookups.{Many, Left, told, or_else, first_refused, left, left_by, lookup_many}

-- ---- 13, beside which cells are needed, never comes out

abbrev Plain : Many → Type 0
Plain m = m.refusal ≡ 13 → ⊥

else_plain : (n place : ℕ) (m : Many) → (n ≡ 13 → ⊥) → Plain m → Plain (or_else n place m)
unfolding or_else
else_plain zero place m h k = k
else_plain (suc r) place m h k = h

module _ (look : ℕ → Found) (h : (x : ℕ) → (look x).refusal ≡ 13 → ⊥) where
  first_plain : (i : ℕ) (keys : List ℕ) → Plain (first_refused look i keys)
  unfolding first_refused
  first_plain i [] = λ z. omega arith
  first_plain i (x ∷ xs) = else_plain (look x).refusal i (first_refused look (suc i) xs) (h x) (first_plain (suc i) xs)

  many_plain : (keys old : List ℕ) → Plain (lookup_many look keys old).answer
  unfolding lookup_many left_by
  many_plain keys old = go (ltb (length old) (length keys)) refl
    where
      go : (b : Bool) → ltb (length old) (length keys) ≡ b → Plain (lookup_many look keys old).answer
      go true e = rw e (λ z. omega arith)
      go false e = rw e (first_plain 1 keys)

-- ---- one answer

told_one : (r s : Result (Unit {0}) Refused) → Plain (told r) → told r ≡ told s → r ≡ s
told_one (Ok u) (Ok v) h e = refl
told_one (Ok u) (Err b) h e = let q = ap (λ (m : Many). m.refusal) e in absurd (omega (arith, numbered b.refusal))
told_one (Err a) (Ok v) h e = let q = ap (λ (m : Many). m.refusal) e in absurd (omega (arith, numbered a.refusal))
told_one (Err a) (Err b) h e =
    ap₂ (λ (r : Refusal) (p : ℕ). Err (record { refusal = r; place = p }))
    (number_names a.refusal b.refusal h (ap (λ (m : Many). m.refusal) e))
    (ap (λ (m : Many). m.place) e)

pub many_one : (u : Record) (t : Tables) (keys old l m : List ℕ) (r s : Result (Unit {0}) Refused) → left (told r) l ≡ lookup_many (lookup_of u t) keys old
    → left (told s) m ≡ lookup_many (lookup_of u t) keys old → r ≡ s
many_one u t keys old l m r s e f =
    told_one r s
    (λ z. many_plain (lookup_of u t) (found_plain u t) keys old (ap (λ (a : Left). a.answer.refusal) (sym e) ∙ z))
    (ap (λ (a : Left). a.answer) (e ∙ sym f))
