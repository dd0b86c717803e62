-- The line for a text, from what is read, scanned and built. Assumes nothing.
use Prim.Native.Nat.{ℕ}
use mathlib.Core.Path.{◌≡◌, sym, ap, ◌∙◌}
use mathlib.Core.Bool.{Bool, true, false, true≢false}
use mathlib.Core.List.{List}
use borrow.Author.Tests.{eq-eqb}
use lib.ListN.{get_or, drop}
use Rattle.build.specs.Built.{Built}
use Rattle.input.specs.Input.{Input}
use Rattle.input.specs.Input.{max_listed, good_text, numbers_in, input_from, input_of}
use Rattle.answer.specs.Make.{roomy, make_of}
use Rattle.answer.proofs.Makes.{read_is, from_numbers}
use Rattle.fault.specs.Fault.{Fault, fault_of}
use Rattle.fault.proofs.Faults.{fault_iff}
use Rattle.why.specs.Facts.{GoesByFault}
use Rattle.why.specs.Why.{fault_text, built_text, answered_text, why_by, why_of}

pub why_bad : (text : List ℕ) → good_text text max_listed ≡ false → fault_text (fault_of text) ≡ why_of text
unfolding why_of why_by
why_bad text b = rw (b, why_by)

pub why_good : (text : List ℕ) → good_text text max_listed ≡ true → answered_text (make_of text roomy).outcome.built (numbers_in text) ≡ why_of text
unfolding why_of why_by
why_good text y = rw (y, why_by)

pub why_tells : GoesByFault
unfolding why_of
why_tells text = ap (λ (t : Bool). why_by t text) (sym (fault_iff text))

-- a text that is no list has a fault
pub fault_some : (text : List ℕ) → good_text text max_listed ≡ false → (f : Fault) → f ≡ fault_of text → f.cause ≡ 0 → ⊥
fault_some text b f e z =
    let none : (fault_of text).cause ≡ 0 = ap (λ (x : Fault). x.cause) (sym e) ∙ z in
    true≢false (sym (eq-eqb (fault_of text).cause 0 none) ∙ fault_iff text ∙ b)

-- a list is built
pub make_good : (text : List ℕ) → good_text text max_listed ≡ true → (make_of text roomy).good ≡ true
unfolding make_of
make_good text y = rw (y, make_of)

module _ (text : List ℕ) (i : Input) (e : i ≡ input_of text max_listed) where
  pub said_good : i.good ≡ true → (b : Built) (vs : List ℕ) → b ≡ (make_of text roomy).outcome.built → vs ≡ drop 3 (numbers_in text)
      → built_text b i.n i.degree i.cells vs ≡ why_of text
  unfolding input_from
  said_good y b vs p q =
      ap (λ (j : Input). built_text b j.n j.degree j.cells vs) (from_numbers text i e y)
      ∙ ap (λ (l : List ℕ). built_text b (get_or (numbers_in text) 0 0) (get_or (numbers_in text) 1 0) (get_or (numbers_in text) 2 0) l) q
      ∙ ap (λ (x : Built). answered_text x (numbers_in text)) p
      ∙ why_good text (read_is text i e y)
