-- The sentence of a fault and that of a refusal, from their forms. Assumes nothing.
use Prim.Native.Nat.{ℕ, ◌≤◌}
use mathlib.Core.Path.{◌≡◌, refl, sym, ap, ap₂, ◌∙◌}
use mathlib.Core.Bool.{true}
use mathlib.Core.List.{List, [], ◌∷◌}
use borrow.Author.Tests.{ne_eqb, leb-true}
use lib.Dec.{eqb, leb}
use lib.ListN.{length}
use Rattle.std.specs.List.{position}
use Rattle.std.proofs.lemmas.List.{map-id}
use Rattle.lists.specs.First.{first_of, place_number}
use Rattle.lists.specs.Members.{All}
use Rattle.lists.proofs.Finding.Firsts.{first_length}
use Rattle.lists.proofs.Finding.Places.{place_first}
use Rattle.refusal.specs.declared.Refusal.{Refusal}
use Rattle.refusal.specs.declared.Refusal.TheVariants.{Inputs, Degree, Vectors, Cells, ShortTables, Beyond, Repeated, Faulty, Dependent, Alike, NotApart, ShortRows, NoPlace, NoUnit, NoVector, ShortTarget, FileLength, BlockCheck, NoFile, ShortForFile, Width, ShortSlab, Registered, Allowance}
use Rattle.refusal.specs.Refusal.{number_of}
use Rattle.build.specs.Built.{Built}
use Rattle.print.specs.Print.{max_fields, fitted}
use Rattle.print.specs.Sentence.{sentence, sentence_of}
use Rattle.print.proofs.Sentences.{sentence_few}
use Rattle.fault.specs.Fault.{Fault}
use Rattle.why.specs.Why.{form_in, fault_forms, long_form, fault_text, built_forms, other_form, vector_at, first_equal, built_text}

-- a key that no entry has
pub form_none : (fs : List (ℕ × List ℕ)) (other : List ℕ) (key : ℕ) → All (λ f. key ≡ f.0 → ⊥) fs → form_in fs other key ≡ other
unfolding form_in
form_none [] other key a = refl
form_none (f ∷ fs) other key a = rw (ne_eqb key f.0 a.0, form_in) (form_none fs other key a.1)

-- a sentence with the form that was looked up
pub said : (numbers out form found : List ℕ) → found ≡ form → leb (length form) max_fields ≡ true → sentence_of form numbers out ≡ fitted (sentence numbers found) out
said numbers out form found e l =
    sym (sentence_few form numbers out (leb-true (length form) max_fields l)) ∙ ap (λ (x : List ℕ). fitted (sentence numbers x) out) (sym e)

module _ (f : Fault) (out form : List ℕ) (short : leb (length form) max_fields ≡ true) where
  pub fault_said : (b : ℕ) → b ≡ f.byte → form_in fault_forms long_form f.cause ≡ form → sentence_of form (f.line ∷ f.column ∷ b ∷ []) out ≡ fitted (fault_text f) out
  unfolding fault_text
  fault_said b z e =
      ap (λ (x : ℕ). sentence_of form (f.line ∷ f.column ∷ x ∷ []) out) z
      ∙ said (f.line ∷ f.column ∷ f.byte ∷ []) out form (form_in fault_forms long_form f.cause) e short

-- the numbers of a refusal, as they were found
pub built_said : (b : Built) (n degree cells : ℕ) (vs out : List ℕ) (r v first : ℕ) → r ≡ b.refusal → v ≡ vector_at vs b.place → first ≡ first_equal v vs
    → fitted (sentence (r ∷ b.place ∷ n ∷ degree ∷ cells ∷ length vs ∷ v ∷ first ∷ []) (form_in built_forms other_form b.refusal)) out
    ≡ fitted (built_text b n degree cells vs) out
unfolding built_text
built_said b n degree cells vs out r v first o p q =
    ap₂ (λ (k : ℕ) (l : List ℕ). fitted (sentence (k ∷ b.place ∷ n ∷ degree ∷ cells ∷ length vs ∷ l) (form_in built_forms other_form b.refusal)) out)
    o
    (ap (λ (x : ℕ). v ∷ x ∷ []) q ∙ ap (λ (x : ℕ). x ∷ first_equal x vs ∷ []) p)

-- ---- the first equal vector

pub first_place : (v : ℕ) (vs : List ℕ) → place_number (position (λ x. eqb x v) vs) ≡ first_equal v vs
unfolding first_equal
first_place v vs = place_first (λ (x : ℕ). x) (λ (x : ℕ). eqb x v) vs ∙ ap (λ (l : List ℕ). first_of (λ before x. eqb x v) l) (map-id vs)

pub equal_low : (v : ℕ) (vs : List ℕ) → first_equal v vs ≤ length vs
unfolding first_equal
equal_low v vs = first_length (λ before x. eqb x v) vs

-- ---- a refusal without a sentence of its own

pub record Other (r : Refusal) : Type 0 where
  pub not_inputs : r ≡ Inputs → ⊥
  pub not_degree : r ≡ Degree → ⊥
  pub not_vectors : r ≡ Vectors → ⊥
  pub not_cells : r ≡ Cells → ⊥
  pub not_beyond : r ≡ Beyond → ⊥
  pub not_repeated : r ≡ Repeated → ⊥
  pub not_apart : r ≡ NotApart → ⊥
  pub placed : (cells : ℕ) → r ≡ NoPlace cells → ⊥

pub form_other : (r : Refusal) → Other r → form_in built_forms other_form (number_of r) ≡ other_form
unfolding form_in
form_other Inputs o = absurd (o.not_inputs refl)
form_other Degree o = absurd (o.not_degree refl)
form_other Vectors o = absurd (o.not_vectors refl)
form_other Cells o = absurd (o.not_cells refl)
form_other Beyond o = absurd (o.not_beyond refl)
form_other Repeated o = absurd (o.not_repeated refl)
form_other NotApart o = absurd (o.not_apart refl)
form_other (NoPlace cells) o = absurd (o.placed cells refl)
form_other ShortTables o = refl
form_other Faulty o = refl
form_other Dependent o = refl
form_other Alike o = refl
form_other ShortRows o = refl
form_other NoUnit o = refl
form_other NoVector o = refl
form_other ShortTarget o = refl
form_other FileLength o = refl
form_other BlockCheck o = refl
form_other NoFile o = refl
form_other ShortForFile o = refl
form_other Width o = refl
form_other ShortSlab o = refl
form_other Registered o = refl
form_other Allowance o = refl
