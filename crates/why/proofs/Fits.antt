-- Every line that is written is short, so that a target of a page gets it whole. Assumes nothing.
use Prim.Native.Nat.{ℕ, zero, suc, ◌^◌, ◌≤◌, ◌<◌}
use native.Mathlib.Omega.{arith}
use mathlib.Core.Path.{◌≡◌, refl, ap}
use mathlib.Core.Bool.{Bool, true, false}
use mathlib.Core.List.{List, [], ◌∷◌, map}
use borrow.Author.Tests.{leb-true}
use lib.Dec.{eqb, leb}
use lib.ListN.{length, get_or, drop, length-drop, length-map}
use Rattle.lists.specs.Members.{All, every}
use Rattle.lists.proofs.Tests.{and_true}
use Rattle.lists.proofs.Entries.Alls.{all_drop}
use Rattle.lists.proofs.Finding.Firsts.{first_length}
use Rattle.build.specs.Built.{Built}
use Rattle.build.specs.Build.{Outcome}
use Rattle.build.proofs.Places.{chosen_place}
use Rattle.input.specs.Fields.{fields}
use Rattle.input.specs.Decimal.{max_number, value_of, good_field}
use Rattle.input.specs.Input.{max_listed, body, good_text, numbers_in}
use Rattle.print.specs.Sentence.{sentence}
use Rattle.print.proofs.Sentences.{widest, sentence_low}
use Rattle.answer.specs.Make.{roomy, program_allowance, make_of}
use Rattle.answer.proofs.Makes.{of_builds}
use Rattle.answer.proofs.Fits.Refused.{chosen_number}
use Rattle.fault.specs.Fault.{Fault}
use Rattle.fault.specs.Fault.{fault_of}
use Rattle.why.specs.Why.{line_size, form_in, fault_forms, long_form, fault_text, built_forms, other_form, vector_at, first_equal, built_text, why_of}
use Rattle.fault.proofs.Scanning.Judging.{field_parts}
use Rattle.fault.proofs.Faults.{good_says}
use Rattle.fault.proofs.Told.{Told, fault_told}
use Rattle.why.proofs.Whys.{why_bad, why_good, make_good}

-- ---- forms

-- whether a form with so many numbers is short enough
narrow : ℕ → List ℕ → Bool
narrow n form = leb (widest n form) line_size

form_narrow : (n : ℕ) (fs : List (ℕ × List ℕ)) (other : List ℕ) (key : ℕ) → every (λ f. narrow n f.1) fs ≡ true → narrow n other ≡ true → narrow n (form_in fs other key) ≡ true
unfolding form_in every
form_narrow n [] other key a o = o
form_narrow n (f ∷ fs) other key a o = go (eqb key f.0) refl (form_narrow n fs other key p.1 o)
  where
    p : (narrow n f.1 ≡ true) × (every (λ f. narrow n f.1) fs ≡ true)
    p = and_true (narrow n f.1) (every (λ f. narrow n f.1) fs) a

    go : (t : Bool) → eqb key f.0 ≡ t → narrow n (form_in fs other key) ≡ true → narrow n (form_in (f ∷ fs) other key) ≡ true
    go true e r = rw (e, form_in) p.0
    go false e r = rw (e, form_in) r

-- words at every place
words_at : (l : List ℕ) → All (λ x. x ≤ max_number) l → (i : ℕ) → get_or l i 0 ≤ max_number
words_at [] a i = omega arith
words_at (x ∷ l) a zero = a.0
words_at (x ∷ l) a (suc i) = words_at l a.1 i

said_low : (ns form : List ℕ) → All (λ x. x ≤ max_number) ns → narrow (length ns) form ≡ true → length (sentence ns form) ≤ line_size
unfolding narrow
said_low ns form a n =
    omega (arith, sentence_low ns (λ i. omega (arith, words_at ns a i)) form, leb-true (widest (length ns) form) line_size n)

-- ---- faults

fault_low : (f : Fault) → Told f → length (fault_text f) ≤ line_size
unfolding fault_text every narrow widest
fault_low f t =
    said_low (f.line ∷ f.column ∷ f.byte ∷ []) (form_in fault_forms long_form f.cause)
    (omega (arith, t.line), (omega (arith, t.column), (omega (arith, t.byte), tt)))
    (form_narrow 3 fault_forms long_form f.cause refl refl)

-- ---- what a build answers

numbers_low : (fs : List (List ℕ)) → every good_field fs ≡ true → All (λ x. x ≤ max_number) (map value_of fs)
unfolding every value_of
numbers_low [] e = tt
numbers_low (f ∷ fs) e =
    let p = and_true (good_field f) (every good_field fs) e in
    (((field_parts f).0 p.0).2, numbers_low fs p.1)

numbers_all : (text : List ℕ) → every good_field (fields (body text)) ≡ true → All (λ x. x ≤ max_number) (numbers_in text)
unfolding numbers_in
numbers_all text e = numbers_low (fields (body text)) e

numbers_length : (text : List ℕ) → length (numbers_in text) ≡ length (fields (body text))
unfolding numbers_in
numbers_length text = length-map (fields (body text)) value_of

built_low : (b : Built) (n degree cells : ℕ) (vs : List ℕ) → b.refusal ≤ max_number → b.place ≤ max_number → n ≤ max_number → degree ≤ max_number → cells ≤ max_number
    → length vs ≤ max_number → All (λ x. x ≤ max_number) vs → length (built_text b n degree cells vs) ≤ line_size
unfolding built_text first_equal every narrow widest
built_low b n degree cells vs hr hp hn hd hc hk a =
    let v = vector_at vs b.place in
    said_low (b.refusal ∷ b.place ∷ n ∷ degree ∷ cells ∷ length vs ∷ v ∷ first_equal v vs ∷ []) (form_in built_forms other_form b.refusal)
    (hr, (hp, (hn, (hd, (hc, (hk, (words_at (0 ∷ vs) (omega arith, a) b.place, (omega (arith, first_length (λ before x. eqb x v) vs), tt))))))))
    (form_narrow 8 built_forms other_form b.refusal refl refl)

-- ---- every text

pub why_fits : (text : List ℕ) → length (why_of text) ≤ line_size
why_fits text = go (good_text text max_listed) refl
  where
    go : (t : Bool) → good_text text max_listed ≡ t → length (why_of text) ≤ line_size
    go false q = omega (arith, ap length (why_bad text q), fault_low (fault_of text) (fault_told text))
    go true q =
        let g = good_says text q in
        let ns = numbers_in text in
        let a : All (λ x. x ≤ max_number) ns = numbers_all text g.numbers in
        let m = make_good text q in
        let r = of_builds (λ (o : Outcome). o.built.refusal ≤ 13) chosen_number text roomy m in
        let p = of_builds (λ (o : Outcome). o.built.place < 2 ^ 12) (λ n degree cells vs t. chosen_place n degree cells program_allowance vs t) text roomy m in
        omega (
          arith,
          ap length (why_good text q),
          built_low (make_of text roomy).outcome.built (get_or ns 0 0) (get_or ns 1 0) (get_or ns 2 0) (drop 3 ns) (omega arith) (omega arith) (words_at ns a 0) (words_at ns a 1) (words_at ns a 2)
              (omega (arith, length-drop 3 ns, numbers_length text, g.few))
              (all_drop (λ x. x ≤ max_number) 3 ns a),
        )
