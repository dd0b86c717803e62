-- Why a text is not taken, in one line (SCOPE 14.10 to 14.13).
use Rattle.std.specs.Prelude.{ℕ, Bool, true, false, List, [], ◌∷◌, eqb, length, get_or, drop}
use Rattle.lists.specs.First.{first_of}
use Rattle.build.specs.Built.{Built}
use Rattle.input.specs.Input.{max_listed, good_text, numbers_in}
use Rattle.print.specs.Ascii.{ascii}
use Rattle.print.specs.Sentence.{sentence}
use Rattle.answer.specs.Make.{roomy, make_of}
use Rattle.fault.specs.Fault.{Fault}
use Rattle.fault.specs.Fault.{no_digit, end_before, other_byte, large_number, few_numbers, many_vectors, fault_of}

-- bytes that every line fits into
abbrev pub line_size : ℕ
line_size = 256

-- the entry of a table that has a key; the other one where none has
unfoldable pub form_in : List (ℕ × List ℕ) → List ℕ → ℕ → List ℕ
form_in [] other key = other
form_in (f ∷ fs) other key = elim (eqb key f.0) [ true ↦ f.1 | false ↦ form_in fs other key ]

-- SCOPE 14.12: of each cause its sentence. A is the line, B the column, C the byte
abbrev pub fault_forms : List (ℕ × List ℕ)
fault_forms =
    (no_digit, ascii "line A column B: byte C, where a digit is expected\n")
    ∷ (end_before, ascii "line A column B: the end, where a digit is expected\n")
    ∷ (other_byte, ascii "line A column B: byte C, where a digit, a space or a newline is expected\n")
    ∷ (large_number, ascii "line A column B: byte C, where a number of at most 18446744073709551615 is expected\n")
    ∷ (few_numbers, ascii "line A column B: the end, where one of the first three numbers is expected\n")
    ∷ (many_vectors, ascii "line A column B: byte C, where the end, after 1024 vectors, is expected\n")
    ∷ []

-- of the last cause, a text that is too long
abbrev pub long_form : List ℕ
long_form = ascii "line A column B: byte C, where the end, after 65536 bytes, is expected\n"

unfoldable pub fault_text : Fault → List ℕ
unfolding form_in sentence
fault_text f = sentence (f.line ∷ f.column ∷ f.byte ∷ []) (form_in fault_forms long_form f.cause)

-- SCOPE 14.13: of each refusal its sentence; 0 is none. A is the refusal, B its place, C is n, D the degree, E is L, F the number of vectors,
-- G the vector at the place, H the number of the first vector that equals it
abbrev pub built_forms : List (ℕ × List ℕ)
built_forms =
    (0, ascii "good\n")
    ∷ (1, ascii "refused A B: n is C\n")
    ∷ (2, ascii "refused A B: the degree is D\n")
    ∷ (3, ascii "refused A B: the list has F vectors\n")
    ∷ (4, ascii "refused A B: L is E\n")
    ∷ (6, ascii "refused A B: vector B is G\n")
    ∷ (7, ascii "refused A B: vector B is G, and so is vector H\n")
    ∷ (11, ascii "refused A B: 24 variables do not tell the vectors apart\n")
    ∷ (13, ascii "refused A B: row B has no place\n")
    ∷ []

-- of any other refusal
abbrev pub other_form : List ℕ
other_form = ascii "refused A B\n"

-- the vector with a number, from 1; 0 where there is none
abbrev pub vector_at : List ℕ → ℕ → ℕ
vector_at vs place = get_or (0 ∷ vs) place 0

-- the number, from 1, of the first vector that equals v; 0 for none
unfoldable pub first_equal : ℕ → List ℕ → ℕ
unfolding first_of
first_equal v vs = first_of (λ before x. eqb x v) vs

unfoldable pub built_text : Built → ℕ → ℕ → ℕ → List ℕ → List ℕ
unfolding form_in sentence first_equal
built_text b n degree cells vs =
    let v = vector_at vs b.place in
    sentence (b.refusal ∷ b.place ∷ n ∷ degree ∷ cells ∷ length vs ∷ v ∷ first_equal v vs ∷ []) (form_in built_forms other_form b.refusal)

-- what the build of the numbers ns answered
abbrev pub answered_text : Built → List ℕ → List ℕ
answered_text b ns = built_text b (get_or ns 0 0) (get_or ns 1 0) (get_or ns 2 0) (drop 3 ns)

-- SCOPE 14.10. Of a text that is no list, where it stops being one; of a list, what its build answers
unfoldable pub why_by : Bool → List ℕ → List ℕ
unfolding fault_text fault_of built_text make_of numbers_in
why_by t text =
    elim t [
      | true ↦ answered_text (make_of text roomy).outcome.built (numbers_in text)
      | false ↦ fault_text (fault_of text)
    ]

unfoldable pub why_of : List ℕ → List ℕ
unfolding why_by good_text
why_of text = why_by (good_text text max_listed) text
