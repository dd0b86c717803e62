-- Where a text stops being a list, and what is at fault there (SCOPE 14.11): the text read byte by byte, up to the first fault.
use Rattle.std.specs.Prelude.{ℕ, zero, suc, ◌+◌, ◌-◌, ◌*◌, ◌%◌, true, false, cond, List, [], ◌∷◌, eqb, leb, ltb, Option, Some, None, Result, Ok, Err}
use Rattle.input.specs.Fields.{separator}
use Rattle.input.specs.Decimal.{max_number, digit}
use Rattle.input.specs.Input.{max_text, max_listed}
use Rattle.fault.specs.declared.State.{State}
use Rattle.fault.specs.declared.Fault as code
use Rattle.fault.specs.declared.Place.{Place}
use Rattle.fault.specs.declared.Cause.{Cause}
use Rattle.fault.specs.declared.Cause.TheVariants.{NoDigit, EndBefore, OtherByte, LargeNumber, FewNumbers, ManyVectors, LongText}

-- the separators (SCOPE 14.1)
abbrev pub space : ℕ
space = 32

abbrev pub newline : ℕ
newline = 10

-- the causes, by number; 0 is none
abbrev pub no_digit : ℕ
no_digit = 1

abbrev pub end_before : ℕ
end_before = 2

abbrev pub other_byte : ℕ
other_byte = 3

abbrev pub large_number : ℕ
large_number = 4

abbrev pub few_numbers : ℕ
few_numbers = 5

abbrev pub many_vectors : ℕ
many_vectors = 6

abbrev pub long_text : ℕ
long_text = 7

-- the number of a cause, and 0 for none
abbrev pub number_of : Cause → ℕ
number_of NoDigit = no_digit
number_of EndBefore = end_before
number_of OtherByte = other_byte
number_of LargeNumber = large_number
number_of FewNumbers = few_numbers
number_of ManyVectors = many_vectors
number_of LongText = long_text

abbrev pub number_or_none : Option Cause → ℕ
number_or_none (Some c) = number_of c
number_or_none None = 0

-- what is at fault, and where; cause 0 where nothing is
pub record Fault : Type 0 where
  pub cause : ℕ
  pub line : ℕ
  pub column : ℕ
  pub byte : ℕ

-- n, the degree and L, and then the vectors
abbrev pub max_numbers : ℕ
max_numbers = 3 + max_listed

-- before the first byte, as if after a space: a number has to begin
abbrev pub at_start : State
at_start = record { at = 0; line = 1; column = 1; count = 0; last = space; value = 0 }

-- how many numbers have begun, with the one that the next byte, a digit, stands in: it begins one after a separator
abbrev pub counted : State → ℕ
counted s = cond (separator s.last) (s.count + 1) s.count

-- the value of that number up to the digit
abbrev pub grown : State → ℕ → ℕ
grown s b = 10 * s.value + (b - 48)

-- what is at fault with the next byte
unfoldable pub cause_at : State → ℕ → ℕ
cause_at s b =
    elim (leb max_text s.at) [
      | true ↦ long_text
      | false ↦ elim (separator b) [
        | true ↦ cond (separator s.last) no_digit 0
        | false ↦ elim (digit b) [
          | true ↦ cond (ltb max_numbers (counted s)) many_vectors (cond (leb (grown s b) max_number) 0 large_number)
          | false ↦ cond (separator s.last) no_digit other_byte
        ]
      ]
    ]

-- what is at fault with the end: after a space a number has to begin, after a final newline none has to
unfoldable pub cause_end : State → ℕ
cause_end s = cond (eqb s.last space) end_before (cond (leb 3 s.count) 0 few_numbers)

-- past a byte that is not at fault
unfoldable pub past : State → ℕ → State
past s b =
    record {
      at = s.at + 1;
      line = cond (eqb b newline) (s.line + 1) s.line;
      column = cond (eqb b newline) 1 (s.column + 1);
      count = counted s;
      last = b;
      value = cond (separator b) 0 (grown s b);
    }

-- a cause at the place that was reached; a byte is below 256
abbrev pub fault_at : State → ℕ → ℕ → Fault
fault_at s cause b = record { cause = cause; line = s.line; column = s.column; byte = b % 256 }

-- the first fault from a place on; cause 0 where there is none
unfoldable pub fault_from : State → List ℕ → Fault
unfolding cause_at cause_end past
fault_from s [] = fault_at s (cause_end s) 0
fault_from s (b ∷ bs) = elim (cause_at s b) [ zero ↦ fault_from (past s b) bs | suc c ↦ fault_at s (suc c) b ]

unfoldable pub fault_of : List ℕ → Fault
unfolding fault_from
fault_of text = fault_from at_start text

-- what was found, by numbers: of a list the place of its end, with no cause
abbrev pub told : Result Place code.Fault → Fault
told (Ok p) = record { cause = 0; line = p.line; column = p.column; byte = 0 }
told (Err f) = record { cause = number_of f.cause; line = f.line; column = f.column; byte = f.byte }
