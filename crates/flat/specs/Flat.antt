-- The flat record of 40 words in which a unit crosses to C and Rust.
use Rattle.std.specs.Prelude.{ℕ, ◌+◌, ◌-◌, ◌*◌, ◌/◌, ◌%◌, ◌^◌, Bool, true, cond, ◌&&◌, List, [], ◌∷◌, ◌++◌, map, eqb, ltb, pos, length, get_or, take, drop, replicate}
use Rattle.std.specs.Int.{w64}
use Rattle.std.proofs.Common.{to_z, of_z}
use Rattle.vectors.specs.declared.Kind.{Kind}
use Rattle.vectors.specs.declared.Kind.TheVariants.{One, Two}
use Rattle.vectors.specs.declared.Part.{Part}
use Rattle.vectors.specs.declared.Part.TheVariants.{Row, Column}
use Rattle.vectors.specs.declared.Variable.{Variable}
use Rattle.record.specs.declared.Record.{Record}
use Rattle.record.specs.Record.{mark_built, mark_number, mark_of}
use Rattle.vectors.specs.Bounds.{max_variables}
use Rattle.vectors.specs.Variable.{blank_variable}

-- a variable's word: i in the lowest 8 bits, j (0 for a single input) in the next 8, and 1 above them for a column variable; a blank one is 0
abbrev pub kind_word : Kind → ℕ
kind_word (One i) = i
kind_word (Two i j) = i + 256 * j

abbrev pub part_word : Part → ℕ
part_word Row = 0
part_word Column = 1

abbrev pub variable_word : Variable → ℕ
variable_word v = kind_word v.kind + 65536 * part_word v.part

abbrev pub kind_at : ℕ → ℕ → Kind
kind_at i j = cond (eqb j 0) (One i) (Two i j)

abbrev pub part_at : ℕ → Part
part_at mark = cond (eqb mark 0) Row Column

-- a variable's word has 17 bits
abbrev pub in_range : ℕ → Bool
in_range w = ltb w (2 ^ 17)

-- the variable of a word's lowest 17 bits
unfoldable pub low_variable : ℕ → Variable
low_variable w = record { kind = kind_at (w % 256) (w / 256 % 256); part = part_at (w / 65536 % 2) }

-- a word with more bits counts as the blank variable, which is faulty
unfoldable pub variable_at : ℕ → Variable
unfolding low_variable
variable_at w = cond (in_range w) (low_variable w) blank_variable

-- where the variables begin, the mark behind them, and the words after it, which are written as 0 and never read
abbrev pub first_variable : ℕ
first_variable = 8

abbrev pub mark_place : ℕ
mark_place = 32

abbrev pub spare_words : ℕ
spare_words = 7

-- the record in 40 words: n, p, n1, k, L, the mask of the kept inputs, the tries, the excess in two's complement, the variables, the mark, and 7 words of 0
unfoldable pub flat_of : Record → List ℕ
flat_of u =
    u.n ∷ u.p ∷ u.n1 ∷ u.k ∷ u.cells ∷ u.kept ∷ u.tries ∷ of_z w64 u.excess ∷ map variable_word u.variables
    ++ (mark_number u.mark ∷ replicate spare_words 0)

-- the variable words of a record
abbrev pub variable_words : List ℕ → List ℕ
variable_words words = take max_variables (drop first_variable words)

-- the variables of the first 24 words by their lowest 17 bits, blank ones where the words are fewer
unfoldable pub low_variables : List ℕ → List Variable
unfolding low_variable
low_variables words = map low_variable (take max_variables words) ++ replicate (max_variables - length words) blank_variable

-- the unit of a record, with these variables
unfoldable pub unit_with : List ℕ → List Variable → Record
unit_with words variables =
    record {
      n = get_or words 0 0;
      p = get_or words 1 0;
      n1 = get_or words 2 0;
      k = get_or words 3 0;
      cells = get_or words 4 0;
      kept = get_or words 5 0;
      tries = get_or words 6 0;
      excess = to_z w64 (get_or words 7 0);
      variables = variables;
      mark = mark_of (get_or words mark_place 0);
    }

-- the unit of a record whose variable words are in range
unfoldable pub unit_at : List ℕ → Record
unfolding unit_with low_variables
unit_at words = unit_with words (low_variables (variable_words words))

unfoldable pub all_in_range : List ℕ → Bool
all_in_range [] = true
all_in_range (w ∷ ws) = in_range w && all_in_range ws

-- a record of k vectors that lookup refuses as 14: no input
abbrev pub unreadable : ℕ → Record
unreadable k =
    record { n = 0; p = 0; n1 = 0; k = k; cells = 0; kept = 0; tries = 0; excess = pos 0; variables = replicate max_variables blank_variable; mark = mark_built }

-- the unit of any record: one that is refused where a word is no variable's
unfoldable pub unit_seen : List ℕ → Record
unfolding all_in_range unit_at
unit_seen words = cond (all_in_range (variable_words words)) (unit_at words) (unreadable (get_or words 3 0))
