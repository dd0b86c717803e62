-- The numbers of the refusals.
use Rattle.std.specs.Prelude.{ℕ}
use Rattle.refusal.specs.declared.Refusal.{Refusal}
use Rattle.refusal.specs.declared.Refusal.TheVariants.{Inputs, Degree, Vectors, Cells, ShortTables, Beyond, Repeated, Faulty, Dependent, Alike, NotApart, ShortRows, NoPlace, NoUnit, NoVector, ShortTarget, FileLength, BlockCheck, NoFile, ShortForFile, Width, ShortSlab, Registered, Allowance}

-- SCOPE 11.1, 22.2: the number of a refusal
abbrev pub number_of : Refusal → ℕ
number_of Inputs = 1
number_of Degree = 2
number_of Vectors = 3
number_of Cells = 4
number_of ShortTables = 5
number_of Beyond = 6
number_of Repeated = 7
number_of Faulty = 8
number_of Dependent = 9
number_of Alike = 10
number_of NotApart = 11
number_of ShortRows = 12
number_of (NoPlace cells) = 13
number_of NoUnit = 14
number_of NoVector = 15
number_of ShortTarget = 20
number_of FileLength = 21
number_of BlockCheck = 22
number_of NoFile = 23
number_of ShortForFile = 24
number_of Width = 30
number_of ShortSlab = 31
number_of Registered = 40
number_of Allowance = 41

-- SCOPE 11.9: the cells that are needed beside 13; 0 beside the others
abbrev pub needed_of : Refusal → ℕ
needed_of (NoPlace cells) = cells
needed_of Inputs = 0
needed_of Degree = 0
needed_of Vectors = 0
needed_of Cells = 0
needed_of ShortTables = 0
needed_of Beyond = 0
needed_of Repeated = 0
needed_of Faulty = 0
needed_of Dependent = 0
needed_of Alike = 0
needed_of NotApart = 0
needed_of ShortRows = 0
needed_of NoUnit = 0
needed_of NoVector = 0
needed_of ShortTarget = 0
needed_of FileLength = 0
needed_of BlockCheck = 0
needed_of NoFile = 0
needed_of ShortForFile = 0
needed_of Width = 0
needed_of ShortSlab = 0
needed_of Registered = 0
needed_of Allowance = 0
