-- Whether record and tables are well formed, and whether they are sound.
use Rattle.std.specs.Prelude.{◌-◌, ◌^◌, Bool, not, ◌&&◌, eqb, leb, ltb, length}
use Rattle.std.specs.Int.Count.{ones}
use Rattle.lists.specs.First.{first_of}
use Rattle.vectors.specs.Bounds.{max_inputs, max_vectors, max_cells, outside, too_many}
use Rattle.vectors.specs.Variable.{first_faulty}
use Rattle.span.specs.Span.{first_dependent, sound_of}
use Rattle.record.specs.declared.Record.{Record}
use Rattle.record.specs.Record.{kinds_in}
use Rattle.record.specs.Tables.{Tables}

-- SCOPE 13.1: n, k and L are in bounds, no more variables than inputs, and no side too large
abbrev pub is_in_bounds : Record → Bool
is_in_bounds u =
    not (outside 1 max_inputs u.n) && not (outside 1 max_vectors u.k) && not (outside 1 max_cells u.cells)
    && leb u.p u.n && not (too_many u.p u.n1)

-- SCOPE 13.1: as many kept inputs as the variables leave over, none past n
abbrev pub right_kept : Record → Bool
right_kept u = eqb (ones u.kept) (u.n - u.p) && ltb u.kept (2 ^ u.n)

-- SCOPE 13.1: the variables are not faulty, and the kept inputs are right
abbrev pub right_inputs : Record → Bool
right_inputs u = eqb (first_faulty u.n (kinds_in u)) 0 && eqb (ones u.kept) (u.n - u.p) && ltb u.kept (2 ^ u.n)

-- SCOPE 13.1: the tables have a word for each row, each cell, and each vector and one more
abbrev pub long_enough : Record → Tables → Bool
long_enough u t = leb (2 ^ u.n1) (length t.h) && leb u.cells (length t.g) && ltb u.k (length t.aux)

-- SCOPE 13.1
unfoldable pub well_formed : Record → Tables → Bool
unfolding first_of ones
well_formed u t = is_in_bounds u && right_inputs u && long_enough u t

-- well formed but for the variables
unfoldable pub framed_by : Record → Tables → Bool
unfolding ones
framed_by u t = is_in_bounds u && right_kept u && long_enough u t

-- SCOPE 13.2, but for the kept inputs and the tables: the numbers are in bounds, and no variable is faulty or an XOR of earlier ones
unfoldable pub right_record : Record → Bool
unfolding first_of first_dependent
right_record u = is_in_bounds u && eqb (first_faulty u.n (kinds_in u)) 0 && eqb (first_dependent (kinds_in u)) 0

-- SCOPE 13.2: well formed, the variables independent, and the kept inputs those of the rule
unfoldable pub sound : Record → Tables → Bool
unfolding well_formed sound_of
sound u t = well_formed u t && sound_of u.n (kinds_in u) u.kept
