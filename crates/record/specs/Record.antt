-- The record of a unit, and what is worked out for it.
use Rattle.std.specs.Prelude.{ℕ, suc, ◌-◌, ◌^◌, cond, List, ◌++◌, map, leb, eqb, ℤ, pos, length, take, drop, replicate}
use Rattle.std.proofs.Math.IntN.{sub_ℕ}
use Rattle.lists.specs.First.{first_from}
use Rattle.vectors.specs.declared.Kind.{Kind}
use Rattle.vectors.specs.declared.Part.TheVariants.{Row, Column}
use Rattle.vectors.specs.declared.Variable.{Variable}
use Rattle.vectors.specs.Bounds.{max_variables}
use Rattle.vectors.specs.Variable.{kinds_of, blank_variable}
use Rattle.span.specs.Span.{kept}
use Rattle.record.specs.declared.Mark.{Mark}
use Rattle.record.specs.declared.Mark.TheVariants.{Built, Amended}
use Rattle.record.specs.declared.Record.{Record}

-- SCOPE 22.1: the mark of a unit that a build left, and of one to which a vector was added
abbrev pub mark_built : Mark
mark_built = Built

abbrev pub mark_amended : Mark
mark_amended = Amended

-- SCOPE 20.6: a mark as a number
abbrev pub mark_number : Mark → ℕ
mark_number Built = 0
mark_number Amended = 1

-- SCOPE 20.11: the mark that a number says; any but 0 is amended
abbrev pub mark_of : ℕ → Mark
mark_of number = cond (eqb number 0) mark_built mark_amended

-- SCOPE 12.2: every number 0, no kept input, the mark of a built unit, a blank variable in every slot
abbrev pub blank_record : Record
blank_record = record { n = 0; p = 0; n1 = 0; k = 0; cells = 0; kept = 0; tries = 0; excess = pos 0; variables = replicate max_variables blank_variable; mark = mark_built }

-- SCOPE 5.6, 12.3: the first n1 variables marked row, the others column, and blank ones in the slots after them
abbrev pub variables_of : ℕ → List Kind → List Variable
variables_of n1 ks =
    map (λ k. record { kind = k; part = Row }) (take n1 ks)
    ++ map (λ k. record { kind = k; part = Column }) (drop n1 ks)
    ++ replicate (max_variables - length ks) blank_variable

-- the smallest q with 2^q at least m
unfoldable pub log2_up : ℕ → ℕ
unfolding first_from
log2_up m = first_from m (λ q. leb m (2 ^ q)) 0

-- SCOPE 8.6: the floor: no fewer variables tell k vectors apart
abbrev pub floor_of : ℕ → ℕ
floor_of k = log2_up k

-- SCOPE 8.7: the floor of document 002, in which 0 counts beside the k indices
abbrev pub floor_with_zero : ℕ → ℕ
floor_with_zero k = log2_up (suc k)

-- SCOPE 8.6: p less the floor for k vectors, with its sign
unfoldable pub excess_of : ℕ → ℕ → ℤ
unfolding log2_up
excess_of p k = sub_ℕ p (floor_of k)

-- SCOPE 8.5: the record of a list of k vectors of n bits, by the mark, the variables, n1, L and the tries
unfoldable pub record_of : Mark → ℕ → ℕ → ℕ → List Kind → ℕ → ℕ → Record
unfolding kept excess_of
record_of mark n n1 k ks cells tries =
    record {
      n = n;
      p = length ks;
      n1 = n1;
      k = k;
      cells = cells;
      kept = kept n ks;
      tries = tries;
      excess = excess_of (length ks) k;
      variables = variables_of n1 ks;
      mark = mark;
    }

-- the variables of a record, p of them
abbrev pub kinds_in : Record → List Kind
kinds_in u = kinds_of (take u.p u.variables)
