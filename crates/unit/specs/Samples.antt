-- The sample units of SCOPE 15, computed: one table, a field for each case, and one claim, at the end.
use Rattle.std.specs.Prelude.{◌≡◌, refl, true, false, List, [], ◌∷◌, ◌++◌, map, ℕ, zero, suc, pos, take, replicate}
use Rattle.vectors.specs.declared.Kind.{Kind}
use Rattle.vectors.specs.declared.Kind.TheVariants.{One, Two}
use Rattle.vectors.specs.declared.Part.TheVariants.{Row, Column}
use Rattle.vectors.specs.declared.Variable.{Variable}
use Rattle.choice.specs.Choice.{ones, left, apart, choose}
use Rattle.rows.specs.Demand.{spread}
use Rattle.vectors.specs.Bounds.{max_variables}
use Rattle.vectors.specs.Variable.{blank_variable}
use Rattle.record.specs.Record.{mark_built, blank_record, log2_up, floor_of, floor_with_zero}
use Rattle.record.specs.Tables.{Tables}
use Rattle.build.specs.Build.{Outcome, build_chosen, build_given, cares_from, refused}
use Rattle.lookup.specs.Lookup.{found, lookup_of}
use Rattle.recover.specs.Recover.{recovered, recover_of}

-- SCOPE 15.1: the list S, of 6 bits
abbrev pub S : List ℕ
S = 16 ∷ 18 ∷ 20 ∷ 28 ∷ 32 ∷ 55 ∷ 58 ∷ []

-- tables as lent: every word is 9
abbrev pub nines : ℕ → ℕ → ℕ → Tables
nines a b c = record { h = replicate a 9; g = replicate b 9; aux = replicate c 9 }

abbrev row : Kind → Variable
row k = record { kind = k; part = Row }

abbrev column : Kind → Variable
column k = record { kind = k; part = Column }

-- a caller's variables, all marked row, in 24 slots
abbrev pub given : List Kind → List Variable
given ks = take max_variables (map row ks ++ replicate max_variables blank_variable)

-- the pairs left after the first variable, the first two, ..
abbrev lefts : List ℕ → List Kind → List Kind → List ℕ
lefts vs taken [] = []
lefts vs taken (k ∷ ks) = left vs (taken ++ (k ∷ [])) ∷ lefts vs (taken ++ (k ∷ [])) ks

-- every way to take m of the variables, in their order
abbrev takes : ℕ → List Kind → List (List Kind)
takes zero ks = [] ∷ []
takes (suc m) [] = []
takes (suc m) (k ∷ ks) = map (λ taken. k ∷ taken) (takes m ks) ++ takes (suc m) ks

-- the unit that the program prints, lent a word more in each table; and refusals that leave tables
abbrev allowed : ℕ → ℕ → Outcome
allowed cells allowance = build_chosen 6 2 cells allowance S (nines 5 8 9)

-- more tries allowed than any of the samples makes
abbrev plenty : ℕ
plenty = 100

abbrev printed : ℕ → Outcome
printed cells = allowed cells plenty

abbrev table41 : ℕ → Outcome
table41 cells = build_given 6 (given (One 4 ∷ One 5 ∷ One 6 ∷ One 1 ∷ One 2 ∷ One 3 ∷ [])) 6 3 cells plenty S (nines 9 9 9)

abbrev no_room : ℕ → ℕ → Tables → Outcome
no_room row needed t = record { built = record { refusal = 13; place = row; needed = needed; unit = blank_record }; tables = t }

-- the tables of the printed unit with zeros in so many cells
abbrev zeros_in : ℕ → ℕ → Tables
zeros_in cells others = record { h = replicate 4 0 ++ (9 ∷ []); g = replicate cells 0 ++ replicate others 9; aux = replicate 8 0 ++ (9 ∷ []) }

pub record Table : Type 0 where
  -- SCOPE 15.2: four single inputs, and the pairs that each leaves
  pub degree_1 : choose max_variables 6 1 S ≡ One 2 ∷ One 3 ∷ One 4 ∷ One 5 ∷ []
  pub degree_1_left : lefts S [] (choose max_variables 6 1 S) ≡ 9 ∷ 3 ∷ 1 ∷ 0 ∷ []
  -- SCOPE 15.2: no three are enough: of the 20 ways to take three of the six inputs, each leaves two vectors that agree
  pub no_three : map (apart S) (takes 3 (ones 6 1)) ≡ replicate 20 false
  -- SCOPE 15.3: the unit that the program prints
  pub degree_2 : printed 7 ≡ record {
    built = record {
      refusal = 0;
      place = 0;
      needed = 0;
      unit = record {
        n = 6;
        p = 3;
        n1 = 2;
        k = 7;
        cells = 7;
        kept = 41;
        tries = 15;
        excess = pos 0;
        mark = mark_built;
        variables = row (One 2) ∷ row (One 3) ∷ column (Two 4 5) ∷ replicate 21 blank_variable;
      };
    };
    tables = record {
      h = 0 ∷ 2 ∷ 4 ∷ 5 ∷ 9 ∷ [];
      g = 5 ∷ 1 ∷ 7 ∷ 2 ∷ 4 ∷ 3 ∷ 6 ∷ 9 ∷ [];
      aux = 0 ∷ 0 ∷ 1 ∷ 2 ∷ 10 ∷ 16 ∷ 23 ∷ 25 ∷ 9 ∷ [];
    };
  }
  -- SCOPE 15.4: one cell less
  pub cells_6 : printed 6 ≡ no_room 3 7 (zeros_in 6 2)
  -- SCOPE 15.5: two keys and an index
  pub lookup_6 : lookup_of (printed 7).built.unit (printed 7).tables 6 ≡ found 0
  pub lookup_20 : lookup_of (printed 7).built.unit (printed 7).tables 20 ≡ found 3
  pub recover_7 : recover_of (printed 7).built.unit (printed 7).tables 7 ≡ recovered 58
  -- SCOPE 15.6: three rows and three columns, given
  pub given_8 : table41 8 ≡ record {
    built = record {
      refusal = 0;
      place = 0;
      needed = 0;
      unit = record {
        n = 6;
        p = 6;
        n1 = 3;
        k = 7;
        cells = 8;
        kept = 0;
        tries = 8;
        excess = pos 3;
        mark = mark_built;
        variables = row (One 4) ∷ row (One 5) ∷ row (One 6) ∷ column (One 1) ∷ column (One 2) ∷ column (One 3) ∷ replicate 18 blank_variable;
      };
    };
    tables = record {
      h = 0 ∷ 0 ∷ 0 ∷ 1 ∷ 1 ∷ 0 ∷ 0 ∷ 1 ∷ 9 ∷ [];
      g = 1 ∷ 5 ∷ 2 ∷ 7 ∷ 3 ∷ 4 ∷ 0 ∷ 6 ∷ 9 ∷ [];
      aux = 0 ∷ 2 ∷ 2 ∷ 2 ∷ 3 ∷ 4 ∷ 6 ∷ 7 ∷ 9 ∷ [];
    };
  }
  -- SCOPE 15.7: with fewer cells
  pub given_7 : table41 7 ≡ no_room 6 8 (record { h = replicate 8 0 ++ (9 ∷ []); g = replicate 7 0 ++ (9 ∷ 9 ∷ []); aux = replicate 8 0 ++ (9 ∷ []) })
  pub given_5 : table41 5 ≡ no_room 3 6 (record { h = replicate 8 0 ++ (9 ∷ []); g = replicate 5 0 ++ replicate 4 9; aux = replicate 8 0 ++ (9 ∷ []) })
  -- SCOPE 15.8: a list that is spread out
  pub spread_out : build_given 3 (given (One 1 ∷ One 2 ∷ One 3 ∷ [])) 3 2 6 20 (0 ∷ 1 ∷ 2 ∷ 3 ∷ []) (nines 4 6 5) ≡ record {
    built = record {
      refusal = 0;
      place = 0;
      needed = 0;
      unit = record {
        n = 3;
        p = 3;
        n1 = 2;
        k = 4;
        cells = 6;
        kept = 0;
        tries = 10;
        excess = pos 1;
        mark = mark_built;
        variables = row (One 1) ∷ row (One 2) ∷ column (One 3) ∷ replicate 21 blank_variable;
      };
    };
    tables = record { h = 0 ∷ 1 ∷ 2 ∷ 3 ∷ []; g = 1 ∷ 2 ∷ 3 ∷ 4 ∷ 0 ∷ 0 ∷ []; aux = 0 ∷ 0 ∷ 1 ∷ 2 ∷ 3 ∷ [] };
  }
  pub spread_holds : spread 4 (cares_from 1 2 (One 1 ∷ One 2 ∷ One 3 ∷ []) (0 ∷ 1 ∷ 2 ∷ 3 ∷ [])) ≡ true
  -- SCOPE 15.9: one vector, no variables; the excess is 0 by customers' request 2
  pub alone : build_chosen 6 1 1 1 (16 ∷ []) (nines 1 1 2) ≡ record {
    built = record {
      refusal = 0;
      place = 0;
      needed = 0;
      unit = record {
        n = 6;
        p = 0;
        n1 = 0;
        k = 1;
        cells = 1;
        kept = 63;
        tries = 1;
        excess = pos 0;
        mark = mark_built;
        variables = replicate max_variables blank_variable;
      };
    };
    tables = record { h = 0 ∷ []; g = 1 ∷ []; aux = 0 ∷ 16 ∷ [] };
  }
  -- SCOPE 15.10: a vector twice, and one with a bit too many
  pub equal : build_chosen 6 1 1 0 (5 ∷ 5 ∷ []) (nines 1 1 3) ≡ refused (record { number = 7; place = 2 }) (nines 1 1 3)
  pub beyond : build_chosen 6 1 1 0 (64 ∷ []) (nines 1 1 2) ≡ refused (record { number = 6; place = 1 }) (nines 1 1 2)
  -- SCOPE 15.11: no vectors
  pub empty : build_chosen 6 1 1 0 [] (nines 1 1 1) ≡ refused (record { number = 3; place = 0 }) (nines 1 1 1)
  -- SCOPE 15.14: eight vectors, three variables, no excess; the two floors for eight
  pub eight : build_chosen 3 1 8 plenty (0 ∷ 1 ∷ 2 ∷ 3 ∷ 4 ∷ 5 ∷ 6 ∷ 7 ∷ []) (nines 4 8 9) ≡ record {
    built = record {
      refusal = 0;
      place = 0;
      needed = 0;
      unit = record {
        n = 3;
        p = 3;
        n1 = 2;
        k = 8;
        cells = 8;
        kept = 0;
        tries = 16;
        excess = pos 0;
        mark = mark_built;
        variables = row (One 1) ∷ row (One 2) ∷ column (One 3) ∷ replicate 21 blank_variable;
      };
    };
    tables = record {
      h = 0 ∷ 2 ∷ 4 ∷ 6 ∷ [];
      g = 1 ∷ 5 ∷ 2 ∷ 6 ∷ 3 ∷ 7 ∷ 4 ∷ 8 ∷ [];
      aux = 0 ∷ 0 ∷ 1 ∷ 2 ∷ 3 ∷ 0 ∷ 1 ∷ 2 ∷ 3 ∷ [];
    };
  }
  pub eight_floors : (floor_of 8 ≡ 3) × (floor_with_zero 8 ≡ 4)
  -- SCOPE 15.15: just enough tries allowed, and one too few; none
  pub tries_15 : allowed 7 15 ≡ printed 7
  pub tries_14 : allowed 7 14 ≡ refused (record { number = 41; place = 3 }) (zeros_in 7 1)
  pub tries_0 : allowed 7 0 ≡ refused (record { number = 41; place = 0 }) (zeros_in 7 1)
  -- SCOPE 15.16: the same of a row that has no displacement, and of the row before it
  pub stuck_14 : allowed 6 14 ≡ printed 6
  pub stuck_13 : allowed 6 13 ≡ refused (record { number = 41; place = 3 }) (zeros_in 6 2)
  pub stuck_8 : allowed 6 8 ≡ refused (record { number = 41; place = 2 }) (zeros_in 6 2)

pub samples : Table
unfolding ones left apart choose build_chosen build_given lookup_of recover_of spread cares_from log2_up
samples = record {
  degree_1 = refl;
  degree_1_left = refl;
  no_three = refl;
  degree_2 = refl;
  cells_6 = refl;
  lookup_6 = refl;
  lookup_20 = refl;
  recover_7 = refl;
  given_8 = refl;
  given_7 = refl;
  given_5 = refl;
  spread_out = refl;
  spread_holds = refl;
  alone = refl;
  equal = refl;
  beyond = refl;
  empty = refl;
  eight = refl;
  eight_floors = (refl, refl);
  tries_15 = refl;
  tries_14 = refl;
  tries_0 = refl;
  stuck_14 = refl;
  stuck_13 = refl;
  stuck_8 = refl;
}
