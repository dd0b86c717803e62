-- The two builds: the answer, and every word of H, G and AUX after the call.
use Rattle.std.specs.Prelude.{ℕ, zero, suc, ◌-◌, ◌/◌, ◌^◌, List, [], ◌∷◌, ◌++◌, map, length, take, replicate}
use Rattle.lists.specs.First.{first_of, repeated}
use Rattle.vectors.specs.declared.Kind.{Kind}
use Rattle.vectors.specs.declared.Variable.{Variable}
use Rattle.vectors.specs.Bounds.{max_variables}
use Rattle.vectors.specs.Variable.{kinds_of, number_of, row_of, column_of}
use Rattle.vectors.specs.Word.{word_of}
use Rattle.span.specs.Span.{kept, first_dependent}
use Rattle.choice.specs.Choice.{choose, apart}
use Rattle.rows.specs.Care.{Care, cares_by}
use Rattle.rows.specs.Place.{Placing, place}
use Rattle.rows.specs.Allowance.{end_within}
use Rattle.rows.specs.End.{All, NoFit, Over, Unfit}
use Rattle.record.specs.declared.Record.{Record}
use Rattle.record.specs.Record.{mark_built, blank_record, record_of}
use Rattle.record.specs.Tables.{Tables, lent, over}
use Rattle.build.specs.Built.{Built, Refusal}
use Rattle.build.specs.Refusals.{ladder, list_checks, check2_chosen, check2_given, given_checks, check11, check12}

-- SCOPE 5.1: how many of p chosen variables are row variables
abbrev pub rows_share : ℕ → ℕ
rows_share p = p - p / 2

-- the answer of a build, and the tables as it leaves them
pub record Outcome : Type 0 where
  pub built : Built
  pub tables : Tables

abbrev pub after : Built → List ℕ → List ℕ → List ℕ → Outcome
after r h g aux = record { built = r; tables = lent h g aux }

-- SCOPE 1.1, 5.3: each vector with its index, its row and its column; the first has the index i
unfoldable pub cares_from : ℕ → ℕ → List Kind → List ℕ → List Care
unfolding cares_by number_of
cares_from i n1 ks vs = cares_by (row_of n1 ks) (column_of n1 ks) i vs

-- SCOPE 7: the rows placed, into cells that are all empty
unfoldable pub placing_of : ℕ → List Kind → ℕ → List ℕ → Placing
unfolding cares_from place
placing_of n1 ks cells vs = place (cares_from 1 n1 ks vs) (replicate (2 ^ n1) 0) (replicate cells 0)

-- SCOPE 11.4: number, place, so many cells needed, and a blank record
abbrev pub refused_for : Refusal → ℕ → Tables → Outcome
refused_for r needed t = record { built = record { refusal = r.number; place = r.place; needed = needed; unit = blank_record }; tables = t }

-- SCOPE 11.9: needed is 0 but for 13
abbrev pub refused : Refusal → Tables → Outcome
refused r t = refused_for r 0 t

-- SCOPE 11.3, 11.9: number 0, place 0, needed 0 and the record
abbrev pub accepted : Record → Built
accepted u = record { refusal = 0; place = 0; needed = 0; unit = u }

-- SCOPE 11.6: what 13 and 41 leave: zeros in the words that the unit would have had, and no other word altered
abbrev pub zeroed : ℕ → ℕ → ℕ → Tables → Tables
zeroed n1 cells k t =
    record { h = over (replicate (2 ^ n1) 0) t.h; g = over (replicate cells 0) t.g; aux = over (replicate (suc k) 0) t.aux }

-- SCOPE 8.3: 0, and then the comparison word of each vector
abbrev pub aux_of : ℕ → ℕ → List Kind → List ℕ → List ℕ
aux_of n n1 ks vs = 0 ∷ map (word_of n n1 ks (kept n ks)) vs

-- SCOPE 8.1, 8.2, 8.4: displacements, indices and comparison words, and no other word altered
abbrev pub written : ℕ → ℕ → List Kind → List ℕ → Placing → Tables → Tables
written n n1 ks vs P t =
    record { h = over P.state.h t.h; g = over P.state.g t.g; aux = over (aux_of n n1 ks vs) t.aux }

-- past refusals 1 to 12, with an allowance of tries. SCOPE 11.1, No. 41: more would be made, and this row is in hand; No. 13: a row in its turn fits nowhere, and so many cells are needed (SCOPE 7.7); or else the unit. No placing ends with Unfit
unfoldable pub finish : ℕ → ℕ → List Kind → ℕ → ℕ → List ℕ → Tables → Outcome
unfolding placing_of end_within record_of word_of
finish n n1 ks cells allowance vs t =
    let P = placing_of n1 ks cells vs in
    elim (end_within allowance P) [
      | All ↦ record {
        built = accepted (record_of mark_built n n1 (length vs) ks cells P.state.tries);
        tables = written n n1 ks vs P t;
      }
      | NoFit row tried needed ↦ refused_for (record { number = 13; place = row }) needed (zeroed n1 cells (length vs) t)
      | Over row ↦ refused (record { number = 41; place = row }) (zeroed n1 cells (length vs) t)
      | Unfit ↦ refused (record { number = 13; place = 0 }) (zeroed n1 cells (length vs) t)
    ]

-- SCOPE 11.5: a refusal by one of 1 to 12 has written no word
unfoldable pub outcome : Refusal → ℕ → ℕ → List Kind → ℕ → ℕ → List ℕ → Tables → Outcome
unfolding finish
outcome r n n1 ks cells allowance vs t = elim r.number [ zero ↦ finish n n1 ks cells allowance vs t | suc m ↦ refused r t ]

-- ---- variables chosen by rule

-- what refusals 1 to 12 say of a chosen build whose rule takes the variables ks
unfoldable pub chosen_refusal : ℕ → ℕ → List Kind → ℕ → List ℕ → Tables → Refusal
unfolding ladder first_of repeated apart
chosen_refusal n degree ks cells vs t =
    ladder
    (list_checks n (check2_chosen degree) cells vs (length t.g) (length t.aux)
    ++ (check11 ks vs ∷ check12 (rows_share (length ks)) t.h ∷ []))

-- SCOPE 4.5: the variables that the rule takes
abbrev pub chosen_kinds : ℕ → ℕ → List ℕ → List Kind
chosen_kinds n degree vs = choose max_variables n degree vs

-- SCOPE 1.3, 4: the chosen build of the list vs, with so many cells and so many tries allowed, in the tables t
unfoldable pub build_chosen : ℕ → ℕ → ℕ → ℕ → List ℕ → Tables → Outcome
unfolding choose chosen_refusal outcome
build_chosen n degree cells allowance vs t =
    let ks = chosen_kinds n degree vs in
    outcome (chosen_refusal n degree ks cells vs t) n (rows_share (length ks)) ks cells allowance vs t

-- ---- variables given by the caller

-- what refusals 1 to 12 say of a given build
unfoldable pub given_refusal : ℕ → ℕ → ℕ → List Kind → ℕ → List ℕ → Tables → Refusal
unfolding ladder first_of repeated first_dependent number_of
given_refusal n p n1 ks cells vs t =
    ladder
    (list_checks n (check2_given p n1) cells vs (length t.g) (length t.aux)
    ++ given_checks n ks vs
    ++ (check12 n1 t.h ∷ []))

-- SCOPE 1.3, 5.2: the given build, by the first p of the variables
unfoldable pub build_given : ℕ → List Variable → ℕ → ℕ → ℕ → ℕ → List ℕ → Tables → Outcome
unfolding given_refusal outcome
build_given n variables p n1 cells allowance vs t =
    let ks = kinds_of (take p variables) in
    outcome (given_refusal n p n1 ks cells vs t) n n1 ks cells allowance vs t
