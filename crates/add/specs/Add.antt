-- One vector added to a unit: the answer, and every word of H, G and AUX after the call.
use Rattle.std.specs.Prelude.{ℕ, zero, suc, ◌-◌, ◌^◌, Bool, true, false, cond, not, ◌&&◌, List, [], ◌∷◌, ◌++◌, map, leb, ltb, length, set, take}
use Rattle.lists.specs.First.{has, first_of}
use Rattle.vectors.specs.Bounds.{max_vectors}
use Rattle.vectors.specs.Variable.{number_of, row_of, column_of}
use Rattle.vectors.specs.Word.{word_of}
use Rattle.rows.specs.Care.{Care, in_row}
use Rattle.rows.specs.Fit.{is_free, first_fit, put, At, None}
use Rattle.record.specs.declared.Record.{Record}
use Rattle.record.specs.Record.{mark_amended, excess_of, kinds_in}
use Rattle.record.specs.Tables.{Tables, over}
use Rattle.record.specs.Leads.{word_in, cell_in}
use Rattle.record.specs.Holds.{index_of}
use Rattle.recover.specs.Recover.{first_cell}
use Rattle.recover.specs.Every.{listed, list_in}
use Rattle.build.specs.Built.{Refusal}
use Rattle.build.specs.Refusals as refusals
use Rattle.build.specs.Refusals.{refuse_if, refuse_at, ladder}
use Rattle.build.specs.Build.{Outcome, cares_from, refused, accepted}

-- ---- the refusals

-- a refusal whose place is the number that the new vector would have
abbrev pub refuse_new : ℕ → Record → Bool → Refusal
refuse_new number u test = cond test (record { number = number; place = suc u.k }) refusals.accepted

-- SCOPE 22.2, No. 14: recovery of some number is refused
abbrev pub check14 : Record → Tables → Refusal
check14 u t = refuse_if 14 (not (listed u t))

-- SCOPE 22.2, No. 6: a bit beyond n
abbrev pub check6 : Record → ℕ → Refusal
check6 u x = refuse_new 6 u (leb (2 ^ u.n) x)

-- SCOPE 22.2, No. 40: recovery gives x for some number
abbrev pub check40 : Record → Tables → ℕ → Refusal
check40 u t x = refuse_at 40 (index_of (list_in u t) x)

-- SCOPE 22.2, No. 3: there are as many vectors as may be
abbrev pub check3 : Record → Refusal
check3 u = refuse_if 3 (leb max_vectors u.k)

-- SCOPE 22.2, No. 5: AUX has no word for the new vector
abbrev pub check5 : Record → Tables → Refusal
check5 u t = refuse_if 5 (ltb (length t.aux) (suc (suc u.k)))

-- SCOPE 22.2, No. 10: x agrees with a registered vector on every variable
abbrev pub check10 : Record → Tables → ℕ → Refusal
check10 u t x = refuse_new 10 u (has (number_of (kinds_in u) x) (map (number_of (kinds_in u)) (list_in u t)))

-- SCOPE 22.2: the first that has a cause; 13 comes behind them
unfoldable pub add_refusal : Record → Tables → ℕ → Refusal
unfolding ladder listed list_in number_of first_of has
add_refusal u t x = ladder (check14 u t ∷ check6 u x ∷ check40 u t x ∷ check3 u ∷ check5 u t ∷ check10 u t x ∷ [])

-- ---- where the vector goes

-- the new vector by its number, row and column
abbrev pub newcomer : Record → ℕ → Care
newcomer u x = record { index = suc u.k; row = row_of u.n1 (kinds_in u) x; column = column_of u.n1 (kinds_in u) x }

-- the registered vectors of its row
unfoldable pub row_mates : Record → Tables → ℕ → List Care
unfolding cares_from in_row list_in
row_mates u t x = in_row (row_of u.n1 (kinds_in u) x) (cares_from 1 u.n1 (kinds_in u) (list_in u t))

-- SCOPE 22.4: each of them taken out of the first cell that holds its number
unfoldable pub lifted : Record → Tables → List Care → List ℕ → List ℕ
unfolding first_of
lifted u t [] g = g
lifted u t (c ∷ cs) g = lifted u t cs (set g (first_cell u t c.index - 1) 0)

-- SCOPE 22.3: the cell at the row's present displacement is below L and free
abbrev pub has_room_for : Record → Tables → ℕ → Bool
has_room_for u t x = ltb (cell_in u t x) u.cells && is_free t.g (cell_in u t x)

-- ---- the outcome

-- SCOPE 22.5: one vector more, the excess for so many, the mark; all else stays
abbrev pub amended : Record → Record
amended u =
    record {
      n = u.n;
      p = u.p;
      n1 = u.n1;
      k = suc u.k;
      cells = u.cells;
      kept = u.kept;
      tries = u.tries;
      excess = excess_of u.p (suc u.k);
      variables = u.variables;
      mark = mark_amended;
    }

-- SCOPE 22.5: with H and G so, and the comparison word of x in AUX
abbrev pub amended_to : Record → Tables → ℕ → List ℕ → List ℕ → Outcome
amended_to u t x h g = record { built = accepted (amended u); tables = record { h = h; g = g; aux = set t.aux (suc u.k) (word_in u x) } }

-- SCOPE 22.4: the row lifted and put, with x, at the smallest displacement that is free for all of them; or 13
unfoldable pub moved : Record → Tables → ℕ → Outcome
unfolding row_mates lifted first_fit put word_of number_of excess_of
moved u t x =
    let row = row_of u.n1 (kinds_in u) x in
    let mates = row_mates u t x in
    let cs = mates ++ (newcomer u x ∷ []) in
    let cells = lifted u t mates (take u.cells t.g) in
    elim (first_fit cells cs) [
      | At d ↦ amended_to u t x (set t.h row d) (over (put cells d cs) t.g)
      | None tried needed ↦ refused (record { number = 13; place = row }) t
    ]

-- SCOPE 22.3: the vector in its cell, if there is room; else its row moved
unfoldable pub placed_in : Record → Tables → ℕ → Outcome
unfolding moved word_of number_of excess_of
placed_in u t x = elim (has_room_for u t x) [ true ↦ amended_to u t x t.h (set t.g (cell_in u t x) (suc u.k)) | false ↦ moved u t x ]

-- SCOPE 22.2: a refusal writes nothing, and its record is blank
unfoldable pub add_of : Record → Tables → ℕ → Outcome
unfolding add_refusal placed_in
add_of u t x = let r = add_refusal u t x in elim r.number [ zero ↦ placed_in u t x | suc m ↦ refused r t ]
