-- What a build says of builds of the same list with other numbers of cells; they may have another allowance of tries.
use Rattle.std.specs.Prelude.{ℕ, zero, suc, ◌+◌, ◌≤◌, ◌<◌, ◌≡◌, true, cond, List, [], ◌∷◌, eqb, length, take}
use Rattle.vectors.specs.Bounds.{max_cells, max_rows}
use Rattle.vectors.specs.Variable.{kinds_of}
use Rattle.vectors.specs.declared.Variable.{Variable}
use Rattle.rows.specs.Place.{Placing}
use Rattle.rows.specs.Needed.{Keeps}
use Rattle.rows.specs.Allowance.{places_within, tries_up_to}
use Rattle.record.specs.Tables.{Tables}
use Rattle.build.specs.Built.{Refusal}
use Rattle.build.specs.Build.{rows_share, Outcome, placing_of, chosen_kinds, chosen_refusal, build_chosen, given_refusal, build_given}

-- the builds of a list, by the number of cells, the allowance and the tables: what refusals 1 to 12 say, the rows placed where all tries are allowed, and the outcome
pub record Builds : Type 0 where
  pub refusal : ℕ → Tables → Refusal
  pub placing : ℕ → Placing
  pub outcome : ℕ → ℕ → Tables → Outcome

abbrev pub chosen_builds : ℕ → ℕ → List ℕ → Builds
chosen_builds n degree vs =
    let ks = chosen_kinds n degree vs in
    record {
      refusal = λ cells t. chosen_refusal n degree ks cells vs t;
      placing = λ cells. placing_of (rows_share (length ks)) ks cells vs;
      outcome = λ cells a t. build_chosen n degree cells a vs t;
    }

abbrev pub given_builds : ℕ → List Variable → ℕ → ℕ → List ℕ → Builds
given_builds n variables p n1 vs =
    let ks = kinds_of (take p variables) in
    record {
      refusal = λ cells t. given_refusal n p n1 ks cells vs t;
      placing = λ cells. placing_of n1 ks cells vs;
      outcome = λ cells a t. build_given n variables p n1 cells a vs t;
    }

-- a build with an allowance of a is past refusals 1 to 12, and places the row
abbrev pub Places : Builds → ℕ → ℕ → Tables → ℕ → Type 0
Places B cells a t row = ((B.refusal cells t).number ≡ 0) × (places_within a (B.placing cells) row ≡ true)

abbrev pub Accepts : Builds → ℕ → ℕ → Tables → Type 0
Accepts B cells a t = (B.outcome cells a t).built.refusal ≡ 0

-- a build refused by 13 or 41 has not placed the row that it names
abbrev pub Unplaced : Builds → Type 0
Unplaced B = (cells a : ℕ) (t : Tables) → 13 ≤ (B.outcome cells a t).built.refusal → Places B cells a t (B.outcome cells a t).built.place → ⊥

-- there may be so many cells, and G has them
abbrev pub Room : ℕ → List ℕ → Type 0
Room cells g = (cells ≤ max_cells) × (cells ≤ length g)

-- the tables with another G
abbrev pub with_cells : Tables → List ℕ → Tables
with_cells t g = record { h = t.h; g = g; aux = t.aux }

-- no row needs more than all cells and all columns
abbrev pub needed_limit : ℕ
needed_limit = max_cells + max_rows

-- a build refused by 13: with as many cells as it says, and an allowance that is not exceeded up to the row and in it, the row has its place, and the earlier rows lie as they lay; with fewer cells it has none, and the build is refused (SCOPE 16.6)
pub record Enough (B : Builds) (cells : ℕ) (t : Tables) (row needed : ℕ) : Type 0 where
  pub above : cells < needed
  pub enough : (m a : ℕ) (g : List ℕ) → needed ≤ m → Room m g → tries_up_to (B.placing m) row ≤ a → Places B m a (with_cells t g) row
  pub earlier : (m : ℕ) → needed ≤ m → Keeps (B.placing cells) (B.placing m)
  pub fewer : (m a : ℕ) (t' : Tables) → m < needed → Places B m a t' row → ⊥
  pub refused : (m a : ℕ) (t' : Tables) → m < needed → Accepts B m a t' → ⊥

-- a build accepted: with more cells it is accepted, with the same words of H and AUX and the same tries (SCOPE 16.7)
pub record Same (o o' : Outcome) : Type 0 where
  pub accepted : o'.built.refusal ≡ 0
  pub rows : o'.tables.h ≡ o.tables.h
  pub words : o'.tables.aux ≡ o.tables.aux
  pub tries : o'.built.unit.tries ≡ o.built.unit.tries

abbrev pub Wider : Builds → ℕ → ℕ → Tables → Type 0
Wider B cells a t = (m : ℕ) (g : List ℕ) → cells ≤ m → Room m g → Same (B.outcome cells a t) (B.outcome m a (with_cells t g))

-- how many cells there are up to the last that is taken
abbrev pub used_by : ℕ → ℕ → ℕ
used_by w zero = cond (eqb w 0) 0 1
used_by w (suc n) = suc (suc n)

unfoldable pub used : List ℕ → ℕ
used [] = 0
used (w ∷ ws) = used_by w (used ws)

-- least is the least number of cells with which a build of the list is accepted that has this allowance, and none with fewer is accepted whatever it has (SCOPE 16.8)
pub record LeastCells (B : Builds) (a : ℕ) (t : Tables) (least : ℕ) : Type 0 where
  pub enough : (m : ℕ) (g : List ℕ) → 0 < m → least ≤ m → Room m g → Accepts B m a (with_cells t g)
  pub fewer : (m b : ℕ) (t' : Tables) → m < least → Accepts B m b t' → ⊥
