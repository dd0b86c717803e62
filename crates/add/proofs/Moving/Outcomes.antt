-- What the placing of the new vector leaves, case by case. Assumes nothing.
use Prim.Native.Nat.{ℕ, suc, ◌+◌, ◌<◌}
use native.Mathlib.Omega.{arith}
use mathlib.Core.Path.{◌≡◌, refl, sym, ap₂, ◌∙◌}
use mathlib.Core.Bool.{Bool, true, false}
use mathlib.Core.List.{List, [], ◌∷◌, ◌++◌}
use lib.ListN.{length, set, drop, take-append-drop, length-append}
use lib.Seq.{length-take-le}
use Rattle.vectors.specs.Bounds.{max_cells}
use Rattle.rows.specs.Care.{Care}
use Rattle.rows.specs.Fit.{first_fit, put, Fit, At, None}
use Rattle.rows.proofs.Fits.First.{fit_low}
use Rattle.rows.proofs.Fits.Cells.{put_length}
use Rattle.record.specs.declared.Record.{Record}
use Rattle.record.specs.Record.{blank_record}
use Rattle.record.specs.Tables.{Tables, lent, over}
use Rattle.build.specs.Built.{Built}
use Rattle.build.specs.Build.{Outcome, after, refused, accepted}
use Rattle.recover.specs.Every.{listed}
use Rattle.add.specs.declared.Seat.{Seat}
use Rattle.add.specs.Add.{has_room_for, amended, amended_to, moved, placed_in}
use Rattle.add.specs.Inner.Seats.{seat_of, FirstsAre}
use Rattle.add.specs.Inner.Mates.{mates, group, bare, refitted}
use Rattle.add.specs.Inner.Moves.{words_in, cells_in, Ready, moved_by, free_in, placed_by}
use Rattle.add.proofs.Moving.Refitting.{cleared_length}
use Rattle.add.proofs.Moving.Rows.{group_is, lifted_cells}

-- ---- as the code leaves it

module _ (u : Record) (h g aux firsts : List ℕ) (s : Seat) (R : Ready u (lent h g aux) firsts s) where
  abbrev t : Tables
  t = lent h g aux

  abbrev fit : Fit
  fit = first_fit (bare s (words_in u t) firsts (cells_in u t)) (group s (words_in u t) firsts)

  size : length (put (bare s (words_in u t) firsts (cells_in u t)) 0 []) ≡ u.cells
  unfolding put
  size = cleared_length (cells_in u t) s.displacement (mates s (words_in u t) firsts) ∙ length-take-le u.cells g R.cells

  -- the row has a first fit, which is low
  pub moved_low : (d : ℕ) → fit ≡ At d → d < max_cells
  unfolding put
  moved_low d e =
      let cs = mates s (words_in u t) firsts in
      omega (arith, fit_low _ (group s (words_in u t) firsts) d (omega (arith, length-append cs (record { index = length (words_in u t); row = s.row; column = s.column } ∷ []))) e, size, R.cells_few)

  pub moved_at : (d : ℕ) (r : Built) (g' aux' : List ℕ) → fit ≡ At d → r ≡ accepted (amended u) → g' ≡ refitted s (words_in u t) firsts (cells_in u t) (At d)
      → aux' ≡ set aux (suc u.k) s.word → after r (set h s.row d) (g' ++ drop u.cells g) aux' ≡ moved_by u t firsts s
  unfolding moved_by refitted put
  moved_at d r g' aux' e p q w =
      let new = put (bare s (words_in u t) firsts (cells_in u t)) d (group s (words_in u t) firsts) in
      let l : length new ≡ u.cells = put_length _ d (group s (words_in u t) firsts) ∙ size in
      rw (e, moved_by, l, p, q, w)

  -- it has none
  pub moved_none : (tried needed : ℕ) (r : Built) (g' : List ℕ) → fit ≡ None tried needed
      → r ≡ record { refusal = 13; place = s.row; needed = 0; unit = blank_record } → g' ≡ refitted s (words_in u t) firsts (cells_in u t) (None tried needed)
      → after r h (g' ++ drop u.cells g) aux ≡ moved_by u t firsts s
  unfolding moved_by refitted
  moved_none tried needed r g' e p q = rw (e, moved_by, p, q, take-append-drop u.cells g)

  -- the cell is free, or not
  pub placed_here : (r : Built) (n : ℕ) (aux' : List ℕ) → free_in g u.cells (s.displacement + s.column) ≡ true → r ≡ accepted (amended u) → n ≡ suc u.k
      → aux' ≡ set aux (suc u.k) s.word → after r h (set g (s.displacement + s.column) n) aux' ≡ placed_by u t firsts s
  unfolding placed_by
  placed_here r n aux' f p e w = rw (f, placed_by, p, e, w)

  pub placed_moved : free_in g u.cells (s.displacement + s.column) ≡ false → moved_by u t firsts s ≡ placed_by u t firsts s
  unfolding placed_by
  placed_moved f = rw (f, placed_by)

-- ---- as the definition has it

module _ (u : Record) (t : Tables) (x : ℕ) (L : listed u t ≡ true) (firsts : List ℕ) (F : FirstsAre u t firsts) where
  moved_is : moved_by u t firsts (seat_of u t.h x) ≡ moved u t x
  unfolding moved_by moved
  moved_is =
      ap₂
      (λ (cells : List ℕ) (cs : List Care).
      elim (first_fit cells cs) as (λ f. Outcome) [
        | At d ↦ amended_to u t x (set t.h (seat_of u t.h x).row d) (over (put cells d cs) t.g)
        | None tried needed ↦ refused (record { number = 13; place = (seat_of u t.h x).row }) t
      ])
      (sym (lifted_cells u t x L firsts F (cells_in u t)))
      (group_is u t x L firsts F)

  pub placed_is : placed_by u t firsts (seat_of u t.h x) ≡ placed_in u t x
  unfolding placed_by placed_in
  placed_is = go (has_room_for u t x) refl
    where
      go : (b : Bool) → has_room_for u t x ≡ b → placed_by u t firsts (seat_of u t.h x) ≡ placed_in u t x
      go true e = rw (e, placed_by, placed_in)
      go false e = rw (e, placed_by, placed_in) moved_is
