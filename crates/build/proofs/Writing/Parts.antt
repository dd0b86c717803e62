-- The build past refusal 12, with an allowance of a tries, in tables lent whole and in parts of them. Assumes nothing.
use Prim.Native.Nat.{ℕ, suc, ◌^◌, ◌≤◌, ◌<◌}
use native.Mathlib.Omega.{arith}
use mathlib.Core.Path.{◌≡◌, refl, sym, ap, ◌∙◌}
use mathlib.Core.List.{List, ◌++◌, append-nil}
use lib.ListN.{length, take, drop, replicate, length-map, length-replicate, drop_of_length-le}
use lib.Seq.{length-take-le}
use borrow.Author.Tests.{lt-ltb, le-ltb}
use Rattle.vectors.specs.declared.Kind.{Kind}
use Rattle.span.specs.Span.{kept}
use Rattle.vectors.specs.Word.{word_of}
use Rattle.build.specs.Built.{Built}
use Rattle.record.specs.Record.{mark_built, blank_record, record_of}
use Rattle.build.specs.Refusals as Refusals
use Rattle.build.specs.Refusals.{check12}
use Rattle.record.specs.Tables.{Tables, lent, over}
use Rattle.build.specs.Build.{Outcome, after, accepted, zeroed, aux_of, cares_from, placing_of, finish, outcome}
use Rattle.build.proofs.Refusing.Ladder.{outcome_refused, outcome_passed}
use Rattle.build.proofs.Holding.Ends.{finish_all, finish_stuck, finish_over, placing_ends}
use Rattle.rows.specs.Allowance.{end_within}
use Rattle.rows.specs.End.{End, All, NoFit, Over, Unfit}
use Rattle.rows.specs.declared.Stop.{Stop}
use Rattle.rows.specs.declared.Stop.TheVariants as stop
use Rattle.rows.specs.Place.{Placing}
use Rattle.rows.specs.Answer.{Placed, left, settle}
use Rattle.rows.specs.Told.{stop_told}
use Rattle.rows.proofs.Answers.Settled.{same_end, when_all, when_stuck, when_over}
use Rattle.rows.proofs.Placing.Held.{lengths}
use Rattle.build.specs.Inner.Stops.{stopped}

-- ---- words over a table

-- a table that is written whole holds the words
over_whole : (words old : List ℕ) → length words ≡ length old → over words old ≡ words
over_whole words old e = rw (drop_of_length-le old {i = length words} (omega arith)) (append-nil words)

-- the first words of a table written, and the others kept
pub over_part : (words old : List ℕ) (n : ℕ) → length words ≡ n → n ≤ length old → over words old ≡ over words (take n old) ++ drop n old
over_part words old n e h =
    ap (λ (d : ℕ). words ++ drop d old) e
    ∙ ap (λ (l : List ℕ). l ++ drop n old) (sym (over_whole words (take n old) (e ∙ sym (length-take-le n old h))))

-- ---- the sizes of what is written

sizes : (n1 : ℕ) (ks : List Kind) (cells : ℕ) (vs : List ℕ)
    → (length (placing_of n1 ks cells vs).state.h ≡ 2 ^ n1) × (length (placing_of n1 ks cells vs).state.g ≡ cells)
unfolding placing_of
sizes n1 ks cells vs =
    let l = lengths (cares_from 1 n1 ks vs) (replicate (2 ^ n1) 0) (replicate cells 0) in
    (l.0 ∙ length-replicate (2 ^ n1) 0, l.1 ∙ length-replicate cells 0)

aux_size : (n n1 : ℕ) (ks : List Kind) (vs : List ℕ) → length (aux_of n n1 ks vs) ≡ suc (length vs)
aux_size n n1 ks vs = ap suc (length-map vs (word_of n n1 ks (kept n ks)))

-- ---- tables lent whole, as the code has them

module _ (n n1 : ℕ) (ks : List Kind) (a : ℕ) (vs h g aux : List ℕ) (sh : length h ≡ 2 ^ n1) (sa : length aux ≡ suc (length vs)) (r : Built) (h' g' aux' : List ℕ) where
  pub end_all : (tries : ℕ) → end_within a (placing_of n1 ks (length g) vs) ≡ All → tries ≡ (placing_of n1 ks (length g) vs).state.tries
      → r ≡ accepted (record_of mark_built n n1 (length vs) ks (length g) tries) → h' ≡ (placing_of n1 ks (length g) vs).state.h → g' ≡ (placing_of n1 ks (length g) vs).state.g
      → aux' ≡ aux_of n n1 ks vs → after r h' g' aux' ≡ finish n n1 ks (length g) a vs (lent h g aux)
  end_all tries e et er eh eg ea =
      let s = sizes n1 ks (length g) vs in
      rw (er, et, eh, eg, ea)
      (sym
      (finish_all n n1 ks (length g) a vs (lent h g aux) e
      ∙ rw (over_whole (placing_of n1 ks (length g) vs).state.h h (s.0 ∙ sym sh), over_whole (placing_of n1 ks (length g) vs).state.g g s.1, over_whole (aux_of n n1 ks vs) aux (aux_size n n1 ks vs ∙ sym sa))))

  -- zeros
  zeros : h' ≡ replicate (length h) 0 → g' ≡ replicate (length g) 0 → aux' ≡ replicate (length aux) 0 → lent h' g' aux' ≡ zeroed n1 (length g) (length vs) (lent h g aux)
  zeros eh eg ea =
      rw (
        eh,
        eg,
        ea,
        sh,
        sa,
        over_whole (replicate (2 ^ n1) 0) h (length-replicate (2 ^ n1) 0 ∙ sym sh),
        over_whole (replicate (length g) 0) g (length-replicate (length g) 0),
        over_whole (replicate (suc (length vs)) 0) aux (length-replicate (suc (length vs)) 0 ∙ sym sa),
      )

  pub end_stuck : (row tried needed : ℕ) → end_within a (placing_of n1 ks (length g) vs) ≡ NoFit row tried needed
      → r ≡ record { refusal = 13; place = row; needed = needed; unit = blank_record }
      → h' ≡ replicate (length h) 0 → g' ≡ replicate (length g) 0 → aux' ≡ replicate (length aux) 0
      → after r h' g' aux' ≡ finish n n1 ks (length g) a vs (lent h g aux)
  end_stuck row tried needed e er eh eg ea = rw (er, zeros eh eg ea) (sym (finish_stuck n n1 ks (length g) a vs (lent h g aux) row tried needed e))

  pub end_over : (row : ℕ) → end_within a (placing_of n1 ks (length g) vs) ≡ Over row → r ≡ record { refusal = 41; place = row; needed = 0; unit = blank_record }
      → h' ≡ replicate (length h) 0 → g' ≡ replicate (length g) 0 → aux' ≡ replicate (length aux) 0
      → after r h' g' aux' ≡ finish n n1 ks (length g) a vs (lent h g aux)
  end_over row e er eh eg ea = rw (er, zeros eh eg ea) (sym (finish_over n n1 ks (length g) a vs (lent h g aux) row e))

  -- by the answer of the placing
  abbrev P : Placing
  P = placing_of n1 ks (length g) vs

  abbrev Settles : Placed → Type 0
  Settles p = left p h' g' ≡ settle a P (replicate (2 ^ n1) 0) (replicate (length g) 0)

  pub end_placed : (tries : ℕ) → Settles (record { end = All; tries = tries }) → r ≡ accepted (record_of mark_built n n1 (length vs) ks (length g) tries) → aux' ≡ aux_of n n1 ks vs
      → after r h' g' aux' ≡ finish n n1 ks (length g) a vs (lent h g aux)
  end_placed tries e er ea =
      let w = when_all a P (record { end = All; tries = tries }) h' g' _ _ e refl in
      end_all tries w.end_is w.tries_are er w.rows_are w.cells_are ea

  pub end_stopped : (s : Stop) → Settles (stop_told s) → r ≡ stopped s → aux' ≡ replicate (length aux) 0 → after r h' g' aux' ≡ finish n n1 ks (length g) a vs (lent h g aux)
  end_stopped (stop.NoFit row tried needed tries) e er ea =
      let w = when_stuck a P (record { end = NoFit row tried needed; tries = tries }) h' g' _ _ e row tried needed refl in
      end_stuck row tried needed w.end_is er (w.rows_are ∙ ap (λ (d : ℕ). replicate d 0) (sym sh)) w.cells_are ea
  end_stopped (stop.Over row) e er ea =
      let w = when_over a P (record { end = Over row; tries = 0 }) h' g' _ _ e row refl in
      end_over row w.end_is er (w.rows_are ∙ ap (λ (d : ℕ). replicate d 0) (sym sh)) w.cells_are ea
  end_stopped stop.Unfit e er ea = absurd (placing_ends n1 ks (length g) vs a (same_end a P (record { end = Unfit; tries = 0 }) h' g' _ _ e))

-- ---- parts of tables: what is written to the parts is written to the tables, and the words beyond keep their value

-- an outcome over the first words of longer tables
abbrev pub beside : Outcome → List ℕ → List ℕ → List ℕ → Outcome
beside o h g aux = after o.built (o.tables.h ++ h) (o.tables.g ++ g) (o.tables.aux ++ aux)

pub finish_parts : (n n1 : ℕ) (ks : List Kind) (cells a : ℕ) (vs h g aux : List ℕ) → 2 ^ n1 ≤ length h → cells ≤ length g → suc (length vs) ≤ length aux
    → finish n n1 ks cells a vs (lent h g aux)
    ≡ beside (finish n n1 ks cells a vs (lent (take (2 ^ n1) h) (take cells g) (take (suc (length vs)) aux))) (drop (2 ^ n1) h) (drop cells g) (drop (suc (length vs)) aux)
finish_parts n n1 ks cells a vs h g aux lh lg la = go (end_within a (placing_of n1 ks cells vs)) refl
  where
    part : Tables
    part = lent (take (2 ^ n1) h) (take cells g) (take (suc (length vs)) aux)

    s : (length (placing_of n1 ks cells vs).state.h ≡ 2 ^ n1) × (length (placing_of n1 ks cells vs).state.g ≡ cells)
    s = sizes n1 ks cells vs

    zero_parts : zeroed n1 cells (length vs) (lent h g aux)
        ≡ lent (over (replicate (2 ^ n1) 0) (take (2 ^ n1) h) ++ drop (2 ^ n1) h) (over (replicate cells 0) (take cells g) ++ drop cells g) (over (replicate (suc (length vs)) 0) (take (suc (length vs)) aux) ++ drop (suc (length vs)) aux)
    zero_parts =
        rw (over_part (replicate (2 ^ n1) 0) h (2 ^ n1) (length-replicate (2 ^ n1) 0) lh, over_part (replicate cells 0) g cells (length-replicate cells 0) lg, over_part (replicate (suc (length vs)) 0) aux (suc (length vs)) (length-replicate (suc (length vs)) 0) la)

    go : (e : End) → end_within a (placing_of n1 ks cells vs) ≡ e → finish n n1 ks cells a vs (lent h g aux) ≡ beside (finish n n1 ks cells a vs part) (drop (2 ^ n1) h) (drop cells g) (drop (suc (length vs)) aux)
    go All e =
        finish_all n n1 ks cells a vs (lent h g aux) e
        ∙ rw (over_part (placing_of n1 ks cells vs).state.h h (2 ^ n1) s.0 lh, over_part (placing_of n1 ks cells vs).state.g g cells s.1 lg, over_part (aux_of n n1 ks vs) aux (suc (length vs)) (aux_size n n1 ks vs) la)
        (ap (λ (o : Outcome). beside o (drop (2 ^ n1) h) (drop cells g) (drop (suc (length vs)) aux)) (sym (finish_all n n1 ks cells a vs part e)))
    go (NoFit row tried needed) e =
        finish_stuck n n1 ks cells a vs (lent h g aux) row tried needed e
        ∙ rw zero_parts (ap (λ (o : Outcome). beside o (drop (2 ^ n1) h) (drop cells g) (drop (suc (length vs)) aux)) (sym (finish_stuck n n1 ks cells a vs part row tried needed e)))
    go (Over row) e =
        finish_over n n1 ks cells a vs (lent h g aux) row e
        ∙ rw zero_parts (ap (λ (o : Outcome). beside o (drop (2 ^ n1) h) (drop cells g) (drop (suc (length vs)) aux)) (sym (finish_over n n1 ks cells a vs part row e)))
    go Unfit e = absurd (placing_ends n1 ks cells vs a e)

-- ---- check 12, and the parts

module _ (n n1 : ℕ) (ks : List Kind) (cells a : ℕ) (vs h g aux : List ℕ) (r : Built) where
  pub end_short : length h < 2 ^ n1 → r ≡ record { refusal = 12; place = 0; needed = 0; unit = blank_record }
      → after r h g aux ≡ outcome (check12 n1 h) n n1 ks cells a vs (lent h g aux)
  end_short l e =
      let c : check12 n1 h ≡ record { number = 12; place = 0 } = rw (lt-ltb (length h) (2 ^ n1) l) in
      rw (e, c) (sym (outcome_refused (record { number = 12; place = 0 }) n n1 ks cells a vs (lent h g aux) (λ z. omega arith)))

  pub end_parts : (rows last : ℕ) (h' g' aux' : List ℕ) → rows ≡ 2 ^ n1 → last ≡ suc (length vs) → rows ≤ length h → cells ≤ length g → length vs < length aux
      → after r h' g' aux' ≡ finish n n1 ks (length (take cells g)) a vs (lent (take rows h) (take cells g) (take last aux))
      → after r (h' ++ drop rows h) (g' ++ drop cells g) (aux' ++ drop last aux) ≡ outcome (check12 n1 h) n n1 ks cells a vs (lent h g aux)
  end_parts rows last h' g' aux' er el lh lg la e =
      let p : check12 n1 h ≡ Refusals.accepted = rw (le-ltb (length h) (2 ^ n1) (omega arith)) in
      ap (λ (o : Outcome). beside o (drop rows h) (drop cells g) (drop last aux)) e
      ∙ rw (length-take-le cells g lg, er, el, p)
      (sym
      (outcome_passed Refusals.accepted n n1 ks cells a vs (lent h g aux) refl
      ∙ finish_parts n n1 ks cells a vs h g aux (omega arith) lg la))
