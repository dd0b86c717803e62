-- Builds with other numbers of cells, and with an allowance of tries: more cells refuse nothing that fewer accept, and `needed` is the least that places the row. Assumes nothing.
use Prim.Native.Nat.{ℕ, ◌^◌, ◌<◌}
use native.Mathlib.Omega.{arith}
use mathlib.Core.Path.{◌≡◌, refl, sym, ap, ◌∙◌}
use mathlib.Core.Bool.{false, true≢false}
use mathlib.Core.List.{List, [], ◌∷◌, ◌++◌}
use mathlib.Core.Logic.{⊎_elim}
use lib.ListN.{length, take, drop, replicate}
use lib.Seq.{take_at}
use Rattle.lists.proofs.Tests.{le_or_lt}
use Rattle.vectors.specs.Bounds.{max_variables}
use Rattle.vectors.specs.Variable.{kinds_of}
use Rattle.vectors.specs.declared.Kind.{Kind}
use Rattle.vectors.specs.declared.Variable.{Variable}
use Rattle.rows.specs.Place.{Placing}
use Rattle.rows.specs.Allowance.{places_within}
use Rattle.rows.specs.End.{NoFit}
use Rattle.rows.proofs.Placing.Allowed.{within_stuck}
use Rattle.rows.proofs.Placing.Within.{within_placed, placed_within_lem, over_out, stuck_out}
use Rattle.record.specs.Record.{record_of}
use Rattle.record.specs.Tables as tables
use Rattle.record.specs.Tables.{Tables}
use Rattle.build.specs.Built.{Refusal}
use Rattle.build.specs.Refusals.{given_checks, check2_chosen, check2_given, check11, check12}
use Rattle.build.specs.Build.{rows_share, Outcome, cares_from, placing_of, outcome, chosen_kinds, chosen_refusal, build_chosen, given_refusal, build_given}
use Rattle.build.specs.Cells.{Builds, chosen_builds, given_builds, Places, Unplaced, Room, with_cells, Accepts, Enough, Wider, used, LeastCells}
use Rattle.build.proofs.Holding.Passed.{Passed, chosen_passed, given_passed}
use Rattle.build.proofs.Holding.Ends.{placing_cells, Comes, early, whole, stuck, over, comes, outcome_accepted, accepted_outcome_lem}
use Rattle.build.proofs.Holding.Built.{care_held}
use Rattle.build.proofs.Places.{Small, chosen_small, given_small}
use Rattle.build.proofs.Cells.Checks.{list_room, some_cells}
use Rattle.build.proofs.Cells.Placings.{placing_wider, placing_short, placing_within, placing_used}

-- ---- the outcome

-- refused by 13: past refusals 1 to 12, and the row has no displacement
record Ended13 (r : Refusal) (P : Placing) (o : Outcome) : Type 0 where
  passed : r.number ≡ 0
  tried : ℕ
  is : P.end ≡ NoFit o.built.place tried o.built.needed

module _ (n n1 : ℕ) (ks : List Kind) (vs : List ℕ) (refusal : ℕ → Tables → Refusal) (first : (cells : ℕ) (t : Tables) → Small 12 (refusal cells t))
    (room : (cells m : ℕ) (t : Tables) (g : List ℕ) → 0 < m → Room m g → (refusal cells t).number ≡ 0 → (refusal m (with_cells t g)).number ≡ 0)
    (some : (cells : ℕ) (t : Tables) → (refusal cells t).number ≡ 0 → 0 < cells) where
  abbrev B : Builds
  B =
      record {
        refusal = refusal;
        placing = λ cells. placing_of n1 ks cells vs;
        outcome = λ cells a t. outcome (refusal cells t) n n1 ks cells a vs t;
      }

  ended_13 : (cells a : ℕ) (t : Tables) → (B.outcome cells a t).built.refusal ≡ 13 → Ended13 (refusal cells t) (B.placing cells) (B.outcome cells a t)
  ended_13 cells a t h = go (comes n n1 ks cells a vs t (refusal cells t))
    where
      number : Outcome → ℕ
      number o = o.built.refusal

      go : Comes n n1 ks cells a vs t (refusal cells t) → Ended13 (refusal cells t) (B.placing cells) (B.outcome cells a t)
      go (early l e) = absurd (omega (arith, ap number e, (first cells t).number_low))
      go (whole z q e) = absurd (omega (arith, ap number e))
      go (stuck z row tried needed q e) = rw e (record { passed = z; tried = tried; is = (within_stuck a (placing_of n1 ks cells vs) row tried needed q).is })
      go (over z row q e) = absurd (omega (arith, ap number e))

  outcome_enough : (cells a : ℕ) (t : Tables) → (B.outcome cells a t).built.refusal ≡ 13
      → Enough B cells t (B.outcome cells a t).built.place (B.outcome cells a t).built.needed
  outcome_enough cells a t h =
      let e = ended_13 cells a t h in
      let s = placing_short n1 ks vs cells _ e.tried _ e.is in
      let up = s.above in
      record {
        above = up;
        enough = λ m b g l r u. (room cells m t g (omega arith) r e.passed, within_placed b _ _ _ (s.enough m l) u);
        earlier = s.earlier;
        fewer = λ m b t' l p. true≢false (sym (placed_within_lem b _ _ _ p.1) ∙ s.fewer m l);
        refused = λ m b t' l z. s.refused m l (outcome_accepted n n1 ks m b vs t' (refusal m t') z).placed;
      }

  outcome_unplaced : Unplaced B
  unfolding placing_of
  outcome_unplaced cells a t h = go (comes n n1 ks cells a vs t (refusal cells t))
    where
      number : Outcome → ℕ
      number o = o.built.refusal

      row : Outcome → ℕ
      row o = o.built.place

      unplaced : (r q : ℕ) → r ≡ q → places_within a (placing_of n1 ks cells vs) q ≡ false → Places B cells a t r → ⊥
      unplaced r q e f p = true≢false (sym p.1 ∙ ap (places_within a (placing_of n1 ks cells vs)) e ∙ f)

      go : Comes n n1 ks cells a vs t (refusal cells t) → Places B cells a t (B.outcome cells a t).built.place → ⊥
      go (early l e) = absurd (omega (arith, ap number e, (first cells t).number_low))
      go (whole z q e) = absurd (omega (arith, ap number e))
      go (stuck z r tried needed q e) =
          unplaced _ r (ap row e)
          (stuck_out a (cares_from 1 n1 ks vs) (replicate (2 ^ n1) 0) (replicate cells 0) r tried needed (within_stuck a (placing_of n1 ks cells vs) r tried needed q).is)
      go (over z r q e) = unplaced _ r (ap row e) (over_out a (cares_from 1 n1 ks vs) (replicate (2 ^ n1) 0) (replicate cells 0) r q)

  outcome_wider : (cells a : ℕ) (t : Tables) → Accepts B cells a t → Wider B cells a t
  unfolding record_of
  outcome_wider cells a t h m g l r =
      let e = outcome_accepted n n1 ks cells a vs t (refusal cells t) h in
      let w = placing_wider n1 ks vs cells m l e.placed in
      let p = some cells t e.passed in
      let z = room cells m t g (omega arith) r e.passed in
      let o = accepted_outcome_lem n n1 ks m a vs (with_cells t g) (refusal m (with_cells t g)) z w.0 (omega (arith, w.1.tries, e.within)) in
      rw (e.is, o)
      (record {
        accepted = refl;
        rows = ap (λ (x : List ℕ). tables.over x t.h) w.1.rows;
        words = refl;
        tries = w.1.tries;
      })

  -- accepted with so many cells: accepted with those up to the last that is taken, and with no fewer
  outcome_least : (second : Refusal) (cells a : ℕ) (t : Tables) → ((refusal cells t).number ≡ 0 → Passed n n1 second ks cells vs t) → Accepts B cells a t
      → LeastCells B a t (used (take cells (B.outcome cells a t).tables.g))
  outcome_least second cells a t pass h =
      let e = outcome_accepted n n1 ks cells a vs t (refusal cells t) h in
      let G : List ℕ = (placing_of n1 ks cells vs).state.g in
      let f : take cells (tables.over G t.g) ≡ G = take_at G (drop (length G) t.g) cells (placing_cells n1 ks cells vs) in
      rw (e.is, f)
      (record {
        enough = λ m g k l r.
            ⊎_elim
            (λ q. (outcome_wider cells a t h m g q r).accepted)
            (λ q.
            let w = placing_within n1 ks vs cells m (omega arith) e.placed (λ c i. care_held n n1 second ks cells vs t (pass e.passed) e.placed c i) l in
            let z = room cells m t g k r e.passed in
            let i = (placing_wider n1 ks vs m cells (omega arith) w).1.tries in
            ap (λ (o : Outcome). o.built.refusal) (accepted_outcome_lem n n1 ks m a vs (with_cells t g) (refusal m (with_cells t g)) z w (omega (arith, e.within))))
            (le_or_lt cells m);
        fewer = λ m b t' l z.
            let o = outcome_accepted n n1 ks m b vs t' (refusal m t') z in
            omega (arith, placing_used n1 ks vs cells m o.placed);
      })

-- ---- the builds

module _ (n degree : ℕ) (vs : List ℕ) where
  abbrev ks : List Kind
  ks = chosen_kinds n degree vs

  abbrev n1 : ℕ
  n1 = rows_share (length ks)

  abbrev r : ℕ → Tables → Refusal
  r cells t = chosen_refusal n degree ks cells vs t

  abbrev rest : Tables → List Refusal
  rest t = check11 ks vs ∷ check12 n1 t.h ∷ []

  chosen_room : (cells m : ℕ) (t : Tables) (g : List ℕ) → 0 < m → Room m g → (r cells t).number ≡ 0 → (r m (with_cells t g)).number ≡ 0
  unfolding chosen_refusal
  chosen_room cells m t g p q = list_room n (check2_chosen degree) cells m vs (length t.g) (length g) (length t.aux) (rest t) p q.0 q.1

  chosen_some : (cells : ℕ) (t : Tables) → (r cells t).number ≡ 0 → 0 < cells
  unfolding chosen_refusal
  chosen_some cells t = some_cells n (check2_chosen degree) cells vs (length t.g) (length t.aux) (rest t)

  -- refused by 13: the row has its place with as many cells as are needed, and with no fewer
  pub chosen_enough : (cells a : ℕ) (t : Tables) → (build_chosen n degree cells a vs t).built.refusal ≡ 13
      → Enough (chosen_builds n degree vs) cells t (build_chosen n degree cells a vs t).built.place (build_chosen n degree cells a vs t).built.needed
  unfolding build_chosen
  chosen_enough cells a t = outcome_enough n n1 ks vs r (chosen_small n degree vs) chosen_room chosen_some cells a t

  -- refused by 13 or 41: the row is not placed
  pub chosen_unplaced : Unplaced (chosen_builds n degree vs)
  unfolding build_chosen
  chosen_unplaced = outcome_unplaced n n1 ks vs r (chosen_small n degree vs) chosen_room chosen_some

  -- accepted: accepted with more cells, and the same but for G
  pub chosen_wider : (cells a : ℕ) (t : Tables) → (build_chosen n degree cells a vs t).built.refusal ≡ 0 → Wider (chosen_builds n degree vs) cells a t
  unfolding build_chosen
  chosen_wider cells a t = outcome_wider n n1 ks vs r (chosen_small n degree vs) chosen_room chosen_some cells a t

  -- accepted: accepted with the cells up to the last that is taken, and with no fewer
  pub chosen_least : (cells a : ℕ) (t : Tables) → (build_chosen n degree cells a vs t).built.refusal ≡ 0
      → LeastCells (chosen_builds n degree vs) a t (used (take cells (build_chosen n degree cells a vs t).tables.g))
  unfolding build_chosen
  chosen_least cells a t = outcome_least n n1 ks vs r (chosen_small n degree vs) chosen_room chosen_some (check2_chosen degree) cells a t (chosen_passed n degree cells vs t)

module _ (n : ℕ) (variables : List Variable) (p n1 : ℕ) (vs : List ℕ) where
  abbrev gs : List Kind
  gs = kinds_of (take p variables)

  abbrev s : ℕ → Tables → Refusal
  s cells t = given_refusal n p n1 gs cells vs t

  abbrev more : Tables → List Refusal
  more t = given_checks n gs vs ++ (check12 n1 t.h ∷ [])

  given_room : (cells m : ℕ) (t : Tables) (g : List ℕ) → 0 < m → Room m g → (s cells t).number ≡ 0 → (s m (with_cells t g)).number ≡ 0
  unfolding given_refusal
  given_room cells m t g k q = list_room n (check2_given p n1) cells m vs (length t.g) (length g) (length t.aux) (more t) k q.0 q.1

  given_some : (cells : ℕ) (t : Tables) → (s cells t).number ≡ 0 → 0 < cells
  unfolding given_refusal
  given_some cells t = some_cells n (check2_given p n1) cells vs (length t.g) (length t.aux) (more t)

  -- the same of the given build
  pub given_enough : (cells a : ℕ) (t : Tables) → (build_given n variables p n1 cells a vs t).built.refusal ≡ 13
      → Enough (given_builds n variables p n1 vs) cells t (build_given n variables p n1 cells a vs t).built.place (build_given n variables p n1 cells a vs t).built.needed
  unfolding build_given
  given_enough cells a t = outcome_enough n n1 gs vs s (given_small n variables p n1 vs) given_room given_some cells a t

  pub given_unplaced : Unplaced (given_builds n variables p n1 vs)
  unfolding build_given
  given_unplaced = outcome_unplaced n n1 gs vs s (given_small n variables p n1 vs) given_room given_some

  pub given_wider : (cells a : ℕ) (t : Tables) → (build_given n variables p n1 cells a vs t).built.refusal ≡ 0 → Wider (given_builds n variables p n1 vs) cells a t
  unfolding build_given
  given_wider cells a t = outcome_wider n n1 gs vs s (given_small n variables p n1 vs) given_room given_some cells a t

  pub given_least : (cells a : ℕ) (t : Tables) → length variables ≡ max_variables → (build_given n variables p n1 cells a vs t).built.refusal ≡ 0
      → LeastCells (given_builds n variables p n1 vs) a t (used (take cells (build_given n variables p n1 cells a vs t).tables.g))
  unfolding build_given
  given_least cells a t places =
      outcome_least n n1 gs vs s (given_small n variables p n1 vs) given_room given_some (check2_given p n1) cells a t (given_passed n variables p n1 cells vs t places)
