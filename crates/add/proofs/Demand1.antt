-- Demand 1 of additions: each refusal is given exactly where it is the first that has a cause. Assumes nothing.
use Prim.Native.Nat.{ℕ, zero, suc, ◌+◌, ◌^◌, ◌≤◌, ◌<◌}
use native.Mathlib.Omega.{arith}
use mathlib.Core.Path.{◌≡◌, refl, sym, ap, ◌∙◌}
use mathlib.Core.Bool.{Bool, true, false, not, ◌&&◌, true≢false}
use mathlib.Core.List.{List, [], ◌∷◌, ◌++◌, map}
use mathlib.Core.Logic.{inl, inr, ⊎_elim}
use lib.Dec.{eqb, leb, ltb}
use lib.ListN.{length, get_or, length-map}
use borrow.Author.Tests.{ltb-true, ltb-false, leb-true, leb-false, eqb-true, eqb-false, eq-eqb, not-true, not-false}
use Rattle.lists.specs.First.{has}
use Rattle.lists.proofs.Tests.{and_true, and_false}
use Rattle.lists.proofs.Finding.Has.{has_in, in_has}
use Rattle.lists.proofs.Entries.Joined.{in_at}
use Rattle.lists.proofs.Entries.Members.{get_d_in, get_d_map}
use Rattle.vectors.specs.Bounds.{max_vectors}
use Rattle.vectors.specs.Variable.{number_of, row_of}
use Rattle.rows.specs.Fit.{is_free, first_fit, Fit, At, None}
use Rattle.rows.proofs.Fits.First.{fit_at, fit_none}
use Rattle.rows.proofs.Fits.Cells.{fits_free}
use Rattle.record.specs.declared.Record.{Record}
use Rattle.record.specs.Record.{blank_record, kinds_in}
use Rattle.record.specs.Tables.{Tables}
use Rattle.record.specs.Formed.{well_formed}
use Rattle.record.specs.Leads.{cell_in}
use Rattle.recover.specs.Recover.{Recovered, recover_of}
use Rattle.recover.specs.Every.{all_given, listed, list_in}
use Rattle.recover.proofs.Every.{listed_number, holds_listed, holds_list}
use Rattle.build.specs.Built.{Refusal}
use Rattle.build.specs.Refusals as refusals
use Rattle.build.specs.Refusals.{or_else, ladder}
use Rattle.build.specs.Build.{Outcome}
use Rattle.build.proofs.Refusing.Ladder.{ladder_append, or_given, or_passed, refusal_of}
use Rattle.unit.specs.Demand1.{Cause, Gives, cause, Agree}
use Rattle.unit.proofs.Demand1.Ladder.{Answers, AnswersAll, ladder_gives, answers_one, gives_one, if_answers}
use Rattle.unit.proofs.Demand1.Entries.{first_answers}
use Rattle.unit.proofs.Demand1.Checks.{number_agree, agree_number}
use Rattle.unit.proofs.Demand1.Stuck.{not_fits, fits_blocked}
use Rattle.unit.proofs.Demand1.Formed.{formed_yes, formed_no}
use Rattle.add.specs.Add.{refuse_new, check14, check10, add_refusal, has_room_for, add_of}
use Rattle.add.specs.Facts.{new_row, lifted_cells}
use Rattle.add.specs.Demand1.{Listed, cause_new, NoRoom, NoFit, listed_causes, add_causes, Refuses, Demand1Add, Demand1Held}
use Rattle.add.proofs.Adding.Ends.{rungs, End, ending}

-- ---- listed

module _ (u : Record) (t : Tables) where
  all_given_lem : (m i : ℕ) → ((j : ℕ) → j < m → (recover_of u t (i + j)).refusal ≡ 0) → all_given u t i m ≡ true
  unfolding all_given
  all_given_lem zero i f = refl
  all_given_lem (suc m) i f =
      let e : i + 0 ≡ i = omega arith in
      let z : (recover_of u t i).refusal ≡ 0 = rw e at (f 0 (omega arith)) in
      rw (eq-eqb _ 0 z) (all_given_lem m (suc i) (λ j h. let q : suc i + j ≡ i + suc j = omega arith in rw q (f (suc j) (omega arith))))

  listed_yes : listed u t ≡ true → Listed u t
  unfolding listed
  listed_yes h =
      record {
        formed = formed_yes u t (and_true (well_formed u t) (all_given u t 1 u.k) h).0;
        given = λ i l b. ap (λ (r : Recovered). r.refusal) (listed_number u t h i l b).answer;
      }

  yes_listed : Listed u t → listed u t ≡ true
  unfolding listed
  yes_listed L = go (well_formed u t) refl
    where
      go : (b : Bool) → well_formed u t ≡ b → (well_formed u t && all_given u t 1 u.k) ≡ true
      go true e = rw e (all_given_lem u.k 1 (λ j h. L.given (1 + j) (omega arith) (omega arith)))
      go false e = absurd (formed_no u t e L.formed)

-- ---- the checks

module _ (u : Record) (t : Tables) (x : ℕ) where
  new_answers : (m : ℕ) (test : Bool) (P : Type 0) → (test ≡ true → P) → (test ≡ false → P → ⊥) → Answers (refuse_new (suc m) u test) (cause_new (suc m) u P)
  new_answers m true P y n =
      record { none = λ z q a. absurd (omega arith); some = λ h. (refl, (refl, y refl)); one = λ p q a b. a.0 ∙ sym b.0 }
  new_answers m false P y n =
      record { none = λ z q a. n refl a.1; some = λ h. absurd (h refl); one = λ p q a b. a.0 ∙ sym b.0 }

  listed_answers : Answers (check14 u t) (cause 14 (Listed u t → ⊥))
  listed_answers =
      if_answers 13 (not (listed u t)) (Listed u t → ⊥)
      (λ h L. true≢false (sym (yes_listed u t L) ∙ not-true _ h))
      (λ h n. n (listed_yes u t (not-false _ h)))

  agrees_answers : Answers (check10 u t x) (cause_new 10 u ((i : ℕ) × (i < length (list_in u t)) × Agree (kinds_in u) x (get_or (list_in u t) i 0)))
  agrees_answers = new_answers 9 (has (number_of (kinds_in u) x) numbers) _ yes no
    where
      numbers : List ℕ
      numbers = map (number_of (kinds_in u)) (list_in u t)

      size : length numbers ≡ length (list_in u t)
      size = length-map (list_in u t) (number_of (kinds_in u))

      at : (i : ℕ) → i < length (list_in u t) → get_or numbers i 0 ≡ number_of (kinds_in u) (get_or (list_in u t) i 0)
      at i l = get_d_map (number_of (kinds_in u)) (list_in u t) i 0 0 l

      yes : has (number_of (kinds_in u) x) numbers ≡ true → (i : ℕ) × (i < length (list_in u t)) × Agree (kinds_in u) x (get_or (list_in u t) i 0)
      yes h =
          let p = in_at (number_of (kinds_in u) x) numbers 0 (has_in (number_of (kinds_in u) x) numbers h) in
          let l : p.0 < length (list_in u t) = omega (arith, p.1, size) in
          (p.0, l, number_agree (kinds_in u) x (get_or (list_in u t) p.0 0) (sym p.2 ∙ at p.0 l))

      no : has (number_of (kinds_in u) x) numbers ≡ false → (i : ℕ) × (i < length (list_in u t)) × Agree (kinds_in u) x (get_or (list_in u t) i 0) → ⊥
      no h p =
          let e : number_of (kinds_in u) x ≡ get_or numbers p.0 0 = agree_number (kinds_in u) x (get_or (list_in u t) p.0 0) p.2 ∙ sym (at p.0 p.1) in
          true≢false (sym (rw (← e) at (in_has (get_or numbers p.0 0) numbers (get_d_in numbers p.0 0 (omega (arith, p.1, size))))) ∙ h)

  -- 13, behind them
  abbrev stuck_at : Bool → Fit → Refusal
  stuck_at true f = refusals.accepted
  stuck_at false (At d) = refusals.accepted
  stuck_at false (None tried needed) = record { number = 13; place = row_of u.n1 (kinds_in u) x }

  abbrev last : Refusal
  last = stuck_at (has_room_for u t x) (first_fit (lifted_cells u t x) (new_row u t x))

  abbrev last_cause : Cause
  last_cause = record { number = 13; at = λ place. (place ≡ row_of u.n1 (kinds_in u) x) × NoFit u t x }

  has_room : has_room_for u t x ≡ true → NoRoom u t x → ⊥
  has_room e n =
      let a = and_true (ltb (cell_in u t x) u.cells) (is_free t.g (cell_in u t x)) e in
      ⊎_elim (λ l. omega (arith, ltb-true (cell_in u t x) u.cells a.0)) (λ f. f (eqb-true _ _ a.1)) n

  no_room : has_room_for u t x ≡ false → NoRoom u t x
  no_room e =
      ⊎_elim (λ a. inl (ltb-false _ _ a)) (λ a. inr (eqb-false _ _ a)) (and_false (ltb (cell_in u t x) u.cells) (is_free t.g (cell_in u t x)) e)

  last_answers : Answers last last_cause
  last_answers = go (has_room_for u t x) refl (first_fit (lifted_cells u t x) (new_row u t x)) refl
    where
      one : (p q : ℕ) → last_cause.at p → last_cause.at q → p ≡ q
      one p q a b = a.0 ∙ sym b.0

      go : (b : Bool) → has_room_for u t x ≡ b → (f : Fit) → first_fit (lifted_cells u t x) (new_row u t x) ≡ f → Answers (stuck_at b f) last_cause
      go true e f q = record { none = λ z p a. has_room e a.1.0; some = λ h. absurd (h refl); one = one }
      go false e (At d) q =
          record {
            none = λ z p a. fits_blocked (lifted_cells u t x) (new_row u t x) d (fits_free (lifted_cells u t x) d (new_row u t x) (fit_at (lifted_cells u t x) (new_row u t x) d q).fits) (a.1.1 d);
            some = λ h. absurd (h refl);
            one = one;
          }
      go false e (None tried needed) q =
          record {
            none = λ z p a. absurd (omega arith);
            some = λ h. (refl, (refl, (no_room e, λ d. not_fits (lifted_cells u t x) d (new_row u t x) ((fit_none (lifted_cells u t x) (new_row u t x) tried needed q).0.never d))));
            one = one;
          }

  all_answers : AnswersAll (rungs u t x ++ (last ∷ [])) (add_causes u t x)
  all_answers = (
    listed_answers,
    (
      new_answers 5 (leb (2 ^ u.n) x) (2 ^ u.n ≤ x) (λ a. leb-true _ _ a) (λ a l. omega (arith, leb-false (2 ^ u.n) x a)),
      (
        first_answers 39 (λ before v. eqb v x) 0 (list_in u t) (length (list_in u t)) (λ i. get_or (list_in u t) i 0 ≡ x) refl (λ j l e. eqb-true _ _ e) (λ j l e. eqb-false _ _ e),
        (
          if_answers 2 (leb max_vectors u.k) (max_vectors ≤ u.k) (λ a. leb-true _ _ a) (λ a l. omega (arith, leb-false max_vectors u.k a)),
          (
            if_answers 4 (ltb (length t.aux) (suc (suc u.k))) (length t.aux < suc (suc u.k)) (λ a. ltb-true _ _ a) (λ a l. omega (arith, ltb-false (length t.aux) (suc (suc u.k)) a)),
            (agrees_answers, (last_answers, tt)),
          ),
        ),
      ),
    ),
  )

  -- ---- the refusal given

  rungs_are : add_refusal u t x ≡ ladder (rungs u t x)
  unfolding add_refusal
  rungs_are = refl

  last_ladder : ladder (last ∷ []) ≡ last
  unfolding ladder
  last_ladder = go (has_room_for u t x) (first_fit (lifted_cells u t x) (new_row u t x))
    where
      go : (b : Bool) (f : Fit) → or_else (stuck_at b f).number (stuck_at b f) refusals.accepted ≡ stuck_at b f
      go true f = refl
      go false (At d) = refl
      go false (None tried needed) = refl

  given : refusal_of (add_of u t x) ≡ or_else (add_refusal u t x).number (add_refusal u t x) last
  given = go (ending u t x)
    where
      go : End u t x → refusal_of (add_of u t x) ≡ or_else (add_refusal u t x).number (add_refusal u t x) last
      go (End.refuses r) = ap refusal_of r.is ∙ sym (or_given (add_refusal u t x) last r.cause)
      go (End.goes_in r) = ap refusal_of r.is ∙ sym (or_passed (add_refusal u t x) last r.passes.none ∙ rw r.has_room)
      go (End.moves m) = ap refusal_of m.is ∙ sym (or_passed (add_refusal u t x) last m.passes.none ∙ rw (m.no_room, m.fits))
      go (End.sticks s) = ap refusal_of s.is ∙ sym (or_passed (add_refusal u t x) last s.passes.none ∙ rw (s.no_room, s.fits))

  given_ladder : refusal_of (add_of u t x) ≡ ladder (rungs u t x ++ (last ∷ []))
  given_ladder =
      given ∙ rw rungs_are (sym (ladder_append (rungs u t x) (last ∷ []) ∙ ap (or_else (ladder (rungs u t x)).number (ladder (rungs u t x))) last_ladder))

  -- ---- what a refused call leaves

  record Left (o : Outcome) : Type 0 where
    blank : 0 < o.built.refusal → o.built.unit ≡ blank_record
    untouched : 0 < o.built.refusal → o.tables ≡ t
    none_needed : o.built.needed ≡ 0

  left : Left (add_of u t x)
  left = go (ending u t x)
    where
      go : End u t x → Left (add_of u t x)
      go (End.refuses r) = rw r.is (record { blank = λ l. refl; untouched = λ l. refl; none_needed = refl })
      go (End.goes_in r) = rw r.is (record { blank = λ l. absurd (omega arith); untouched = λ l. absurd (omega arith); none_needed = refl })
      go (End.moves m) = rw m.is (record { blank = λ l. absurd (omega arith); untouched = λ l. absurd (omega arith); none_needed = refl })
      go (End.sticks s) = rw s.is (record { blank = λ l. refl; untouched = λ l. refl; none_needed = refl })

-- of every addition
pub add_demand_1 : Demand1Add add_of
add_demand_1 u t x =
    let g : Gives (add_causes u t x) (add_of u t x).built.refusal (add_of u t x).built.place =
    rw (← given_ladder u t x) at (ladder_gives (rungs u t x ++ (last u t x ∷ [])) (add_causes u t x) (all_answers u t x)) in
    record {
      refusal = g;
      only = λ number place h. gives_one (add_causes u t x) (answers_one (rungs u t x ++ (last u t x ∷ [])) (add_causes u t x) (all_answers u t x)) _ _ number place g h;
      blank = (left u t x).blank;
      untouched = (left u t x).untouched;
      none_needed = (left u t x).none_needed;
    }

-- in a unit that holds a list, by that list
pub held_demand_1 : Demand1Held add_of
held_demand_1 u t vs H x =
    let d : Refuses (cause 14 (Listed u t → ⊥) ∷ listed_causes u t vs x) t (add_of u t x) = rw (holds_list u t vs H) at (add_demand_1 u t x) in
    let L : Listed u t = listed_yes u t (holds_listed u t vs H) in
    let none : (q : ℕ) → (q ≡ 0) × (Listed u t → ⊥) → ⊥ = λ q p. p.1 L in
    record {
      refusal = ⊎_elim (λ g. absurd (g.1.1 L)) (λ g. g.1) d.refusal;
      only = λ number place h. d.only number place (inr (none, h));
      blank = d.blank;
      untouched = d.untouched;
      none_needed = d.none_needed;
    }
