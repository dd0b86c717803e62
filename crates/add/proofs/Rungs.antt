-- An addition, refusal by refusal. Assumes nothing.
use Prim.Native.Nat.{ℕ, suc, ◌^◌, ◌≤◌, ◌<◌}
use native.Mathlib.Omega.{arith}
use mathlib.Core.Path.{◌≡◌, refl, sym, ap, ap₂, ◌∙◌}
use mathlib.Core.Bool.{Bool, true, false, not}
use mathlib.Core.List.{List, [], ◌∷◌}
use borrow.Author.Tests.{le-leb, lt-leb, leb-false, ltb-false}
use lib.ListN.{length}
use Rattle.std.proofs.Common.{Option, None, Some, MatchOption, Err}
use Rattle.vectors.specs.Bounds.{max_vectors, max_variables, max_words}
use Rattle.record.specs.declared.Record.{Record}
use Rattle.record.specs.Tables.{Tables}
use Rattle.record.specs.Leads.{word_in, cell_in}
use Rattle.recover.specs.Every.{listed}
use Rattle.recover.proofs.Every.{listed_formed, listed_few}
use Rattle.refusal.specs.declared.Refused.{Refused}
use Rattle.build.specs.Built.{Refusal, Built, told, refused_as}
use Rattle.build.specs.Refusals.{refuse_at, ladder}
use Rattle.build.specs.Build.{after, refused}
use Rattle.refusal.proofs.Numbers.{numbered}
use Rattle.build.proofs.Refusing.Ladder.{if_yes, if_no, pass_at, if_passed}
use Rattle.add.specs.Add.{refuse_new, check3, check5, add_refusal, placed_in, add_of}
use Rattle.add.specs.Inner.Seats.{seat_of, FirstsAre, NumberFound}
use Rattle.add.specs.Inner.Checks.{checks}
use Rattle.add.specs.Inner.Moves.{Ready}
use Rattle.add.proofs.Seating.{seat_row, seat_column}
use Rattle.add.proofs.Refusing.{new_yes, new_no}
use Rattle.add.proofs.Founds.{or_0, found_number, found_own, found_alike}
use Rattle.add.proofs.Registered.{own_is, alike_is}
use Rattle.add.proofs.Moving.Rows.{stands, holds}
use Rattle.add.proofs.Adding.Ends.{listed_rungs, added_refused, added_passed}

module _ (u : Record) (t : Tables) (x : ℕ) where
  -- ---- the refusal

  refused_by : (m place : ℕ) → add_refusal u t x ≡ record { number = suc m; place = place } → add_of u t x ≡ refused (record { number = suc m; place = place }) t
  refused_by m place q =
      added_refused u t x (λ z. let w : suc m ≡ 0 = sym (ap (λ (r : Refusal). r.number) q) ∙ z in omega arith) ∙ ap (λ (r : Refusal). refused r t) q

  pub added_unlisted : listed u t ≡ false → add_of u t x ≡ refused (record { number = 14; place = 0 }) t
  unfolding add_refusal
  added_unlisted e = refused_by 13 0 (if_yes 13 (listed_rungs u t x) (not (listed u t)) (rw e))

  module _ (L : listed u t ≡ true) where
    past_listed : add_refusal u t x ≡ ladder (listed_rungs u t x)
    unfolding add_refusal
    past_listed = if_no 13 (listed_rungs u t x) (not (listed u t)) (rw L)

    pub added_beyond : 2 ^ u.n ≤ x → add_of u t x ≡ refused (record { number = 6; place = suc u.k }) t
    added_beyond h = refused_by 5 (suc u.k) (past_listed ∙ new_yes 5 u _ _ (le-leb (2 ^ u.n) x h))

    -- the checks past these two, by the number whose first cell is that of x
    pub refusal_is : x < 2 ^ u.n → (o : Option ℕ) → NumberFound u t (cell_in u t x) o → ladder (checks u t.aux (seat_of u t.h x) o) ≡ add_refusal u t x
    refusal_is b o N =
        sym
        (past_listed
        ∙ new_no 5 u _ _ (lt-leb (2 ^ u.n) x b)
        ∙ ap₂ (λ (m : ℕ) (c : Bool). ladder (refuse_at 40 m ∷ check3 u ∷ check5 u t ∷ refuse_new 10 u c ∷ []))
        (own_is u t x L (or_0 o) (found_number u t _ o N) b ∙ found_own u t _ t.aux (word_in u x) o N)
        (alike_is u t x L (or_0 o) (found_number u t _ o N) ∙ found_alike u t _ (seat_of u t.h x) t.aux o N))

    -- a refusal of these checks, and what it is to be past them
    module _ (b : x < 2 ^ u.n) (o : Option ℕ) (N : NumberFound u t (cell_in u t x) o) where
      pub added_by : (e : Refused) → told (Err e) ≡ refused_as (ladder (checks u t.aux (seat_of u t.h x) o)) → after (told (Err e)) t.h t.g t.aux ≡ add_of u t x
      added_by e h =
          let k : told (Err e) ≡ refused_as (add_refusal u t x) = h ∙ ap refused_as (refusal_is b o N) in
          ap (λ (r : Built). after r t.h t.g t.aux) k
          ∙ sym (added_refused u t x (λ z. omega (arith, numbered e.refusal, ap (λ (r : Built). r.refusal) k, z)))

      pub added_past : (ladder (checks u t.aux (seat_of u t.h x) o)).number ≡ 0 → add_of u t x ≡ placed_in u t x
      added_past z = added_passed u t x (sym (ap (λ (r : Refusal). r.number) (refusal_is b o N)) ∙ z)

    -- ---- what is known past the refusals

    pub few : u.k ≤ max_vectors
    few = (listed_few u t L).0

    pub number_low : (o : Option ℕ) → NumberFound u t (cell_in u t x) o → MatchOption o Unit (λ i. (0 < i) × (i < length t.aux))
    number_low None N = tt
    number_low (Some i) N = let p = N.some i refl in (p.0, omega (arith, p.1, (listed_formed u t L).words_held))

    pub ready : (firsts : List ℕ) → FirstsAre u t firsts → length firsts ≡ max_words → length u.variables ≡ max_variables → (seat_of u t.h x).displacement < 2 ^ 16 → (o : Option ℕ)
        → (ladder (checks u t.aux (seat_of u t.h x) o)).number ≡ 0 → Ready u t firsts (seat_of u t.h x)
    ready firsts F s v d o e =
        let p = pass_at (checks u t.aux (seat_of u t.h x) o) e in
        let k : u.k < max_vectors = leb-false _ _ (if_passed 2 _ (p 1)) in
        let w : suc (suc u.k) ≤ length t.aux = ltb-false _ _ (if_passed 4 _ (p 2)) in
        let W = listed_formed u t L in
        record {
          few = k;
          variables = W.bounds.few;
          words = w;
          cells = W.cells_held;
          cells_few = (listed_few u t L).1;
          firsts_held = omega arith;
          row = omega (arith, seat_row u x W.bounds v, W.rows_held);
          column = seat_column u x W.bounds v;
          displacement = d;
          stands = stands u t x L firsts F;
          holds = holds u t x L firsts F;
        }
