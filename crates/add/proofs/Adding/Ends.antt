-- The four ends of an addition: refused; in a free cell; with its row moved; its row fits nowhere. Assumes nothing.
use Prim.Native.Nat.{ℕ, zero, suc, ◌^◌, ◌<◌}
use native.Mathlib.Omega.{arith}
use mathlib.Core.Path.{◌≡◌, refl, sym, ap, ◌∙◌}
use mathlib.Core.Bool.{Bool, true, false}
use mathlib.Core.List.{List, [], ◌∷◌, map}
use mathlib.Core.Logic.{◌⊎◌, inl, inr}
use lib.ListN.{length, set}
use borrow.Author.Tests.{ltb-false, leb-false, not-false}
use Rattle.lists.specs.First.{has}
use Rattle.vectors.specs.Bounds.{max_vectors}
use Rattle.vectors.specs.Variable.{number_of, row_of}
use Rattle.rows.specs.Fit.{first_fit, put, Fit, At, None}
use Rattle.record.specs.declared.Record.{Record}
use Rattle.record.specs.Record.{kinds_in}
use Rattle.record.specs.Tables.{Tables, over}
use Rattle.record.specs.Leads.{cell_in}
use Rattle.record.specs.Holds.{index_of}
use Rattle.recover.specs.Every.{listed, list_in}
use Rattle.build.specs.Built.{Refusal}
use Rattle.build.specs.Refusals.{ladder}
use Rattle.build.specs.Build.{Outcome, refused}
use Rattle.build.proofs.Refusing.Ladder.{pass_at, if_passed, at_passed}
use Rattle.add.specs.Add.{refuse_new, check14, check6, check40, check3, check5, check10, add_refusal, amended, has_room_for, amended_to, moved, placed_in, add_of}
use Rattle.add.specs.Facts.{lifted_cells, new_row}

module _ (u : Record) (t : Tables) (x : ℕ) where
  -- past the refusals before 13
  pub record Passed : Type 0 where
    pub none : (add_refusal u t x).number ≡ 0
    pub is_listed : listed u t ≡ true
    pub within : x < 2 ^ u.n
    pub unknown : index_of (list_in u t) x ≡ 0
    pub few : u.k < max_vectors
    pub word_fits : suc u.k < length t.aux
    pub apart : has (number_of (kinds_in u) x) (map (number_of (kinds_in u)) (list_in u t)) ≡ false

  new_passed : (m : ℕ) (b : Bool) → (refuse_new (suc m) u b).number ≡ 0 → b ≡ false
  new_passed m true h = absurd (omega arith)
  new_passed m false h = refl

  -- the rungs behind 14, and all of them
  abbrev pub listed_rungs : List Refusal
  listed_rungs = check6 u x ∷ check40 u t x ∷ check3 u ∷ check5 u t ∷ check10 u t x ∷ []

  abbrev pub rungs : List Refusal
  rungs = check14 u t ∷ listed_rungs

  past : (add_refusal u t x).number ≡ 0 → (ladder rungs).number ≡ 0 → Passed
  past z h =
      let p = pass_at rungs h in
      record {
        none = z;
        is_listed = not-false _ (if_passed 13 _ (p 0));
        within = leb-false _ _ (new_passed 5 _ (p 1));
        unknown = at_passed 39 _ (p 2);
        few = leb-false _ _ (if_passed 2 _ (p 3));
        word_fits = ltb-false _ _ (if_passed 4 _ (p 4));
        apart = new_passed 9 _ (p 5);
      }

  pub passed : (add_refusal u t x).number ≡ 0 → Passed
  unfolding add_refusal
  passed h = past h h

  -- ---- the four ends of an addition

  pub record Refused : Type 0 where
    pub cause : (add_refusal u t x).number ≡ 0 → ⊥
    pub is : add_of u t x ≡ refused (add_refusal u t x) t

  -- its cell is free
  pub record Room : Type 0 where
    pub passes : Passed
    pub has_room : has_room_for u t x ≡ true
    pub is : add_of u t x ≡ amended_to u t x t.h (set t.g (cell_in u t x) (suc u.k))

  -- its row is moved
  pub record Moved : Type 0 where
    pub passes : Passed
    pub no_room : has_room_for u t x ≡ false
    pub d : ℕ
    pub fits : first_fit (lifted_cells u t x) (new_row u t x) ≡ At d
    pub is : add_of u t x ≡ amended_to u t x (set t.h (row_of u.n1 (kinds_in u) x) d) (over (put (lifted_cells u t x) d (new_row u t x)) t.g)

  -- its row fits nowhere
  pub record Stuck : Type 0 where
    pub passes : Passed
    pub no_room : has_room_for u t x ≡ false
    pub tried : ℕ
    pub needed : ℕ
    pub fits : first_fit (lifted_cells u t x) (new_row u t x) ≡ None tried needed
    pub is : add_of u t x ≡ refused (record { number = 13; place = row_of u.n1 (kinds_in u) x }) t

  pub data End : Type 0 where
    refuses : Refused → End
    goes_in : Room → End
    moves : Moved → End
    sticks : Stuck → End

  -- by the refusal's number
  pub added_refused : ((add_refusal u t x).number ≡ 0 → ⊥) → add_of u t x ≡ refused (add_refusal u t x) t
  unfolding add_of
  added_refused h = go (add_refusal u t x).number h
    where
      go : (m : ℕ) → (m ≡ 0 → ⊥) → elim m as (λ n. Outcome) [ zero ↦ placed_in u t x | suc n ↦ refused (add_refusal u t x) t ] ≡ refused (add_refusal u t x) t
      go zero h = absurd (h refl)
      go (suc m) h = refl

  pub added_passed : (add_refusal u t x).number ≡ 0 → add_of u t x ≡ placed_in u t x
  unfolding add_of
  added_passed e = rw (e, add_of)

  placed_room : has_room_for u t x ≡ true → placed_in u t x ≡ amended_to u t x t.h (set t.g (cell_in u t x) (suc u.k))
  unfolding placed_in
  placed_room e = rw (e, placed_in)

  placed_moved : has_room_for u t x ≡ false → placed_in u t x ≡ moved u t x
  unfolding placed_in
  placed_moved e = rw (e, placed_in)

  moved_at : (d : ℕ) → first_fit (lifted_cells u t x) (new_row u t x) ≡ At d
      → moved u t x ≡ amended_to u t x (set t.h (row_of u.n1 (kinds_in u) x) d) (over (put (lifted_cells u t x) d (new_row u t x)) t.g)
  unfolding moved
  moved_at d q = rw (q, moved)

  moved_none : (tried needed : ℕ) → first_fit (lifted_cells u t x) (new_row u t x) ≡ None tried needed
      → moved u t x ≡ refused (record { number = 13; place = row_of u.n1 (kinds_in u) x }) t
  unfolding moved
  moved_none tried needed q = rw (q, moved)

  pub ending : End
  ending = by (add_refusal u t x).number refl
    where
      fit : (add_refusal u t x).number ≡ 0 → has_room_for u t x ≡ false → (f : Fit) → first_fit (lifted_cells u t x) (new_row u t x) ≡ f → End
      fit z e (At d) q = moves (record { passes = passed z; no_room = e; d = d; fits = q; is = added_passed z ∙ placed_moved e ∙ moved_at d q })
      fit z e (None tried needed) q =
          sticks (record { passes = passed z; no_room = e; tried = tried; needed = needed; fits = q; is = added_passed z ∙ placed_moved e ∙ moved_none tried needed q })

      cell : (add_refusal u t x).number ≡ 0 → (b : Bool) → has_room_for u t x ≡ b → End
      cell z true e = goes_in (record { passes = passed z; has_room = e; is = added_passed z ∙ placed_room e })
      cell z false e = fit z e (first_fit (lifted_cells u t x) (new_row u t x)) refl

      by : (m : ℕ) → (add_refusal u t x).number ≡ m → End
      by zero z = cell z (has_room_for u t x) refl
      by (suc m) e = refuses (record { cause = λ z. omega arith; is = added_refused (λ z. omega arith) })

  -- what an accepted addition is
  pub accepted : (add_of u t x).built.refusal ≡ 0 → Room ⊎ Moved
  accepted z = by ending
    where
      by : End → Room ⊎ Moved
      by (refuses r) = absurd (r.cause (ap (λ (o : Outcome). o.built.refusal) (sym r.is) ∙ z))
      by (goes_in r) = inl r
      by (moves m) = inr m
      by (sticks s) = absurd (omega (arith, ap (λ (o : Outcome). o.built.refusal) s.is))

  -- its record
  pub accepted_record : (add_of u t x).built.refusal ≡ 0 → (add_of u t x).built.unit ≡ amended u
  accepted_record z = by (accepted z)
    where
      by : Room ⊎ Moved → (add_of u t x).built.unit ≡ amended u
      by (inl r) = ap (λ (o : Outcome). o.built.unit) r.is
      by (inr m) = ap (λ (o : Outcome). o.built.unit) m.is
