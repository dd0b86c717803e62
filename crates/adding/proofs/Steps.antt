-- A record and tables that calls for C have left of a list answer by it. Assumes nothing.
use Prim.Native.Nat.{ℕ, suc, ◌%◌, ◌^◌, ◌≤◌}
use native.Mathlib.Omega.{arith}
use mathlib.Core.Path.{◌≡◌, refl, sym, ap, ap₂, subst, ◌∙◌}
use mathlib.Core.Bool.{true}
use mathlib.Core.List.{List, [], ◌∷◌, ◌++◌, map}
use lib.IntN.{ℤ}
use lib.ListN.{length, take, length-map}
use Rattle.vectors.specs.declared.Kind.{Kind}
use Rattle.vectors.specs.declared.Variable.{Variable}
use Rattle.vectors.specs.Bounds.{max_variables}
use Rattle.vectors.specs.Variable.{kinds_of}
use Rattle.span.specs.Span.{kept}
use Rattle.record.specs.declared.Mark.{Mark}
use Rattle.record.specs.declared.Record.{Record}
use Rattle.record.specs.Record.{mark_built, mark_amended, record_of, variables_of, excess_of, kinds_in}
use Rattle.record.specs.Tables.{Tables}
use Rattle.record.specs.Formed.{sound}
use Rattle.record.proofs.Formed.{well_formed_facts}
use Rattle.record.proofs.Marks.{kinds_in_lem}
use Rattle.record.proofs.Soundness.{sound_says}
use Rattle.build.specs.Built.{Refusal}
use Rattle.build.specs.Build.{Outcome, outcome, placing_of, chosen_refusal, given_refusal, build_chosen, build_given, rows_share, chosen_kinds}
use Rattle.build.proofs.Holding.Ends.{outcome_accepted}
use Rattle.file.specs.File.{longest_file, file_of}
use Rattle.file.specs.Read.{read_of}
use Rattle.file.specs.Facts.{carried_record}
use Rattle.file.proofs.Outcomes.{ranges}
use Rattle.file.proofs.Loading.Held.{read_record}
use Rattle.add.specs.Add.{amended, add_of}
use Rattle.add.specs.Made.{Made, standing}
use Rattle.add.proofs.Adding.Ends.{accepted_record}
use Rattle.add.proofs.Demand2.{made_stands, made_holds, made_demand_2}
use Rattle.flat.specs.Flat.{variable_at, flat_of, unit_seen}
use Rattle.flat.proofs.Carried.{carried}
use Rattle.bridge.specs.Calls.{Left, left, answer, left_by, build_call, given_call, read_call}
use Rattle.bridge.specs.Boundary.{Exact}
use Rattle.bridge.proofs.Answers.{build_left, given_left}
use Rattle.bridge.proofs.Boundary.{no_refusal, exact}
use Rattle.bridge.proofs.Files.{front}
use Rattle.adding.specs.Calls.{added_to, add_call}
use Rattle.adding.specs.Boundary.{file_bytes, ByCalls, ExactByCalls}
use Rattle.adding.proofs.Answers.{called, words_new}

-- ---- records as they are worked out

-- the record is what its numbers, its variables and its mark make
abbrev Settled : Record → Type 0
Settled u = u ≡ record_of u.mark u.n u.n1 u.k (kinds_in u) u.cells u.tries

record_settled : (m : Mark) (n n1 k : ℕ) (ks : List Kind) (cells tries : ℕ) → Settled (record_of m n n1 k ks cells tries)
unfolding record_of
record_settled m n n1 k ks cells tries = ap (λ (l : List Kind). record_of m n n1 k l cells tries) (sym (kinds_in_lem n1 ks))

outcome_settled : (r : Refusal) (n n1 : ℕ) (ks : List Kind) (cells allowance : ℕ) (vs : List ℕ) (t : Tables) → (outcome r n n1 ks cells allowance vs t).built.refusal ≡ 0
    → Settled (outcome r n n1 ks cells allowance vs t).built.unit
outcome_settled r n n1 ks cells allowance vs t z =
    let e : (outcome r n n1 ks cells allowance vs t).built.unit ≡ record_of mark_built n n1 (length vs) ks cells (placing_of n1 ks cells vs).state.tries =
    ap (λ (o : Outcome). o.built.unit) (outcome_accepted n n1 ks cells allowance vs t r z).is in
    rw e (record_settled mark_built n n1 (length vs) ks cells (placing_of n1 ks cells vs).state.tries)

chosen_settled : (n degree cells allowance : ℕ) (vs : List ℕ) (t : Tables) → (build_chosen n degree cells allowance vs t).built.refusal ≡ 0 → Settled (build_chosen n degree cells allowance vs t).built.unit
unfolding build_chosen
chosen_settled n degree cells allowance vs t =
    let ks : List Kind = chosen_kinds n degree vs in outcome_settled (chosen_refusal n degree ks cells vs t) n (rows_share (length ks)) ks cells allowance vs t

given_settled : (n : ℕ) (variables : List Variable) (p n1 cells allowance : ℕ) (vs : List ℕ) (t : Tables) → (build_given n variables p n1 cells allowance vs t).built.refusal ≡ 0
    → Settled (build_given n variables p n1 cells allowance vs t).built.unit
unfolding build_given
given_settled n variables p n1 cells allowance vs t =
    let ks : List Kind = kinds_of (take p variables) in outcome_settled (given_refusal n p n1 ks cells vs t) n n1 ks cells allowance vs t

-- the amended record, with these so
abbrev amended_by : Record → ℕ → ℕ → ℤ → List Variable → Record
amended_by u p kept excess variables =
    record { n = u.n; p = p; n1 = u.n1; k = suc u.k; cells = u.cells; kept = kept; tries = u.tries; excess = excess; variables = variables; mark = mark_amended }

amended_settled : (u : Record) → Settled u → Settled (amended u)
unfolding record_of
amended_settled u s =
    let p : u.p ≡ length (kinds_in u) = ap (λ (v : Record). v.p) s in
    let k : u.kept ≡ kept u.n (kinds_in u) = ap (λ (v : Record). v.kept) s in
    let e : excess_of u.p (suc u.k) ≡ excess_of (length (kinds_in u)) (suc u.k) = ap (λ (i : ℕ). excess_of i (suc u.k)) p in
    let l : u.variables ≡ variables_of u.n1 (kinds_in u) = ap (λ (v : Record). v.variables) s in
    ap₂ (λ (i j : ℕ). amended_by u i j (excess_of u.p (suc u.k)) u.variables) p k ∙ ap₂ (amended_by u (length (kinds_in u)) (kept u.n (kinds_in u))) e l

carried_settled : (u : Record) → Settled (carried_record u)
carried_settled u = record_settled u.mark u.n u.n1 u.k (kinds_in u) u.cells (u.tries % 2 ^ 32)

-- ---- so the record for C carries it

flat_seen : (u : Record) (t : Tables) → sound u t ≡ true → Settled u → unit_seen (flat_of u) ≡ u
flat_seen u t h s =
    let w = well_formed_facts u t (sound_says u t h).well_formed_lem in
    let r = ranges u t h in
    subst (λ (v : Record). unit_seen (flat_of v) ≡ v) (sym s)
    (carried u.mark u.n u.n1 u.k (kinds_in u) u.cells u.tries w.bounds.inputs w.inputs.right r.variables_few r.vectors_few)

-- ---- step by step

-- the unit that the words stand for
record Stood (n : ℕ) (vs words : List ℕ) (t : Tables) : Type 0 where
  pub unit : Record
  pub made : Made build_chosen build_given add_of read_of n vs unit t
  pub settled : Settled unit
  pub words_are : words ≡ flat_of unit

abbrev StoodBy : ℕ → List ℕ → Left → Type 0
StoodBy n vs l = Stood n vs l.words l.tables

built_stands : (n degree cells allowance : ℕ) (vs : List ℕ) (t : Tables) → (build_call n degree cells allowance vs t).answer ≡ 0 → StoodBy n vs (build_call n degree cells allowance vs t)
built_stands n degree cells allowance vs t e =
    let o : Outcome = build_chosen n degree cells allowance vs t in
    let l : left_by o ≡ build_call n degree cells allowance vs t = build_left n degree cells allowance vs t in
    let z : o.built.refusal ≡ 0 = no_refusal o.built.refusal o.built.place o.built.needed (ap (λ (m : Left). m.answer) l ∙ e) in
    subst (StoodBy n vs) l (record { unit = o.built.unit; made = Made.by_rule degree cells allowance vs t z; settled = chosen_settled n degree cells allowance vs t z; words_are = refl })

given_stands : (n p n1 cells allowance : ℕ) (variables vs : List ℕ) (t : Tables) → length variables ≡ max_variables → (given_call n p n1 cells allowance variables vs t).answer ≡ 0 → StoodBy n vs (given_call n p n1 cells allowance variables vs t)
given_stands n p n1 cells allowance variables vs t many e =
    let given : List Variable = map variable_at variables in
    let o : Outcome = build_given n given p n1 cells allowance vs t in
    let l : left_by o ≡ given_call n p n1 cells allowance variables vs t = given_left n p n1 cells allowance variables given vs t refl in
    let z : o.built.refusal ≡ 0 = no_refusal o.built.refusal o.built.place o.built.needed (ap (λ (m : Left). m.answer) l ∙ e) in
    subst (StoodBy n vs) l
    (record { unit = o.built.unit; made = Made.by_caller given p n1 cells allowance vs t (length-map variables variable_at ∙ many) z; settled = given_settled n given p n1 cells allowance vs t z; words_are = refl })

module _ {n : ℕ} {vs words : List ℕ} {t : Tables} (s : Stood n vs words t) where
  abbrev u : Record
  u = s.unit

  is_sound : sound u t ≡ true
  is_sound = (made_holds s.made).is_sound

  added_stands : (x : ℕ) → (add_call words t x).answer ≡ 0 → StoodBy n (vs ++ (x ∷ [])) (add_call words t x)
  added_stands x e =
      let o : Outcome = add_of u t x in
      let l : added_to words o ≡ add_call words t x = called words t x u (sym (ap unit_seen s.words_are ∙ flat_seen u t is_sound s.settled)) in
      let a : answer o.built.refusal o.built.place ≡ 0 = ap (λ (m : Left). m.answer) l ∙ e in
      let z : o.built.refusal ≡ 0 = omega arith in
      subst (StoodBy n (vs ++ (x ∷ []))) l
      (record { unit = o.built.unit; made = Made.added s.made x z; settled = rw (accepted_record u t x z) (amended_settled u s.settled); words_are = words_new words o z })

  carried_stands : (target : List ℕ) (into : Tables) → longest_file ≤ length target → (read_call (file_bytes words t target) into).answer ≡ 0
      → StoodBy n vs (read_call (file_bytes words t target) into)
  unfolding read_call
  carried_stands target into room e =
      let f : file_bytes words t target ≡ file_of u t =
      ap (λ (ws : List ℕ). file_bytes ws t target) s.words_are ∙ front u t (flat_seen u t is_sound s.settled) is_sound target room in
      let z : (read_of (file_of u t) into).refusal ≡ 0 = sym (ap (λ (b : List ℕ). (read_of b into).refusal) f) ∙ e in
      let w = made_stands s.made in
      subst (λ (b : List ℕ). StoodBy n vs (read_call b into)) (sym f)
      (record {
        unit = (read_of (file_of u t) into).unit;
        made = Made.carried s.made into z;
        settled = rw (read_record u t vs w.holds w.fits into z) (carried_settled u);
        words_are = refl;
      })

stands : {n : ℕ} {vs words : List ℕ} {t : Tables} → ByCalls n vs words t → Stood n vs words t
stands {n} (ByCalls.built degree cells allowance vs t e) = built_stands n degree cells allowance vs t e
stands {n} (ByCalls.given p n1 cells allowance variables vs t many e) = given_stands n p n1 cells allowance variables vs t many e
stands (ByCalls.added c x e) = added_stands (stands c) x e
stands (ByCalls.carried c target into room e) = carried_stands (stands c) target into room e

pub exact_by_calls : ExactByCalls
exact_by_calls n vs words t c =
    let s = stands c in
    let h : sound s.unit t ≡ true = is_sound s in
    subst (λ (ws : List ℕ). Exact n vs (left 0 ws t)) (sym s.words_are)
    (exact n vs (standing s.unit t) (made_demand_2 n vs s.unit t s.made) (λ z. flat_seen s.unit t h s.settled))
