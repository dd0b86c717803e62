-- What is known of a sound unit. Assumes nothing.
use Prim.Native.Nat.{ℕ, ◌+◌, ◌-◌, ◌^◌, ◌≤◌, ◌<◌}
use native.Mathlib.Omega.{arith}
use mathlib.Core.Path.{◌≡◌, refl, sym, ap, ap₂, ◌∙◌}
use mathlib.Core.Bool.{Bool, true, false, ◌&&◌}
use lib.Count.{ones}
use lib.Dec.{eqb}
use lib.ListN.{length}
use borrow.Author.Tests.{eqb-true, eq-eqb, ne_eqb, lt-ltb}
use Rattle.lists.proofs.Tests.{and_true, and_unit}
use Rattle.lists.proofs.Finding.NonePass.{none_all}
use Rattle.vectors.specs.Bounds.{max_inputs}
use Rattle.vectors.specs.Variable.{faulty, first_faulty}
use Rattle.span.specs.Within.{inputs_in, kinds_within}
use Rattle.span.specs.Span.{first_dependent, kept, sound_of}
use Rattle.span.proofs.Spans.{kept_lt}
use Rattle.span.proofs.Fixed.{sound_facts}
use Rattle.span.proofs.Labels.Edges.{inputs_same, kinds_same, all_edges}
use Rattle.span.proofs.Count.{kept_number}
use Rattle.record.specs.declared.Record.{Record}
use Rattle.record.specs.Record.{kinds_in}
use Rattle.record.specs.Tables.{Tables}
use Rattle.record.specs.Formed.{is_in_bounds, right_inputs, long_enough, well_formed, right_record, sound}
use Rattle.record.proofs.Formed.{in_bounds, well_formed_facts}

pub record Sound (u : Record) (t : Tables) : Type 0 where
  pub well_formed_lem : well_formed u t ≡ true
  -- the places in use are p
  pub variables : length (kinds_in u) ≡ u.p
  pub variables_in : u.p ≤ u.n
  pub rows_in : u.n1 ≤ length (kinds_in u)
  pub kept_is : u.kept ≡ kept u.n (kinds_in u)
  pub kept_in : u.kept < 2 ^ u.n
  pub kept_count : ones u.kept + u.p ≡ u.n
  pub cells_held : u.cells ≤ length t.g

pub sound_says : (u : Record) (t : Tables) → sound u t ≡ true → Sound u t
unfolding sound
sound_says u t h =
    let a = and_true (well_formed u t) (sound_of u.n (kinds_in u) u.kept) h in
    let w = well_formed_facts u t a.0 in
    let s = sound_facts u.n (kinds_in u) u.kept a.1 in
    let q : ones u.kept + length (kinds_in u) ≡ u.n =
    ap (λ (m : ℕ). ones m + length (kinds_in u)) s.1 ∙ kept_number u.n (kinds_in u) (all_edges u.n (kinds_in u) w.inputs.right) s.0 in
    let l : length (kinds_in u) ≡ u.p = omega (arith, w.inputs.kept_number, w.bounds.within) in
    record {
      well_formed_lem = a.0;
      variables = l;
      variables_in = w.bounds.within;
      rows_in = omega (arith, w.bounds.rows_in);
      kept_is = s.1;
      kept_in = w.inputs.kept_in;
      kept_count = omega arith;
      cells_held = w.cells_held;
    }

-- ---- tested one after the other

module _ (u : Record) where
  pub right_unbound : is_in_bounds u ≡ false → right_record u ≡ false
  unfolding right_record
  right_unbound h = rw h

  module _ (b : is_in_bounds u ≡ true) where
    pub right_faulty : (d : ℕ) → d ≡ first_faulty u.n (kinds_in u) → (d ≡ 0 → ⊥) → right_record u ≡ false
    unfolding right_record
    right_faulty d e ne = rw (b, ← e, ne_eqb d 0 ne)

    pub right_free : (d f : ℕ) → d ≡ first_faulty u.n (kinds_in u) → d ≡ 0 → f ≡ first_dependent (kinds_within u.n u.p u.variables) → eqb f 0 ≡ right_record u
    unfolding right_record
    right_free d f e z q =
        let k : kinds_within u.n u.p u.variables ≡ kinds_in u =
        kinds_same u.n u.p u.variables (in_bounds u b).inputs (none_all (faulty u.n) (kinds_in u) (sym e ∙ z)) in
        let p : first_dependent (kinds_in u) ≡ f = ap first_dependent (sym k) ∙ sym q in
        rw (b, ← e, z, p)

-- what a right record says
pub record Right (u : Record) : Type 0 where
  pub in_bounds : is_in_bounds u ≡ true
  pub not_faulty : first_faulty u.n (kinds_in u) ≡ 0
  pub independent : first_dependent (kinds_in u) ≡ 0

pub right_says : (u : Record) → right_record u ≡ true → Right u
unfolding right_record
right_says u h =
    let a = and_true _ _ h in
    let b = and_true _ _ a.0 in
    record { in_bounds = b.0; not_faulty = eqb-true _ _ b.1; independent = eqb-true _ _ a.1 }

-- the kept inputs of the rule, as they are worked out
pub kept_same : (u : Record) → Right u → kept (inputs_in u.n) (kinds_within u.n u.p u.variables) ≡ kept u.n (kinds_in u)
kept_same u r =
    let n : u.n ≤ max_inputs = (in_bounds u r.in_bounds).inputs in
    ap₂ kept (inputs_same u.n n) (kinds_same u.n u.p u.variables n (none_all (faulty u.n) (kinds_in u) r.not_faulty))

module _ (u : Record) (t : Tables) where
  pub sound_right : sound u t ≡ true → right_record u ≡ true
  unfolding sound well_formed sound_of right_record
  sound_right h =
      let a = and_true (well_formed u t) (sound_of u.n (kinds_in u) u.kept) h in
      let b = and_true (is_in_bounds u) (right_inputs u) (and_true (is_in_bounds u && right_inputs u) (long_enough u t) a.0).0 in
      let f : eqb (first_faulty u.n (kinds_in u)) 0 ≡ true = (and_true _ _ (and_true _ _ b.1).0).0 in
      let d : eqb (first_dependent (kinds_in u)) 0 ≡ true = (and_true _ _ a.1).0 in
      rw (b.0, f, d)

  -- a right record with the kept inputs of the rule is sound where the tables are long enough; the places in use are p
  pub right_sound : right_record u ≡ true → length (kinds_in u) ≡ u.p → u.kept ≡ kept u.n (kinds_in u) → long_enough u t ≡ sound u t
  unfolding sound well_formed sound_of
  right_sound h l k =
      let r : Right u = right_says u h in
      let c : ones (kept u.n (kinds_in u)) + length (kinds_in u) ≡ u.n =
      kept_number u.n (kinds_in u) (all_edges u.n (kinds_in u) (none_all (faulty u.n) (kinds_in u) r.not_faulty)) r.independent in
      let o : ones u.kept ≡ u.n - u.p = omega (arith, ap ones k) in
      let w : u.kept < 2 ^ u.n = rw k (kept_lt u.n (kinds_in u)) in
      rw (r.in_bounds, eq-eqb _ _ r.not_faulty, eq-eqb _ _ o, lt-ltb _ _ w, eq-eqb _ _ r.independent, eq-eqb _ _ k) (sym (and_unit (long_enough u t)))

  pub unright_sound : right_record u ≡ false → sound u t ≡ false
  unright_sound h = go (sound u t) refl
    where
      go : (b : Bool) → sound u t ≡ b → b ≡ false
      go true e = sym (sound_right e) ∙ h
      go false e = refl

  pub other_kept : right_record u ≡ true → (m : ℕ) → m ≡ kept (inputs_in u.n) (kinds_within u.n u.p u.variables) → (u.kept ≡ m → ⊥) → sound u t ≡ false
  other_kept h m e ne = go (sound u t) refl
    where
      go : (b : Bool) → sound u t ≡ b → b ≡ false
      go true s = absurd (ne ((sound_says u t s).kept_is ∙ sym (e ∙ kept_same u (right_says u h))))
      go false s = refl
