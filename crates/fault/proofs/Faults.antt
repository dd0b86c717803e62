-- A fault is found exactly in a text that is no list. Assumes nothing.
use Prim.Native.Nat.{ℕ, suc, ◌-◌, ◌≤◌}
use native.Mathlib.Omega.{arith}
use mathlib.Core.Path.{◌≡◌, refl, sym, ap, ◌∙◌}
use mathlib.Core.Bool.{Bool, true, false, ◌&&◌}
use mathlib.Core.List.{List, [], ◌∷◌}
use borrow.Author.Tests.{eqb-true, eqb-false, eq-eqb, le-leb, leb-true}
use lib.Dec.{eqb, leb}
use lib.ListN.{length}
use Rattle.lists.specs.Members.{every}
use Rattle.lists.proofs.Tests.{and_true, true_iff}
use Rattle.input.specs.Fields.{separator, fields}
use Rattle.input.specs.Decimal.{good_field}
use Rattle.input.specs.Input.{max_text, max_listed, body, listed, good_text}
use Rattle.fault.specs.Fault.{newline}
use Rattle.fault.specs.declared.State.{State}
use Rattle.fault.specs.Fault.{max_numbers, at_start, past, fault_from, fault_of}
use Rattle.fault.specs.Facts.{FindsFaults}
use Rattle.fault.proofs.Scanning.Bodies.{body_cons, fields_parted, fields_grown, split}
use Rattle.fault.proofs.Scanning.Judging.{Iff, Rest, Sane, at_end, by_byte, at_newline, field_parts, parted, grew, sane_past}

-- no fault is found from a state on exactly where the fields that are left may follow
abbrev Judged : State → List ℕ → Type 0
Judged s bs = (f : List ℕ) (fs : List (List ℕ)) → fields (body bs) ≡ f ∷ fs → Iff ((fault_from s bs).cause ≡ 0) (Rest s (length bs) f fs)

-- a byte that is not a final newline
next : (b : ℕ) (bs : List ℕ) (s : State) → Sane s → (bs ≡ [] → b ≡ newline → ⊥) → (Sane (past s b) → Judged (past s b) bs) → Judged s (b ∷ bs)
next b bs s w m judge f fs e = go (separator b) refl
  where
    go : (t : Bool) → separator b ≡ t → Iff ((fault_from s (b ∷ bs)).cause ≡ 0) (Rest s (suc (length bs)) f fs)
    go true y =
        let p = split (body bs) in
        let q : f ∷ fs ≡ [] ∷ (p.first ∷ p.others) = sym e ∙ ap fields (body_cons b bs m) ∙ fields_parted b (body bs) y ∙ ap (λ (l : List (List ℕ)). [] ∷ l) p.is in
        let ef : f ≡ [] = cc in
        let es : fs ≡ p.first ∷ p.others = cc in
        let i = parted s b (length bs) w p.first p.others y in
        rw (ef, es) (
          λ z. let d = (by_byte s b bs).0 z in i.0 (d.0, (judge (sane_past s b (length bs) w d.0) p.first p.others p.is).0 d.1),
          λ r. let d = i.1 r in (by_byte s b bs).1 (d.0, (judge (sane_past s b (length bs) w d.0) p.first p.others p.is).1 d.1),
        )
    go false n =
        let p = split (body bs) in
        let q : f ∷ fs ≡ (b ∷ p.first) ∷ p.others = sym e ∙ ap fields (body_cons b bs m) ∙ fields_grown b (body bs) p.first p.others n p.is in
        let ef : f ≡ b ∷ p.first = cc in
        let es : fs ≡ p.others = cc in
        let i = grew s b (length bs) w p.first p.others n in
        rw (ef, es) (
          λ z. let d = (by_byte s b bs).0 z in i.0 (d.0, (judge (sane_past s b (length bs) w d.0) p.first p.others p.is).0 d.1),
          λ r. let d = i.1 r in (by_byte s b bs).1 (d.0, (judge (sane_past s b (length bs) w d.0) p.first p.others p.is).1 d.1),
        )

-- the one empty field
alone : {f : List ℕ} {fs : List (List ℕ)} → [] ∷ [] ≡ f ∷ fs → (f ≡ []) × (fs ≡ [])
alone e = (cc, cc)

judged : (bs : List ℕ) (s : State) → Sane s → (bs ≡ [] → s.last ≡ newline → ⊥) → Judged s bs
unfolding fault_from fields past
judged [] s w m = λ f fs e. let a = alone e in rw (a.0, a.1) (at_end s w (m refl))
judged (b ∷ []) s w m = go (eqb b newline) refl (λ v l. judged [] (past s b) v (λ _. l))
  where
    go : (t : Bool) → eqb b newline ≡ t → (Sane (past s b) → (b ≡ newline → ⊥) → Judged (past s b) []) → Judged s (b ∷ [])
    go true y judge =
        λ f fs e.
        let l = eqb-true b newline y in
        let a = alone (sym (ap (λ (x : ℕ). fields (body (x ∷ []))) l) ∙ e) in
        let i = at_newline s w in
        let k = by_byte s newline [] in
        rw (l, a.0, a.1) (λ z. i.0 (k.0 z), λ r. k.1 (i.1 r))
    go false n judge = let l = eqb-false b newline n in next b [] s w (λ _. l) (λ v. judge v l)
judged (b ∷ c ∷ cs) s w m = next b (c ∷ cs) s w (λ e. absurd (omega (arith, ap length e))) (λ v. judged (c ∷ cs) (past s b) v (λ e. absurd (omega (arith, ap length e))))

start_sane : Sane at_start
start_sane = record { fresh = λ _. refl; small = omega arith; few = omega arith; short = omega arith }

-- what is known of a list
pub record Good (text : List ℕ) : Type 0 where
  pub short : length text ≤ max_text
  pub numbers : every good_field (fields (body text)) ≡ true
  pub enough : 3 ≤ length (fields (body text))
  pub few : length (fields (body text)) ≤ max_numbers

pub good_says : (text : List ℕ) → good_text text max_listed ≡ true → Good text
unfolding good_text
good_says text y =
    let a = leb (length text) max_text in
    let b = every good_field (fields (body text)) in
    let c = leb 3 (length (fields (body text))) in
    let d = leb (listed text) max_listed in
    let p = and_true (a && b && c && d) d y in
    let q = and_true (a && b && c) d p.0 in
    let r = and_true (a && b) c q.0 in
    let l = and_true a b r.0 in
    let few : listed text ≤ max_listed = leb-true (listed text) max_listed p.1 in
    record { short = leb-true (length text) max_text l.0; numbers = l.1; enough = leb-true 3 (length (fields (body text))) r.1; few = omega arith }

module _ (text f : List ℕ) (fs : List (List ℕ)) (e : fields (body text) ≡ f ∷ fs) where
  rest_good : Rest at_start (length text) f fs → good_text text max_listed ≡ true
  unfolding good_text every
  rest_good r =
      let g : good_field f ≡ true = (field_parts f).1 (r.opens refl, r.digits, r.small) in
      rw (
        le-leb (length text) max_text (omega (arith, r.short)),
        e,
        g,
        r.others,
        le-leb 3 (suc (length fs)) (omega (arith, r.enough)),
        le-leb (suc (length fs) - 3) max_listed (omega (arith, r.few)),
      )

  good_rest : good_text text max_listed ≡ true → Rest at_start (length text) f fs
  unfolding every
  good_rest y =
      let t = good_says text y in
      let k : length (fields (body text)) ≡ suc (length fs) = ap length e in
      let o = and_true (good_field f) (every good_field fs) (rw e at t.numbers) in
      let g = (field_parts f).0 o.0 in
      record { opens = λ _. g.0; digits = g.1; small = g.2; others = o.1; enough = omega (arith, t.enough); few = omega (arith, t.few); short = omega (arith, t.short) }

pub fault_iff : FindsFaults
unfolding fault_of
fault_iff text =
    let p = split (body text) in
    let j = judged text at_start start_sane (λ _ z. omega (arith, z)) p.first p.others p.is in
    true_iff (eqb (fault_of text).cause 0) (good_text text max_listed)
    (λ z. rest_good text p.first p.others p.is (j.0 (eqb-true (fault_of text).cause 0 z)))
    (λ y. eq-eqb (fault_of text).cause 0 (j.1 (good_rest text p.first p.others p.is y)))
