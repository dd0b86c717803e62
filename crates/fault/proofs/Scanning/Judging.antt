-- What may follow where a text was read to, byte by byte. Assumes nothing.
use Prim.Native.Nat.{ℕ, zero, suc, ◌+◌, ◌≤◌, ◌<◌}
use native.Mathlib.Omega.{arith}
use mathlib.Core.Path.{◌≡◌, refl, sym, ap, ◌∙◌}
use mathlib.Core.Bool.{Bool, true, false, cond, ◌&&◌, true≢false}
use mathlib.Core.List.{List, [], ◌∷◌}
use borrow.Author.Tests.{eqb-true, eqb-false, ne_eqb, le-leb, leb-true, leb-false, lt-ltb, ltb-true}
use lib.Dec.{eqb, leb, ltb}
use lib.ListN.{length}
use Rattle.lists.specs.Members.{every}
use Rattle.lists.proofs.Tests.{and_true, or_false}
use Rattle.input.specs.Fields.{separator}
use Rattle.input.specs.Decimal.{max_number, digit, value_from, value_of, good_field}
use Rattle.input.specs.Input.{max_text}
use Rattle.input.proofs.Decimals.{value_grows}
use Rattle.fault.specs.Fault.{space, newline}
use Rattle.fault.specs.declared.State.{State}
use Rattle.fault.specs.Fault.{Fault}
use Rattle.fault.specs.Fault.{end_before, few_numbers, max_numbers, counted, grown, cause_at, cause_end, past, fault_from}
use Rattle.fault.proofs.Scanning.Causes.{counted_by, clean, cause_separator, cause_none, end_space, end_few, end_none}
use Rattle.fault.proofs.Scanning.Reading.{fault_on, fault_here}

abbrev pub Iff : Type 0 → Type 0 → Type 0
Iff A B = (A → B) × (B → A)

-- the fields f and fs, of so many bytes, may follow: f goes on with the number that was begun, if one was
pub record Rest (s : State) (size : ℕ) (f : List ℕ) (fs : List (List ℕ)) : Type 0 where
  pub opens : separator s.last ≡ true → 0 < length f
  pub digits : every digit f ≡ true
  pub small : value_from s.value f ≤ max_number
  pub others : every good_field fs ≡ true
  pub enough : 3 ≤ counted s + length fs
  pub few : counted s + length fs ≤ max_numbers
  pub short : s.at + size ≤ max_text

-- what is so of each state that is reached
pub record Sane (s : State) : Type 0 where
  pub fresh : separator s.last ≡ true → s.value ≡ 0
  pub small : s.value ≤ max_number
  pub few : s.count ≤ max_numbers
  pub short : s.at ≤ max_text

-- ---- the end

inside : (x : ℕ) → (x ≡ space → ⊥) → (x ≡ newline → ⊥) → separator x ≡ false
inside x n m = rw (ne_eqb x space n, ne_eqb x newline m)

not_space : (x : ℕ) → separator x ≡ false → x ≡ space → ⊥
not_space x e = eqb-false x space (or_false (eqb x space) (eqb x newline) e).0

-- an empty field cannot be where a number has to begin
closed : {s : State} {size : ℕ} {fs : List (List ℕ)} → Rest s size [] fs → separator s.last ≡ false
closed {s} r = go (separator s.last) refl
  where
    go : (t : Bool) → separator s.last ≡ t → separator s.last ≡ false
    go true y = absurd (omega (arith, r.opens y))
    go false n = n

-- the number that was begun ends, and no more follow
ended : (s : State) (size : ℕ) → Sane s → separator s.last ≡ false → 3 ≤ s.count → s.at + size ≤ max_text → Rest s size [] []
unfolding every value_from
ended s size w n h l =
    let k : counted s ≡ s.count = counted_by s n in
    record {
      opens = λ y. absurd (true≢false (sym y ∙ n));
      digits = refl;
      small = w.small;
      others = refl;
      enough = omega arith;
      few = omega (arith, w.few);
      short = l;
    }

end_clean : (s : State) → cause_end s ≡ 0 → (s.last ≡ space → ⊥) × (3 ≤ s.count)
end_clean s z = go (eqb s.last space) refl (leb 3 s.count) refl
  where
    go : (t : Bool) → eqb s.last space ≡ t → (u : Bool) → leb 3 s.count ≡ u → (s.last ≡ space → ⊥) × (3 ≤ s.count)
    go true e u f = let q : end_before ≡ 0 = sym (end_space s (eqb-true s.last space e)) ∙ z in absurd (omega arith)
    go false e true f = (eqb-false s.last space e, leb-true 3 s.count f)
    go false e false f = let q : few_numbers ≡ 0 = sym (end_few s (eqb-false s.last space e) (omega (arith, leb-false 3 s.count f))) ∙ z in absurd (omega arith)

pub at_end : (s : State) → Sane s → (s.last ≡ newline → ⊥) → Iff (cause_end s ≡ 0) (Rest s 0 [] [])
at_end s w m = (
  λ z. let e = end_clean s z in ended s 0 w (inside s.last e.0 m) e.1 (omega (arith, w.short)),
  λ r. let n = closed r in end_none s (not_space s.last n) (omega (arith, r.enough, counted_by s n)),
)

-- ---- a byte

pub by_byte : (s : State) (b : ℕ) (bs : List ℕ) → Iff ((fault_from s (b ∷ bs)).cause ≡ 0) ((cause_at s b ≡ 0) × ((fault_from (past s b) bs).cause ≡ 0))
by_byte s b bs = (
  λ z. go (cause_at s b) refl z,
  λ p. ap (λ (f : Fault). f.cause) (fault_on s b bs p.0) ∙ p.1,
)
  where
    go : (c : ℕ) → cause_at s b ≡ c → (fault_from s (b ∷ bs)).cause ≡ 0 → (cause_at s b ≡ 0) × ((fault_from (past s b) bs).cause ≡ 0)
    go zero e z = (e, sym (ap (λ (f : Fault). f.cause) (fault_on s b bs e)) ∙ z)
    go (suc c) e z =
        let q : suc c ≡ 0 = sym e ∙ sym (ap (λ (f : Fault). f.cause) (fault_here s b bs (λ y. omega (arith, sym e ∙ y)))) ∙ z in
        absurd (omega arith)

-- a final newline
pub at_newline : (s : State) → Sane s → Iff ((cause_at s newline ≡ 0) × (cause_end (past s newline) ≡ 0)) (Rest s 1 [] [])
unfolding past
at_newline s w = (
  λ p.
      let c = clean s newline p.0 in
      let n = c.parted refl in
      ended s 1 w n (omega (arith, (end_clean (past s newline) p.1).1, counted_by s n)) (omega (arith, c.short)),
  λ r.
      let n = closed r in (
        cause_separator s newline (omega (arith, r.short)) refl n,
        end_none (past s newline) (λ e. omega (arith, e)) (omega (arith, r.enough, counted_by s n)),
      ),
)

-- a good field, taken apart
pub field_parts : (f : List ℕ) → Iff (good_field f ≡ true) ((0 < length f) × (every digit f ≡ true) × (value_from 0 f ≤ max_number))
unfolding good_field value_of
field_parts f = (
  λ e.
      let p = and_true (ltb 0 (length f) && every digit f) (leb (value_of f) max_number) e in
      let q = and_true (ltb 0 (length f)) (every digit f) p.0 in
      (ltb-true 0 (length f) q.0, q.1, leb-true (value_of f) max_number p.1),
  λ p. rw (lt-ltb 0 (length f) p.0, p.1, le-leb (value_from 0 f) max_number p.2),
)

module _ (s : State) (b size : ℕ) (w : Sane s) where
  -- a separator, with the field f after it
  pub parted : (f : List ℕ) (fs : List (List ℕ)) → separator b ≡ true → Iff ((cause_at s b ≡ 0) × Rest (past s b) size f fs) (Rest s (suc size) [] (f ∷ fs))
  unfolding past every value_from
  parted f fs y =
      let k : counted (past s b) ≡ counted s + 1 = rw y in
      let v : cond (separator b) 0 (grown s b) ≡ 0 = rw y in (
        λ p.
            let c = clean s b p.0 in
            let n = c.parted y in
            let r = p.1 in
            record {
              opens = λ x. absurd (true≢false (sym x ∙ n));
              digits = refl;
              small = w.small;
              others = rw ((field_parts f).1 (r.opens y, r.digits, (rw v at r.small))) r.others;
              enough = omega (arith, r.enough);
              few = omega (arith, r.few);
              short = omega (arith, r.short);
            },
        λ r.
            let n = closed r in
            let o = and_true (good_field f) (every good_field fs) r.others in
            let g = (field_parts f).0 o.0 in (
              cause_separator s b (omega (arith, r.short)) y n,
              record {
                opens = λ _. g.0;
                digits = g.1;
                small = rw v g.2;
                others = o.1;
                enough = omega (arith, r.enough);
                few = omega (arith, r.few);
                short = omega (arith, r.short);
              },
            ),
      )

  -- another byte, in front of the field f
  pub grew : (f : List ℕ) (fs : List (List ℕ)) → separator b ≡ false → Iff ((cause_at s b ≡ 0) × Rest (past s b) size f fs) (Rest s (suc size) (b ∷ f) fs)
  unfolding past every value_from
  grew f fs n =
      let k : counted (past s b) ≡ counted s = rw n in
      let v : cond (separator b) 0 (grown s b) ≡ grown s b = rw n in (
        λ p.
            let c = clean s b p.0 in
            let r = p.1 in
            record {
              opens = λ _. omega arith;
              digits = rw (c.decimal n) r.digits;
              small = rw v at r.small;
              others = r.others;
              enough = omega (arith, r.enough);
              few = omega (arith, r.few);
              short = omega (arith, r.short);
            },
        λ r.
            let d = and_true (digit b) (every digit f) r.digits in (
              cause_none s b (omega (arith, r.short)) n d.0 (omega (arith, r.few)) (omega (arith, r.small, value_grows (grown s b) f)),
              record {
                opens = λ y. absurd (true≢false (sym y ∙ n));
                digits = d.1;
                small = rw v r.small;
                others = r.others;
                enough = omega (arith, r.enough);
                few = omega (arith, r.few);
                short = omega (arith, r.short);
              },
            ),
      )

  -- the next state
  pub sane_past : cause_at s b ≡ 0 → Sane (past s b)
  unfolding past
  sane_past z = go (separator b) refl (separator s.last) refl
    where
      go : (t : Bool) → separator b ≡ t → (u : Bool) → separator s.last ≡ u → Sane (past s b)
      go true y u e =
          let c = clean s b z in
          let v : cond (separator b) 0 (grown s b) ≡ 0 = rw y in
          let k = counted_by s (c.parted y) in
          record { fresh = λ _. v; small = omega arith; few = omega (arith, w.few); short = omega (arith, c.short) }
      go false n u e =
          let c = clean s b z in
          let v : cond (separator b) 0 (grown s b) ≡ grown s b = rw n in
          record { fresh = λ y. absurd (true≢false (sym y ∙ n)); small = omega (arith, c.small n); few = omega (arith, c.few n); short = omega (arith, c.short) }
