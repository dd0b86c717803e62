-- What is at fault with a byte, case by case. Assumes nothing.
use Prim.Native.Nat.{ℕ, ◌+◌, ◌≤◌, ◌<◌}
use native.Mathlib.Omega.{arith}
use mathlib.Core.Path.{◌≡◌, refl, sym, ◌∙◌}
use mathlib.Core.Bool.{Bool, true, false, cond, true≢false}
use borrow.Author.Tests.{eq-eqb, ne_eqb, le-leb, lt-leb, lt-ltb, le-ltb, leb-true, leb-false, ltb-false, ltb-true}
use lib.Dec.{leb, ltb}
use Rattle.lists.proofs.Tests.{and_true}
use Rattle.input.specs.Fields.{separator}
use Rattle.input.specs.Decimal.{max_number, digit}
use Rattle.input.specs.Input.{max_text}
use Rattle.fault.specs.Fault.{number_of, space}
use Rattle.fault.specs.declared.Cause.{Cause}
use Rattle.fault.specs.declared.Cause.TheVariants.{NoDigit, EndBefore, OtherByte, LargeNumber, FewNumbers, ManyVectors, LongText}
use Rattle.fault.specs.declared.State.{State}
use Rattle.fault.specs.Fault.{no_digit, end_before, other_byte, large_number, few_numbers, many_vectors, long_text, max_numbers, counted, grown, cause_at, cause_end}

apart : {t : Bool} → t ≡ true → t ≡ false → ⊥
apart p q = true≢false (sym p ∙ q)

-- no cause has the number 0
pub some_number : (c : Cause) → number_of c ≡ 0 → ⊥
some_number NoDigit e = omega arith
some_number EndBefore e = omega arith
some_number OtherByte e = omega arith
some_number LargeNumber e = omega arith
some_number FewNumbers e = omega arith
some_number ManyVectors e = omega arith
some_number LongText e = omega arith

pub counted_by : (s : State) {t : Bool} → separator s.last ≡ t → counted s ≡ cond t (s.count + 1) s.count
counted_by s e = rw e

pub counted_low : (s : State) → counted s ≤ s.count + 1
counted_low s = go (separator s.last)
  where
    go : (t : Bool) → cond t (s.count + 1) s.count ≤ s.count + 1
    go true = omega arith
    go false = omega arith

pub digit_low : (b : ℕ) → digit b ≡ true → (48 ≤ b) × (b ≤ 57)
digit_low b h = let t = and_true (leb 48 b) (leb b 57) h in (leb-true 48 b t.0, leb-true b 57 t.1)

module _ (s : State) (b : ℕ) where
  pub cause_long : max_text ≤ s.at → cause_at s b ≡ long_text
  unfolding cause_at
  cause_long h = rw (le-leb max_text s.at h, cause_at)

  module _ (h : s.at < max_text) where
    pub cause_separator : {t : Bool} → separator b ≡ true → separator s.last ≡ t → cause_at s b ≡ cond t no_digit 0
    unfolding cause_at
    cause_separator y e = rw (lt-leb max_text s.at h, y, e, cause_at)

    module _ (n : separator b ≡ false) where
      pub cause_other : {t : Bool} → digit b ≡ false → separator s.last ≡ t → cause_at s b ≡ cond t no_digit other_byte
      unfolding cause_at
      cause_other d e = rw (lt-leb max_text s.at h, n, d, e, cause_at)

      module _ (d : digit b ≡ true) where
        cause_digit : cause_at s b ≡ cond (ltb max_numbers (counted s)) many_vectors (cond (leb (grown s b) max_number) 0 large_number)
        unfolding cause_at
        cause_digit = rw (lt-leb max_text s.at h, n, d, cause_at)

        pub cause_many : max_numbers < counted s → cause_at s b ≡ many_vectors
        cause_many k = cause_digit ∙ rw (lt-ltb max_numbers (counted s) k)

        pub cause_large : counted s ≤ max_numbers → max_number < grown s b → cause_at s b ≡ large_number
        cause_large k l = cause_digit ∙ rw (le-ltb max_numbers (counted s) k, lt-leb (grown s b) max_number l)

        pub cause_none : counted s ≤ max_numbers → grown s b ≤ max_number → cause_at s b ≡ 0
        cause_none k l = cause_digit ∙ rw (le-ltb max_numbers (counted s) k, le-leb (grown s b) max_number l)

  -- what is known of a byte that is not at fault
  pub record Clean : Type 0 where
    pub short : s.at < max_text
    pub parted : separator b ≡ true → separator s.last ≡ false
    pub decimal : separator b ≡ false → digit b ≡ true
    pub few : separator b ≡ false → counted s ≤ max_numbers
    pub small : separator b ≡ false → grown s b ≤ max_number

  pub clean : cause_at s b ≡ 0 → Clean
  clean z = go (leb max_text s.at) refl (separator b) refl (separator s.last) refl (digit b) refl (ltb max_numbers (counted s)) refl (leb (grown s b) max_number) refl
    where
      none : (n : ℕ) → cause_at s b ≡ n → n ≡ 0
      none n e = sym e ∙ z

      go : (p : Bool) → leb max_text s.at ≡ p → (q : Bool) → separator b ≡ q → (r : Bool) → separator s.last ≡ r → (d : Bool) → digit b ≡ d
          → (k : Bool) → ltb max_numbers (counted s) ≡ k → (l : Bool) → leb (grown s b) max_number ≡ l → Clean
      go true p q eq r er d ed k ek l el = absurd (omega (arith, none long_text (cause_long (leb-true max_text s.at p))))
      go false p true eq true er d ed k ek l el = absurd (omega (arith, none no_digit (cause_separator (leb-false max_text s.at p) eq er)))
      go false p true eq false er d ed k ek l el =
          record {
            short = leb-false max_text s.at p;
            parted = λ _. er;
            decimal = λ n. absurd (apart eq n);
            few = λ n. absurd (apart eq n);
            small = λ n. absurd (apart eq n);
          }
      go false p false eq true er false ed k ek l el = absurd (omega (arith, none no_digit (cause_other (leb-false max_text s.at p) eq ed er)))
      go false p false eq false er false ed k ek l el = absurd (omega (arith, none other_byte (cause_other (leb-false max_text s.at p) eq ed er)))
      go false p false eq r er true ed true ek l el = absurd (omega (arith, none many_vectors (cause_many (leb-false max_text s.at p) eq ed (ltb-true max_numbers (counted s) ek))))
      go false p false eq r er true ed false ek false el =
          absurd (omega (arith, none large_number (cause_large (leb-false max_text s.at p) eq ed (ltb-false max_numbers (counted s) ek) (leb-false (grown s b) max_number el))))
      go false p false eq r er true ed false ek true el =
          record {
            short = leb-false max_text s.at p;
            parted = λ y. absurd (apart y eq);
            decimal = λ _. ed;
            few = λ _. ltb-false max_numbers (counted s) ek;
            small = λ _. leb-true (grown s b) max_number el;
          }

-- ---- the end

module _ (s : State) where
  pub end_space : s.last ≡ space → cause_end s ≡ end_before
  unfolding cause_end
  end_space e = rw (eq-eqb s.last space e)

  module _ (n : s.last ≡ space → ⊥) where
    pub end_few : s.count < 3 → cause_end s ≡ few_numbers
    unfolding cause_end
    end_few h = rw (ne_eqb s.last space n, lt-leb 3 s.count h)

    pub end_none : 3 ≤ s.count → cause_end s ≡ 0
    unfolding cause_end
    end_none h = rw (ne_eqb s.last space n, le-leb 3 s.count h)
