-- Numerals, digit after digit. Assumes nothing.
use Prim.Native.Nat.{ℕ, suc, ◌+◌, ◌*◌, ◌^◌, ◌≤◌, ◌<◌}
use native.Mathlib.Omega.{arith}
use native.Mathlib.Nat.{mul_comm}
use native.Mathlib.Numerals.{add-one}
use mathlib.Core.Path.{◌≡◌, sym, ap, ◌∙◌}
use mathlib.Core.Bool.{Bool, true, false, ◌&&◌}
use mathlib.Core.List.{List}
use borrow.Author.Tests.{eq-eqb, ne_eqb, le-leb, lt-leb, lt-ltb, le-ltb}
use lib.Dec.{leb, ltb}
use lib.ListN.{length, get_or, drop, drop_of_length-le}
use lib.Seq.{drop-cons}
use Rattle.std.specs.Char.{digit_value}
use Rattle.std.proofs.lemmas.Bool.Decides.{nat_tests}
use Rattle.find.specs.Keys.{Key, max_key, digit_of, no_key, numeral_from, numeral_of}

-- the library's digits in a base of at most 16
module _ (base b : ℕ) (few : base ≤ 16) where
  pub digit_same : digit_value b < base → digit_of b ≡ digit_value b
  digit_same h = grind (arith, nat_tests)

  pub digit_other : (digit_value b < base → ⊥) → base ≤ digit_of b
  digit_other h = grind (arith, nat_tests)

-- before digit i: the value of those in front of it
pub record Counting (base : ℕ) (bytes : List ℕ) (value i : ℕ) : Type 0 where
  pub low : value ≤ max_key
  pub left : numeral_of base bytes ≡ numeral_from base value (drop i bytes)

module _ (base : ℕ) (bytes : List ℕ) where
  pub numeral_none : length bytes ≡ 0 → no_key ≡ numeral_of base bytes
  unfolding numeral_of
  numeral_none e = rw (eq-eqb (length bytes) 0 e, numeral_of)

  pub counting_none : 0 < length bytes → Counting base bytes 0 0
  unfolding numeral_of
  counting_none n = record { low = omega arith; left = rw (ne_eqb (length bytes) 0 (λ (z : length bytes ≡ 0). omega arith), numeral_of) }

  module _ (value i : ℕ) (w : Counting base bytes value i) (h : i < length bytes) where
    abbrev b : ℕ
    b = get_or bytes i 0

    abbrev grown : ℕ
    grown = base * value + digit_of b

    -- one digit more, by its two tests
    abbrev next : Bool → Key
    next t = elim t [ true ↦ numeral_from base grown (drop (suc i) bytes) | false ↦ no_key ]

    step : numeral_of base bytes ≡ next (ltb (digit_of b) base && leb grown max_key)
    unfolding numeral_from
    step = w.left ∙ ap (numeral_from base value) (drop-cons bytes i 0 h)

    pub counting_other : base ≤ 16 → (digit_value b < base → ⊥) → no_key ≡ numeral_of base bytes
    counting_other few n = let l = digit_other base b few n in sym (step ∙ ap (λ (t : Bool). next (t && leb grown max_key)) (le-ltb (digit_of b) base l))

    over : digit_of b < base → max_key < grown → no_key ≡ numeral_of base bytes
    over l o = sym (step ∙ rw (lt-ltb (digit_of b) base l, lt-leb grown max_key o))

    more : digit_of b < base → grown ≤ max_key → Counting base bytes grown (i + 1)
    more l o = rw (add-one i) record { low = o; left = step ∙ rw (lt-ltb (digit_of b) base l, le-leb grown max_key o) }

    -- at a digit of the base
    module _ (few : base ≤ 16) (l : digit_value b < base) where
      same : digit_of b ≡ digit_value b
      same = digit_same base b few l

      pub counting_large : (value * base < 2 ^ 64 → ⊥) → no_key ≡ numeral_of base bytes
      counting_large n = over (omega (arith, same)) (omega (arith, mul_comm base value))

      pub counting_over : (value * base + digit_value b < 2 ^ 64 → ⊥) → no_key ≡ numeral_of base bytes
      counting_over n = over (omega (arith, same)) (omega (arith, same, mul_comm base value))

      pub counting_more : (v : ℕ) → v ≡ value * base + digit_value b → v < 2 ^ 64 → Counting base bytes v (i + 1)
      counting_more v e h =
          let q : grown ≡ v = omega (arith, same, mul_comm base value) in
          rw (← q) (more (omega (arith, same)) (omega arith))

  pub counting_end : (value i : ℕ) → Counting base bytes value i → length bytes ≤ i → record { good = true; value = value } ≡ numeral_of base bytes
  unfolding numeral_from
  counting_end value i w h = sym (w.left ∙ ap (numeral_from base value) (drop_of_length-le bytes {i = i} h))
