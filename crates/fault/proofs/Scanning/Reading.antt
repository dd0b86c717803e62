-- The loop that reads a text up to its first fault. Assumes nothing.
use Prim.Native.Nat.{ℕ, zero, suc, ◌+◌, ◌≤◌, ◌<◌}
use native.Mathlib.Omega.{arith}
use native.Mathlib.Numerals.{add-one}
use mathlib.Core.Path.{◌≡◌, refl, sym, ◌∙◌}
use mathlib.Core.Bool.{Bool, true, false, cond}
use mathlib.Core.List.{List, ◌∷◌}
use lib.Dec.{eqb}
use lib.ListN.{length, get_or, drop, drop_of_length-le}
use lib.Seq.{drop-cons}
use Rattle.fault.specs.Fault.{newline}
use Rattle.fault.specs.declared.State.{State}
use Rattle.fault.specs.Fault.{at_start, cause_at, cause_end, past, fault_at, fault_from, fault_of}
use Rattle.fault.specs.Inner.Within.{Within}
use Rattle.fault.proofs.Scanning.Causes.{counted_low}

module _ (s : State) (b : ℕ) (bs : List ℕ) where
  pub fault_on : cause_at s b ≡ 0 → fault_from s (b ∷ bs) ≡ fault_from (past s b) bs
  unfolding fault_from
  fault_on z = rw (z, fault_from)

  pub fault_here : (cause_at s b ≡ 0 → ⊥) → fault_from s (b ∷ bs) ≡ fault_at s (cause_at s b) b
  unfolding fault_from
  fault_here n = go (cause_at s b) refl
    where
      go : (c : ℕ) → cause_at s b ≡ c → fault_from s (b ∷ bs) ≡ fault_at s (cause_at s b) b
      go zero e = absurd (n e)
      go (suc c) e = rw (e, fault_from)

pub past_within : (s : State) (b : ℕ) → Within s → Within (past s b)
unfolding past
past_within s b w = record { lines = line (eqb b newline); columns = column (eqb b newline); numbers = omega (arith, counted_low s, w.numbers) }
  where
    line : (t : Bool) → cond t (s.line + 1) s.line ≤ s.at + 1 + 1
    line true = omega (arith, w.lines)
    line false = omega (arith, w.lines)

    column : (t : Bool) → cond t 1 (s.column + 1) ≤ s.at + 1 + 1
    column true = omega arith
    column false = omega (arith, w.columns)

-- the first i bytes are read, and no fault was found
pub record Reading (text : List ℕ) (s : State) (i : ℕ) : Type 0 where
  pub low : i ≤ length text
  pub here : s.at ≡ i
  pub within : Within s
  pub rest : fault_from s (drop i text) ≡ fault_of text

pub reading_none : (text : List ℕ) → Reading text at_start 0
unfolding fault_of
reading_none text = record { low = omega arith; here = refl; within = record { lines = omega arith; columns = omega arith; numbers = omega arith }; rest = refl }

module _ {text : List ℕ} {s : State} {i : ℕ} (r : Reading text s i) where
  module _ (z : ℕ) (h : i < length text) where
    abbrev b : ℕ
    b = get_or text i z

    pub reading_more : cause_at s b ≡ 0 → Reading text (past s b) (i + 1)
    unfolding past
    reading_more e =
        record {
          low = omega arith;
          here = omega (arith, r.here);
          within = past_within s b r.within;
          rest = rw (add-one i) (sym (rw (drop-cons text i z h) (fault_on s b (drop (suc i) text) e)) ∙ r.rest);
        }

    pub reading_fault : (cause_at s b ≡ 0 → ⊥) → fault_at s (cause_at s b) b ≡ fault_of text
    reading_fault n = sym (rw (drop-cons text i z h) (fault_here s b (drop (suc i) text) n)) ∙ r.rest

  pub reading_end : length text ≤ i → fault_at s (cause_end s) 0 ≡ fault_of text
  unfolding fault_from
  reading_end h = sym (rw (drop_of_length-le text h)) ∙ r.rest
