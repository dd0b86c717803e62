-- Degree and cells read from the words. Assumes nothing.
use Prim.Native.Nat.{ℕ, ◌+◌, ◌-◌, ◌≤◌, ◌<◌}
use native.Mathlib.Omega.{arith}
use mathlib.Core.Path.{◌≡◌, sym, ap, ◌∙◌}
use mathlib.Core.Bool.{true, false}
use mathlib.Core.List.{List, [], ◌∷◌, ◌++◌, append-nil}
use borrow.Author.Tests.{eq-eqb, ne_eqb, le-leb, lt-leb}
use borrow.Rule.Slice.PartMut.{put_mid}
use lib.ListN.{length, take, drop, set, drop_of_length-le}
use lib.Seq.{take_all}
use Rattle.print.specs.Print.{Printed, printed, fitted}
use Rattle.print.proofs.Pages.Fitting.{fitted_long}
use Rattle.print.specs.Line.{newline}
use Rattle.input.specs.Input.{Input}
use Rattle.input.specs.Input.{input_of}
use Rattle.keys.specs.Keys.{max_asked, asked_as, asked_of}

-- ---- the words behind a number 0

-- what a call that fits its target exactly leaves there
pub fitted_whole : (text out out' : List ℕ) (r : ℕ) → printed r out' ≡ fitted text out → length out ≡ length text → out' ≡ text
fitted_whole text out out' r e n =
    ap (λ (p : Printed). p.out) (e ∙ sym (fitted_long text out (omega arith)))
    ∙ ap (λ (l : List ℕ). text ++ l) (drop_of_length-le out {i = length text} (omega arith)) ∙ append-nil text

pub behind : (out words ys : List ℕ) → length out ≡ length words + 2 → ys ≡ words
    → put_mid 2 (length (set (set out 0 48) 1 10) - 2) (set (set out 0 48) 1 10) ys ≡ 48 ∷ newline ∷ words
behind [] words ys n e = absurd (omega arith)
behind (a ∷ []) words ys n e = absurd (omega arith)
behind (a ∷ b ∷ rest) words ys n e =
    ap (λ (l : List ℕ). 48 ∷ newline ∷ l)
    (ap (λ (l : List ℕ). ys ++ l) (drop_of_length-le rest {i = length (a ∷ b ∷ rest) - 2} (omega arith)) ∙ append-nil ys ∙ e)

pub behind_length : (out words : List ℕ) → length out ≡ length words + 2 → length (take (length (set (set out 0 48) 1 10) - 2) (drop 2 (set (set out 0 48) 1 10))) ≡ length words
behind_length [] words n = absurd (omega arith)
behind_length (a ∷ []) words n = absurd (omega arith)
behind_length (a ∷ b ∷ rest) words n = ap length (take_all (length (a ∷ b ∷ rest) - 2) rest (omega arith)) ∙ omega arith

module _ (words : List ℕ) where
  pub asked_none : length words ≡ 0 → record { good = true; degree = 2; cells = 0 } ≡ asked_of words
  unfolding asked_of
  asked_none e = rw (eq-eqb (length words) 0 e, asked_of)

  module _ (some : length words ≡ 0 → ⊥) where
    pub asked_long : max_asked < length words → record { good = false; degree = 0; cells = 0 } ≡ asked_of words
    unfolding asked_of
    asked_long h = rw (ne_eqb (length words) 0 some, lt-leb (length words) max_asked h, asked_of)

    pub asked_read : length words ≤ max_asked → (i : Input) → i ≡ input_of (48 ∷ newline ∷ words) 0 → record { good = i.good; degree = i.degree; cells = i.cells } ≡ asked_of words
    unfolding asked_of asked_as
    asked_read h i e =
        rw (ne_eqb (length words) 0 some, le-leb (length words) max_asked h, asked_of)
        (ap (λ (x : Input). record { good = x.good; degree = x.degree; cells = x.cells }) e)
