-- A text printed where it fits, and nothing where it does not. Assumes nothing.
use Prim.Native.Nat.{ℕ, ◌+◌, ◌≤◌, ◌<◌}
use native.Mathlib.Omega.{arith}
use native.Mathlib.Nat.{zero-add}
use mathlib.Core.Path.{◌≡◌, sym, ap, ap₂, ◌∙◌}
use mathlib.Core.Bool.{true, false}
use mathlib.Core.List.{List, [], ◌∷◌, ◌++◌}
use borrow.Author.Tests.{le-leb, lt-leb}
use lib.ListN.{length, take, drop, length-append}
use lib.Seq.{take-append_seam}
use Rattle.record.specs.declared.Record.{Record}
use Rattle.record.specs.Tables.{Tables}
use Rattle.record.specs.Formed.{well_formed}
use Rattle.print.specs.Line.{lines, beside}
use Rattle.print.specs.Print.{Printed, printed, fitted, text_of, print_of, max_fields, lines_of, max_bytes, beside_of}
use Rattle.print.specs.Inner.Written.{Written, put_at}

pub fitted_short : (text out : List ℕ) → length out < length text → printed 0 out ≡ fitted text out
unfolding fitted
fitted_short text out h = rw (lt-leb (length text) (length out) h, fitted)

pub fitted_long : (text out : List ℕ) → length text ≤ length out → printed (length text) (text ++ drop (length text) out) ≡ fitted text out
unfolding fitted
fitted_long text out h = rw (le-leb (length text) (length out) h, fitted)

-- what a call leaves in a target that is long enough: the bytes that it counts are the text
module _ (text out out' : List ℕ) (r : ℕ) (e : printed r out' ≡ fitted text out) (h : length text ≤ length out) where
  pub fitted_taken : take r out' ≡ text
  fitted_taken = ap (λ (p : Printed). take p.count p.out) (e ∙ sym (fitted_long text out h)) ∙ take-append_seam text (drop (length text) out)

  pub fitted_within : r ≤ length out'
  fitted_within =
      let f = e ∙ sym (fitted_long text out h) in
      omega (
        arith,
        ap (λ (p : Printed). p.count) f,
        ap (λ (p : Printed). length p.out) f,
        length-append text (drop (length text) out),
      )

-- a text written in front of bytes that it fits
pub front_is : {text old out : List ℕ} {end : ℕ} → Written old 0 text out end → end ≤ length old → out ≡ text ++ drop (length text) old
unfolding put_at
front_is {text} {old} w h = w.is h ∙ ap (λ (n : ℕ). text ++ drop n old) (zero-add (length text))

pub fitted_written : {text old out : List ℕ} {end : ℕ} → Written old 0 text out end → end ≤ length old → printed end out ≡ fitted text old
fitted_written {text} {old} {out} {end} w h =
    let e : end ≡ length text = omega (arith, w.place) in
    ap₂ printed e (front_is w h) ∙ fitted_long text old (omega arith)

-- the text itself, from bytes that it was written in front of
pub front_taken : {text old out : List ℕ} {end : ℕ} → Written old 0 text out end → end ≤ length old → take end out ≡ text
front_taken {text} {old} {out} {end} w h =
    let e : end ≡ length text = omega (arith, w.place) in
    ap₂ take e (front_is w h) ∙ take-append_seam text (drop (length text) old)

-- what is printed after a text was measured on an empty front of the bytes
pub measured_short : (text empty old : List ℕ) {total : ℕ} → length empty ≡ 0 → total ≡ 0 + length text → length (empty ++ old) < total
    → printed 0 (empty ++ old) ≡ fitted text old
measured_short text [] old z e h = fitted_short text old (omega arith)
measured_short text (b ∷ empty) old z e h = absurd (omega arith)

pub measured_written : (text empty old : List ℕ) {out : List ℕ} {total end : ℕ} → length empty ≡ 0 → total ≡ 0 + length text → total ≤ length (empty ++ old)
    → Written (empty ++ old) 0 text out end → printed end out ≡ fitted text old
measured_written text [] old z e h w = fitted_written w (omega (arith, w.place))
measured_written text (b ∷ empty) old z e h w = absurd (omega arith)

-- numbers in lines
pub lines_many : (xs out : List ℕ) → max_fields < length xs → printed 0 out ≡ lines_of xs out
unfolding lines_of
lines_many xs out h = rw (lt-leb (length xs) max_fields h, lines_of)

pub lines_few : (xs out : List ℕ) → length xs ≤ max_fields → fitted (lines xs) out ≡ lines_of xs out
unfolding lines_of
lines_few xs out h = rw (le-leb (length xs) max_fields h, lines_of)

-- numbers behind lines
pub beside_long : (text ns out : List ℕ) → max_bytes < length text → printed 0 out ≡ beside_of text ns out
unfolding beside_of
beside_long text ns out h = rw (lt-leb (length text) max_bytes h, beside_of)

pub beside_fits : (text ns out : List ℕ) → length text ≤ max_bytes → fitted (beside text ns) out ≡ beside_of text ns out
unfolding beside_of
beside_fits text ns out h = rw (le-leb (length text) max_bytes h, beside_of)

pub print_unformed : (u : Record) (t : Tables) (out : List ℕ) → well_formed u t ≡ false → printed 0 out ≡ print_of u t out
unfolding print_of
print_unformed u t out h = rw (h, print_of)

pub print_formed : (u : Record) (t : Tables) (out : List ℕ) → well_formed u t ≡ true → fitted (text_of u t) out ≡ print_of u t out
unfolding print_of
print_formed u t out h = rw (h, print_of)
