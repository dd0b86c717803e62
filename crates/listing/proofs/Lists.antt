-- What is listed of a unit, case by case. Assumes nothing.
use Prim.Native.Nat.{ℕ, ◌+◌, ◌<◌}
use native.Mathlib.Numerals.{add-one}
use native.Mathlib.Omega.{arith}
use mathlib.Core.Path.{◌≡◌, refl, sym, ap, ◌∙◌}
use mathlib.Core.Bool.{true, false}
use mathlib.Core.List.{List, [], ◌∷◌}
use lib.ListN.{length, take, drop, set}
use lib.Seq.{sets, sets-eq, length-sets, take_at}
use Rattle.record.specs.declared.Record.{Record}
use Rattle.record.specs.Tables.{Tables}
use Rattle.recover.specs.Every.{listed, list_in, list_into}
use Rattle.recover.proofs.Every.{listed_length}
use Rattle.recover.proofs.Stored.{into_listed}
use Rattle.print.specs.Line.{lines}
use Rattle.print.specs.Print.{fitted, refused_text, max_fields, lines_of}
use Rattle.print.proofs.Pages.Fitting.{lines_few}
use Rattle.listing.specs.Listing.{list_text}

-- n and then the entries of a list that was stored behind the first word
headed : (n : ℕ) (vs old : List ℕ) → length vs < length old → take (length vs + 1) (set (sets old 1 vs) 0 n) ≡ n ∷ vs
headed n vs [] h = absurd (omega arith)
headed n vs (w ∷ ws) h =
    rw (sets-eq vs (w ∷ ws) 1 (omega arith), add-one (length vs)) (ap (λ (l : List ℕ). n ∷ l) (take_at vs (drop (1 + length vs) (w ∷ ws)) (length vs) refl))

module _ (u : Record) (t : Tables) where
  pub list_listed : listed u t ≡ true → lines (u.n ∷ list_in u t) ≡ list_text u t
  unfolding list_text
  list_listed h = rw (h, list_text)

  pub list_not : listed u t ≡ false → refused_text 14 0 ≡ list_text u t
  unfolding list_text
  list_not h = rw (h, list_text)

  module _ (h : listed u t ≡ true) (old words : List ℕ) (e : words ≡ list_into u t old) where
    pub words_many : length words ≡ length old
    words_many = ap length (e ∙ sym (into_listed u t old h)) ∙ length-sets old 1 (list_in u t)

    words_are : u.k < length old → take (u.k + 1) (set words 0 u.n) ≡ u.n ∷ list_in u t
    words_are l =
        let q = listed_length u t h in
        ap (λ (k : ℕ). take (k + 1) (set words 0 u.n)) (sym q)
        ∙ ap (λ (ws : List ℕ). take (length (list_in u t) + 1) (set ws 0 u.n)) (e ∙ sym (into_listed u t old h))
        ∙ headed u.n (list_in u t) old (omega arith)

    -- n and the vectors are printed
    pub list_printed : (out : List ℕ) → u.k < length old → u.k < max_fields → lines_of (take (u.k + 1) (set words 0 u.n)) out ≡ fitted (list_text u t) out
    list_printed out l few =
        ap (λ (xs : List ℕ). lines_of xs out) (words_are l)
        ∙ sym (lines_few (u.n ∷ list_in u t) out (omega (arith, listed_length u t h)))
        ∙ ap (λ (s : List ℕ). fitted s out) (list_listed h)
