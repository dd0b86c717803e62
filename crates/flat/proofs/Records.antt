-- The record as the code reads it and writes it. Assumes nothing.
use Prim.Native.Nat.{ℕ}
use mathlib.Core.Path.{◌≡◌, refl, sym, ap, ◌∙◌}
use mathlib.Core.Bool.{Bool, true, false, cond}
use mathlib.Core.List.{List, ◌∷◌, ◌++◌, map}
use lib.IntN.{ℤ}
use lib.ListN.{get_or, replicate}
use mir.Syntax.{w64}
use mir.Val.{to_z, of_z}
use Rattle.vectors.specs.declared.Variable.{Variable}
use Rattle.record.specs.declared.Mark.{Mark}
use Rattle.record.specs.declared.Record.{Record}
use Rattle.record.specs.Record.{mark_number, mark_of, blank_record}
use Rattle.flat.specs.Flat.{variable_word, low_variables, variable_words, mark_place, spare_words, flat_of, unit_with, unit_at, all_in_range, unreadable, unit_seen}

-- ---- read

abbrev numbered : List ℕ → ℤ → List Variable → Mark → Record
numbered words excess variables mark =
    record {
      n = get_or words 0 0;
      p = get_or words 1 0;
      n1 = get_or words 2 0;
      k = get_or words 3 0;
      cells = get_or words 4 0;
      kept = get_or words 5 0;
      tries = get_or words 6 0;
      excess = excess;
      variables = variables;
      mark = mark;
    }

pub unit_read : (words : List ℕ) (excess : ℤ) (variables : List Variable) (mark : Mark) → excess ≡ to_z w64 (get_or words 7 0) → mark ≡ mark_of (get_or words mark_place 0)
    → numbered words excess variables mark ≡ unit_with words variables
unfolding unit_with
unit_read words excess variables mark e g = cc

-- ---- written

pub flat_written : (u : Record) (excess mark : ℕ) (variables : List ℕ) → excess ≡ of_z w64 u.excess → mark ≡ mark_number u.mark → variables ≡ map variable_word u.variables
    → u.n ∷ u.p ∷ u.n1 ∷ u.k ∷ u.cells ∷ u.kept ∷ u.tries ∷ excess ∷ variables ++ (mark ∷ replicate spare_words 0) ≡ flat_of u
unfolding flat_of
flat_written u excess mark variables e m f = cc

-- ---- any record

pub unit_seen_lem : (words : List ℕ) (variables : List Variable) → variables ≡ low_variables (variable_words words) → all_in_range (variable_words words) ≡ true
    → unit_with words variables ≡ unit_seen words
unfolding unit_seen unit_at
unit_seen_lem words variables f e = ap (unit_with words) f ∙ sym (ap (λ (b : Bool). cond b (unit_at words) (unreadable (get_or words 3 0))) e)

-- the blank record with another k, as the code makes it
abbrev keyed : Record → ℕ → Record
keyed b k =
    record { n = b.n; p = b.p; n1 = b.n1; k = k; cells = b.cells; kept = b.kept; tries = b.tries; excess = to_z w64 (of_z w64 b.excess); variables = b.variables; mark = b.mark }

pub seen_unread : (words : List ℕ) (b : Record) → all_in_range (variable_words words) ≡ false → b ≡ blank_record → keyed b (get_or words 3 0) ≡ unit_seen words
unfolding unit_seen
seen_unread words b e f = rw e (ap (λ (b : Record). keyed b (get_or words 3 0)) f)

pub seen_keys : (words : List ℕ) → (unit_seen words).k ≡ get_or words 3 0
unfolding unit_seen unit_at unit_with
seen_keys words = go (all_in_range (variable_words words))
  where
    go : (b : Bool) → (cond b (unit_at words) (unreadable (get_or words 3 0))).k ≡ get_or words 3 0
    go true = refl
    go false = refl
