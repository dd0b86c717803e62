-- How long the text of a sound unit is at the most, and a text whose lines got numbers. Assumes nothing.
use Prim.Native.Nat.{ℕ, suc, ◌+◌, ◌*◌, ◌^◌, ◌≤◌, ◌<◌}
use native.Mathlib.Omega.{arith}
use native.Mathlib.Nat.{lt_of_lt_of_le}
use mathlib.Core.Path.{◌≡◌}
use mathlib.Core.Bool.{Bool, true, false, cond}
use mathlib.Core.List.{List, [], ◌∷◌, ◌++◌, map}
use lib.Dec.{eqb}
use lib.ListN.{length, get_or, take, drop, length-append, length-map, length-take}
use lib.Pow.{pow_mono}
use mir.Syntax.{w64}
use mir.Val.{SFits}
use Rattle.lists.specs.Members.{All}
use Rattle.lists.proofs.Entries.Alls.{all_drop}
use Rattle.vectors.specs.Bounds.{max_inputs, max_side}
use Rattle.vectors.specs.Variable.{mask_of}
use Rattle.record.specs.declared.Record.{Record}
use Rattle.record.specs.Record.{kinds_in}
use Rattle.record.specs.Tables.{Tables}
use Rattle.record.specs.Inner.Formed.{WellFormed}
use Rattle.record.specs.Formed.{sound}
use Rattle.record.proofs.Formed.{well_formed_facts, few_words}
use Rattle.record.proofs.Soundness.{Sound, sound_says}
use Rattle.print.specs.Decimal.{decimal}
use Rattle.print.specs.Line.{space, newline, ends, numbered, beside}
use Rattle.print.specs.Print.{numbers_of, text_of}
use Rattle.print.proofs.Decimals.Digits.{length_word}
use Rattle.print.proofs.Pages.Sizes.{page_low}
use Rattle.print.proofs.Pages.Formed.{masks_low}

-- ---- a unit

-- the words of a unit are words of 16 and of 64 bits, as those that are lent are
pub record Low (u : Record) (t : Tables) : Type 0 where
  pub tries : u.tries < 2 ^ 64
  pub excess : SFits w64 u.excess
  pub h : All (λ x. x < 2 ^ 16) (take (2 ^ u.n1) t.h)
  pub g : All (λ x. x < 2 ^ 16) (take u.cells t.g)
  pub aux : All (λ x. x < 2 ^ 64) (take (suc u.k) t.aux)

pub text_low : (u : Record) (t : Tables) → sound u t ≡ true → Low u t → length (text_of u t) ≤ 131072
unfolding text_of
text_low u t h l =
    let s : Sound u t = sound_says u t h in
    let w : WellFormed u t = well_formed_facts u t s.well_formed_lem in
    let b = w.bounds in
    let few = few_words u t s.well_formed_lem in
    let numbers : All (λ x. x < 2 ^ 64) (numbers_of u) =
    (omega (arith, b.inputs), (omega (arith, b.few), (omega (arith, b.rows_few), (omega (arith, b.few), (omega (arith, few.0), (omega (arith, few.1), (l.tries, tt))))))) in
    let kept_low : u.kept < 2 ^ 64 = lt_of_lt_of_le s.kept_in (pow_mono {i = u.n} {j = max_inputs} b.inputs) in
    omega (
      arith,
      page_low (numbers_of u) u.excess (map mask_of (kinds_in u)) u.kept (take (2 ^ u.n1) t.h) (take u.cells t.g) (take (suc u.k) t.aux) numbers l.excess
          (masks_low u.n b.inputs (kinds_in u) w.inputs.right) kept_low l.h l.g l.aux,
      length-map (kinds_in u) mask_of,
      s.variables,
      b.few,
      length-take (2 ^ u.n1) t.h,
      pow_mono {i = u.n1} {j = max_side} b.rows_few,
      length-take u.cells t.g,
      few.1,
      length-take (suc u.k) t.aux,
      few.0,
    )

-- ---- lines with their numbers

-- how many lines a text ends
unfoldable pub line_ends : List ℕ → ℕ
line_ends [] = 0
line_ends (b ∷ bs) = ends b + line_ends bs

head_low : (ns : List ℕ) → All (λ x. x < 2 ^ 64) ns → get_or ns 0 0 < 2 ^ 64
head_low [] a = omega arith
head_low (n ∷ ns) a = a.0

numbered_low : (b n : ℕ) → n < 2 ^ 64 → length (numbered b n) ≤ 1 + 21 * ends b
unfolding numbered
numbered_low b n h = go (eqb b newline)
  where
    go : (q : Bool) → length {A = ℕ} (elim q [ true ↦ (space ∷ decimal n) ++ (b ∷ []) | false ↦ b ∷ [] ]) ≤ 1 + 21 * cond q 1 0
    go true = omega (arith, length_word n h, length-append (space ∷ decimal n) (b ∷ []))
    go false = omega arith

pub beside_low : (text ns : List ℕ) → All (λ x. x < 2 ^ 64) ns → length (beside text ns) ≤ length text + 21 * line_ends text
unfolding beside line_ends
beside_low [] ns a = omega arith
beside_low (b ∷ bs) ns a =
    omega (
      arith,
      length-append (numbered b (get_or ns 0 0)) (beside bs (drop (ends b) ns)),
      numbered_low b (get_or ns 0 0) (head_low ns a),
      beside_low bs (drop (ends b) ns) (all_drop (λ x. x < 2 ^ 64) (ends b) ns a),
    )
