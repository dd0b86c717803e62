-- The record that the head says, as the code works it out, is that of the decoded file where it is right. Assumes nothing.
use mathlib.Core.Path.{◌≡◌, refl, sym, ap, ap₂, ◌∙◌}
use mathlib.Core.Bool.{Bool, true, false}
use mathlib.Core.List.{List, ◌∷◌, map}
use Prim.Native.Nat.{ℕ, zero, suc, ◌+◌, ◌-◌, ◌≤◌}
use native.Mathlib.Omega.{arith}
use lib.ListN.{length, get_or, take}
use Rattle.vectors.specs.declared.Kind.{Kind}
use Rattle.vectors.specs.Bounds.{max_variables}
use Rattle.vectors.specs.declared.Variable.{Variable}
use Rattle.vectors.specs.Variable.{kinds_of, first_faulty}
use Rattle.span.specs.Span.{first_dependent, kept}
use Rattle.span.specs.Within.{inputs_in, within}
use Rattle.record.specs.Record.{record_of, variables_of, kinds_in}
use Rattle.record.specs.Formed.{is_in_bounds, right_record}
use Rattle.record.proofs.Formed.{in_bounds}
use Rattle.record.proofs.Marks.{kinds_in_lem}
use Rattle.record.proofs.Soundness.{Right, right_says, right_unbound, kept_same}
use Rattle.block.specs.Bytes.{number_at}
use Rattle.file.specs.Layout.{n_at, p_at, n1_at, variables_at}
use Rattle.file.specs.Decode.{kind_of, kinds_from, record_in}
use Rattle.load.specs.Inner.Said.{kinds_said, said_in}

pub length_kinds : (p at : ℕ) (file : List ℕ) → length (kinds_from p at file) ≡ p
unfolding kinds_from
length_kinds zero at file = refl
length_kinds (suc p) at file = ap suc (length_kinds p (suc (suc at)) file)

-- fewer variables are the first of more
kinds_front : (p d at : ℕ) (file : List ℕ) → take p (kinds_from (p + d) at file) ≡ kinds_from p at file
unfolding kinds_from
kinds_front zero d at file = refl
kinds_front (suc p) d at file =
    let e : suc p + d ≡ suc (p + d) = omega arith in
    rw e (ap (λ (ks : List Kind). kind_of (get_or file at 0) (get_or file (suc at) 0) ∷ ks) (kinds_front p d (suc (suc at)) file))

module _ (file : List ℕ) where
  abbrev n : ℕ
  n = number_at 1 n_at file

  abbrev p : ℕ
  p = number_at 1 p_at file

  abbrev ks : List Kind
  ks = kinds_from p variables_at file

  -- the decoded variables
  pub kinds_are : kinds_in (record_in file) ≡ ks
  unfolding record_in record_of
  kinds_are = kinds_in_lem (number_at 1 n1_at file) ks

  pub many_are : (record_in file).p ≡ p
  unfolding record_in record_of
  many_are = length_kinds p variables_at file

  bounds_same : is_in_bounds (said_in file) ≡ is_in_bounds (record_in file)
  unfolding said_in record_in record_of
  bounds_same = rw (length_kinds p variables_at file)

  module _ (b : is_in_bounds (said_in file) ≡ true) where
    few : p ≤ max_variables
    unfolding said_in
    few = (in_bounds (said_in file) b).few

    kinds_said_lem : kinds_said file ≡ ks
    kinds_said_lem =
        let e : p + (max_variables - p) ≡ max_variables = omega (arith, few) in
        rw e at (kinds_front p (max_variables - p) variables_at file)

    variables_same : (said_in file).variables ≡ (record_in file).variables
    unfolding said_in record_in record_of
    variables_same = ap (variables_of (number_at 1 n1_at file)) kinds_said_lem

    kinds_same : kinds_in (said_in file) ≡ kinds_in (record_in file)
    unfolding said_in record_in record_of
    kinds_same = ap₂ (λ (i : ℕ) (l : List Variable). kinds_of (take i l)) (sym (length_kinds p variables_at file)) variables_same

    numbers_same : (said_in file).n ≡ (record_in file).n
    unfolding said_in record_in record_of
    numbers_same = refl

    inside : right_record (said_in file) ≡ right_record (record_in file)
    unfolding right_record
    inside =
        let f : first_faulty (said_in file).n (kinds_in (said_in file)) ≡ first_faulty (record_in file).n (kinds_in (record_in file)) = ap₂ first_faulty numbers_same kinds_same in
        let d : first_dependent (kinds_in (said_in file)) ≡ first_dependent (kinds_in (record_in file)) = ap first_dependent kinds_same in
        rw (bounds_same, f, d)

  -- a right record is told alike
  pub said_right : right_record (said_in file) ≡ right_record (record_in file)
  said_right = go (is_in_bounds (said_in file)) refl
    where
      go : (t : Bool) → is_in_bounds (said_in file) ≡ t → right_record (said_in file) ≡ right_record (record_in file)
      go true b = inside b
      go false b = right_unbound (said_in file) b ∙ sym (right_unbound (record_in file) (sym bounds_same ∙ b))

  -- and is the decoded one
  pub said_is : right_record (said_in file) ≡ true → said_in file ≡ record_in file
  unfolding said_in record_in record_of
  said_is h =
      let b : is_in_bounds (said_in file) ≡ true = (right_says (said_in file) h).in_bounds in
      let r : Right (record_in file) = right_says (record_in file) (sym said_right ∙ h) in
      let e : kinds_said file ≡ kinds_in (record_in file) = kinds_said_lem b ∙ sym kinds_are in
      let k : kept (inputs_in n) (map (within (inputs_in n)) (kinds_said file)) ≡ kept n ks =
      ap (λ (l : List Kind). kept (inputs_in n) (map (within (inputs_in n)) l)) e ∙ kept_same (record_in file) r ∙ ap (kept n) kinds_are in
      cc (kinds_said_lem b, length_kinds p variables_at file)
