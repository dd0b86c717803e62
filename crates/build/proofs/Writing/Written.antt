-- What the builds write: the words of AUX, for the placing and for lookups. Assumes nothing.
use Prim.Native.Nat.{ℕ, suc, ◌+◌, ◌-◌, ◌*◌, ◌/◌, ◌%◌, ◌^◌, ◌≤◌, ◌<◌}
use native.Mathlib.Nat.{lt_of_lt_of_le}
use native.Mathlib.Omega.{arith}
use mathlib.Core.Path.{◌≡◌, refl, sym, ap, ap₂, ◌∙◌}
use mathlib.Core.Bool.{false}
use mathlib.Core.List.{List, [], ◌∷◌, map}
use lib.Count.{ones}
use lib.IntN.{ℤ}
use lib.ListN.{length, take, drop, replicate, length-map, length-replicate}
use lib.Pow.{pow_mono}
use Rattle.lists.specs.Members.{All}
use Rattle.lists.proofs.Entries.Members.{map_take, map_drop, map_same}
use Rattle.vectors.specs.declared.Kind.{Kind}
use Rattle.vectors.specs.declared.Variable.{Variable}
use Rattle.vectors.specs.Variable.{mask_of, row_of, column_of}
use Rattle.span.specs.Span.{kept}
use Rattle.vectors.specs.Word.{word_of}
use Rattle.vectors.proofs.Variables.Numbers.{row_lt, column_lt}
use Rattle.span.proofs.Spans.{kept_lt}
use Rattle.span.proofs.Labels.Edges.{all_edges}
use Rattle.span.proofs.Count.{kept_number}
use Rattle.rows.specs.Care.{Care, cares_by}
use Rattle.rows.specs.Answer.{care_of, cares_from, cares_in, cares_of, astray, unfit, settle, settled, placed}
use Rattle.vectors.specs.Bounds.{max_inputs, max_side, max_vectors, max_cells}
use Rattle.record.specs.Record.{mark_built, record_of, excess_of, variables_of}
use Rattle.vectors.specs.Masks.{masks_of, word_by}
use Rattle.build.specs.Inner.Places.{place_by}
use Rattle.build.specs.Inner.Ready.{Listed, Split}
use Rattle.vectors.proofs.Variables.Masking.{number_masks, word_masks}
use Rattle.rows.proofs.Answers.Owned.{owned_none}
use Rattle.rows.proofs.Answers.Unfit.{astray_none, astray_more, fit_is, placed_fit}
use Rattle.build.specs.Build as build

-- ---- a vector of the list fits a word

pub wide : {n : ℕ} {vs : List ℕ} → Listed n vs → (v : ℕ) → v < 2 ^ n → v < 2 ^ max_inputs
wide {n} l v h = lt_of_lt_of_le h (pow_mono {i = n} {j = max_inputs} l.inputs)

-- ---- AUX as lookups want it

pub kept_room : {n n1 : ℕ} {ks : List Kind} {vs : List ℕ} → Listed n vs → Split n n1 ks → n1 + ones (kept n ks) ≤ max_inputs
kept_room {n} {n1} {ks} l s = omega (arith, kept_number n ks (all_edges n ks s.right) s.independent, l.inputs, s.rows_in)

pub words_are : {n n1 : ℕ} {ks : List Kind} {vs : List ℕ} → Listed n vs → Split n n1 ks
    → map (word_by (masks_of (take n1 ks)) (kept n ks)) vs ≡ map (word_of n n1 ks (kept n ks)) vs
words_are {n} {n1} {ks} {vs} l s =
    map_same _ _ (λ v. v < 2 ^ n) (λ v h. word_masks n n1 ks (kept n ks) v l.inputs s.rows_in (kept_lt n ks) (wide l v h)) vs l.within

-- the record
pub unit_is : (n n1 k cells tries p kept' : ℕ) (ks : List Kind) (excess' : ℤ) (variables' : List Variable) → p ≡ length ks → kept' ≡ kept n ks → excess' ≡ excess_of p k
    → variables' ≡ variables_of n1 ks
    → record { n = n; p = p; n1 = n1; k = k; cells = cells; kept = kept'; tries = tries; excess = excess'; variables = variables'; mark = mark_built }
    ≡ record_of mark_built n n1 k ks cells tries
unfolding record_of
unit_is n n1 k cells tries p kept' ks excess' variables' e f g h = rw (g, e, f, h)

-- ---- AUX as the placing wants it

module _ (n1 : ℕ) (ks : List Kind) (rows_in : n1 ≤ length ks) (rows_few : n1 ≤ max_side) (columns_few : length ks - n1 ≤ max_side) where
  row_low : (v : ℕ) → row_of n1 ks v < 4096
  row_low v = lt_of_lt_of_le (row_lt n1 ks v rows_in) (pow_mono {i = n1} {j = max_side} rows_few)

  column_low : (v : ℕ) → column_of n1 ks v < 4096
  column_low v = lt_of_lt_of_le (column_lt n1 ks v) (pow_mono {i = length ks - n1} {j = max_side} columns_few)

  -- the row and the column of a word
  word_place : (w v : ℕ) → v < 2 ^ max_inputs → w ≡ place_by (masks_of (take n1 ks)) (masks_of (drop n1 ks)) v
      → (w % 4096 ≡ row_of n1 ks v) × (w / 4096 % 4096 ≡ column_of n1 ks v) × (w < 16777216)
  word_place w v h e =
      let f : w ≡ row_of n1 ks v + 4096 * column_of n1 ks v =
      e ∙ ap₂ (λ (a b : ℕ). a + 4096 * b) (number_masks (take n1 ks) v h) (number_masks (drop n1 ks) v h) in
      (omega (arith, row_low v, column_low v), omega (arith, row_low v, column_low v), omega (arith, row_low v, column_low v))

  care_is : (i v : ℕ) → v < 2 ^ max_inputs
      → care_of i (place_by (masks_of (take n1 ks)) (masks_of (drop n1 ks)) v) ≡ record { index = i; row = row_of n1 ks v; column = column_of n1 ks v }
  care_is i v h = let p = word_place _ v h refl in ap₂ (λ (x y : ℕ). record { index = i; row = x; column = y }) p.0 p.1

  -- the words say the rows and the columns
  pub places_cares : (i : ℕ) (vs : List ℕ) → All (λ v. v < 2 ^ max_inputs) vs
      → cares_from i (map (place_by (masks_of (take n1 ks)) (masks_of (drop n1 ks))) vs) ≡ build.cares_from i n1 ks vs
  unfolding cares_by build.cares_from
  places_cares i [] a = refl
  places_cares i (v ∷ vs) a = ap₂ (λ (c : Care) (cs : List Care). c ∷ cs) (care_is i v a.0) (places_cares (suc i) vs a.1)

  -- and none is astray
  pub places_found : (vs : List ℕ) → All (λ v. v < 2 ^ max_inputs) vs → astray (2 ^ n1) (map (place_by (masks_of (take n1 ks)) (masks_of (drop n1 ks))) vs) ≡ false
  places_found [] a = astray_none (2 ^ n1)
  places_found (v ∷ vs) a =
      let q = word_place _ v a.0 refl in
      astray_more (2 ^ n1) _ _ q.2 (omega (arith, q.0, row_lt n1 ks v rows_in)) (places_found vs a.1)

-- the placing of these words is the placing of the vectors
pub places_placed : (n1 : ℕ) (ks : List Kind) (cells allowance : ℕ) (vs m aux h g : List ℕ) → n1 ≤ length ks → n1 ≤ max_side → length ks - n1 ≤ max_side → All (λ v. v < 2 ^ max_inputs) vs
    → length vs ≤ max_vectors → cells ≤ max_cells → m ≡ masks_of ks → aux ≡ 0 ∷ map (place_by (take n1 m) (drop n1 m)) vs → length h ≡ 2 ^ n1 → g ≡ replicate cells 0
    → placed aux h g 0 allowance ≡ settle allowance (build.placing_of n1 ks cells vs) (replicate (2 ^ n1) 0) (replicate cells 0)
unfolding cares_in build.placing_of settled
places_placed n1 ks cells allowance vs m aux h g a b c w few cells_few em ea eh eg =
    let f : Kind → ℕ = λ k. mask_of k % 2 ^ max_inputs in
    let e : aux ≡ 0 ∷ map (place_by (masks_of (take n1 ks)) (masks_of (drop n1 ks))) vs =
    ea ∙ ap (λ (l : List ℕ). 0 ∷ map (place_by (take n1 l) (drop n1 l)) vs) em
    ∙ ap₂ (λ (x y : List ℕ). 0 ∷ map (place_by x y) vs) (sym (map_take f n1 ks)) (sym (map_drop f n1 ks)) in
    let k : length aux ≡ suc (length vs) = ap length e ∙ ap suc (length-map vs (place_by (masks_of (take n1 ks)) (masks_of (drop n1 ks)))) in
    let l : length g ≡ cells = ap length eg ∙ length-replicate cells 0 in
    let t : unfit aux (length h) (length g) 0 ≡ false =
    fit_is aux (length h) (length g) 0 (omega arith) (omega arith) (omega (arith, pow_mono {i = n1} {j = max_side} b)) (omega arith) refl
    (rw (e, eh) (places_found n1 ks a b c vs w)) in
    let q : cares_of 0 aux ≡ build.cares_from 1 n1 ks vs = owned_none (cares_in aux) ∙ rw e (places_cares n1 ks a b c 1 vs w) in
    placed_fit aux h g 0 allowance t
    ∙ rw (q, eh, eg)
