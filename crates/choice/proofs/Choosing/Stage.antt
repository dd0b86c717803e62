-- The choice by groups: what holds when p variables are taken. Assumes nothing.
use Prim.Native.Nat.{ℕ, suc, ◌+◌, ◌-◌, ◌%◌, ◌^◌, ◌≤◌, ◌<◌}
use native.Mathlib.Omega.{arith}
use native.Mathlib.Numerals.{add-one}
use mathlib.Core.Path.{◌≡◌, refl, sym, ap, ap₂, ◌∙◌, fun_ext}
use mathlib.Core.Bool.{Bool, true, false}
use mathlib.Core.List.{List, [], ◌∷◌, ◌++◌, map, map-append, append_assoc}
use lib.Bits.{bit_or}
use lib.Dec.{eqb}
use lib.ListN.{length, get_or, take, set, replicate, length-set, length-map, length-append}
use lib.Seq.{take-suc-set, length-take-le, set_at}
use borrow.Author.Tests.{eq-eqb, ne_eqb}
use Rattle.lists.proofs.Tests.{eqb_iff}
use Rattle.vectors.specs.declared.Kind.{Kind}
use Rattle.vectors.specs.declared.Variable.{Variable}
use Rattle.vectors.specs.Variable.{value_of, mask_of, kinds_of, faulty, blank_variable}
use Rattle.choice.specs.Choice.{left, apart, best_of, next_of, choose_in, choose, candidates}
use Rattle.vectors.proofs.Variables.Numbers.{value_word, kinds_length}
use Rattle.choice.proofs.Choice.Steps.{choose_stop, choose_more}
use Rattle.choice.specs.Inner.Split.{refined, whole, squares}
use Rattle.choice.proofs.Choice.Grouped.{Grouped, grouped_none, grouped_more, grouped_apart, grouped_empty}
use Rattle.choice.proofs.Choice.Squares.{square_of, squares_map, squares_next}
use Rattle.choice.specs.declared.groups.Groups.{Groups}
use Rattle.vectors.specs.Bounds.{max_inputs, max_variables}
use Rattle.choice.specs.Inner.Groups.{cut, Shape, GroupsAre, groups_of, sizes_of, order_of, value_at}
use Rattle.choice.specs.Inner.Best.{score_of}
use Rattle.choice.specs.Inner.Ties.{Ties, later_of}
use Rattle.choice.specs.Choosing.{Chosen, row_variable, placed, chosen_as, chosen_by}
use Rattle.choice.proofs.Grouping.Cut.{cut_map, cut_length}
use Rattle.choice.proofs.Choosing.Ties.{ties_more}

-- no group is left exactly when the count is 0
count_none : (k : ℕ) (g : Groups) → Shape k g → g.count ≡ 0 → groups_of g ≡ []
unfolding cut
count_none k g s e = rw e

none_count : (k : ℕ) (g : Groups) → Shape k g → groups_of g ≡ [] → g.count ≡ 0
none_count k g s e = omega (arith, cut_length (sizes_of g) (order_of g), ap length e, length-take-le g.count g.sizes s.places)

-- ---- masks and words in place of variables and indices

module _ (vs : List ℕ) (fits : (i : ℕ) → get_or vs i 0 < 2 ^ max_inputs) where
  value_at_lem : (c : Kind) → value_at vs (mask_of c % 2 ^ max_inputs) ≡ (λ i. value_of (get_or vs i 0) c)
  value_at_lem c = fun_ext (λ i. value_word max_inputs (get_or vs i 0) c (fits i))

-- the words' score is that of the indices' squares
score_square : (vs sizes order : List ℕ) → score_of sizes (map (λ i. get_or vs i 0) order) ≡ square_of vs (cut sizes order)
score_square vs sizes order =
    fun_ext
    (λ c.
    ap (squares (λ x. value_of x c)) (cut_map (λ i. get_or vs i 0) sizes order) ∙ squares_map (λ x. value_of x c) (λ i. get_or vs i 0) (cut sizes order))

-- ---- variables in their places

-- one more
placed_more : (ks : List Kind) (c : Kind) (p : ℕ) → length ks ≡ p → p < max_variables → set (placed ks) p (row_variable c) ≡ placed (ks ++ (c ∷ []))
placed_more ks c p e h =
    let left : max_variables - length ks ≡ suc (max_variables - suc (length ks)) = omega arith in
    let many : length (ks ++ (c ∷ [])) ≡ suc (length ks) = length-append ks (c ∷ []) ∙ add-one (length ks) in
    ap (λ (d : ℕ). set (map row_variable ks ++ replicate d blank_variable) p (row_variable c)) left
    ∙ set_at (map row_variable ks) blank_variable (replicate (max_variables - suc (length ks)) blank_variable) (row_variable c) p (length-map ks row_variable ∙ e)
    ∙ sym (append_assoc (map row_variable ks) (row_variable c ∷ []) (replicate (max_variables - suc (length ks)) blank_variable))
    ∙ ap₂ (λ (l : List Variable) (d : ℕ). l ++ replicate (max_variables - d) blank_variable) (sym (map-append row_variable ks (c ∷ []))) (sym many)

-- ---- a turn

abbrev pub taken_in : List Variable → ℕ → List Kind
taken_in variables p = kinds_of (take p variables)

pub record Stage (vs : List ℕ) (cs : List Kind) (g : Groups) (variables : List Variable) (p : ℕ) : Type 0 where
  pub within : p ≤ max_variables
  pub size : length variables ≡ max_variables
  pub is : variables ≡ placed (taken_in variables p)
  pub shape : Shape (length vs) g
  pub grouped : Grouped vs (taken_in variables p) (groups_of g)
  pub same : choose_in (max_variables - p) cs vs (taken_in variables p) ≡ choose_in max_variables cs vs []

pub stage_none : (vs : List ℕ) (cs : List Kind) (g : Groups) (variables : List Variable) → variables ≡ placed []
    → GroupsAre (length vs) (whole (length vs)) g → Stage vs cs g variables 0
stage_none vs cs g variables h a = record { within = omega arith; size = ap length h; is = h; shape = a.shape; grouped = rw a.are (grouped_none vs); same = refl }

module _ {vs : List ℕ} {cs : List Kind} {g : Groups} {variables : List Variable} {p : ℕ} (s : Stage vs cs g variables p) where
  apart_is : apart vs (taken_in variables p) ≡ eqb g.count 0
  unfolding apart
  apart_is =
      eqb_iff {a = left vs (taken_in variables p)} {b = 0} {c = g.count} {d = 0}
      (λ e. none_count (length vs) g s.shape (grouped_apart s.grouped e)) (λ e. grouped_empty s.grouped (count_none (length vs) g s.shape e))

  -- the rule's next variable, and the groups after it
  pub stage_more : (words : List ℕ) (c : Kind) (m : ℕ) (g' : Groups) → p < max_variables → (g.count ≡ 0 → ⊥) → ((i : ℕ) → get_or vs i 0 < 2 ^ max_inputs)
      → words ≡ map (λ i. get_or vs i 0) (order_of g) → c ≡ best_of (score_of (sizes_of g) words) cs → m ≡ mask_of c % 2 ^ max_inputs
      → GroupsAre (length vs) (refined (value_at vs m) (groups_of g)) g' → Stage vs cs g' (set variables p (row_variable c)) (p + 1)
  stage_more words c m g' h n fits w b e a =
      let next : c ≡ next_of cs vs (taken_in variables p) =
      b ∙ ap (λ ws. best_of (score_of (sizes_of g) ws) cs) w ∙ ap (λ f. best_of f cs) (score_square vs (sizes_of g) (order_of g)) ∙ squares_next s.grouped cs in
      let more : taken_in (set variables p (row_variable c)) (p + 1) ≡ taken_in variables p ++ (c ∷ []) =
      rw (add-one p, take-suc-set variables p (row_variable c) (omega (arith, s.size)))
      (map-append (λ v. v.kind) (take p variables) (row_variable c ∷ [])) in
      let d : max_variables - p ≡ suc (max_variables - (p + 1)) = omega arith in
      let no : apart vs (taken_in variables p) ≡ false = apart_is ∙ ne_eqb g.count 0 n in
      record {
        within = omega arith;
        size = length-set variables p (row_variable c) ∙ s.size;
        is = ap (λ (l : List Variable). set l p (row_variable c)) s.is ∙ placed_more (taken_in variables p) c p (kinds_length variables p (omega (arith, s.size))) h ∙ ap placed (sym more);
        shape = a.shape;
        grouped =
            rw (more, a.are, e)
            (rw (value_at_lem vs fits c) (grouped_more s.grouped c));
        same =
            rw more
            (ap (λ k. choose_in (max_variables - (p + 1)) cs vs (taken_in variables p ++ (k ∷ []))) next
            ∙ sym (choose_more cs vs (max_variables - (p + 1)) (taken_in variables p) no)
            ∙ ap (λ f. choose_in f cs vs (taken_in variables p)) (sym d)
            ∙ s.same);
      }

  -- and the inputs that are tied by it
  pub stage_ties : (n tied later : ℕ) (c : Kind) (m : ℕ) (g' : Groups) → n ≤ max_inputs → faulty n c ≡ false → ((i : ℕ) → get_or vs i 0 < 2 ^ max_inputs)
      → m ≡ mask_of c % 2 ^ max_inputs → later ≡ later_of c → GroupsAre (length vs) (refined (value_at vs m) (groups_of g)) g'
      → Ties tied (λ i. get_or vs i 0) (groups_of g) → Ties (bit_or tied later) (λ i. get_or vs i 0) (groups_of g')
  stage_ties n tied later c m g' h sound fits e l a t =
      rw (a.are, e, l)
      (rw (value_at_lem vs fits c) (ties_more (λ i. get_or vs i 0) n tied c (groups_of g) h sound s.grouped.many t))

-- ---- the ends

same_chosen : {l m : List Variable} {p q : ℕ} {s t : Bool} → l ≡ m → p ≡ q → s ≡ t → ◌≡◌ {A = Chosen} (record { variables = l; p = p; apart = s }) (record { variables = m; p = q; apart = t })
same_chosen x y z = rw (x, y, z)

module _ {vs : List ℕ} (n degree : ℕ) {g : Groups} {variables : List Variable} {p : ℕ} (s : Stage vs (candidates n degree) g variables p) where
  chosen : (t : Bool) → taken_in variables p ≡ choose_in max_variables (candidates n degree) vs [] → t ≡ eqb g.count 0
      → record { variables = variables; p = p; apart = t } ≡ chosen_by vs n degree
  unfolding choose
  chosen t e a =
      let many : p ≡ length (taken_in variables p) = sym (kinds_length variables p (omega (arith, s.within, s.size))) in
      same_chosen s.is many (a ∙ sym (apart_is s)) ∙ ap (chosen_as vs) e

  -- no group is left
  pub stage_stop : g.count ≡ 0 → record { variables = variables; p = p; apart = true } ≡ chosen_by vs n degree
  stage_stop e =
      let z : eqb g.count 0 ≡ true = eq-eqb g.count 0 e in
      chosen true (sym (choose_stop (candidates n degree) vs (max_variables - p) (taken_in variables p) (apart_is s ∙ z)) ∙ s.same) (sym z)

  -- all variables are taken
  pub stage_end : max_variables ≤ p → record { variables = variables; p = p; apart = eqb g.count 0 } ≡ chosen_by vs n degree
  unfolding choose_in
  stage_end h =
      let d : max_variables - p ≡ 0 = omega arith in
      chosen (eqb g.count 0) (sym (ap (λ f. choose_in f (candidates n degree) vs (taken_in variables p)) d) ∙ s.same) refl
