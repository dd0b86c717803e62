use native.Mathlib.Nat.{one-mul}
use native.Mathlib.Omega.{arith}
use Prim.Native.Nat.{ℕ, ◌+◌, ◌-◌, ◌*◌, ◌%◌, ◌^◌, ◌≤◌, ◌<◌}
use mathlib.Core.Path.{◌≡◌, sym, ap, ◌∙◌}
use mathlib.Core.List.{List}
use lib.ListN.{length, take}
use lib.Pow.{shl_exact}
use Rattle.std.proofs.Common.{Option, None, Some, true, false, refl, length-take, leb-true, leb-false}
use Rattle.std.specs.Option.{is_some}
use Rattle.lists.specs.First.{place_number}
use Rattle.lists.specs.Members.{All}
use Rattle.vectors.specs.declared.Variable.{Variable}
use Rattle.vectors.specs.declared.Kind.{Kind}
use Rattle.vectors.specs.Bounds.{max_inputs}
use Rattle.vectors.specs.Variable.{kinds_of}
use Rattle.span.specs.Within.{inputs_in, kinds_within}
use Rattle.span.specs.Span.{first_dependent, kept}
use Rattle.span.proofs.Labels.Edges.{Edge, edges_within}
use Rattle.span.proofs.Walking.{kinds_many}
use Rattle.span.proofs.Fixed.{values_sum, few_independent, kept_read, found_few, found_wide, found_tied, found_other, found_long, found_one}
use Rattle.span.proofs.vector.Goals as goal
use Rattle.span.proofs.vector.Goals.{After-by_inputs-g, After-min-q, Else-beyond, Else-beyond-2, Else-g-mask, Else-q-n1, Else-is_some}

abbrev ks : ℕ → ℕ → List Variable → List Kind
ks = kinds_within

edges : (n p : ℕ) (vs : List Variable) → All (Edge (inputs_in n)) (ks n p vs)
edges n p vs = edges_within (inputs_in n) (kinds_of (take p vs))

many : (c : After-min-q) → length (ks c.args.n c.args.p c.args.variables) ≡ c.min-q.result
many c =
    let a = c.args in
    let e = c.well_formed.1.0.1.0.1 in
    kinds_many a.n a.p c.min-q.result a.variables e c.min-q.ensures ∙ omega (arith, length-take c.min-q.result a.variables)

none_number : (first : Option ℕ) → is_some first ≡ false → place_number first ≡ 0
none_number None e = refl
none_number (Some i) e = cc

some_number : (first : Option ℕ) → is_some first ≡ true → place_number first ≡ 0 → ⊥
some_number None e z = cc
some_number (Some i) e z = omega arith

-- ---- the tests passed

rows_in : (c : Else-q-n1) → c.args.n1 ≤ length (ks c.args.n c.args.p c.args.variables)
rows_in c = omega (arith, many c.before)

column_in : (c : Else-beyond) → c.args.column < 2 ^ (length (ks c.args.n c.args.p c.args.variables) - c.args.n1)
column_in c = rw (many c.before.before.before) (leb-false _ _ (sym c.beyond.ensures ∙ c.if-beyond.false))

free : (c : Else-is_some) → first_dependent (ks c.args.n c.args.p c.args.variables) ≡ 0
free c = sym c.by_variables-w.ensures.0 ∙ none_number _ (sym c.is_some.ensures ∙ c.if-is_some.false)

kept_is : (c : After-by_inputs-g)
    → c.by_inputs-g.result.kept ≡ kept (inputs_in c.args.n) (ks c.args.n c.args.p c.args.variables)
kept_is c =
    c.by_inputs-g.ensures.0 ∙ rw (c.min-m.ensures, c.by_variables-w.ensures.1)
    (kept_read (inputs_in c.args.n) (ks c.args.n c.args.p c.args.variables) _ (max_inputs + 1) (edges c.args.n c.args.p c.args.variables) (omega arith))

mask_is : (c : Else-g-mask)
    → kept (inputs_in c.args.n) (ks c.args.n c.args.p c.args.variables) ≡ c.args.mask
mask_is c = sym (kept_is c.before.before) ∙ c.if-g-mask.false

word_in : (c : Else-beyond-2) → length (ks c.args.n c.args.p c.args.variables) ≡ c.min-q.result
    → c.args.word < 2 ^ (c.args.n1 + inputs_in c.args.n - length (ks c.args.n c.args.p c.args.variables))
word_in c m =
    rw (m, sym c.min-m.ensures) (leb-false _ _ (sym c.beyond-2.ensures ∙ c.if-beyond-2.false))

-- ---- the row and the column as one number

rows : (c : Else-q-n1) → 1 * 2 ^ c.args.n1 % 2 ^ max_inputs ≡ 2 ^ c.args.n1
rows c =
    let n1 = c.args.n1 in
    shl_exact {a = 1} 1 n1 max_inputs (omega arith) (omega (arith, c.if-q-n1.false, c.min-q.ensures)) ∙ one-mul (2 ^ n1)

values : (c : Else-beyond) → let a = c.args in
    a.word % (1 * 2 ^ a.n1 % 2 ^ max_inputs) + a.column * 2 ^ a.n1 % 2 ^ max_inputs ≡ a.word % 2 ^ a.n1 + 2 ^ a.n1 * a.column
values c =
    let a = c.args in
    ap (λ (m : ℕ). a.word % m + a.column * 2 ^ a.n1 % 2 ^ max_inputs) (rows c.before.before)
    ∙ values_sum max_inputs (length (ks c.args.n c.args.p c.args.variables)) a.n1 _ a.column (rows_in c.before.before) (omega (arith, many c.before.before.before, c.min-q.ensures)) (column_in c)

pub returns-then-q-n1 : goal.returns-then-q-n1
returns-then-q-n1 c = found_few _ _ _ _ _ _ (omega (arith, many (goal.at.returns-then-q-n1 c).After-min-q))

pub returns-then-beyond : goal.returns-then-beyond
returns-then-beyond c =
    found_wide _ _ _ _ _ _ (rows_in (goal.at.returns-then-beyond c).Else-q-n1)
    (rw (many (goal.at.returns-then-beyond c).After-min-q) (leb-true _ _ (sym c.beyond.ensures ∙ c.if-beyond.true)))

pub returns-then-is_some : goal.returns-then-is_some
returns-then-is_some c =
    found_tied _ _ _ _ _ _ (rows_in (goal.at.returns-then-is_some c).Else-q-n1) (column_in (goal.at.returns-then-is_some c).Else-beyond) (λ e. some_number _ (sym c.is_some.ensures ∙ c.if-is_some.true) (c.by_variables-w.ensures.0 ∙ e))

pub returns-then-g-mask : goal.returns-then-g-mask
returns-then-g-mask c =
    found_other _ _ _ _ _ _ (rows_in (goal.at.returns-then-g-mask c).Else-q-n1) (column_in (goal.at.returns-then-g-mask c).Else-beyond) (free (goal.at.returns-then-g-mask c).Else-is_some) (λ e. c.if-g-mask.true (kept_is (goal.at.returns-then-g-mask c).After-by_inputs-g ∙ e))

pub overflow_sub-n1 : goal.overflow_sub-n1
overflow_sub-n1 c =
    omega (arith, few_independent (inputs_in c.args.n) (ks c.args.n c.args.p c.args.variables) (edges c.args.n c.args.p c.args.variables) (free (goal.at.overflow_sub-n1 c).Else-is_some), many (goal.at.overflow_sub-n1 c).After-min-q, c.min-m.ensures)

pub returns-then-beyond-2 : goal.returns-then-beyond-2
returns-then-beyond-2 c =
    found_long _ _ _ _ _ _ (rows_in (goal.at.returns-then-beyond-2 c).Else-q-n1) (column_in (goal.at.returns-then-beyond-2 c).Else-beyond) (free (goal.at.returns-then-beyond-2 c).Else-is_some) (mask_is (goal.at.returns-then-beyond-2 c).Else-g-mask)
    (rw (many (goal.at.returns-then-beyond-2 c).After-min-q, sym c.min-m.ensures) (leb-true _ _ (sym c.beyond-2.ensures ∙ c.if-beyond-2.true)))

pub returns : goal.returns
returns c =
    found_one _ _ _ _ _ _ (rows_in (goal.at.returns c).Else-q-n1) (column_in (goal.at.returns c).Else-beyond) (free (goal.at.returns c).Else-is_some) (mask_is (goal.at.returns c).Else-g-mask) (max_inputs + 1) _ (edges c.args.n c.args.p c.args.variables) (word_in (goal.at.returns c).Else-beyond-2 (many (goal.at.returns c).After-min-q)) (omega arith)
    (c.read_off.ensures ∙ rw (c.by_inputs-g.ensures.1, c.by_variables-w.ensures.1, values (goal.at.returns c).Else-beyond, c.min-m.ensures))
