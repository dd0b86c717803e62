use Prim.Native.Nat.{ℕ, ◌+◌, ◌-◌, ◌*◌, ◌%◌, ◌^◌, ◌≤◌}
use native.Mathlib.Numerals.{add-one}
use native.Mathlib.Omega.{arith}
use mathlib.Core.Path.{◌≡◌, sym, ap, ap₂, ◌∙◌}
use mathlib.Core.Bool.{◌&&◌}
use mathlib.Core.List.{List}
use lib.Dec.{eqb}
use lib.ListN.{length}
use lib.Pow.{shl_exact, pow_mono}
use borrow.Author.Tests.{eq-eqb, ne_eqb}
use Rattle.vectors.specs.Bounds.{max_inputs, max_side}
use Rattle.record.specs.declared.Record.{Record}
use Rattle.record.proofs.Formed.{Numbers, numbers, in_bounds}
use Rattle.block.specs.Block.{short_word, long_words}
use Rattle.file.specs.Layout.{h_kind, g_kind, aux_kind}
use Rattle.file.specs.File.{blocks_for, rows_in, words_in, h_first, g_first, aux_first, blocks_in, size_of}
use Rattle.file.specs.declared.layout.Starts.{Starts}
use Rattle.load.specs.Inner.Laid.{head_laid, table_laid, laid_by}
use Rattle.load.proofs.Testing.Files.{h_laid, g_laid, aux_laid}
use Rattle.load.proofs.blocks.Blocks.laid_by.Goals as goal
use Rattle.load.proofs.blocks.Blocks.laid_by.Goals.{Start, After-plan-starts, then-self-starts, else-self-starts, then-head_laid, else-head_laid, then-table_laid, else-table_laid}

module _ (s : Start) where
  few : Numbers s.args.unit
  few = numbers s.args.unit s.requires

  rows_few : rows_in s.args.unit ≤ 2 ^ max_side
  rows_few = pow_mono {i = s.args.unit.n1} {j = max_side} (in_bounds s.args.unit s.requires).rows_few

  -- the code's bytes of H
  power : 2 * 2 ^ s.args.unit.n1 % 2 ^ max_inputs ≡ short_word * rows_in s.args.unit
  power = shl_exact {a = 2} 2 s.args.unit.n1 max_inputs (omega arith) (omega (arith, (in_bounds s.args.unit s.requires).rows_few))

module _ (c : After-plan-starts) where
  past_is : c.plan-starts.result.past ≡ blocks_in c.args.unit
  past_is = ap (λ (x : Starts). x.past) c.plan-starts.ensures

  g_is : c.plan-starts.result.g ≡ g_first c.args.unit
  g_is = ap (λ (x : Starts). x.g) c.plan-starts.ensures

  aux_is : c.plan-starts.result.aux ≡ aux_first c.args.unit
  aux_is = ap (λ (x : Starts). x.aux) c.plan-starts.ensures

pub overflow_mul-starts : goal.overflow_mul-starts
overflow_mul-starts c = omega (arith, past_is (goal.at.overflow_mul-starts c).After-plan-starts, rows_few (goal.at.overflow_mul-starts c).Start, few (goal.at.overflow_mul-starts c).Start)

-- ---- the tables, each as the code asks for it

module _ (u : Record) (starts : Starts) (f : List ℕ) where
  h_told : starts.g ≡ g_first u → 2 * 2 ^ u.n1 % 2 ^ max_inputs ≡ short_word * rows_in u → table_laid (starts.g - h_first) h_kind h_first (2 * 2 ^ u.n1 % 2 ^ max_inputs) f ≡ h_laid u f
  h_told g p = ap₂ (λ (m n : ℕ). table_laid m h_kind h_first n f) (omega (arith, g)) p

  g_told : starts.g ≡ g_first u → starts.aux ≡ aux_first u → table_laid (starts.aux - starts.g) g_kind starts.g (2 * u.cells) f ≡ g_laid u f
  g_told g a = ap₂ (λ (m i : ℕ). table_laid m g_kind i (2 * u.cells) f) (omega (arith, g, a)) g

  aux_told : starts.aux ≡ aux_first u → starts.past ≡ blocks_in u → table_laid (starts.past - starts.aux) aux_kind starts.aux (8 * (u.k + 1)) f ≡ aux_laid u f
  aux_told a p =
      let m : starts.past - starts.aux ≡ blocks_for long_words (words_in u) = omega (arith, a, p) in
      ap₂ (λ (m i : ℕ). table_laid m aux_kind i (8 * (u.k + 1)) f) m a
      ∙ ap (λ (n : ℕ). table_laid (blocks_for long_words (words_in u)) aux_kind (aux_first u) (8 * n) f) (add-one u.k)

pub returns-then-table_laid-2 : goal.returns-then-table_laid-2
unfolding laid_by
returns-then-table_laid-2 c =
    let u = c.args.unit in
    let f = c.args.self.bytes.now in
    let s = (goal.at.returns-then-table_laid-2 c).Start in
    let p = (goal.at.returns-then-table_laid-2 c).After-plan-starts in
    let a = eqb (length f) (size_of u) && head_laid u.p f in
    let ea : c.if-self-starts.value ≡ a = elim c.if-self-starts.branch [
      | then-self-starts w ↦ rw (eq-eqb (length f) (size_of u) (omega (arith, past_is p, w.if-self-starts.true))) (w.value-is ∙ w.head_laid.ensures)
      | else-self-starts w ↦ rw (ne_eqb (length f) (size_of u) (λ e. w.if-self-starts.false (omega (arith, e, past_is p)))) (w.value-is ∙ ne_eqb _ _ w.if-self-starts.false)
    ] in
    let eh : c.if-head_laid.value ≡ (a && h_laid u f) = elim c.if-head_laid.branch [
      | then-head_laid w ↦ rw (sym ea ∙ w.if-head_laid.true) (w.value-is ∙ w.table_laid.ensures ∙ h_told u c.plan-starts.result f (g_is p) (power s))
      | else-head_laid w ↦ rw (sym ea ∙ w.if-head_laid.false) (w.value-is ∙ w.if-head_laid.false)
    ] in
    let eg : c.if-table_laid.value ≡ ((a && h_laid u f) && g_laid u f) = elim c.if-table_laid.branch [
      | then-table_laid w ↦ rw (sym eh ∙ w.if-table_laid.true) (w.value-is ∙ w.table_laid-then-table_laid.ensures ∙ g_told u c.plan-starts.result f (g_is p) (aux_is p))
      | else-table_laid w ↦ rw (sym eh ∙ w.if-table_laid.false) (w.value-is ∙ w.if-table_laid.false)
    ] in
    c.table_laid-then-table_laid-2.ensures ∙ aux_told u c.plan-starts.result f (aux_is p) (past_is p) ∙ sym (rw (sym eg ∙ c.if-table_laid-2.true))

pub returns-else-table_laid-2 : goal.returns-else-table_laid-2
unfolding laid_by
returns-else-table_laid-2 c =
    let u = c.args.unit in
    let f = c.args.self.bytes.now in
    let s = (goal.at.returns-else-table_laid-2 c).Start in
    let p = (goal.at.returns-else-table_laid-2 c).After-plan-starts in
    let a = eqb (length f) (size_of u) && head_laid u.p f in
    let ea : c.if-self-starts.value ≡ a = elim c.if-self-starts.branch [
      | then-self-starts w ↦ rw (eq-eqb (length f) (size_of u) (omega (arith, past_is p, w.if-self-starts.true))) (w.value-is ∙ w.head_laid.ensures)
      | else-self-starts w ↦ rw (ne_eqb (length f) (size_of u) (λ e. w.if-self-starts.false (omega (arith, e, past_is p)))) (w.value-is ∙ ne_eqb _ _ w.if-self-starts.false)
    ] in
    let eh : c.if-head_laid.value ≡ (a && h_laid u f) = elim c.if-head_laid.branch [
      | then-head_laid w ↦ rw (sym ea ∙ w.if-head_laid.true) (w.value-is ∙ w.table_laid.ensures ∙ h_told u c.plan-starts.result f (g_is p) (power s))
      | else-head_laid w ↦ rw (sym ea ∙ w.if-head_laid.false) (w.value-is ∙ w.if-head_laid.false)
    ] in
    let eg : c.if-table_laid.value ≡ ((a && h_laid u f) && g_laid u f) = elim c.if-table_laid.branch [
      | then-table_laid w ↦ rw (sym eh ∙ w.if-table_laid.true) (w.value-is ∙ w.table_laid-then-table_laid.ensures ∙ g_told u c.plan-starts.result f (g_is p) (aux_is p))
      | else-table_laid w ↦ rw (sym eh ∙ w.if-table_laid.false) (w.value-is ∙ w.if-table_laid.false)
    ] in
    c.if-table_laid-2.false ∙ sym (rw (sym eg ∙ c.if-table_laid-2.false))
