-- The parts of a file laid one after another, and its length. Assumes nothing.
use mathlib.Core.Path.{◌≡◌, sym, ap, ap₂, ◌∙◌}
use mathlib.Core.List.{List, ◌++◌}
use Prim.Native.Nat.{ℕ, ◌-◌, ◌*◌, ◌≤◌}
use native.Mathlib.Omega.{arith}
use lib.ListN.{length, drop, length-append}
use lib.Seq.{sets}
use Rattle.vectors.specs.Bounds.{max_variables}
use Rattle.record.specs.declared.Record.{Record}
use Rattle.record.specs.Record.{kinds_in}
use Rattle.block.specs.Block.{block_size, payload_at, check_at, padded, short_word, long_word, short_words, long_words}
use Rattle.block.proofs.Laying.Words.{front, behind, length_padded, length_block}
use Rattle.file.specs.Layout.{head_kind, h_kind, g_kind, aux_kind, free_at}
use Rattle.file.specs.File.{opening, variables_bytes, head_payload, head_of, blocks_for, table_block, table_of, rows_in, words_in, h_first, g_first, aux_first, size_of, file_with}
use Rattle.file.proofs.Laying.Heads.{fields_of, mark_bytes, fields_are, length_variables}
use Rattle.file.proofs.Laying.Stacks.{length_table_block, length_stack}

pub length_table : (kind size per first : ℕ) (words : List ℕ) → size * per ≤ check_at - payload_at → length (table_of kind size per first words) ≡ block_size * blocks_for per (length words)
unfolding table_of
length_table kind size per first words fit =
    length_stack (table_block kind size per first words) (length_table_block kind size per first words fit) (blocks_for per (length words))

-- the fields, the variables and the mark
pub length_payload : (u : Record) → length (kinds_in u) ≤ max_variables → length (head_payload u) ≡ free_at - payload_at
length_payload u few =
    let w : List ℕ = padded (2 * max_variables) (variables_bytes (kinds_in u)) in
    let n : length w ≡ 2 * max_variables = length_padded (2 * max_variables) (variables_bytes (kinds_in u)) (omega (arith, length_variables (kinds_in u))) in
    ap length (fields_are u) ∙ length-append (fields_of u ++ w) (mark_bytes u) ∙ omega (arith, length-append (fields_of u) w)

pub length_head : (u : Record) → length (kinds_in u) ≤ max_variables → length (head_of u) ≡ block_size
unfolding head_of
length_head u few = length_block (opening head_kind 0) (head_payload u) (omega (arith, length_payload u few))

-- the tables as long as the unit has them
pub record Whole (u : Record) (h g aux : List ℕ) : Type 0 where
  pub variables_few : length (kinds_in u) ≤ max_variables
  pub rows : length h ≡ rows_in u
  pub cells : length g ≡ u.cells
  pub words : length aux ≡ words_in u

module _ (u : Record) (h g aux : List ℕ) (w : Whole u h g aux) where
  length_h : length (table_of h_kind short_word short_words h_first h) ≡ block_size * blocks_for short_words (rows_in u)
  length_h = length_table h_kind short_word short_words h_first h (omega arith) ∙ ap (λ (n : ℕ). block_size * blocks_for short_words n) w.rows

  length_g : length (table_of g_kind short_word short_words (g_first u) g) ≡ block_size * blocks_for short_words u.cells
  length_g = length_table g_kind short_word short_words (g_first u) g (omega arith) ∙ ap (λ (n : ℕ). block_size * blocks_for short_words n) w.cells

  length_aux : length (table_of aux_kind long_word long_words (aux_first u) aux) ≡ block_size * blocks_for long_words (words_in u)
  length_aux = length_table aux_kind long_word long_words (aux_first u) aux (omega arith) ∙ ap (λ (n : ℕ). block_size * blocks_for long_words n) w.words

  -- a file has as many bytes as its head implies
  pub length_whole : length (file_with u h g aux) ≡ size_of u
  unfolding file_with
  length_whole =
      let a : List ℕ = head_of u in
      let b : List ℕ = table_of h_kind short_word short_words h_first h in
      let c : List ℕ = table_of g_kind short_word short_words (g_first u) g in
      let d : List ℕ = table_of aux_kind long_word long_words (aux_first u) aux in
      length-append (a ++ b ++ c) d
      ∙ omega (arith, length-append (a ++ b) c, length-append a b, length_head u w.variables_few, length_h, length_g, length_aux)

  -- the four parts, each behind the one before
  pub filled_is : (before b l₁ l₂ l₃ l₄ : List ℕ) (i j : ℕ) → size_of u ≤ length before → i ≡ g_first u → j ≡ aux_first u → b ≡ head_of u → l₁ ≡ b ++ drop block_size before
      → l₂ ≡ sets l₁ (block_size * h_first) (table_of h_kind short_word short_words h_first h)
      → l₃ ≡ sets l₂ (block_size * i) (table_of g_kind short_word short_words i g)
      → l₄ ≡ sets l₃ (block_size * j) (table_of aux_kind long_word long_words j aux)
      → l₄ ≡ sets before 0 (file_with u h g aux)
  unfolding file_with
  filled_is before b l₁ l₂ l₃ l₄ i j room ei ej e e₁ e₂ e₃ e₄ =
      let a : List ℕ = head_of u in
      let p : List ℕ = table_of h_kind short_word short_words h_first h in
      let q : List ℕ = table_of g_kind short_word short_words (g_first u) g in
      let r : List ℕ = table_of aux_kind long_word long_words (aux_first u) aux in
      let n : length a ≡ block_size = length_head u w.variables_few in
      let n₁ : length (a ++ p) ≡ block_size * g_first u = length-append a p ∙ omega (arith, length_h) in
      let n₂ : length (a ++ p ++ q) ≡ block_size * aux_first u = length-append (a ++ p) q ∙ omega (arith, length_g) in
      let s₁ : l₁ ≡ sets before 0 a =
      e₁ ∙ ap₂ (λ (x : List ℕ) (i : ℕ). x ++ drop i before) e (sym n) ∙ sym (front a before (omega arith)) in
      let s₂ : l₂ ≡ sets before 0 (a ++ p) = e₂ ∙ ap (λ (x : List ℕ). sets x (block_size * h_first) p) s₁ ∙ behind a p before (block_size * h_first) n in
      let s₃ : l₃ ≡ sets before 0 (a ++ p ++ q) = e₃ ∙ ap (λ (m : ℕ). sets l₂ (block_size * m) (table_of g_kind short_word short_words m g)) ei ∙ ap (λ (x : List ℕ). sets x (block_size * g_first u) q) s₂ ∙ behind (a ++ p) q before (block_size * g_first u) n₁ in
      e₄ ∙ ap (λ (m : ℕ). sets l₃ (block_size * m) (table_of aux_kind long_word long_words m aux)) ej ∙ ap (λ (x : List ℕ). sets x (block_size * aux_first u) r) s₃ ∙ behind (a ++ p ++ q) r before (block_size * aux_first u) n₂
