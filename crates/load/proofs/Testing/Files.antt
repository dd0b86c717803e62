-- The tests of a file whose checks are right: it is a unit's where the record is right and the blocks are laid out as it implies. Assumes nothing.
use mathlib.Core.Path.{◌≡◌, refl, sym, ap, ap₂, ◌∙◌}
use mathlib.Core.Bool.{Bool, true, false, ◌&&◌}
use mathlib.Core.List.{List, ◌++◌}
use Prim.Native.Nat.{ℕ, zero, suc, ◌+◌, ◌*◌, ◌/◌, ◌≤◌, ◌<◌}
use native.Mathlib.Omega.{arith}
use lib.Dec.{eqb}
use lib.ListN.{length, take, drop, length-drop, length-append}
use lib.Seq.{take_all, take-add, drop-drop, length-take-le}
use borrow.Author.Tests.{eqb-true, eqb-false, eq-eqb, ne_eqb, le-leb, lt-ltb}
use Rattle.lists.proofs.Tests.{and_true}
use Rattle.vectors.specs.Bounds.{max_variables}
use Rattle.span.specs.Span.{kept}
use Rattle.record.specs.declared.Record.{Record}
use Rattle.record.specs.Record.{record_of, kinds_in}
use Rattle.record.specs.Tables.{Tables}
use Rattle.record.specs.Formed.{long_enough, right_record, sound}
use Rattle.record.proofs.Formed.{in_bounds}
use Rattle.record.proofs.Soundness.{Right, right_says, right_sound, unright_sound}
use Rattle.block.specs.Bytes.{number_at}
use Rattle.block.specs.Block.{block_size, same, right_check, short_word, long_word, short_words, long_words}
use Rattle.block.proofs.Reading.Same.{same_other, same_append}
use Rattle.block.proofs.Reading.Numbers.{Bytes}
use Rattle.file.specs.Layout.{h_kind, g_kind, aux_kind, p_at}
use Rattle.file.specs.File.{head_of, blocks_for, stack, table_block, table_of, rows_in, words_in, h_first, g_first, aux_first, size_of, file_with, file_of}
use Rattle.file.specs.Decode.{record_in, table_in, tables_in}
use Rattle.file.specs.Read.{right_checks, is_file}
use Rattle.file.proofs.Laying.Files.{length_head, length_table}
use Rattle.file.proofs.Outcomes.{file_length}
use Rattle.load.specs.Inner.Laid.{block_in, head_laid, table_laid, laid_by}
use Rattle.load.proofs.Testing.Said.{length_kinds, kinds_are, many_are}
use Rattle.load.proofs.Testing.Heads.{head_same}
use Rattle.load.proofs.Testing.Tables.{length_table_in, table_same}

-- each of the blocks has its check
checks_at : (m : ℕ) (file : List ℕ) → right_checks m file ≡ true → (i : ℕ) → i < m → right_check (block_in i file) ≡ true
unfolding right_checks
checks_at zero file h i l = absurd (omega arith)
checks_at (suc m) file h zero l = (and_true (right_check (take block_size file)) (right_checks m (drop block_size file)) h).0
checks_at (suc m) file h (suc i) l =
    let e : block_size + block_size * i ≡ block_size * suc i = omega arith in
    let d : drop (block_size * i) (drop block_size file) ≡ drop (block_size * suc i) file = drop-drop (block_size * i) block_size file ∙ ap (λ (j : ℕ). drop j file) e in
    ap (λ (x : List ℕ). right_check (take block_size x)) (sym d) ∙ checks_at m (drop block_size file) (and_true (right_check (take block_size file)) (right_checks m (drop block_size file)) h).1 i (omega arith)

-- ---- the parts of the layout, one after the other

module _ (u : Record) (file : List ℕ) where
  abbrev pub h_laid : Bool
  h_laid = table_laid (blocks_for short_words (rows_in u)) h_kind h_first (short_word * rows_in u) file

  abbrev pub g_laid : Bool
  g_laid = table_laid (blocks_for short_words u.cells) g_kind (g_first u) (short_word * u.cells) file

  abbrev pub aux_laid : Bool
  aux_laid = table_laid (blocks_for long_words (words_in u)) aux_kind (aux_first u) (long_word * words_in u) file

  -- another length
  pub laid_no : (length file ≡ size_of u → ⊥) → laid_by u file ≡ false
  unfolding laid_by
  laid_no h = rw (ne_eqb _ _ h)

  pub laid_yes : length file ≡ size_of u → laid_by u file ≡ ((head_laid u.p file && h_laid) && g_laid) && aux_laid
  unfolding laid_by
  laid_yes h = rw (eq-eqb _ _ h)

-- ---- the file in parts

-- a list in four parts
in_four : (w x y z : ℕ) (l : List ℕ) → length l ≡ w + x + y + z → l ≡ take w l ++ take x (drop w l) ++ take y (drop (w + x) l) ++ take z (drop (w + x + y) l)
in_four w x y z l n =
    sym (take_all (w + x + y + z) l (omega arith)) ∙ take-add (w + x + y) z l
    ∙ ap (λ (a : List ℕ). a ++ take z (drop (w + x + y) l)) (take-add (w + x) y l ∙ ap (λ (a : List ℕ). a ++ take y (drop (w + x) l)) (take-add w x l))

-- four parts that are the same
four_same : (a p q r a' p' q' r' : List ℕ) → length a ≡ length a' → length p ≡ length p' → length q ≡ length q'
    → same (a ++ p ++ q ++ r) (a' ++ p' ++ q' ++ r') ≡ ((same a a' && same p p') && same q q') && same r r'
four_same a p q r a' p' q' r' na np nq =
    let n₁ : length (a ++ p) ≡ length (a' ++ p') = length-append a p ∙ ap₂ ◌+◌ na np ∙ sym (length-append a' p') in
    let n₂ : length (a ++ p ++ q) ≡ length (a' ++ p' ++ q') = length-append (a ++ p) q ∙ ap₂ ◌+◌ n₁ nq ∙ sym (length-append (a' ++ p') q') in
    same_append (a ++ p ++ q) r (a' ++ p' ++ q') r' n₂
    ∙ ap (λ (t : Bool). t && same r r') (same_append (a ++ p) q (a' ++ p') q' n₁ ∙ ap (λ (t : Bool). t && same q q') (same_append a p a' p' na))

-- the parts of a file
file_parts : (u : Record) (h g aux : List ℕ)
    → file_with u h g aux ≡ head_of u ++ table_of h_kind short_word short_words h_first h ++ table_of g_kind short_word short_words (g_first u) g ++ table_of aux_kind long_word long_words (aux_first u) aux
unfolding file_with
file_parts u h g aux = refl

-- tables as long as the unit has them
file_whole : (u : Record) (t : Tables) → length t.h ≡ rows_in u → length t.g ≡ u.cells → length t.aux ≡ words_in u → file_of u t ≡ file_with u t.h t.g t.aux
unfolding file_of
file_whole u t nh ng na =
    let h : take (rows_in u) t.h ≡ t.h = take_all (rows_in u) t.h (omega arith) in
    let g : take u.cells t.g ≡ t.g = take_all u.cells t.g (omega arith) in
    let a : take (words_in u) t.aux ≡ t.aux = take_all (words_in u) t.aux (omega arith) in
    cc

module _ (file : List ℕ) (long : block_size ≤ length file) (checks : right_checks (length file / block_size) file ≡ true) (bytes : Bytes file) where
  abbrev u : Record
  u = record_in file

  abbrev t : Tables
  t = tables_in u file

  pub file_unright : right_record u ≡ false → is_file file ≡ false
  unfolding is_file
  file_unright h = rw (unright_sound u t h)

  module _ (h : right_record u ≡ true) where
    R : Right u
    R = right_says u h

    h_is : t.h ≡ table_in short_word short_words h_first (rows_in u) file
    unfolding tables_in
    h_is = refl

    g_is : t.g ≡ table_in short_word short_words (g_first u) u.cells file
    unfolding tables_in
    g_is = refl

    aux_is : t.aux ≡ table_in long_word long_words (aux_first u) (words_in u) file
    unfolding tables_in
    aux_is = refl

    rows_held : length t.h ≡ rows_in u
    rows_held = ap length h_is ∙ length_table_in short_word short_words file h_first (rows_in u) (omega arith)

    cells_held : length t.g ≡ u.cells
    cells_held = ap length g_is ∙ length_table_in short_word short_words file (g_first u) u.cells (omega arith)

    words_held : length t.aux ≡ words_in u
    words_held = ap length aux_is ∙ length_table_in long_word long_words file (aux_first u) (words_in u) (omega arith)

    many : length (kinds_in u) ≡ u.p
    many = ap length (kinds_are file) ∙ length_kinds _ _ file ∙ sym (many_are file)

    few : number_at 1 p_at file ≤ max_variables
    few = omega (arith, (in_bounds u R.in_bounds).few, many_are file)

    kept_is : u.kept ≡ kept u.n (kinds_in u)
    unfolding record_in record_of
    kept_is = ap (kept u.n) (sym (kinds_are file))

    pub is_sound : sound u t ≡ true
    is_sound =
        let l : long_enough u t ≡ true = rw (le-leb (rows_in u) (length t.h) (omega (arith, rows_held)), le-leb u.cells (length t.g) (omega (arith, cells_held)), lt-ltb u.k (length t.aux) (omega (arith, words_held))) in
        sym (right_sound u t h many kept_is) ∙ l

    is_file_same : is_file file ≡ same (file_of u t) file
    unfolding is_file
    is_file_same = rw is_sound

    module _ (size : length file ≡ size_of u) where
      right_at : (i : ℕ) → block_size * suc i ≤ length file → right_check (block_in i file) ≡ true
      right_at i l = checks_at (length file / block_size) file checks i (omega arith)

      table_is : (kind bytes per first count : ℕ) (ws : List ℕ) → bytes * per ≡ 504 → ws ≡ table_in bytes per first count file → length ws ≡ count → block_size * (first + blocks_for per count) ≤ length file
          → same (table_of kind bytes per first ws) (take (block_size * blocks_for per count) (drop (block_size * first) file)) ≡ table_laid (blocks_for per count) kind first (bytes * count) file
      unfolding table_of table_in
      table_is kind size per first count ws fits e n room =
          ap₂ (λ (l : List ℕ) (i : ℕ). same (stack (table_block kind size per first l) (blocks_for per i)) (take (block_size * blocks_for per count) (drop (block_size * first) file))) e n
          ∙ table_same kind size per file fits bytes (blocks_for per count) first count room (λ i l. right_at i (omega arith))

      abbrev p : List ℕ
      p = table_of h_kind short_word short_words h_first t.h

      abbrev q : List ℕ
      q = table_of g_kind short_word short_words (g_first u) t.g

      abbrev r : List ℕ
      r = table_of aux_kind long_word long_words (aux_first u) t.aux

      -- a table is as long as its blocks
      table_long : (kind bytes per first count : ℕ) (ws : List ℕ) → bytes * per ≡ 504 → length ws ≡ count → block_size * (first + blocks_for per count) ≤ length file
          → length (table_of kind bytes per first ws) ≡ length (take (block_size * blocks_for per count) (drop (block_size * first) file))
      table_long kind bytes per first count ws fits n room =
          length_table kind bytes per first ws (omega arith) ∙ ap (λ (i : ℕ). block_size * blocks_for per i) n
          ∙ sym (length-take-le (block_size * blocks_for per count) (drop (block_size * first) file) (omega (arith, length-drop (block_size * first) file)))

      laid_is : same (file_of u t) file ≡ laid_by u file
      laid_is =
          let a : ℕ = block_size * blocks_for short_words (rows_in u) in
          let b : ℕ = block_size * blocks_for short_words u.cells in
          let c : ℕ = block_size * blocks_for long_words (words_in u) in
          let eg : block_size + a ≡ block_size * g_first u = omega arith in
          let ea : block_size + a + b ≡ block_size * aux_first u = omega arith in
          let hb : List ℕ = take block_size file in
          let pb : List ℕ = take a (drop block_size file) in
          let qb : List ℕ = take b (drop (block_size * g_first u) file) in
          let rb : List ℕ = take c (drop (block_size * aux_first u) file) in
          let cut : file ≡ hb ++ pb ++ qb ++ rb =
          in_four block_size a b c file (omega arith) ∙ ap₂ (λ (i j : ℕ). hb ++ pb ++ take b (drop i file) ++ take c (drop j file)) eg ea in
          ap₂ same (file_whole u t rows_held cells_held words_held ∙ file_parts u t.h t.g t.aux) cut
          ∙ four_same (head_of u) p q r hb pb qb rb (length_head u (omega (arith, many, (in_bounds u R.in_bounds).few)) ∙ sym (length-take-le block_size file long))
          (table_long h_kind short_word short_words h_first (rows_in u) t.h refl rows_held (omega arith))
          (table_long g_kind short_word short_words (g_first u) u.cells t.g refl cells_held (omega arith))
          ∙ ap₂ (λ (x y : Bool). x && y)
          (ap₂ (λ (x y : Bool). x && y)
          (ap₂ (λ (x y : Bool). x && y) (head_same file long bytes few (right_at 0 (omega arith))) (table_is h_kind short_word short_words h_first (rows_in u) t.h refl h_is rows_held (omega arith)))
          (table_is g_kind short_word short_words (g_first u) u.cells t.g refl g_is cells_held (omega arith)))
          (table_is aux_kind long_word long_words (aux_first u) (words_in u) t.aux refl aux_is words_held (omega arith))
          ∙ sym (laid_yes u file size)

    pub file_laid : is_file file ≡ laid_by u file
    file_laid = go (eqb (length file) (size_of u)) refl
      where
        go : (b : Bool) → eqb (length file) (size_of u) ≡ b → is_file file ≡ laid_by u file
        go true e = is_file_same ∙ laid_is (eqb-true _ _ e)
        go false e = is_file_same ∙ same_other (file_of u t) file (λ z. eqb-false _ _ e (sym z ∙ file_length u t is_sound)) ∙ sym (laid_no u file (eqb-false _ _ e))
