-- Every block of a file ends in its check. Assumes nothing.
use mathlib.Core.Path.{◌≡◌, refl, sym, ap, ap₂, ◌∙◌}
use mathlib.Core.Bool.{Bool, true, ◌&&◌}
use mathlib.Core.List.{List, [], ◌∷◌, ◌++◌}
use Prim.Native.Nat.{ℕ, zero, suc, ◌+◌, ◌-◌, ◌*◌, ◌≤◌, ◌<◌}
use native.Mathlib.Nat.{mul-le-mul_left}
use native.Mathlib.Omega.{arith}
use lib.Dec.{eqb}
use lib.ListN.{length, take, drop, length-append, length-take, length-drop}
use lib.Seq.{take-append-le, drop-append-le, take_all, drop-drop}
use borrow.Author.Tests.{eqb-true, eq-eqb}
use Rattle.lists.proofs.Tests.{and_true, and_assoc}
use Rattle.record.specs.declared.Record.{Record}
use Rattle.record.specs.Tables.{Tables}
use Rattle.record.specs.Formed.{sound}
use Rattle.block.specs.declared.Opening.{Opening}
use Rattle.block.specs.Block.{block_size, payload_at, check_at, check_of, block_of, same, right_check, short_word, long_word, short_words, long_words}
use Rattle.block.specs.Bytes.{words_of}
use Rattle.block.proofs.Laying.Words.{length_words}
use Rattle.block.proofs.Reading.Blocks.{block_check}
use Rattle.file.specs.Layout.{head_kind, h_kind, g_kind, aux_kind}
use Rattle.file.specs.File.{opening, head_payload, head_of, blocks_for, stack, table_block, table_of, rows_in, words_in, h_first, g_first, aux_first, blocks_in, file_with, file_of}
use Rattle.file.specs.Read.{right_checks}
use Rattle.file.proofs.Laying.Stacks.{length_table_block, length_stack}
use Rattle.file.proofs.Laying.Files.{length_payload, length_head, length_table}
use Rattle.file.proofs.Outcomes.{whole}

-- ---- the same bytes

pub same_self : (l : List ℕ) → same l l ≡ true
unfolding same
same_self [] = refl
same_self (x ∷ l) = rw (eq-eqb x x refl) (same_self l)

pub same_is : (a b : List ℕ) → same a b ≡ true → a ≡ b
unfolding same
same_is [] [] e = refl
same_is [] (y ∷ b) e = let z : ◌≡◌ {A = ℕ} 0 1 = cc in absurd (omega arith)
same_is (x ∷ a) [] e = let z : ◌≡◌ {A = ℕ} 0 1 = cc in absurd (omega arith)
same_is (x ∷ a) (y ∷ b) e =
    let p = and_true (eqb x y) (same a b) e in
    ap₂ (λ (u : ℕ) (l : List ℕ). u ∷ l) (eqb-true x y p.0) (same_is a b p.1)

-- ---- one block

pub right_says : (b : List ℕ) → right_check b ≡ true → drop check_at b ≡ check_of (take check_at b)
unfolding right_check
right_says b e = same_is (drop check_at b) (check_of (take check_at b)) e

pub right_by : (b : List ℕ) → drop check_at b ≡ check_of (take check_at b) → right_check b ≡ true
unfolding right_check
right_by b e = ap (λ (l : List ℕ). same l (check_of (take check_at b))) e ∙ same_self (check_of (take check_at b))

block_right : (o : Opening) (payload : List ℕ) → length payload ≤ check_at - payload_at → right_check (block_of o payload) ≡ true
block_right o payload fits = right_by (block_of o payload) (block_check o payload fits)

-- ---- blocks one behind the other

pub checks_append : (a b : ℕ) (x y : List ℕ) → length x ≡ block_size * a → right_checks (a + b) (x ++ y) ≡ (right_checks a x && right_checks b y)
unfolding right_checks
checks_append zero b [] y e = let z : 0 + b ≡ b = omega arith in rw z
checks_append zero b (c ∷ x) y e = absurd (omega arith)
checks_append (suc a) b x y e =
    let s : suc a + b ≡ suc (a + b) = omega arith in
    let t : take block_size (x ++ y) ≡ take block_size x = take-append-le block_size x y (omega arith) in
    let d : drop block_size (x ++ y) ≡ drop block_size x ++ y = drop-append-le block_size x y (omega arith) in
    let n : length (drop block_size x) ≡ block_size * a = length-drop block_size x ∙ omega arith in
    rw s (ap₂ (λ (u v : List ℕ). right_check u && right_checks (a + b) v) t d
    ∙ ap (λ (c : Bool). right_check (take block_size x) && c) (checks_append a b (drop block_size x) y n)
    ∙ and_assoc (right_check (take block_size x)) (right_checks a (drop block_size x)) (right_checks b y))

checks_one : (b : List ℕ) → length b ≡ block_size → right_check b ≡ true → right_checks 1 b ≡ true
unfolding right_checks
checks_one b n e = let t : take block_size b ≡ b = take_all block_size b (omega arith) in rw (t, e)

checks_both : (a b : ℕ) (x y : List ℕ) → length x ≡ block_size * a → right_checks a x ≡ true → right_checks b y ≡ true → right_checks (a + b) (x ++ y) ≡ true
checks_both a b x y n e f = checks_append a b x y n ∙ rw (e, f)

checks_stack : (block : ℕ → List ℕ) → ((i : ℕ) → length (block i) ≡ block_size) → ((i : ℕ) → right_check (block i) ≡ true) → (m : ℕ) → right_checks m (stack block m) ≡ true
unfolding stack right_checks
checks_stack block each right zero = refl
checks_stack block each right (suc m) =
    let e : m + 1 ≡ suc m = omega arith in
    rw e at (checks_both m 1 (stack block m) (block m) (length_stack block each m) (checks_stack block each right m) (checks_one (block m) (each m) (right m)))

-- a block of many
pub checks_at : (m : ℕ) (file : List ℕ) (j : ℕ) → j < m → right_checks m file ≡ true → right_check (take block_size (drop (block_size * j) file)) ≡ true
unfolding right_checks
checks_at zero file j h e = absurd (omega arith)
checks_at (suc m) file zero h e = (and_true (right_check (take block_size file)) (right_checks m (drop block_size file)) e).0
checks_at (suc m) file (suc j) h e =
    let d : drop (block_size * suc j) file ≡ drop (block_size * j) (drop block_size file) = let c : block_size * suc j ≡ block_size + block_size * j = omega arith in rw c (sym (drop-drop (block_size * j) block_size file)) in
    rw d (checks_at m (drop block_size file) j (omega arith) (and_true (right_check (take block_size file)) (right_checks m (drop block_size file)) e).1)

-- ---- a file

table_block_right : (kind size per first : ℕ) (words : List ℕ) → size * per ≤ check_at - payload_at → (i : ℕ) → right_check (table_block kind size per first words i) ≡ true
unfolding table_block
table_block_right kind size per first words fit i =
    let ws : List ℕ = take per (drop (per * i) words) in
    let n : length ws ≤ per = rw (length-take per (drop (per * i) words)) (omega arith) in
    block_right (opening kind (first + i)) (words_of size ws) (omega (arith, length_words size ws, mul-le-mul_left size n))

table_right : (kind size per first : ℕ) (words : List ℕ) → size * per ≤ check_at - payload_at → right_checks (blocks_for per (length words)) (table_of kind size per first words) ≡ true
unfolding table_of
table_right kind size per first words fit =
    checks_stack (table_block kind size per first words) (length_table_block kind size per first words fit) (table_block_right kind size per first words fit) (blocks_for per (length words))

pub file_right : (u : Record) (t : Tables) → sound u t ≡ true → right_checks (blocks_in u) (file_of u t) ≡ true
unfolding file_of file_with head_of
file_right u t h =
    let w = whole u t h in
    let hs : List ℕ = take (rows_in u) t.h in
    let gs : List ℕ = take u.cells t.g in
    let ws : List ℕ = take (words_in u) t.aux in
    let a : List ℕ = head_of u in
    let p : List ℕ = table_of h_kind short_word short_words h_first hs in
    let q : List ℕ = table_of g_kind short_word short_words (g_first u) gs in
    let r : List ℕ = table_of aux_kind long_word long_words (aux_first u) ws in
    let na : length a ≡ block_size = length_head u w.variables_few in
    let np : length p ≡ block_size * blocks_for short_words (rows_in u) = length_table h_kind short_word short_words h_first hs (omega arith) ∙ ap (λ (n : ℕ). block_size * blocks_for short_words n) w.rows in
    let nq : length q ≡ block_size * blocks_for short_words u.cells = length_table g_kind short_word short_words (g_first u) gs (omega arith) ∙ ap (λ (n : ℕ). block_size * blocks_for short_words n) w.cells in
    let ca : right_checks 1 a ≡ true = checks_one a na (block_right (opening head_kind 0) (head_payload u) (omega (arith, length_payload u w.variables_few))) in
    let cp : right_checks (blocks_for short_words (rows_in u)) p ≡ true = ap (λ (n : ℕ). right_checks (blocks_for short_words n) p) (sym w.rows) ∙ table_right h_kind short_word short_words h_first hs (omega arith) in
    let cq : right_checks (blocks_for short_words u.cells) q ≡ true = ap (λ (n : ℕ). right_checks (blocks_for short_words n) q) (sym w.cells) ∙ table_right g_kind short_word short_words (g_first u) gs (omega arith) in
    let cr : right_checks (blocks_for long_words (words_in u)) r ≡ true = ap (λ (n : ℕ). right_checks (blocks_for long_words n) r) (sym w.words) ∙ table_right aux_kind long_word long_words (aux_first u) ws (omega arith) in
    let c₁ : right_checks (g_first u) (a ++ p) ≡ true = checks_both 1 (blocks_for short_words (rows_in u)) a p (omega arith) ca cp in
    let c₂ : right_checks (aux_first u) (a ++ p ++ q) ≡ true = checks_both (g_first u) (blocks_for short_words u.cells) (a ++ p) q (length-append a p ∙ omega arith) c₁ cq in
    checks_both (aux_first u) (blocks_for long_words (words_in u)) (a ++ p ++ q) r (length-append (a ++ p) q ∙ omega (arith, length-append a p)) c₂ cr
