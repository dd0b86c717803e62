-- A table's words read back from its blocks, wherever in a file they lie. Assumes nothing.
use mathlib.Core.Path.{◌≡◌, refl, sym, ap, ap₂, ◌∙◌}
use mathlib.Core.List.{List, ◌++◌, append_assoc, append-nil, map-append}
use Prim.Native.Nat.{ℕ, zero, suc, ◌+◌, ◌-◌, ◌*◌, ◌≤◌, min}
use native.Mathlib.Nat.{div-add-mod, mod-lt, mul-le-mul_left}
use native.Mathlib.Omega.{arith}
use lib.ListN.{length, take, drop, length-append, length-take, length-drop}
use lib.Seq.{take_all, take-add, drop_at, drop-drop, drop-append-le}
use Rattle.block.specs.Bytes.{words_of, words_at}
use Rattle.block.specs.Block.{block_size, payload_at, check_at, block_of}
use Rattle.block.proofs.Laying.Words.{length_words, length_block}
use Rattle.block.proofs.Reading.Words.{low_words}
use Rattle.block.proofs.Reading.Blocks.{block_words}
use Rattle.file.specs.File.{opening, blocks_for, stack, table_block, table_of}
use Rattle.file.specs.Decode.{table_from, table_in}

-- the blocks hold the words
pub blocks_hold : (per words : ℕ) → 1 ≤ per → words ≤ per * blocks_for per words
blocks_hold per words h = omega (arith, div-add-mod (words + (per - 1)) per, mod-lt (words + (per - 1)) h)

pub stack_same : (f g : ℕ → List ℕ) → ((i : ℕ) → f i ≡ g i) → (m : ℕ) → stack f m ≡ stack g m
unfolding stack
stack_same f g e zero = refl
stack_same f g e (suc m) = ap₂ (λ (x y : List ℕ). x ++ y) (stack_same f g e m) (e m)

-- the first block in front
stack_front : (f : ℕ → List ℕ) (m : ℕ) → stack f (suc m) ≡ f 0 ++ stack (λ (i : ℕ). f (suc i)) m
unfolding stack
stack_front f zero = sym (append-nil (f 0))
stack_front f (suc m) = ap (λ (l : List ℕ). l ++ f (suc m)) (stack_front f m) ∙ append_assoc (f 0) (stack (λ (i : ℕ). f (suc i)) m) (f (suc m))

module _ (kind size per : ℕ) where
  -- the blocks behind the first are those of the words behind the first block's
  pub table_front : (first : ℕ) (words : List ℕ) (m : ℕ)
      → stack (table_block kind size per first words) (suc m)
      ≡ block_of (opening kind first) (words_of size (take per words)) ++ stack (table_block kind size per (suc first) (drop per words)) m
  unfolding table_block
  table_front first words m =
      let z : first + 0 ≡ first = omega arith in
      let y : per * 0 ≡ 0 = omega arith in
      stack_front (table_block kind size per first words) m
      ∙ ap₂ (λ (i j : ℕ). block_of (opening kind i) (words_of size (take per (drop j words))) ++ stack (λ (i : ℕ). table_block kind size per first words (suc i)) m) z y
      ∙ ap (λ (l : List ℕ). block_of (opening kind first) (words_of size (take per words)) ++ l) (stack_same _ _ next m)
    where
      next : (i : ℕ) → table_block kind size per first words (suc i) ≡ table_block kind size per (suc first) (drop per words) i
      next i =
          let e : first + suc i ≡ suc first + i = omega arith in
          let f : per * suc i ≡ per + per * i = omega arith in
          ap₂ (λ (x : ℕ) (l : List ℕ). block_of (opening kind x) (words_of size (take per l))) e (ap (λ (x : ℕ). drop x words) f ∙ sym (drop-drop (per * i) per words))

  module _ (fits : size * per ≤ check_at - payload_at) where
    one : (first : ℕ) (words : List ℕ) → length (block_of (opening kind first) (words_of size (take per words))) ≡ block_size
    one first words =
        let few : length (take per words) ≤ per = rw (length-take per words) (omega arith) in
        length_block (opening kind first) (words_of size (take per words)) (omega (arith, length_words size (take per words), mul-le-mul_left size few))

    -- blocks that lie behind so many others
    blocks_read : (m first : ℕ) (words before behind : List ℕ) → length before ≡ block_size * first
        → table_from m size per first (length words) (before ++ (stack (table_block kind size per first words) m ++ behind)) ≡ low_words size (take (per * m) words)
    unfolding table_from
    blocks_read zero first words before behind e = let z : per * 0 ≡ 0 = omega arith in rw z
    blocks_read (suc m) first words before behind e =
        let b : List ℕ = block_of (opening kind first) (words_of size (take per words)) in
        let s : List ℕ = stack (table_block kind size per (suc first) (drop per words)) m in
        let file : List ℕ = before ++ (stack (table_block kind size per first words) (suc m) ++ behind) in
        let front : file ≡ before ++ (b ++ (s ++ behind)) = ap (λ (l : List ℕ). before ++ (l ++ behind)) (table_front first words m) ∙ ap (λ (l : List ℕ). before ++ l) (append_assoc b s behind) in
        let n : length b ≡ block_size = one first words in
        let d : drop (block_size * first + payload_at) file ≡ drop payload_at b ++ (s ++ behind) =
        sym (drop-drop payload_at (block_size * first) file)
        ∙ ap (drop payload_at) (ap (drop (block_size * first)) front ∙ drop_at before (b ++ (s ++ behind)) (block_size * first) e)
        ∙ drop-append-le payload_at b (s ++ behind) (omega arith) in
        let w : words_at size (min per (length words)) (drop (block_size * first + payload_at) file) ≡ low_words size (take per words) =
        ap₂ (words_at size) (sym (length-take per words)) d ∙ block_words size (opening kind first) (take per words) (s ++ behind) in
        let r : table_from m size per (suc first) (length words - per) file ≡ low_words size (take (per * m) (drop per words)) =
        ap₂ (table_from m size per (suc first)) (sym (length-drop per words)) (front ∙ sym (append_assoc before b (s ++ behind)))
        ∙ blocks_read m (suc first) (drop per words) (before ++ b) behind (length-append before b ∙ omega arith) in
        let f : per + per * m ≡ per * suc m = omega arith in
        ap₂ (λ (x y : List ℕ). x ++ y) w r
        ∙ sym (map-append _ (take per words) (take (per * m) (drop per words)))
        ∙ ap (low_words size) (sym (take-add per (per * m) words) ∙ ap (λ (i : ℕ). take i words) f)

    pub table_read : (first : ℕ) (words before behind : List ℕ) → 1 ≤ per → length before ≡ block_size * first
        → table_in size per first (length words) (before ++ (table_of kind size per first words ++ behind)) ≡ low_words size words
    unfolding table_in table_of
    table_read first words before behind h e =
        blocks_read (blocks_for per (length words)) first words before behind e
        ∙ ap (low_words size) (take_all (per * blocks_for per (length words)) words (blocks_hold per (length words) h))
