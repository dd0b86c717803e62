-- When the blocks of a file are those of the table that they say. Assumes nothing.
use mathlib.Core.Path.{◌≡◌, refl, sym, ap, ap₂, ◌∙◌}
use mathlib.Core.Bool.{Bool, true, ◌&&◌}
use mathlib.Core.List.{List, [], ◌++◌, append-nil}
use mathlib.Core.Logic.{⊎_elim}
use Prim.Native.Nat.{ℕ, zero, suc, ◌+◌, ◌-◌, ◌*◌, ◌≤◌, ◌<◌, min}
use native.Mathlib.Nat.{mul-le-mul_left, mul-sub}
use native.Mathlib.Omega.{arith}
use lib.ListN.{length, take, drop, length-append, length-take, length-drop, drop_of_length-le}
use lib.Seq.{length-take-le, take_all, take_at, drop_at, take-add, drop-drop}
use Rattle.lists.proofs.Tests.{le_or_lt}
use Rattle.lists.proofs.Entries.Alls.{all_drop}
use Rattle.lists.proofs.Entries.Parts.{part_take}
use Rattle.block.specs.Bytes.{words_of, words_at}
use Rattle.block.specs.Block.{block_size, payload_at, check_at, block_of, same, right_check}
use Rattle.block.specs.Look.{laid_out}
use Rattle.block.proofs.Laying.Words.{length_block}
use Rattle.block.proofs.Reading.Same.{same_append}
use Rattle.block.proofs.Reading.Numbers.{Bytes}
use Rattle.block.proofs.Reading.Words.{words_back}
use Rattle.block.proofs.Reading.Places.{length_words_at}
use Rattle.block.proofs.Reading.Laid.{laid_same}
use Rattle.file.specs.File.{opening, blocks_for, stack, table_block}
use Rattle.file.specs.Decode.{table_from, table_in}
use Rattle.file.proofs.Decoding.Words.{blocks_hold, table_front}
use Rattle.load.specs.Inner.Laid.{block_in, payload_size, table_laid}

-- a list in two parts, the first of them full or the last
parts : (per : ℕ) (w r : List ℕ) → length w ≤ per → (length w < per → r ≡ []) → (take per (w ++ r) ≡ w) × (drop per (w ++ r) ≡ r)
parts per w r h last = ⊎_elim full short (le_or_lt per (length w))
  where
    full : per ≤ length w → (take per (w ++ r) ≡ w) × (drop per (w ++ r) ≡ r)
    full g = (take_at w r per (omega arith), drop_at w r per (omega arith))

    short : length w < per → (take per (w ++ r) ≡ w) × (drop per (w ++ r) ≡ r)
    short g =
        let e : w ++ r ≡ w = ap (λ (x : List ℕ). w ++ x) (last g) ∙ append-nil w in
        (ap (take per) e ∙ take_all per w h, ap (drop per) e ∙ drop_of_length-le w {i = per} h ∙ sym (last g))

module _ (size per : ℕ) (file : List ℕ) where
  -- no words, no matter how many blocks
  table_none : (m first : ℕ) → table_from m size per first 0 file ≡ []
  unfolding table_from words_at
  table_none zero first = refl
  table_none (suc m) first =
      let e : min per 0 ≡ 0 = omega arith in
      let f : 0 - per ≡ 0 = omega arith in
      rw (e, f) (table_none m (suc first))

  pub length_table_from : (m first count : ℕ) → count ≤ per * m → length (table_from m size per first count file) ≡ count
  unfolding table_from
  length_table_from zero first count h = omega arith
  length_table_from (suc m) first count h =
      length-append (words_at size (min per count) (drop (block_size * first + payload_at) file)) (table_from m size per (suc first) (count - per) file)
      ∙ omega (arith, length_words_at size (min per count) (drop (block_size * first + payload_at) file), length_table_from m (suc first) (count - per) (omega arith))

  pub length_table_in : (first count : ℕ) → 1 ≤ per → length (table_in size per first count file) ≡ count
  unfolding table_in
  length_table_in first count h = length_table_from (blocks_for per count) first count (blocks_hold per count h)

  -- the words of a block, and those of the blocks behind it
  parted : (m first count : ℕ) → let w = words_at size (min per count) (drop (block_size * first + payload_at) file) in let r = table_from m size per (suc first) (count - per) file in
      (take per (w ++ r) ≡ w) × (drop per (w ++ r) ≡ r)
  parted m first count =
      let w : List ℕ = words_at size (min per count) (drop (block_size * first + payload_at) file) in
      let n : length w ≡ min per count = length_words_at size (min per count) (drop (block_size * first + payload_at) file) in
      parts per w (table_from m size per (suc first) (count - per) file) (omega arith)
      (λ h. let z : count - per ≡ 0 = omega arith in rw z (table_none m (suc first)))

-- ---- block by block

scaled_least : (s a b : ℕ) → s * min a b ≡ min (s * a) (s * b)
scaled_least s a b = ⊎_elim (λ h. both (omega arith) (mul-le-mul_left s h)) (λ h. less (omega arith) (mul-le-mul_left s (omega arith))) (le_or_lt a b)
  where
    both : min a b ≡ a → s * a ≤ s * b → s * min a b ≡ min (s * a) (s * b)
    both e h = rw e (omega arith)

    less : min a b ≡ b → s * b ≤ s * a → s * min a b ≡ min (s * a) (s * b)
    less e h = rw e (omega arith)

module _ (kind size per : ℕ) (file : List ℕ) (fits : size * per ≡ payload_size) (bytes : Bytes file) where
  -- m blocks, all of them right
  pub table_same : (m first count : ℕ) → block_size * (first + m) ≤ length file → ((i : ℕ) → i < first + m → right_check (block_in i file) ≡ true)
      → same (stack (table_block kind size per first (table_from m size per first count file)) m) (take (block_size * m) (drop (block_size * first) file)) ≡ table_laid m kind first (size * count) file
  unfolding stack table_laid table_from same
  table_same zero first count room right = refl
  table_same (suc m) first count room right =
      let at : ℕ = block_size * first in
      let w : List ℕ = words_at size (min per count) (drop (at + payload_at) file) in
      let r : List ℕ = table_from m size per (suc first) (count - per) file in
      let b : List ℕ = block_in first file in
      let used : ℕ = size * min per count in
      let le : used ≤ size * per = mul-le-mul_left size (omega arith) in
      let nb : length b ≡ block_size = length-take-le block_size (drop at file) (omega (arith, length-drop at file)) in
      let c = parted size per file m first count in
      -- the bytes of the block's words
      let q : words_of size w ≡ take used (drop payload_at b) =
      words_back size (min per count) (drop (at + payload_at) file) (omega (arith, length-drop (at + payload_at) file)) (all_drop (λ (x : ℕ). x < 256) (at + payload_at) file bytes)
      ∙ ap (take used) (sym (drop-drop payload_at at file)) ∙ sym (part_take used payload_at block_size (drop at file) (omega arith)) in
      let front : stack (table_block kind size per first (w ++ r)) (suc m) ≡ block_of (opening kind first) (take used (drop payload_at b)) ++ stack (table_block kind size per (suc first) r) m =
      table_front kind size per first (w ++ r) m
      ∙ ap₂ (λ (x y : List ℕ). block_of (opening kind first) (words_of size x) ++ stack (table_block kind size per (suc first) y) m) c.0 c.1
      ∙ ap (λ (x : List ℕ). block_of (opening kind first) x ++ stack (table_block kind size per (suc first) r) m) q in
      let e : block_size * suc m ≡ block_size + block_size * m = omega arith in
      let f : at + block_size ≡ block_size * suc first = omega arith in
      let cut : take (block_size * suc m) (drop at file) ≡ b ++ take (block_size * m) (drop (block_size * suc first) file) =
      ap (λ (i : ℕ). take i (drop at file)) e ∙ take-add block_size (block_size * m) (drop at file)
      ∙ ap (λ (x : List ℕ). b ++ take (block_size * m) x) (drop-drop block_size at file ∙ ap (λ (i : ℕ). drop i file) f) in
      let nq : length (take used (drop payload_at b)) ≤ check_at - payload_at = omega (arith, length-take used (drop payload_at b)) in
      let u : used ≡ min payload_size (size * count) = scaled_least size per count ∙ ap (λ (i : ℕ). min i (size * count)) fits in
      let v : size * (count - per) ≡ size * count - payload_size = mul-sub size count per ∙ ap (λ (i : ℕ). size * count - i) fits in
      ap₂ same front cut
      ∙ same_append (block_of (opening kind first) (take used (drop payload_at b))) (stack (table_block kind size per (suc first) r) m) b (take (block_size * m) (drop (block_size * suc first) file))
      (length_block (opening kind first) (take used (drop payload_at b)) nq ∙ sym nb)
      ∙ ap₂ (λ (x y : Bool). x && y)
      (laid_same (opening kind first) used b nb (omega arith) (right first (omega arith)) ∙ ap (λ (i : ℕ). laid_out (opening kind first) (payload_at + i) b) u)
      (table_same m (suc first) (count - per) (omega arith) (λ i h. right i (omega arith)) ∙ ap (λ (i : ℕ). table_laid m kind (suc first) i file) v)
