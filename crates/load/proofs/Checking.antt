-- Blocks tested one after the other. Assumes nothing.
use mathlib.Core.Path.{◌≡◌, refl, sym, ap, ap₂, ◌∙◌}
use mathlib.Core.Bool.{Bool, true, false, ◌&&◌}
use mathlib.Core.List.{List, [], ◌∷◌, ◌++◌}
use Prim.Native.Nat.{ℕ, zero, suc, ◌+◌, ◌-◌, ◌*◌, ◌/◌, ◌≤◌, ◌<◌, min}
use native.Mathlib.Numerals.{add-one}
use native.Mathlib.Omega.{arith}
use native.Mathlib.Nat.{add-div_right, div-eq_of_lt}
use lib.ListN.{length, take, drop, length-append}
use lib.Seq.{take_at, drop_at}
use denote.Ref.{Bor}
use Rattle.std.specs.Prelude.{None, Some}
use Rattle.std.specs.declared.slice.ChunksExact.{ChunksExact}
use Rattle.std.specs.List.{list_all}
use Rattle.std.specs.Slice.Iter.{chunks_exact_rest, chunks_exact_size, chunks_exact_steps}
use Rattle.std.proofs.lemmas.Iterator.{YieldsList}
use Rattle.std.proofs.lemmas.Iterator.Splits.{YieldsList-from_shown_while}
use Rattle.block.specs.Block.{block_size, payload_at, right_check}
use Rattle.file.specs.Read.{right_checks}
use Rattle.block.specs.Look.{laid_out}
use Rattle.file.specs.File.{opening}
use Rattle.load.specs.Inner.Laid.{payload_size, table_laid}

-- ---- the chunks of a file

-- so many blocks of n bytes
pub blocks : (count n : ℕ) → List ℕ → List (List ℕ)
blocks zero n l = []
blocks (suc count) n l = take n l ∷ blocks count n (drop n l)

length_blocks : (count n : ℕ) (l : List ℕ) → length (blocks count n l) ≡ count
unfolding blocks
length_blocks zero n l = refl
length_blocks (suc count) n l = ap suc (length_blocks count n (drop n l))

-- what an iterator over chunks has left
left : ChunksExact ℕ → List (List ℕ)
left s = blocks (length (chunks_exact_rest s) / chunks_exact_size s) (chunks_exact_size s) (chunks_exact_rest s)

left_none : (s t : ChunksExact ℕ) → 0 < chunks_exact_size s → chunks_exact_steps s None t → length (left s) ≡ 0
unfolding left
left_none s t h e = length_blocks _ _ _ ∙ div-eq_of_lt e.1.0

left_some : (s : ChunksExact ℕ) (x : Bor (List ℕ)) (t : ChunksExact ℕ) → 0 < chunks_exact_size s → chunks_exact_steps s (Some x) t → (0 < chunks_exact_size t) × (left s ≡ x.now ∷ left t)
unfolding left blocks
left_some s x t h e =
    let n : ℕ = chunks_exact_size s in
    let r : List ℕ = chunks_exact_rest t in
    let l : length (x.now ++ r) ≡ length r + n = length-append x.now r ∙ omega (arith, e.1.1) in
    let q : length (x.now ++ r) / n ≡ suc (length r / n) = ap (λ (m : ℕ). m / n) l ∙ add-div_right (length r) h ∙ add-one (length r / n) in
    let k : length x.now ≡ n = e.1.1 in
    (rw e.0 h, rw (e.1.0, q, e.0) (ap₂ (λ (a b : List ℕ). a ∷ blocks (length r / n) n b) (take_at x.now r n k) (drop_at x.now r n k)))

pub chunks_yielded : (s : ChunksExact ℕ) (file : List ℕ) (n : ℕ) → 0 < n → chunks_exact_rest s ≡ file → chunks_exact_size s ≡ n → YieldsList chunks_exact_steps (λ x. x.now) s (blocks (length file / n) n file)
unfolding left
chunks_yielded s file n h e f = rw (← e, ← f) (YieldsList-from_shown_while chunks_exact_steps (λ (x : Bor (List ℕ)). x.now) left (λ s. 0 < chunks_exact_size s) left_none left_some s (rw f h))

pub all_right : (count : ℕ) (file : List ℕ) → list_all right_check (blocks count block_size file) ≡ right_checks count file
unfolding blocks right_checks
all_right zero file = refl
all_right (suc count) file = ap (λ (b : Bool). right_check (take block_size file) && b) (all_right count (drop block_size file))

-- ---- the blocks of a table

pub record Laying (kind past first bytes : ℕ) (file : List ℕ) (number rest : ℕ) : Type 0 where
  pub within : number ≤ past
  pub left : table_laid (past - first) kind first bytes file ≡ table_laid (past - number) kind number rest file

pub laying_none : (kind past first bytes : ℕ) (file : List ℕ) → first ≤ past → Laying kind past first bytes file first bytes
laying_none kind past first bytes file h = record { within = h; left = refl }

module _ (kind past first bytes : ℕ) (file : List ℕ) (number rest used : ℕ) (h : number < past) (e : used ≡ min payload_size rest) (y : Laying kind past first bytes file number rest) where
  laying_step : table_laid (past - first) kind first bytes file
      ≡ (laid_out (opening kind number) (payload_at + used) (take block_size (drop (block_size * number) file)) && table_laid (past - (number + 1)) kind (number + 1) (rest - used) file)
  unfolding table_laid
  laying_step =
      let m : past - number ≡ suc (past - (number + 1)) = omega arith in
      let o : suc number ≡ number + 1 = sym (add-one number) in
      let r : rest - payload_size ≡ rest - used = omega arith in
      y.left ∙ ap (λ (k : ℕ). table_laid k kind number rest file) m
      ∙ ap (λ (k : ℕ). laid_out (opening kind number) (payload_at + k) (take block_size (drop (block_size * number) file)) && table_laid (past - (number + 1)) kind (suc number) (rest - payload_size) file) (sym e)
      ∙ ap₂ (λ (i j : ℕ). laid_out (opening kind number) (payload_at + used) (take block_size (drop (block_size * number) file)) && table_laid (past - (number + 1)) kind i j file) o r

  pub laying_more : laid_out (opening kind number) (payload_at + used) (take block_size (drop (block_size * number) file)) ≡ true → Laying kind past first bytes file (number + 1) (rest - used)
  laying_more r = record { within = omega arith; left = laying_step ∙ ap (λ (b : Bool). b && table_laid (past - (number + 1)) kind (number + 1) (rest - used) file) r }

  pub laying_no : laid_out (opening kind number) (payload_at + used) (take block_size (drop (block_size * number) file)) ≡ false → table_laid (past - first) kind first bytes file ≡ false
  laying_no r = laying_step ∙ ap (λ (b : Bool). b && table_laid (past - (number + 1)) kind (number + 1) (rest - used) file) r

pub laying_end : (kind past first bytes : ℕ) (file : List ℕ) (number rest : ℕ) → past ≤ number → Laying kind past first bytes file number rest → table_laid (past - first) kind first bytes file ≡ true
unfolding table_laid
laying_end kind past first bytes file number rest h y = let z : past - number ≡ 0 = omega arith in y.left ∙ rw z

-- a block that is lent as a part of the file
pub part_whole : (file : List ℕ) (at : ℕ) → take (at + block_size - at) (drop at file) ≡ take block_size (drop at file)
part_whole file at = let d : at + block_size - at ≡ block_size = omega arith in ap (λ (i : ℕ). take i (drop at file)) d
