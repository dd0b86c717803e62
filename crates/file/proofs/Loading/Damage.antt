-- A file with one changed byte is refused as 22, and a file cut short is refused. Assumes nothing.
use mathlib.Core.Path.{◌≡◌, refl, sym, ap, ◌∙◌}
use mathlib.Core.Bool.{Bool, true, false, not}
use mathlib.Core.List.{List}
use Prim.Native.Nat.{ℕ, ◌+◌, ◌*◌, ◌/◌, ◌%◌, ◌≤◌, ◌<◌}
use native.Mathlib.Omega.{arith}
use lib.Dec.{eqb}
use lib.ListN.{length, take, get_or, set, length-set}
use lib.Seq.{length-take-le}
use borrow.Author.Tests.{eqb-true, eqb-false}
use Rattle.lists.proofs.Tests.{or_false}
use Rattle.lists.proofs.Entries.Parts.{part_take}
use Rattle.record.specs.declared.Record.{Record}
use Rattle.record.specs.Record.{record_of}
use Rattle.record.specs.Tables.{Tables}
use Rattle.record.specs.Formed.{sound}
use Rattle.block.specs.Bytes.{value_of, number_at}
use Rattle.block.specs.Block.{block_size}
use Rattle.file.specs.Layout.{n1_at, k_at, cells_at}
use Rattle.file.specs.File.{blocks_in, size_of, file_of}
use Rattle.file.specs.Decode.{record_in, tables_in}
use Rattle.file.specs.Read.{Reading, no_blocks, right_checks, refused_read, read_of}
use Rattle.file.specs.Facts.{carried_record, SeesDamage}
use Rattle.file.proofs.Outcomes.{file_length}
use Rattle.file.proofs.Decoding.Units.{record_read}
use Rattle.file.proofs.Loading.Checks.{file_right}
use Rattle.file.proofs.Loading.Accepts.{read_is, read_passed, is_says, whole_blocks}
use Rattle.file.proofs.Loading.Bytes.{file_bytes}
use Rattle.file.proofs.Loading.Changed.{changed_wrong}

-- ---- a changed byte

module _ (u : Record) (s t : Tables) (h : sound u s ≡ true) (i v : ℕ) (l : i < length (file_of u s)) (hv : v < 256) (ne : get_or (file_of u s) i 0 ≡ v → ⊥) where
  changed_blocks : no_blocks (set (file_of u s) i v) ≡ false
  changed_blocks = let e : length (set (file_of u s) i v) ≡ length (file_of u s) = length-set (file_of u s) i v in rw e (whole_blocks u s h)

  changed_checks : right_checks (length (set (file_of u s) i v) / block_size) (set (file_of u s) i v) ≡ false
  changed_checks =
      let n : length (file_of u s) ≡ block_size * blocks_in u = file_length u s h in
      let e : length (set (file_of u s) i v) / block_size ≡ blocks_in u = let k : length (set (file_of u s) i v) ≡ length (file_of u s) = length-set (file_of u s) i v in omega arith in
      rw e (changed_wrong (blocks_in u) (file_of u s) n (file_bytes u s h) (file_right u s h) i v l hv ne)

  changed_refused : (read_of (set (file_of u s) i v) t).refusal ≡ 22
  changed_refused =
      let f : List ℕ = set (file_of u s) i v in
      let e : read_of f t ≡ refused_read 22 t = read_is f t ∙ rw (changed_blocks, changed_checks) in
      ap (λ (r : Reading). r.refusal) e

-- ---- a file cut short

number_cut : (k at m : ℕ) (file : List ℕ) → at + k ≤ m → number_at k at (take m file) ≡ number_at k at file
unfolding number_at
number_cut k at m file h = ap value_of (part_take k at m file h)

-- the head says the length, and it is still there
size_cut : (m : ℕ) (file : List ℕ) → block_size ≤ m → size_of (record_in (take m file)) ≡ size_of (record_in file)
unfolding record_in record_of
size_cut m file h =
    let a : number_at 1 n1_at (take m file) ≡ number_at 1 n1_at file = number_cut 1 n1_at m file (omega arith) in
    let b : number_at 2 k_at (take m file) ≡ number_at 2 k_at file = number_cut 2 k_at m file (omega arith) in
    let c : number_at 2 cells_at (take m file) ≡ number_at 2 cells_at file = number_cut 2 cells_at m file (omega arith) in
    rw (a, b, c)

size_carried : (u : Record) → size_of (carried_record u) ≡ size_of u
unfolding record_of
size_carried u = refl

cut_refused : (u : Record) (s t : Tables) → sound u s ≡ true → (m : ℕ) → m < length (file_of u s) → (read_of (take m (file_of u s)) t).refusal ≡ 0 → ⊥
cut_refused u s t h m l e =
    let f : List ℕ = file_of u s in
    let p = read_passed (take m f) t e in
    let n : length (take m f) ≡ m = length-take-le m f (omega arith) in
    let b = or_false (eqb (length (take m f)) 0) (not (eqb (length (take m f) % block_size) 0)) p.blocks in
    let some : m ≡ 0 → ⊥ = λ (z : m ≡ 0). eqb-false (length (take m f)) 0 b.0 (n ∙ z) in
    let whole : length (take m f) % block_size ≡ 0 = eqb-true (length (take m f) % block_size) 0 (unnot (eqb (length (take m f) % block_size) 0) b.1) in
    let big : block_size ≤ m = omega arith in
    let r = is_says (take m f) t p.is in
    let size : length (take m f) ≡ size_of (record_in (take m f)) = ap length (sym r.1) ∙ file_length (record_in (take m f)) (tables_in (record_in (take m f)) (take m f)) r.0 in
    let same : size_of (record_in (take m f)) ≡ length f = size_cut m f big ∙ ap size_of (record_read u s h) ∙ size_carried u ∙ sym (file_length u s h) in
    omega arith
  where
    unnot : (b : Bool) → not b ≡ false → b ≡ true
    unnot true q = refl
    unnot false q = sym q

pub read_sees_damage : SeesDamage read_of
read_sees_damage = record { changed = λ u s t h i v l hv ne. changed_refused u s t h i v l hv ne; cut = cut_refused }
