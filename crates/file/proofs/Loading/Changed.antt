-- One changed byte of a file is seen by a check, and a file cut short is none. Assumes nothing.
use mathlib.Core.Path.{◌≡◌, refl, sym, ap, ◌∙◌}
use mathlib.Core.Bool.{Bool, true, false}
use mathlib.Core.List.{List}
use mathlib.Core.Logic.{⊎_elim}
use Prim.Native.Nat.{ℕ, ◌+◌, ◌-◌, ◌*◌, ◌/◌, ◌%◌, ◌≤◌, ◌<◌}
use native.Mathlib.Omega.{arith}
use lib.ListN.{length, take, drop, get_or, set, length-drop}
use lib.Seq.{length-take-le, take-set-lt, take-set-le, drop-set-lt, drop-set-add, get_or-set_same, get_or-take, get_or-drop}
use Rattle.lists.proofs.Tests.{le_or_lt}
use Rattle.lists.proofs.Entries.Alls.{all_take, all_drop}
use Rattle.block.specs.Block.{block_size, check_at, check_of, right_check}
use Rattle.block.proofs.Check.Guarding.{check_guards}
use Rattle.block.proofs.Reading.Numbers.{Bytes}
use Rattle.file.specs.Read.{right_checks}
use Rattle.file.proofs.Loading.Checks.{right_says, checks_at}

-- ---- one block

pub block_changed : (b : List ℕ) → length b ≡ block_size → Bytes b → right_check b ≡ true → (i v : ℕ) → i < block_size → v < 256 → (get_or b i 0 ≡ v → ⊥) → right_check (set b i v) ≡ true → ⊥
block_changed b n bytes r i v h hv ne e =
    let old : drop check_at b ≡ check_of (take check_at b) = right_says b r in
    let new : drop check_at (set b i v) ≡ check_of (take check_at (set b i v)) = right_says (set b i v) e in
    ⊎_elim
    (λ (k : check_at ≤ i).
    -- the check's own byte is another, and the bytes before it are the same
    let c : check_at + (i - check_at) ≡ i = omega arith in
    let d : drop check_at (set b i v) ≡ set (drop check_at b) (i - check_at) v = rw c at (drop-set-add check_at b (i - check_at) v) in
    let f : set (drop check_at b) (i - check_at) v ≡ drop check_at b = sym d ∙ new ∙ ap check_of (take-set-le check_at b i v k) ∙ sym old in
    let g : v ≡ get_or (drop check_at b) (i - check_at) 0 = sym (get_or-set_same (drop check_at b) (i - check_at) v 0 (omega (arith, length-drop check_at b))) ∙ ap (λ (l : List ℕ). get_or l (i - check_at) 0) f in
    ne (sym (ap (λ (j : ℕ). get_or b j 0) c) ∙ sym (get_or-drop check_at b (i - check_at) 0) ∙ sym g))
    (λ (k : i < check_at).
    let a : List ℕ = take check_at b in
    let t : take check_at (set b i v) ≡ set a i v = take-set-lt check_at b i v k in
    let f : check_of (set a i v) ≡ check_of a = ap check_of (sym t) ∙ sym new ∙ drop-set-lt check_at b i v k ∙ old in
    check_guards.one_changed a (length-take-le check_at b (omega arith)) (all_take (λ (x : ℕ). x < 256) check_at b bytes) i v k hv (λ (q : get_or a i 0 ≡ v). ne (sym (get_or-take check_at b i 0 k) ∙ q)) f)
    (le_or_lt check_at i)

-- ---- a file

-- the block that has byte i, after the change
part_set : (file : List ℕ) (i v : ℕ) → let j = i / block_size in take block_size (drop (block_size * j) (set file i v)) ≡ set (take block_size (drop (block_size * j) file)) (i % block_size) v
part_set file i v =
    let c : block_size * (i / block_size) + i % block_size ≡ i = omega arith in
    let d : drop (block_size * (i / block_size)) (set file i v) ≡ set (drop (block_size * (i / block_size)) file) (i % block_size) v = rw c at (drop-set-add (block_size * (i / block_size)) file (i % block_size) v) in
    ap (take block_size) d ∙ take-set-lt block_size (drop (block_size * (i / block_size)) file) (i % block_size) v (omega arith)

pub changed_wrong : (m : ℕ) (file : List ℕ) → length file ≡ block_size * m → Bytes file → right_checks m file ≡ true → (i v : ℕ) → i < length file → v < 256 → (get_or file i 0 ≡ v → ⊥)
    → right_checks m (set file i v) ≡ false
changed_wrong m file n bytes r i v h hv ne = go (right_checks m (set file i v)) refl
  where
    go : (c : Bool) → right_checks m (set file i v) ≡ c → c ≡ false
    go false e = refl
    go true e =
        let j : ℕ = i / block_size in
        let b : List ℕ = take block_size (drop (block_size * j) file) in
        let l : j < m = omega arith in
        let size : length b ≡ block_size = length-take-le block_size (drop (block_size * j) file) (omega (arith, length-drop (block_size * j) file)) in
        let at : get_or b (i % block_size) 0 ≡ get_or file i 0 =
        let c : block_size * j + i % block_size ≡ i = omega arith in
        get_or-take block_size (drop (block_size * j) file) (i % block_size) 0 (omega arith) ∙ get_or-drop (block_size * j) file (i % block_size) 0 ∙ ap (λ (k : ℕ). get_or file k 0) c in
        absurd (block_changed b size (all_take (λ (x : ℕ). x < 256) block_size (drop (block_size * j) file) (all_drop (λ (x : ℕ). x < 256) (block_size * j) file bytes))
        (checks_at m file j l r) (i % block_size) v (omega arith) hv (λ (q : get_or b (i % block_size) 0 ≡ v). ne (sym at ∙ q))
        (ap right_check (sym (part_set file i v)) ∙ checks_at m (set file i v) j l e))
