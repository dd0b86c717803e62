-- Blocks laid one after another into a target. Assumes nothing.
use mathlib.Core.Path.{◌≡◌, refl, sym, ap, ap₂, ◌∙◌}
use mathlib.Core.List.{List, ◌++◌, append_assoc, map}
use Prim.Native.Nat.{ℕ, zero, suc, ◌+◌, ◌-◌, ◌*◌, ◌≤◌}
use native.Mathlib.Nat.{mul-le-mul_left}
use native.Mathlib.Numerals.{add-one}
use native.Mathlib.Omega.{arith}
use mathlib.Core.Bool.{true}
use lib.Dec.{eqb}
use lib.ListN.{length, take, drop, length-append, length-take, length-drop, length-map}
use lib.Seq.{sets, sets-eq, length-sets, length-take-le, take_all, drop-drop}
use borrow.Author.Tests.{eq-eqb}
use borrow.Rule.Slice.PartMut.{mid_of, put_mid}
use Rattle.lists.proofs.Entries.Members.{map_take, map_drop}
use Rattle.lists.proofs.Writing.Storing.{sets_append}
use Rattle.block.specs.Bytes.{words_of}
use Rattle.block.specs.Block.{block_size, payload_at, check_at, block_of, in_block}
use Rattle.block.proofs.Laying.Words.{length_words, length_block}
use Rattle.file.specs.File.{opening, blocks_for, stack, table_block, table_of}

pub length_table_block : (kind size per first : ℕ) (words : List ℕ) → size * per ≤ check_at - payload_at → (i : ℕ) → length (table_block kind size per first words i) ≡ block_size
unfolding table_block
length_table_block kind size per first words fit i =
    let ws : List ℕ = take per (drop (per * i) words) in
    let few : length ws ≤ per = rw (length-take per (drop (per * i) words)) (omega arith) in
    let m : size * length ws ≤ size * per = mul-le-mul_left size few in
    length_block (opening kind (first + i)) (words_of size ws) (omega (arith, length_words size ws))

pub length_stack : (block : ℕ → List ℕ) → ((i : ℕ) → length (block i) ≡ block_size) → (m : ℕ) → length (stack block m) ≡ block_size * m
unfolding stack
length_stack block each zero = refl
length_stack block each (suc m) = length-append (stack block m) (block m) ∙ omega (arith, length_stack block each m, each m)

-- a block written into what is lent of a list at a place
pub placed : (l block ys : List ℕ) (at : ℕ) → at + block_size ≤ length l → length block ≡ block_size → ys ≡ in_block block (mid_of at (at + block_size - at) l)
    → put_mid at (at + block_size - at) l ys ≡ sets l at block
placed l block ys at h n e =
    let d : at + block_size - at ≡ block_size = omega arith in
    let m : length (take block_size (drop at l)) ≡ block_size = length-take-le block_size (drop at l) (omega (arith, length-drop at l)) in
    let b : eqb (length (take block_size (drop at l))) block_size ≡ true = eq-eqb _ block_size m in
    let f : in_block block (take block_size (drop at l)) ≡ block = rw (in_block, b) in
    let k : ys ≡ block = e ∙ ap (λ (i : ℕ). in_block block (take i (drop at l))) d ∙ f in
    let r : drop (at + block_size - at) (drop at l) ≡ drop (at + length block) l = ap (λ (i : ℕ). drop i (drop at l)) (d ∙ sym n) ∙ drop-drop (length block) at l in
    ap₂ (λ (x y : List ℕ). take at l ++ (x ++ y)) k r
    ∙ sym (append_assoc (take at l) block (drop (at + length block) l))
    ∙ sym (sets-eq block l at (omega arith))

-- the loop at block i: l is left of before
pub record Stacked (block : ℕ → List ℕ) (first : ℕ) (before l : List ℕ) (i : ℕ) : Type 0 where
  pub long : length l ≡ length before
  pub is : l ≡ sets before (block_size * first) (stack block i)

pub stacked_none : (block : ℕ → List ℕ) (first : ℕ) (before : List ℕ) → Stacked block first before before 0
unfolding stack
stacked_none block first before = record { long = refl; is = refl }

pub stacked_more : (block : ℕ → List ℕ) (first : ℕ) (before l b ys : List ℕ) (i : ℕ) → ((j : ℕ) → length (block j) ≡ block_size)
    → block_size * (first + i) + block_size ≤ length before → b ≡ block i
    → ys ≡ in_block b (mid_of (block_size * (first + i)) (block_size * (first + i) + block_size - block_size * (first + i)) l) → Stacked block first before l i
    → Stacked block first before (put_mid (block_size * (first + i)) (block_size * (first + i) + block_size - block_size * (first + i)) l ys) (i + 1)
unfolding stack
stacked_more block first before l b ys i each room eb e s =
    let to : ℕ = block_size * (first + i) in
    let n : length b ≡ block_size = ap length eb ∙ each i in
    let c : put_mid to (to + block_size - to) l ys ≡ sets l to (block i) = placed l b ys to (omega (arith, s.long)) n e ∙ ap (sets l to) eb in
    let at : block_size * first + length (stack block i) ≡ to = omega (arith, length_stack block each i) in
    let t : sets before (block_size * first) (stack block i ++ block i) ≡ sets (sets before (block_size * first) (stack block i)) to (block i) =
    rw at at (sets_append (stack block i) (block i) before (block_size * first)) in
    record {
      long = ap length c ∙ length-sets l to (block i) ∙ s.long;
      is = rw (add-one i) (c ∙ ap (λ (x : List ℕ). sets x to (block i)) s.is ∙ sym t);
    }

-- a block made from what is lent of the words from a place on
pub table_block_is : (kind size per first : ℕ) (words b : List ℕ) (i : ℕ)
    → b ≡ block_of (opening kind (first + i)) (words_of size (take per (mid_of (per * i) (length words - per * i) words))) → b ≡ table_block kind size per first words i
unfolding table_block
table_block_is kind size per first words b i e =
    let whole : take (length words - per * i) (drop (per * i) words) ≡ drop (per * i) words = take_all (length words - per * i) (drop (per * i) words) (omega (arith, length-drop (per * i) words)) in
    e ∙ ap (λ (x : List ℕ). block_of (opening kind (first + i)) (words_of size (take per x))) whole

pub stacked_table : (kind size per first : ℕ) (words before l : List ℕ) (i : ℕ) {count : ℕ} → i ≡ count → count ≡ blocks_for per (length words)
    → Stacked (table_block kind size per first words) first before l i → l ≡ sets before (block_size * first) (table_of kind size per first words)
unfolding table_of
stacked_table kind size per first words before l i e f s = rw (e, f) at s.is

-- a part of mapped words
pub mapped_part : {A : Type 0} (f : A → ℕ) (words : List A) (i : ℕ) → map f (mid_of i (length words - i) words) ≡ mid_of i (length (map f words) - i) (map f words)
mapped_part f words i =
    map_take f (length words - i) (drop i words)
    ∙ ap (take (length words - i)) (map_drop f i words)
    ∙ ap (λ (n : ℕ). take (n - i) (drop i (map f words))) (sym (length-map words f))
