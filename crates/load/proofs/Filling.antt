-- Words filled from the blocks of a table, one block at a time. Assumes nothing.
use mathlib.Core.Path.{◌≡◌, refl, sym, ap, ap₂, ◌∙◌}
use mathlib.Core.Bool.{true}
use mathlib.Core.Logic.{⊎_elim}
use mathlib.Core.List.{List, [], ◌∷◌, ◌++◌, append_assoc, append-nil, map, map-append}
use Prim.Native.Nat.{ℕ, zero, suc, ◌+◌, ◌-◌, ◌*◌, ◌/◌, ◌≤◌, ◌<◌, min}
use native.Mathlib.Nat.{add-div_right, div-eq_of_lt, mul-add, mul-le-mul_left}
use native.Mathlib.Numerals.{add-one}
use native.Mathlib.Omega.{arith}
use Rattle.std.proofs.lemmas.Grind.{common_steps}
use Rattle.std.specs.Int.{div_ceil}
use Rattle.lists.proofs.Entries.Members.{map_take, map_drop}
use lib.Dec.{eqb}
use lib.ListN.{length, take, drop, length-drop, drop_of_length-le}
use lib.Seq.{sets, sets-eq, length-sets, length-take-le, take_all, take-take, take-nil, drop-drop}
use borrow.Author.Tests.{eq-eqb}
use borrow.Rule.Slice.PartMut.{mid_of, put_mid}
use Rattle.lists.proofs.Writing.Storing.{sets_append}
use Rattle.lists.proofs.Tests.{le_or_lt}
use Rattle.record.specs.Tables.{over}
use Rattle.block.specs.Bytes.{value_of, words_at}
use Rattle.block.specs.Block.{block_size, payload_at, check_at}
use Rattle.block.specs.Look.{words_over}
use Rattle.block.proofs.Laying.Words.{front}
use Rattle.file.specs.File.{blocks_for}
use Rattle.file.specs.Decode.{table_from, table_in}
use Rattle.file.proofs.Loading.Again.{length_table_in}

-- ---- how many blocks words take

pub ceil_is : (words per : ℕ) → 1 ≤ per → div_ceil words per ≡ blocks_for per words
ceil_is words per h = grind (arith, common_steps)

pub words_left : (per words i : ℕ) → 1 ≤ per → i < blocks_for per words → per * i < words
words_left per words i h k =
    let m : per * (i + 1) ≤ per * blocks_for per words = mul-le-mul_left per (omega arith) in
    let d : per * blocks_for per words ≤ words + (per - 1) = omega arith in
    omega (arith, mul-add per i 1)

pub words_done : (per words i : ℕ) → 1 ≤ per → blocks_for per words ≤ i → words ≤ per * i
words_done per words i h k =
    let m : per * blocks_for per words ≤ per * i = mul-le-mul_left per k in
    let d : words + (per - 1) < per * blocks_for per words + per = omega arith in
    omega arith

-- ---- a table's first block and the rest

blocks_step : (per count : ℕ) → 1 ≤ per → 0 < count → blocks_for per count ≡ suc (blocks_for per (count - per))
blocks_step per count h pos = ⊎_elim
    (λ (k : per ≤ count).
    let e : count + (per - 1) ≡ count - per + (per - 1) + per = omega arith in
    ap (λ (x : ℕ). x / per) e ∙ add-div_right (count - per + (per - 1)) h ∙ add-one ((count - per + (per - 1)) / per))
    (λ (k : count < per).
    let e : count + (per - 1) ≡ count - 1 + per = omega arith in
    let z : count - per + (per - 1) ≡ per - 1 = omega arith in
    ap (λ (x : ℕ). x / per) e ∙ add-div_right (count - 1) h ∙ add-one ((count - 1) / per) ∙ ap suc (div-eq_of_lt (lower count k) ∙ sym (ap (λ (x : ℕ). x / per) z ∙ div-eq_of_lt last)))
    (le_or_lt per count)
  where
    lower : (c : ℕ) → c < per → c - 1 < per
    lower c k = omega arith

    last : per - 1 < per
    last = omega arith

table_step : (size per first count : ℕ) (file : List ℕ) → 1 ≤ per → 0 < count
    → table_in size per first count file ≡ words_at size (min per count) (drop (block_size * first + payload_at) file) ++ table_in size per (suc first) (count - per) file
unfolding table_in table_from
table_step size per first count file h pos = rw (blocks_step per count h pos)

table_none : (size per first : ℕ) (file : List ℕ) → 1 ≤ per → table_in size per first 0 file ≡ []
unfolding table_in table_from
table_none size per first file h = let e : (0 + (per - 1)) / per ≡ 0 = div-eq_of_lt (small per h) in rw e
  where
    small : (p : ℕ) → 1 ≤ p → 0 + (p - 1) < p
    small p k = omega arith

-- ---- the words of a block that is lent as a part of the file

drop_cut : (m n : ℕ) (b : List ℕ) → m ≤ n → drop m (take n b) ≡ take (n - m) (drop m b)
drop_cut zero n b h = let e : n - 0 ≡ n = omega arith in rw e
drop_cut (suc m) zero b h = absurd (omega arith)
drop_cut (suc m) (suc n) [] h = sym (take-nil (suc n - suc m))
drop_cut (suc m) (suc n) (x ∷ b) h = let e : suc n - suc m ≡ n - m = omega arith in rw e (drop_cut m n b (omega arith))

words_cut : (m count n : ℕ) (b : List ℕ) → m * count ≤ n → words_at m count (take n b) ≡ words_at m count b
unfolding words_at
words_cut m zero n b h = refl
words_cut m (suc count) n b h =
    let c : m * suc count ≡ m + m * count = omega arith in
    let few : m ≤ n = omega arith in
    let d : drop m (take n b) ≡ take (n - m) (drop m b) = drop_cut m n b few in
    ap₂ (λ (x : ℕ) (l : List ℕ). x ∷ l) (ap value_of (take-take m n b few)) (ap (words_at m count) d ∙ words_cut m count (n - m) (drop m b) (omega arith))

length_words_at : (m count : ℕ) (bytes : List ℕ) → length (words_at m count bytes) ≡ count
unfolding words_at
length_words_at m zero bytes = refl
length_words_at m (suc count) bytes = ap suc (length_words_at m count (drop m bytes))

-- ---- the loop

-- at the block of that number: from word i on, the words are still to be filled
pub record Filling (size per first : ℕ) (file before words : List ℕ) (number i : ℕ) : Type 0 where
  pub long : length words ≡ length before
  pub at : i ≡ per * (number - first)
  pub from : first ≤ number
  pub left : sets words i (table_in size per number (length before - i) file) ≡ sets before 0 (table_in size per first (length before) file)

pub filling_none : (size per first : ℕ) (file before : List ℕ) → Filling size per first file before before first 0
filling_none size per first file before =
    let e : length before - 0 ≡ length before = omega arith in
    let f : first - first ≡ 0 = omega arith in
    record { long = refl; at = rw f (omega arith); from = omega arith; left = rw e }

-- the words of one block, written into what is lent of the words from i on
pub block_filled : (size per : ℕ) (file words ys : List ℕ) (at i : ℕ) → size * per ≤ check_at - payload_at → at + block_size ≤ length file → i ≤ length words
    → ys ≡ words_over size per (mid_of at (at + block_size - at) file) (mid_of i (length words - i) words)
    → put_mid i (length words - i) words ys ≡ sets words i (words_at size (min per (length words - i)) (drop (at + payload_at) file))
block_filled size per file words ys at i fit room low e =
    let c : ℕ = min per (length words - i) in
    let d : at + block_size - at ≡ block_size = omega arith in
    let b : List ℕ = take block_size (drop at file) in
    let l : List ℕ = drop i words in
    let nl : length l ≡ length words - i = length-drop i words in
    let part : take (length words - i) l ≡ l = take_all (length words - i) l (omega arith) in
    let nb : length b ≡ block_size = length-take-le block_size (drop at file) (omega (arith, length-drop at file)) in
    let yes : eqb (length b) block_size ≡ true = eq-eqb (length b) block_size nb in
    let few : size * c ≤ size * per = mul-le-mul_left size (omega arith) in
    let a : List ℕ = words_at size c (drop (at + payload_at) file) in
    let w : words_at size c (drop payload_at b) ≡ a =
    ap (words_at size c) (drop_cut payload_at block_size (drop at file) (omega arith)) ∙ words_cut size c (block_size - payload_at) (drop payload_at (drop at file)) (omega arith)
    ∙ ap (words_at size c) (drop-drop payload_at at file) in
    let na : length a ≡ c = length_words_at size c (drop (at + payload_at) file) in
    let held : words_over size per b l ≡ sets l 0 (words_at size (min per (length l)) (drop payload_at b)) = rw (words_over, yes) in
    let k : ys ≡ a ++ drop (length a) l =
    e ∙ ap₂ (λ (x y : List ℕ). words_over size per x y) (ap (λ (j : ℕ). take j (drop at file)) d) part ∙ held
    ∙ ap (λ (j : ℕ). sets l 0 (words_at size (min per j) (drop payload_at b))) nl ∙ ap (sets l 0) w ∙ front a l (omega arith) in
    let none : drop (length words - i) l ≡ [] = drop_of_length-le l {i = length words - i} (omega arith) in
    ap₂ (λ (x y : List ℕ). take i words ++ (x ++ y)) k none
    ∙ ap (λ (x : List ℕ). take i words ++ x) (append-nil (a ++ drop (length a) l) ∙ ap (λ (x : List ℕ). a ++ x) (drop-drop (length a) i words))
    ∙ sym (append_assoc (take i words) a (drop (i + length a) words))
    ∙ sym (sets-eq a words i (omega arith))

-- the same of words that are numbers by f
pub mapped_put : {A : Type 0} (f : A → ℕ) (words ys : List A) (i k : ℕ) → map f (put_mid i k words ys) ≡ put_mid i k (map f words) (map f ys)
mapped_put f words ys i k =
    map-append f (take i words) (ys ++ drop k (drop i words))
    ∙ ap₂ (λ (x y : List ℕ). x ++ y) (map_take f i words)
    (map-append f ys (drop k (drop i words)) ∙ ap (λ (x : List ℕ). map f ys ++ x) (map_drop f k (drop i words) ∙ ap (drop k) (map_drop f i words)))

pub filling_more : (size per first : ℕ) (file before words words' : List ℕ) (number i : ℕ) → 1 ≤ per → i < length before
    → words' ≡ sets words i (words_at size (min per (length words - i)) (drop (block_size * number + payload_at) file)) → Filling size per first file before words number i
    → Filling size per first file before words' (number + 1) (i + per)
filling_more size per first file before words words' number i h low e y =
    let c : ℕ = length before - i in
    let a : List ℕ = words_at size (min per c) (drop (block_size * number + payload_at) file) in
    let na : length a ≡ min per c = length_words_at size (min per c) (drop (block_size * number + payload_at) file) in
    let ea : words' ≡ sets words i a = e ∙ ap (λ (j : ℕ). sets words i (words_at size (min per (j - i)) (drop (block_size * number + payload_at) file))) y.long in
    let t : sets (sets words i a) (i + length a) (table_in size per (suc number) (c - per) file) ≡ sets before 0 (table_in size per first (length before) file) =
    sym (sets_append a (table_in size per (suc number) (c - per) file) words i) ∙ ap (sets words i) (sym (table_step size per number c file h (omega arith))) ∙ y.left in
    let s : length before - (i + per) ≡ c - per = omega arith in
    let o : number + 1 ≡ suc number = add-one number in
    record {
      long = ap length ea ∙ length-sets words i a ∙ y.long;
      at = let m : number + 1 - first ≡ number - first + 1 = omega (arith, y.from) in rw m (omega (arith, y.at, mul-add per (number - first) 1));
      from = omega (arith, y.from);
      left = ⊎_elim
          (λ (k : per ≤ c). let q : i + length a ≡ i + per = omega arith in rw (o, s, ea) (rw q at t))
          (λ (k : c < per).
          let z : c - per ≡ 0 = omega arith in
          let n : table_in size per (suc number) (c - per) file ≡ [] = ap (λ (j : ℕ). table_in size per (suc number) j file) z ∙ table_none size per (suc number) file h in
          rw (o, s, n, ea) (rw n at t))
          (le_or_lt per c);
    }

pub filling_end : (size per first : ℕ) (file before words : List ℕ) (number i : ℕ) → 1 ≤ per → length before ≤ i → Filling size per first file before words number i
    → words ≡ table_in size per first (length before) file
filling_end size per first file before words number i h low y =
    let z : length before - i ≡ 0 = omega arith in
    let n : table_in size per number (length before - i) file ≡ [] = ap (λ (j : ℕ). table_in size per number j file) z ∙ table_none size per number file h in
    let t : List ℕ = table_in size per first (length before) file in
    let nt : length t ≡ length before = length_table_in size per first (length before) file h in
    let w : words ≡ sets before 0 t = rw n at y.left in
    w ∙ front t before (omega arith) ∙ ap (λ (l : List ℕ). t ++ l) (drop_of_length-le before {i = length t} (omega arith)) ∙ append-nil t

-- a table filled in front, and the words past it as they were
pub table_over : (size per first count : ℕ) (file lent part : List ℕ) (m : ℕ) → 1 ≤ per → m ≡ count → count ≤ length lent → part ≡ table_in size per first (length (take m lent)) file
    → part ++ drop m lent ≡ over (table_in size per first count file) lent
table_over size per first count file lent part m h em low e =
    let n : length (take m lent) ≡ count = ap (λ (i : ℕ). length (take i lent)) em ∙ length-take-le count lent low in
    let t : List ℕ = table_in size per first count file in
    let k : part ≡ t = e ∙ ap (λ (i : ℕ). table_in size per first i file) n in
    ap₂ (λ (x : List ℕ) (i : ℕ). x ++ drop i lent) k (em ∙ sym (length_table_in size per first count file h))
