-- A file is made of bytes. Assumes nothing.
use mathlib.Core.Path.{◌≡◌}
use mathlib.Core.Bool.{true, false}
use mathlib.Core.List.{List, [], ◌∷◌, ◌++◌}
use Prim.Native.Nat.{ℕ, zero, suc, ◌+◌, ◌-◌, ◌*◌, ◌%◌, ◌≤◌, ◌<◌}
use native.Mathlib.Omega.{arith}
use lib.ListN.{length, take, drop, replicate}
use Rattle.lists.specs.Members.{All}
use Rattle.lists.proofs.Entries.Joined.{all_append}
use Rattle.vectors.specs.declared.Kind.{Kind}
use Rattle.vectors.specs.declared.Kind.TheVariants.{One, Two}
use Rattle.vectors.specs.Bounds.{max_inputs, max_variables}
use Rattle.vectors.specs.Variable.{faulty}
use Rattle.vectors.proofs.Variables.Faults.{right_one, right_two}
use Rattle.record.specs.declared.Record.{Record}
use Rattle.record.specs.Record.{mark_number, kinds_in}
use Rattle.record.specs.Tables.{Tables}
use Rattle.record.specs.Formed.{sound}
use Rattle.record.proofs.Formed.{well_formed_facts}
use Rattle.record.proofs.Soundness.{sound_says}
use Rattle.block.specs.Bytes.{little_of, words_of}
use Rattle.block.specs.Block.{check_at, modulus, sum_of, weigh, opening_of, padded, check_of, block_of, short_word, long_word, short_words, long_words}
use Rattle.block.proofs.Reading.Numbers.{Bytes, little_bytes}
use Rattle.file.specs.Layout.{head_kind, h_kind, g_kind, aux_kind, letters}
use Rattle.file.specs.File.{opening, variable_bytes, variables_bytes, head_payload, head_of, blocks_for, stack, table_block, table_of, rows_in, words_in, h_first, g_first, aux_first, file_with, file_of}

join : (a b : List ℕ) → Bytes a → Bytes b → Bytes (a ++ b)
join a b = all_append (λ (x : ℕ). x < 256) a b

zero_bytes : (m : ℕ) → Bytes (replicate m 0)
zero_bytes zero = tt
zero_bytes (suc m) = (omega arith, zero_bytes m)

pub padded_bytes : (size : ℕ) (b : List ℕ) → Bytes b → Bytes (padded size b)
padded_bytes size b h = join b (replicate (size - length b) 0) h (zero_bytes (size - length b))

pub check_bytes : (b : List ℕ) → Bytes (check_of b)
unfolding check_of
check_bytes b = join (little_of 2 (sum_of b % modulus)) (little_of 2 (weigh check_at b % modulus)) (little_bytes 2 _) (little_bytes 2 _)

words_bytes : (m : ℕ) (ws : List ℕ) → Bytes (words_of m ws)
unfolding words_of
words_bytes m [] = tt
words_bytes m (w ∷ ws) = join (little_of m w) (words_of m ws) (little_bytes m w) (words_bytes m ws)

block_bytes : (kind i : ℕ) (payload : List ℕ) → kind < 256 → Bytes payload → Bytes (block_of (opening kind i) payload)
unfolding block_of opening_of
block_bytes kind i payload k h =
    let o : List ℕ = opening_of (opening kind i) in
    let ho : Bytes o = (k, (omega arith, little_bytes 2 i)) in
    let b : List ℕ = padded check_at (o ++ payload) in
    join b (check_of b) (padded_bytes check_at (o ++ payload) (join o payload ho h)) (check_bytes b)

stack_bytes : (block : ℕ → List ℕ) → ((i : ℕ) → Bytes (block i)) → (m : ℕ) → Bytes (stack block m)
unfolding stack
stack_bytes block each zero = tt
stack_bytes block each (suc m) = join (stack block m) (block m) (stack_bytes block each m) (each m)

table_bytes : (kind size per first : ℕ) (words : List ℕ) → kind < 256 → Bytes (table_of kind size per first words)
unfolding table_of table_block
table_bytes kind size per first words k =
    stack_bytes (table_block kind size per first words) (λ i. block_bytes kind (first + i) (words_of size (take per (drop (per * i) words))) k (words_bytes size (take per (drop (per * i) words)))) (blocks_for per (length words))

-- the variables of a sound unit have positions up to n
variable_bytes_lem : (n : ℕ) → n ≤ max_inputs → (k : Kind) → faulty n k ≡ false → Bytes (variable_bytes k)
variable_bytes_lem n h (One i) f = let r = right_one n i f in (omega (arith, r), (omega arith, tt))
variable_bytes_lem n h (Two i j) f = let r = right_two n i j f in (omega (arith, r.0), (omega (arith, r.1), tt))

variables_bytes_lem : (n : ℕ) → n ≤ max_inputs → (ks : List Kind) → All (λ k. faulty n k ≡ false) ks → Bytes (variables_bytes ks)
unfolding variables_bytes
variables_bytes_lem n h [] f = tt
variables_bytes_lem n h (k ∷ ks) f = join (variable_bytes k) (variables_bytes ks) (variable_bytes_lem n h k f.0) (variables_bytes_lem n h ks f.1)

payload_bytes : (u : Record) → Bytes (variables_bytes (kinds_in u)) → Bytes (head_payload u)
unfolding head_payload
payload_bytes u h =
    let a : List ℕ = letters ++ little_of 1 u.n in
    let b : List ℕ = a ++ little_of 1 u.p in
    let c : List ℕ = b ++ little_of 1 u.n1 in
    let d : List ℕ = c ++ little_of 2 u.k in
    let e : List ℕ = d ++ little_of 2 u.cells in
    let f : List ℕ = e ++ little_of 4 u.tries in
    let ha : Bytes a = join letters (little_of 1 u.n) (omega arith, (omega arith, (omega arith, (omega arith, tt)))) (little_bytes 1 u.n) in
    let hb : Bytes b = join a (little_of 1 u.p) ha (little_bytes 1 u.p) in
    let hc : Bytes c = join b (little_of 1 u.n1) hb (little_bytes 1 u.n1) in
    let hd : Bytes d = join c (little_of 2 u.k) hc (little_bytes 2 u.k) in
    let he : Bytes e = join d (little_of 2 u.cells) hd (little_bytes 2 u.cells) in
    let hf : Bytes f = join e (little_of 4 u.tries) he (little_bytes 4 u.tries) in
    let w : List ℕ = padded (2 * max_variables) (variables_bytes (kinds_in u)) in
    join (f ++ w) (little_of 1 (mark_number u.mark)) (join f w hf (padded_bytes (2 * max_variables) (variables_bytes (kinds_in u)) h)) (little_bytes 1 (mark_number u.mark))

pub file_bytes : (u : Record) (t : Tables) → sound u t ≡ true → Bytes (file_of u t)
unfolding file_of file_with head_of
file_bytes u t h =
    let w = well_formed_facts u t (sound_says u t h).well_formed_lem in
    let a : List ℕ = head_of u in
    let p : List ℕ = table_of h_kind short_word short_words h_first (take (rows_in u) t.h) in
    let q : List ℕ = table_of g_kind short_word short_words (g_first u) (take u.cells t.g) in
    let r : List ℕ = table_of aux_kind long_word long_words (aux_first u) (take (words_in u) t.aux) in
    let ha : Bytes a = block_bytes head_kind 0 (head_payload u) (omega arith) (payload_bytes u (variables_bytes_lem u.n w.bounds.inputs (kinds_in u) w.inputs.right)) in
    let hp : Bytes p = table_bytes h_kind short_word short_words h_first (take (rows_in u) t.h) (omega arith) in
    let hq : Bytes q = table_bytes g_kind short_word short_words (g_first u) (take u.cells t.g) (omega arith) in
    let hr : Bytes r = table_bytes aux_kind long_word long_words (aux_first u) (take (words_in u) t.aux) (omega arith) in
    join (a ++ p ++ q) r (join (a ++ p) q (join a p ha hp) hq) hr
