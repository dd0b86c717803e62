-- Words of m bytes laid into an opened block, and the block sealed. Assumes nothing.
use mathlib.Core.Path.{◌≡◌, refl, sym, ap, ap₂, ◌∙◌}
use mathlib.Core.Bool.{true}
use mathlib.Core.List.{List, [], ◌∷◌, ◌++◌, append_assoc, append-nil}
use Prim.Native.Nat.{ℕ, zero, suc, ◌+◌, ◌-◌, ◌*◌, ◌/◌, ◌≤◌, ◌<◌, min}
use native.Mathlib.Nat.{mul-le-mul_left}
use native.Mathlib.Omega.{arith}
use lib.Dec.{eqb}
use lib.ListN.{length, get_or, take, drop, replicate, length-append, length-replicate, length-take, drop_of_length-le}
use lib.Seq.{sets, sets-eq, length-sets, length-take-le, take_at, take-append-add, drop-append-add}
use borrow.Author.Tests.{eq-eqb}
use Rattle.lists.proofs.Entries.Members.{take_more}
use Rattle.lists.proofs.Entries.Parts.{take_least}
use Rattle.lists.proofs.Writing.Over.{drop_replicate}
use Rattle.lists.proofs.Writing.Storing.{sets_append}
use Rattle.block.specs.declared.Opening.{Opening}
use Rattle.block.specs.Bytes.{little_of, words_of}
use Rattle.block.specs.Block.{block_size, payload_at, check_at, opening_of, padded, check_of, sealed, block_of, in_block}

pub length_little : (m w : ℕ) → length (little_of m w) ≡ m
unfolding little_of
length_little zero w = refl
length_little (suc m) w = ap suc (length_little m (w / 256))

pub length_words : (m : ℕ) (ws : List ℕ) → length (words_of m ws) ≡ m * length ws
unfolding words_of
length_words m [] = omega arith
length_words m (w ∷ ws) = length-append (little_of m w) (words_of m ws) ∙ omega (arith, length_little m w, length_words m ws)

words_append : (m : ℕ) (us vs : List ℕ) → words_of m (us ++ vs) ≡ words_of m us ++ words_of m vs
unfolding words_of
words_append m [] vs = refl
words_append m (u ∷ us) vs = ap (λ (l : List ℕ). little_of m u ++ l) (words_append m us vs) ∙ sym (append_assoc (little_of m u) (words_of m us) (words_of m vs))

words_one : (m w : ℕ) → words_of m (w ∷ []) ≡ little_of m w
unfolding words_of
words_one m w = append-nil (little_of m w)

pub length_opening : (o : Opening) → length (opening_of o) ≡ payload_at
unfolding opening_of little_of
length_opening o = refl

pub length_opened : (o : Opening) (base : List ℕ) → base ≡ opening_of o ++ replicate check_at 0 → length base ≡ block_size
length_opened o base e = ap length e ∙ length-append (opening_of o) (replicate check_at 0) ∙ omega (arith, length_opening o, length-replicate {A = ℕ} check_at 0)

-- the loop at word i of `last`: b is left of base
pub record Laying (m last : ℕ) (words base b : List ℕ) (i : ℕ) : Type 0 where
  pub within : i ≤ last
  pub long : length b ≡ block_size
  pub is : b ≡ sets base payload_at (words_of m (take i words))

pub laying_none : (m last : ℕ) (words base : List ℕ) → length base ≡ block_size → Laying m last words base base 0
unfolding words_of
laying_none m last words base n = record { within = omega arith; long = n; is = refl }

pub laying_more : (m last : ℕ) (words base b b' : List ℕ) (i : ℕ) → i < last → last ≤ length words → Laying m last words base b i
    → b' ≡ sets b (payload_at + m * i) (little_of m (get_or words i 0)) → Laying m last words base b' (i + 1)
laying_more m last words base b b' i h n y e =
    let w : ℕ = get_or words i 0 in
    let s : words_of m (take (i + 1) words) ≡ words_of m (take i words) ++ little_of m w =
    ap (words_of m) (take_more words i 0 (omega arith)) ∙ words_append m (take i words) (w ∷ []) ∙ ap (λ (l : List ℕ). words_of m (take i words) ++ l) (words_one m w) in
    let k : length (words_of m (take i words)) ≡ m * i = length_words m (take i words) ∙ ap (λ (j : ℕ). m * j) (length-take-le i words (omega arith)) in
    let t : sets base payload_at (words_of m (take (i + 1) words)) ≡ sets (sets base payload_at (words_of m (take i words))) (payload_at + length (words_of m (take i words))) (little_of m w) =
    ap (sets base payload_at) s ∙ sets_append (words_of m (take i words)) (little_of m w) base payload_at in
    record {
      within = omega arith;
      long = ap length e ∙ length-sets b (payload_at + m * i) (little_of m w) ∙ y.long;
      is = e ∙ rw (k, ← y.is) at (sym t);
    }

-- ---- what is laid behind an opening is padded with zeros

take_replicate : {A : Type 0} (i n : ℕ) (a : A) → i ≤ n → take i (replicate n a) ≡ replicate i a
take_replicate zero n a h = refl
take_replicate (suc i) zero a h = absurd (omega arith)
take_replicate {A} (suc i) (suc n) a h = ap (λ (l : List A). a ∷ l) (take_replicate i n a (omega arith))

pub laid : (o p : List ℕ) → length o ≡ payload_at → length p ≤ check_at - payload_at → take check_at (sets (o ++ replicate check_at 0) payload_at p) ≡ padded check_at (o ++ p)
laid o p e h =
    let base : List ℕ = o ++ replicate check_at 0 in
    let z : List ℕ = replicate (check_at - length p) 0 in
    let room : payload_at + length p ≤ length base = omega (arith, length-append o (replicate check_at 0), length-replicate {A = ℕ} check_at 0) in
    let d : drop (payload_at + length p) base ≡ z =
    ap (λ (i : ℕ). drop (i + length p) base) (sym e) ∙ drop-append-add o (replicate check_at 0) (length p) ∙ drop_replicate (length p) check_at 0 in
    let s : sets base payload_at p ≡ o ++ p ++ z =
    sets-eq p base payload_at room ∙ ap (λ (l : List ℕ). l ++ p ++ drop (payload_at + length p) base) (take_at o (replicate check_at 0) payload_at e) ∙ ap (λ (l : List ℕ). o ++ p ++ l) d in
    let n : length (o ++ p) ≡ payload_at + length p = length-append o p ∙ ap (λ (i : ℕ). i + length p) e in
    let c : check_at ≡ length (o ++ p) + (check_at - length (o ++ p)) = omega arith in
    ap (take check_at) s
    ∙ ap (λ (i : ℕ). take i ((o ++ p) ++ z)) c
    ∙ take-append-add (o ++ p) z (check_at - length (o ++ p))
    ∙ ap (λ (l : List ℕ). (o ++ p) ++ l) (take_replicate (check_at - length (o ++ p)) (check_at - length p) 0 (omega arith))

pub length_check : (b : List ℕ) → length (check_of b) ≡ 4
unfolding check_of little_of
length_check b = refl

pub length_padded : (size : ℕ) (b : List ℕ) → length b ≤ size → length (padded size b) ≡ size
length_padded size b h = length-append b (replicate (size - length b) 0) ∙ omega (arith, length-replicate {A = ℕ} (size - length b) 0)

pub length_block : (o : Opening) (payload : List ℕ) → length payload ≤ check_at - payload_at → length (block_of o payload) ≡ block_size
unfolding block_of
length_block o payload h =
    let b : List ℕ = padded check_at (opening_of o ++ payload) in
    let n : length b ≡ check_at = length_padded check_at (opening_of o ++ payload) (omega (arith, length-append (opening_of o) payload, length_opening o)) in
    length-append b (check_of b) ∙ omega (arith, n, length_check b)

-- ---- the check is written behind

pub sealed_by : (b : List ℕ) (x y : ℕ) → length b ≡ block_size → sets (sets b check_at (little_of 2 x)) (check_at + 2) (little_of 2 y) ≡ take check_at b ++ (little_of 2 x ++ little_of 2 y)
sealed_by b x y n =
    let k : length (little_of 2 x) ≡ 2 = length_little 2 x in
    let c : List ℕ = little_of 2 x ++ little_of 2 y in
    let m : length c ≡ 4 = length-append (little_of 2 x) (little_of 2 y) ∙ omega (arith, k, length_little 2 y) in
    ap (λ (i : ℕ). sets (sets b check_at (little_of 2 x)) (check_at + i) (little_of 2 y)) (sym k)
    ∙ sym (sets_append (little_of 2 x) (little_of 2 y) b check_at)
    ∙ sets-eq c b check_at (omega arith)
    ∙ ap (λ (l : List ℕ). take check_at b ++ c ++ l) (drop_of_length-le b {i = check_at + length c} (omega arith))
    ∙ append-nil (take check_at b ++ c)

-- ---- together

-- bytes over the front of a list, and more behind them
pub front : (a l : List ℕ) → length a ≤ length l → sets l 0 a ≡ a ++ drop (length a) l
front a l h = let z : 0 + length a ≡ length a = omega arith in rw z at (sets-eq a l 0 (omega arith))

pub behind : (a b l : List ℕ) (at : ℕ) → length a ≡ at → sets (sets l 0 a) at b ≡ sets l 0 (a ++ b)
behind a b l at e = let z : 0 + length a ≡ at = omega arith in sym (rw z at (sets_append a b l 0))

pub laying_end : (m per : ℕ) (o : Opening) (words entry base b b' r : List ℕ) (i last : ℕ) → m * per ≤ check_at - payload_at → length entry ≡ block_size → base ≡ sets entry 0 (opening_of o)
    → last ≡ min per (length words) → last ≤ i → Laying m last words base b i → b' ≡ sets b (payload_at + m * last) (replicate (check_at - (payload_at + m * last)) 0)
    → r ≡ sealed (take check_at b') → r ≡ in_block (block_of o (words_of m (take per words))) entry
unfolding block_of
laying_end m per o words entry base b b' r i last fit n e el h y eb q =
    let a : List ℕ = opening_of o in
    let w : List ℕ = words_of m (take per words) in
    let z : List ℕ = replicate (check_at - length (a ++ w)) 0 in
    let j : i ≡ last = omega (arith, y.within) in
    let t : take i words ≡ take per words = ap (λ (d : ℕ). take d words) (j ∙ el) ∙ take_least per words (length words) refl in
    let na : length a ≡ payload_at = length_opening o in
    let nw : length w ≡ m * last = length_words m (take per words) ∙ ap (λ (d : ℕ). m * d) (length-take per words ∙ sym el) in
    let naw : length (a ++ w) ≡ payload_at + m * last = length-append a w ∙ omega arith in
    let few : m * last ≤ m * per = mul-le-mul_left m (omega arith) in
    let s₁ : b ≡ sets entry 0 (a ++ w) =
    y.is ∙ ap₂ (λ (x : List ℕ) (v : List ℕ). sets x payload_at (words_of m v)) e t ∙ behind a w entry payload_at na in
    let s₂ : b' ≡ sets entry 0 (a ++ w ++ z) =
    eb ∙ ap₂ (λ (x : List ℕ) (k : ℕ). sets x k (replicate (check_at - k) 0)) s₁ (sym naw) ∙ behind (a ++ w) z entry (length (a ++ w)) refl in
    let nz : length (a ++ w ++ z) ≡ check_at = length-append (a ++ w) z ∙ omega (arith, length-replicate {A = ℕ} (check_at - length (a ++ w)) 0) in
    let s₃ : take check_at b' ≡ padded check_at (a ++ w) = ap (take check_at) (s₂ ∙ front (a ++ w ++ z) entry (omega arith)) ∙ take_at (a ++ w ++ z) _ check_at nz in
    let yes : eqb (length entry) block_size ≡ true = eq-eqb (length entry) block_size n in
    q ∙ ap sealed s₃ ∙ sym (rw (in_block, yes))
