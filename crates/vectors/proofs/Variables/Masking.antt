-- Masks stand for variables: the numbers that they make of a word, and the loops over them. Assumes nothing.
use Rattle.std.proofs.lemmas.List.{take_more}
use Rattle.std.proofs.Common.{◌≡◌, ℕ, suc, ◌+◌, ◌-◌, ◌*◌, ◌%◌, ◌^◌, ◌<◌, ◌≤◌, min, List, [], ◌∷◌, ◌++◌, map, length, get_or, take, set, replicate, sym, refl, ap, ◌∙◌, ap₂, lt_of_lt_of_le, mod-eq_of_lt, mul_assoc, pow-suc, arith, append-nil, append_assoc, length-take, length-take-le, take_at, pow_mono, pow-add}
use mathlib.Core.List.{map-append}
use lib.Count.{ones}
use lib.ListN.{length-map}
use lib.Seq.{take_all, set_at, append_snoc, take-append-le}
use Rattle.lists.specs.Members.{All}
use Rattle.lists.proofs.Entries.Members.{map_same, map_take}
use Rattle.lists.proofs.Entries.Parts.{take_least}
use Rattle.vectors.specs.declared.Kind.{Kind}
use Rattle.vectors.specs.declared.Variable.{Variable}
use Rattle.vectors.specs.Variable.{number_of, mask_of, kinds_of}
use Rattle.vectors.specs.Word.{pack_in, word_of}
use Rattle.vectors.proofs.Variables.Numbers.{value_word, kinds_length}
use Rattle.vectors.proofs.Words.Packing.{pack_lt_ones, pack_more}
use Rattle.vectors.proofs.Words.Laws.{sum_lt}
use Rattle.vectors.specs.Bounds.{max_inputs, max_variables, max_side}
use Rattle.vectors.specs.Masks.{masks_of, masks_in, value_by, number_by, word_by}

-- the masks of variables make the variables' number
pub number_masks : (ks : List Kind) (x : ℕ) → x < 2 ^ max_inputs → number_by (masks_of ks) x ≡ number_of ks x
unfolding number_by number_of
number_masks [] x h = refl
number_masks (k ∷ ks) x h = ap₂ (λ (a b : ℕ). a + 2 * b) (value_word max_inputs x k h) (number_masks ks x h)

pub numbers_masks : (ks : List Kind) (vs : List ℕ) → All (λ v. v < 2 ^ max_inputs) vs → map (number_by (masks_of ks)) vs ≡ map (number_of ks) vs
numbers_masks ks = map_same (number_by (masks_of ks)) (number_of ks) (λ v. v < 2 ^ max_inputs) (number_masks ks)

value_lt : (m x : ℕ) → value_by m x < 2
value_lt m x = omega arith

number_lt : (ms : List ℕ) (x : ℕ) → number_by ms x < 2 ^ length ms
unfolding number_by
number_lt [] x = omega arith
number_lt (m ∷ ms) x = rw (pow-suc 2 (length ms)) (omega (arith, number_lt ms x, value_lt m x))

-- ---- a number made from the last mask to the first: those of rest are still to come

pub record Numbering (ms : List ℕ) (x : ℕ) (rest : List ℕ) (r : ℕ) : Type 0 where
  pub passed : List ℕ
  pub whole : ms ≡ rest ++ passed
  pub number : r ≡ number_by passed x % 2 ^ max_inputs

pub numbering_none : (ms : List ℕ) (x : ℕ) → Numbering ms x ms 0
unfolding number_by
numbering_none ms x = record { passed = []; whole = sym (append-nil ms); number = refl }

-- the word that a number wraps to, with one mask more
pub numbering_more : {ms rest : List ℕ} {x r : ℕ} (rest' : List ℕ) (m v : ℕ) → rest ≡ rest' ++ (m ∷ []) → v ≡ value_by m x → Numbering ms x rest r
    → Numbering ms x rest' (r * 2 % 2 ^ max_inputs + v)
unfolding number_by
numbering_more {x = x} {r = r} rest' m v e f n =
    record {
      passed = m ∷ n.passed;
      whole = n.whole ∙ ap (λ (t : List ℕ). t ++ n.passed) e ∙ append_assoc rest' (m ∷ []) n.passed;
      number = shifted r v (number_by n.passed x) n.number (omega (arith, value_lt m x)) ∙ ap (λ (b : ℕ). (b + 2 * number_by n.passed x) % 2 ^ max_inputs) f;
    }
  where
    shifted : (r v m : ℕ) → r ≡ m % 2 ^ max_inputs → v < 2 → r * 2 % 2 ^ max_inputs + v ≡ (v + 2 * m) % 2 ^ max_inputs
    shifted r v m e h = omega arith

-- as many masks as a word has bits make a number that fits
pub number_fits : (ms : List ℕ) (x : ℕ) → length ms ≤ max_inputs → number_by ms x % 2 ^ max_inputs ≡ number_by ms x
number_fits ms x h = mod-eq_of_lt (lt_of_lt_of_le (number_lt ms x) (pow_mono {i = length ms} {j = max_inputs} h))

pub number_side : (ms : List ℕ) (x : ℕ) → length ms ≤ max_side → number_by ms x < 2 ^ max_side
number_side ms x h = lt_of_lt_of_le (number_lt ms x) (pow_mono {i = length ms} {j = max_side} h)

-- ---- the masks of the first i variables

pub masks_length : (ks : List Kind) → length (masks_of ks) ≡ length ks
masks_length ks = length-map ks (λ (k : Kind). mask_of k % 2 ^ max_inputs)

pub masking_more : (vs : List Variable) (m : List ℕ) (i v : ℕ) (d : Variable) → length vs ≤ max_variables → i < length vs
    → v ≡ mask_of (get_or vs i d).kind % 2 ^ max_inputs → m ≡ masks_in i vs → set m i v ≡ masks_in (i + 1) vs
masking_more vs m i v d n h e s =
    let old : List ℕ = masks_of (kinds_of (take i vs)) in
    let l : length old ≡ i = masks_length (kinds_of (take i vs)) ∙ kinds_length vs i (omega arith) in
    let z : max_variables - i ≡ suc (max_variables - (i + 1)) = omega arith in
    let k : masks_of (kinds_of (take (i + 1) vs)) ≡ old ++ (v ∷ []) =
    ap (λ (t : List Variable). masks_of (kinds_of t)) (take_more vs i d h)
    ∙ ap masks_of (map-append (λ (u : Variable). u.kind) (take i vs) (get_or vs i d ∷ []))
    ∙ map-append (λ (u : Kind). mask_of u % 2 ^ max_inputs) (kinds_of (take i vs)) ((get_or vs i d).kind ∷ [])
    ∙ ap (λ (w : ℕ). old ++ (w ∷ [])) (sym e) in
    ap (λ (t : List ℕ). set t i v) (s ∙ ap (λ (r : ℕ). old ++ replicate r 0) z)
    ∙ set_at old 0 (replicate (max_variables - (i + 1)) 0) v i l
    ∙ sym (ap (λ (t : List ℕ). t ++ replicate (max_variables - (i + 1)) 0) k ∙ append_snoc old v (replicate (max_variables - (i + 1)) 0))

-- those of as many as are asked for, but no more than there are
pub masking_end : (vs : List Variable) (p q i : ℕ) → length vs ≡ max_variables → q ≡ min p max_variables → i ≡ length (take q vs) → masks_in i (take q vs) ≡ masks_in p vs
masking_end vs p q i n e f =
    let d : max_variables - i ≡ max_variables - p = omega (arith, length-take q vs) in
    let t : take q vs ≡ take p vs = rw e (take_least p vs max_variables n) in
    ap₂ (λ (t : List Variable) (r : ℕ). masks_of (kinds_of t) ++ replicate r 0) (take_all i (take q vs) (omega arith) ∙ t) d

-- the masks of the first n1 of p variables, and those from n1 on
pub masks_first : (vs : List Variable) (p n1 : ℕ) → p ≤ length vs → n1 ≤ p → take n1 (masks_in p vs) ≡ masks_of (take n1 (kinds_of (take p vs)))
masks_first vs p n1 h l =
    let ks : List Kind = kinds_of (take p vs) in
    let k : length (masks_of ks) ≡ p = masks_length ks ∙ kinds_length vs p h in
    take-append-le n1 (masks_of ks) (replicate (max_variables - p) 0) (omega arith) ∙ sym (map_take (λ (u : Kind). mask_of u % 2 ^ max_inputs) n1 ks)

pub masks_all : (vs : List Variable) (p : ℕ) → p ≤ length vs → take p (masks_in p vs) ≡ masks_of (kinds_of (take p vs))
masks_all vs p h =
    let ks : List Kind = kinds_of (take p vs) in
    take_at (masks_of ks) (replicate (max_variables - p) 0) p (masks_length ks ∙ kinds_length vs p h)

-- ---- the comparison word

-- with as many row variables as a word has bits there is no room for the kept inputs
pub word_full : (ms : List ℕ) (kept x a : ℕ) → max_inputs ≤ length ms → a ≡ number_by ms x % 2 ^ max_inputs → a ≡ word_by ms kept x % 2 ^ max_inputs
word_full ms kept x a h e =
    let d : max_inputs + (length ms - max_inputs) ≡ length ms = omega arith in
    let p : 2 ^ length ms * pack_in max_inputs kept x ≡ 2 ^ max_inputs * (2 ^ (length ms - max_inputs) * pack_in max_inputs kept x) =
    ap (λ (v : ℕ). 2 ^ v * pack_in max_inputs kept x) (sym d)
    ∙ ap (λ (v : ℕ). v * pack_in max_inputs kept x) (pow-add 2 max_inputs (length ms - max_inputs))
    ∙ mul_assoc (2 ^ max_inputs) (2 ^ (length ms - max_inputs)) (pack_in max_inputs kept x) in
    e ∙ rounds (number_by ms x) (2 ^ (length ms - max_inputs) * pack_in max_inputs kept x) _ p
  where
    rounds : (m q v : ℕ) → v ≡ 2 ^ max_inputs * q → m % 2 ^ max_inputs ≡ (m + v) % 2 ^ max_inputs
    rounds m q v e = omega arith

-- a word with room for all kept inputs fits
pub word_fits : (ms : List ℕ) (kept x : ℕ) → kept < 2 ^ max_inputs → length ms + ones kept ≤ max_inputs → word_by ms kept x % 2 ^ max_inputs ≡ word_by ms kept x
word_fits ms kept x h l =
    mod-eq_of_lt
    (lt_of_lt_of_le (sum_lt (length ms) (ones kept) _ _ (number_lt ms x) (pack_lt_ones max_inputs kept x h)) (pow_mono {i = length ms + ones kept} {j = max_inputs} l))

-- with the row variables' masks it is the comparison word of the unit
pub word_masks : (n n1 : ℕ) (ks : List Kind) (kept x : ℕ) → n ≤ max_inputs → n1 ≤ length ks → kept < 2 ^ n → x < 2 ^ max_inputs
    → word_by (masks_of (take n1 ks)) kept x ≡ word_of n n1 ks kept x
unfolding word_of
word_masks n n1 ks kept x h l m b =
    let e : n + (max_inputs - n) ≡ max_inputs = omega arith in
    let f : length (masks_of (take n1 ks)) ≡ n1 = masks_length (take n1 ks) ∙ length-take-le n1 ks l in
    let p : pack_in max_inputs kept x ≡ pack_in n kept x = ap (λ (d : ℕ). pack_in d kept x) (sym e) ∙ pack_more n (max_inputs - n) kept x m in
    ap₂ (λ (u v : ℕ). u + v * pack_in max_inputs kept x) (number_masks (take n1 ks) x b) (ap (λ (d : ℕ). 2 ^ d) f)
    ∙ ap (λ (u : ℕ). number_of (take n1 ks) x + 2 ^ n1 * u) p
