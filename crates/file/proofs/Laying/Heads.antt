-- The variables laid into the head, and the head's fields together. Assumes nothing.
use mathlib.Core.Path.{◌≡◌, refl, sym, ap, ap₂, ◌∙◌}
use mathlib.Core.List.{List, [], ◌∷◌, ◌++◌, append-nil, append_assoc}
use Prim.Native.Nat.{ℕ, suc, ◌+◌, ◌-◌, ◌*◌, ◌/◌, ◌%◌, ◌≤◌, ◌<◌}
use native.Mathlib.Nat.{mod-eq_of_lt}
use native.Mathlib.Omega.{arith}
use lib.ListN.{length, get_or, take, drop, set, replicate, length-append, length-map, length-replicate, replicate-append-replicate, get_or-map}
use lib.Seq.{sets, length-sets, length-take-le, take_all, take-set-lt, set-append_seam}
use borrow.Rule.Slice.PartMut.{put_mid}
use Rattle.lists.proofs.Entries.Members.{take_more}
use Rattle.lists.proofs.Writing.Storing.{sets_append}
use Rattle.vectors.specs.declared.Kind.{Kind}
use Rattle.vectors.specs.declared.Kind.TheVariants.{One, Two}
use Rattle.vectors.specs.declared.Variable.{Variable}
use Rattle.vectors.specs.Bounds.{max_variables}
use Rattle.vectors.specs.Variable.{kinds_of}
use Rattle.record.specs.declared.Record.{Record}
use Rattle.record.specs.Record.{mark_number, kinds_in}
use Rattle.record.proofs.MarkNumbers.{mark_low}
use Rattle.block.specs.Bytes.{little_of}
use Rattle.block.specs.Block.{payload_at, check_at, opening_of, padded, sealed, block_of}
use Rattle.block.proofs.Laying.Putting.{part_set, number_set}
use Rattle.block.proofs.Laying.Words.{length_opening, length_padded, laid}
use Rattle.file.specs.Layout.{head_kind, letters_at, variables_at, mark_at}
use Rattle.file.specs.File.{opening, variable_bytes, variables_bytes, head_payload, head_of}

length_variable : (k : Kind) → length (variable_bytes k) ≡ 2
length_variable (One i) = refl
length_variable (Two i j) = refl

pub length_variables : (ks : List Kind) → length (variables_bytes ks) ≡ 2 * length ks
unfolding variables_bytes
length_variables [] = refl
length_variables (k ∷ ks) = length-append (variable_bytes k) (variables_bytes ks) ∙ omega (arith, length_variable k, length_variables ks)

variables_end : (ks : List Kind) (k : Kind) → variables_bytes (ks ++ (k ∷ [])) ≡ variables_bytes ks ++ variable_bytes k
unfolding variables_bytes
variables_end [] k = append-nil (variable_bytes k)
variables_end (j ∷ ks) k = ap (λ (l : List ℕ). variable_bytes j ++ l) (variables_end ks k) ∙ sym (append_assoc (variable_bytes j) (variables_bytes ks) (variable_bytes k))

-- bytes written behind those that were
pub laid_more : (base b bytes new : List ℕ) (at from k : ℕ) → from ≡ at + length bytes → length new ≡ k → from + k ≤ length base → b ≡ sets base at bytes → put_mid from k b new ≡ sets base at (bytes ++ new)
laid_more base b bytes new at from k f n room e =
    let l : length b ≡ length base = ap length e ∙ length-sets base at bytes in
    part_set b new from k n (omega arith) ∙ ap₂ (λ (x : List ℕ) (i : ℕ). sets x i new) e f ∙ sym (sets_append bytes new base at)

-- ---- the loop over the variables

-- at variable i: l is left of before
pub record Placing (ks : List Kind) (before l : List ℕ) (i : ℕ) : Type 0 where
  pub long : length l ≡ length before
  pub is : l ≡ sets before variables_at (variables_bytes (take i ks))

pub placing_none : (ks : List Kind) (before : List ℕ) → Placing ks before before 0
unfolding variables_bytes
placing_none ks before = record { long = refl; is = refl }

pub placing_more : (vs : List Variable) (before l bytes : List ℕ) (i : ℕ) (d : Variable) → i < length vs → variables_at + 2 * length vs ≤ length before → bytes ≡ variable_bytes (get_or vs i d).kind
    → Placing (kinds_of vs) before l i → Placing (kinds_of vs) before (put_mid (variables_at + 2 * i) 2 l bytes) (i + 1)
placing_more vs before l bytes i d h room e s =
    let ks : List Kind = kinds_of vs in
    let j : i < length ks = omega (arith, length-map vs (λ v. v.kind)) in
    let q : bytes ≡ variable_bytes (get_or ks i d.kind) = e ∙ ap variable_bytes (sym (get_or-map (λ (v : Variable). v.kind) vs i d)) in
    let v : List ℕ = variables_bytes (take i ks) in
    let n : variables_at + length v ≡ variables_at + 2 * i = omega (arith, length_variables (take i ks), length-take-le i ks (omega arith)) in
    let m : variables_bytes (take (i + 1) ks) ≡ v ++ bytes =
    ap variables_bytes (take_more ks i d.kind j) ∙ variables_end (take i ks) (get_or ks i d.kind) ∙ ap (λ (l : List ℕ). v ++ l) (sym q) in
    let b : put_mid (variables_at + 2 * i) 2 l bytes ≡ sets before variables_at (v ++ bytes) =
    laid_more before l v bytes variables_at (variables_at + 2 * i) 2 (sym n) (ap length q ∙ length_variable (get_or ks i d.kind)) (omega arith) s.is in
    record { long = ap length b ∙ length-sets before variables_at (v ++ bytes); is = b ∙ ap (sets before variables_at) (sym m) }

pub placing_end : (vs : List Variable) (before l : List ℕ) (i : ℕ) → length vs ≤ i → Placing (kinds_of vs) before l i → l ≡ sets before variables_at (variables_bytes (kinds_of vs))
placing_end vs before l i h s = s.is ∙ ap (λ (ks : List Kind). sets before variables_at (variables_bytes ks)) (take_all i (kinds_of vs) (omega (arith, length-map vs (λ v. v.kind))))

-- ---- the fields together

-- bytes 4 to 18
abbrev pub fields_of : Record → List ℕ
fields_of u =
    0x49 ∷ 0x47 ∷ 0x55 ∷ 0x31
    ∷ u.n % 256 ∷ u.p % 256 ∷ u.n1 % 256
    ∷ u.k % 256 ∷ u.k / 256 % 256
    ∷ u.cells % 256 ∷ u.cells / 256 % 256
    ∷ u.tries % 256 ∷ u.tries / 256 % 256 ∷ u.tries / 256 / 256 % 256 ∷ u.tries / 256 / 256 / 256 % 256
    ∷ []

-- byte 67
abbrev pub mark_bytes : Record → List ℕ
mark_bytes u = mark_number u.mark % 256 ∷ []

-- a field behind those before it
pub field_more : (base b bytes new : List ℕ) (from k number : ℕ) → from ≡ letters_at + length bytes → from + k ≤ length base → b ≡ sets base letters_at bytes
    → new ≡ little_of (length (take k (drop from b))) number → put_mid from k b new ≡ sets base letters_at (bytes ++ little_of k number)
field_more base b bytes new from k number f room e n =
    let l : length b ≡ length base = ap length e ∙ length-sets base letters_at bytes in
    number_set b new from k number n (omega arith) ∙ ap₂ (λ (x : List ℕ) (i : ℕ). sets x i (little_of k number)) e f ∙ sym (sets_append bytes (little_of k number) base letters_at)

pub fields_are : (u : Record) → head_payload u ≡ fields_of u ++ padded (2 * max_variables) (variables_bytes (kinds_in u)) ++ mark_bytes u
unfolding head_payload little_of
fields_are u = refl

-- zeros behind zeros
padded_twice : (size m : ℕ) (a b : List ℕ) → length a + m ≤ size → length b ≤ m → padded size (a ++ padded m b) ≡ padded size (a ++ b)
padded_twice size m a b h k =
    let z : List ℕ = replicate (m - length b) 0 in
    let n : length z ≡ m - length b = length-replicate (m - length b) 0 in
    let l : length (a ++ (b ++ z)) ≡ length a + m = length-append a (b ++ z) ∙ omega (arith, length-append b z) in
    let d : length (a ++ b) ≡ length a + length b = length-append a b in
    let c : m - length b + (size - length (a ++ (b ++ z))) ≡ size - length (a ++ b) = omega arith in
    ap (λ (x : List ℕ). x ++ replicate (size - length (a ++ (b ++ z))) 0) (sym (append_assoc a b z))
    ∙ append_assoc (a ++ b) z (replicate (size - length (a ++ (b ++ z))) 0)
    ∙ ap (λ (x : List ℕ). a ++ b ++ x) (replicate-append-replicate (m - length b) (size - length (a ++ (b ++ z))) 0)
    ∙ ap (λ (i : ℕ). a ++ b ++ replicate i 0) c

-- a byte behind the others, in the place of the first zero
padded_set : (size : ℕ) (a : List ℕ) (v : ℕ) → length a < size → set (padded size a) (length a) v ≡ padded size (a ++ (v ∷ []))
padded_set size a v h =
    let n : length (a ++ (v ∷ [])) ≡ suc (length a) = length-append a (v ∷ []) ∙ omega arith in
    let d : size - length a ≡ suc (size - length (a ++ (v ∷ []))) = omega arith in
    ap (λ (i : ℕ). set (a ++ replicate i 0) (length a) v) d
    ∙ set-append_seam a 0 (replicate (size - length (a ++ (v ∷ []))) 0) v
    ∙ sym (append_assoc a (v ∷ []) (replicate (size - length (a ++ (v ∷ []))) 0))

pub head_is : (u : Record) (base b r : List ℕ) → length (kinds_in u) ≤ max_variables → base ≡ opening_of (opening head_kind 0) ++ replicate check_at 0
    → b ≡ sets (sets base letters_at (fields_of u)) variables_at (variables_bytes (kinds_in u)) → (m : ℕ) → m ≡ mark_number u.mark → r ≡ sealed (take check_at (set b mark_at m)) → r ≡ head_of u
unfolding head_of block_of
head_is u base b r few e eb m em q =
    let v : List ℕ = variables_bytes (kinds_in u) in
    let o : List ℕ = opening_of (opening head_kind 0) in
    let f : List ℕ = o ++ fields_of u in
    let w : List ℕ = padded (2 * max_variables) v in
    let no : length o ≡ payload_at = length_opening (opening head_kind 0) in
    let nf : length f ≡ variables_at = length-append o (fields_of u) ∙ ap (λ (i : ℕ). i + length (fields_of u)) no in
    let nv : length v ≡ 2 * length (kinds_in u) = length_variables (kinds_in u) in
    let nw : length (f ++ w) ≡ mark_at = length-append f w ∙ omega (arith, length_padded (2 * max_variables) v (omega arith)) in
    -- the fields and the variables, with zeros behind them
    let s : b ≡ sets (o ++ replicate check_at 0) payload_at (fields_of u ++ v) = eb ∙ sym (sets_append (fields_of u) v base letters_at) ∙ ap (λ (l : List ℕ). sets l payload_at (fields_of u ++ v)) e in
    let t : take check_at b ≡ padded check_at (f ++ w) =
    ap (take check_at) s ∙ laid o (fields_of u ++ v) no (omega (arith, length-append (fields_of u) v))
    ∙ ap (padded check_at) (sym (append_assoc o (fields_of u) v)) ∙ sym (padded_twice check_at (2 * max_variables) f v (omega arith) (omega arith)) in
    -- and the mark
    let k : take check_at (set b mark_at m) ≡ padded check_at (f ++ w ++ (m ∷ [])) =
    take-set-lt check_at b mark_at m (omega arith) ∙ ap₂ (λ (l : List ℕ) (i : ℕ). set l i m) t (sym nw) ∙ padded_set check_at (f ++ w) m (omega arith) in
    let low : m ≡ mark_number u.mark % 256 = em ∙ sym (mod-eq_of_lt (omega (arith, mark_low u.mark))) in
    let p : f ++ w ++ (m ∷ []) ≡ o ++ head_payload u =
    ap (λ (i : ℕ). f ++ w ++ (i ∷ [])) low ∙ ap (λ (l : List ℕ). l ++ mark_bytes u) (append_assoc o (fields_of u) w)
    ∙ append_assoc o (fields_of u ++ w) (mark_bytes u) ∙ ap (λ (l : List ℕ). o ++ l) (sym (fields_are u)) in
    q ∙ ap sealed (k ∙ ap (padded check_at) p)
