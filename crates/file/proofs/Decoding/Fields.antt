-- The fields of a head read back from the bytes of a file. Assumes nothing.
use mathlib.Core.Path.{◌≡◌, refl, sym, ap, ap₂, ◌∙◌}
use mathlib.Core.Bool.{Bool, false, cond, ◌||◌}
use mathlib.Core.List.{List, [], ◌∷◌, ◌++◌, append_assoc}
use Prim.Native.Nat.{ℕ, zero, suc, ◌+◌, ◌-◌, ◌*◌, ◌%◌, ◌^◌, ◌≤◌, ◌<◌}
use native.Mathlib.Nat.{mod-eq_of_lt}
use native.Mathlib.Omega.{arith}
use borrow.Author.Tests.{leb-false, ne_eqb}
use lib.Dec.{eqb, leb, ltb}
use lib.ListN.{length, get_or, take, drop, replicate, length-append}
use lib.Seq.{get_or-append-add, drop_at}
use Rattle.lists.specs.Members.{All}
use Rattle.lists.proofs.Tests.{or_false}
use Rattle.vectors.specs.declared.Kind.{Kind}
use Rattle.vectors.specs.declared.Kind.TheVariants.{One, Two}
use Rattle.vectors.specs.Bounds.{max_variables}
use Rattle.vectors.specs.Variable.{faulty}
use Rattle.record.specs.declared.Record.{Record}
use Rattle.record.specs.Record.{mark_number, kinds_in}
use Rattle.record.proofs.MarkNumbers.{mark_low}
use Rattle.block.specs.declared.Opening.{Opening}
use Rattle.block.specs.Bytes.{little_of, value_of, number_at}
use Rattle.block.specs.Block.{opening_of, padded, check_of, short_word, long_word, short_words, long_words}
use Rattle.block.proofs.Laying.Words.{length_padded}
use Rattle.block.proofs.Reading.Numbers.{value_little}
use Rattle.block.proofs.Reading.Blocks.{body_of, unused, block_parts}
use Rattle.file.specs.Layout.{head_kind, h_kind, g_kind, aux_kind, n_at, p_at, n1_at, k_at, cells_at, tries_at, variables_at, mark_at}
use Rattle.file.specs.File.{opening, variables_bytes, head_payload, head_of, table_of, h_first, g_first, aux_first, file_with}
use Rattle.file.specs.Decode.{kind_of, kinds_from}
use Rattle.file.proofs.Laying.Heads.{length_variables, fields_of, mark_bytes, fields_are}

-- the bytes of a file up to the mark, and the rest
pub record Opens (u : Record) (file : List ℕ) : Type 0 where
  pub rest : List ℕ
  pub is : file ≡ opening_of (opening head_kind 0) ++ fields_of u ++ (padded (2 * max_variables) (variables_bytes (kinds_in u)) ++ (mark_bytes u ++ rest))

regroup : (o f w m x h g a : List ℕ) → o ++ (f ++ w ++ m ++ x) ++ h ++ g ++ a ≡ o ++ f ++ (w ++ (m ++ (x ++ (h ++ (g ++ a)))))
regroup o f w m x h g a = simp append_assoc

pub opens : (u : Record) (h g aux : List ℕ) → Opens u (file_with u h g aux)
unfolding file_with head_of
opens u h g aux =
    let o : Opening = opening head_kind 0 in
    let x : List ℕ = unused o (head_payload u) ++ check_of (body_of o (head_payload u)) in
    let p : List ℕ = table_of h_kind short_word short_words h_first h in
    let q : List ℕ = table_of g_kind short_word short_words (g_first u) g in
    let r : List ℕ = table_of aux_kind long_word long_words (aux_first u) aux in
    record {
      rest = _;
      is = ap (λ (l : List ℕ). l ++ p ++ q ++ r) (block_parts o (head_payload u) ∙ ap (λ (l : List ℕ). opening_of o ++ (l ++ x)) (fields_are u))
          ∙ regroup (opening_of o) (fields_of u) (padded (2 * max_variables) (variables_bytes (kinds_in u))) (mark_bytes u) x p q r;
    }

-- ---- the numbers

module _ (u : Record) (file : List ℕ) (o : Opens u file) where
  abbrev variables : List ℕ
  variables = padded (2 * max_variables) (variables_bytes (kinds_in u))

  field : (m at w : ℕ) → take m (drop at (opening_of (opening head_kind 0) ++ fields_of u ++ (variables ++ (mark_bytes u ++ o.rest)))) ≡ little_of m w → number_at m at file ≡ w % 256 ^ m
  unfolding number_at
  field m at w e = ap (number_at m at) o.is ∙ ap value_of e ∙ value_little m w

  pub n_read : number_at 1 n_at file ≡ u.n % 256
  unfolding opening_of little_of
  n_read = field 1 n_at u.n refl

  pub p_read : number_at 1 p_at file ≡ u.p % 256
  unfolding opening_of little_of
  p_read = field 1 p_at u.p refl

  pub n1_read : number_at 1 n1_at file ≡ u.n1 % 256
  unfolding opening_of little_of
  n1_read = field 1 n1_at u.n1 refl

  pub k_read : number_at 2 k_at file ≡ u.k % 2 ^ 16
  unfolding opening_of little_of
  k_read = field 2 k_at u.k refl

  pub cells_read : number_at 2 cells_at file ≡ u.cells % 2 ^ 16
  unfolding opening_of little_of
  cells_read = field 2 cells_at u.cells refl

  pub tries_read : number_at 4 tries_at file ≡ u.tries % 2 ^ 32
  unfolding opening_of little_of
  tries_read = field 4 tries_at u.tries refl

  -- behind all the variables
  pub mark_read : length (kinds_in u) ≤ max_variables → number_at 1 mark_at file ≡ mark_number u.mark
  unfolding opening_of little_of
  mark_read few =
      let f : List ℕ = opening_of (opening head_kind 0) ++ fields_of u in
      let n : length (f ++ variables) ≡ mark_at = length-append f variables ∙ omega (arith, length_padded (2 * max_variables) (variables_bytes (kinds_in u)) (omega (arith, length_variables (kinds_in u)))) in
      field 1 mark_at (mark_number u.mark) (ap (λ (l : List ℕ). take 1 (drop mark_at l)) (sym (append_assoc f variables (mark_bytes u ++ o.rest))) ∙ ap (take 1) (drop_at (f ++ variables) (mark_bytes u ++ o.rest) mark_at n))
      ∙ mod-eq_of_lt (omega (arith, mark_low u.mark))

-- ---- the variables

-- bytes in front shift the place
behind : (p at : ℕ) (a l : List ℕ) → kinds_from p (length a + at) (a ++ l) ≡ kinds_from p at l
unfolding kinds_from
behind zero at a l = refl
behind (suc p) at a l =
    let e : suc (length a + at) ≡ length a + suc at = omega arith in
    let f : suc (suc (length a + at)) ≡ length a + suc (suc at) = omega arith in
    let x : get_or (a ++ l) (length a + at) 0 ≡ get_or l at 0 = get_or-append-add a l at 0 in
    let y : get_or (a ++ l) (suc (length a + at)) 0 ≡ get_or l (suc at) 0 = rw e (get_or-append-add a l (suc at) 0) in
    let r : kinds_from p (suc (suc (length a + at))) (a ++ l) ≡ kinds_from p (suc (suc at)) l = rw f (behind p (suc (suc at)) a l) in
    ap₂ (λ (i j : ℕ). kind_of i j ∷ kinds_from p (suc (suc (length a + at))) (a ++ l)) x y ∙ ap (λ (ks : List Kind). kind_of (get_or l at 0) (get_or l (suc at) 0) ∷ ks) r

-- the second input of two is above the first, so its byte is not 0
pair_read : (n i j : ℕ) → faulty n (Two i j) ≡ false → kind_of i j ≡ Two i j
pair_read n i j h =
    let a : i < j = leb-false j i (or_false (eqb i 0) (leb j i) (or_false (eqb i 0 || leb j i) (ltb n j) h).0).1 in
    ap (λ (b : Bool). cond b (One i) (Two i j)) (ne_eqb j 0 (λ e. omega arith))

kinds_read : (n : ℕ) (ks : List Kind) (rest : List ℕ) → All (λ k. faulty n k ≡ false) ks → kinds_from (length ks) 0 (variables_bytes ks ++ rest) ≡ ks
unfolding kinds_from variables_bytes
kinds_read n [] rest a = refl
kinds_read n (One i ∷ ks) rest a =
    ap (λ (l : List Kind). One i ∷ l) (behind (length ks) 0 (i ∷ 0 ∷ []) (variables_bytes ks ++ rest) ∙ kinds_read n ks rest a.1)
kinds_read n (Two i j ∷ ks) rest a =
    ap₂ (λ (k : Kind) (l : List Kind). k ∷ l) (pair_read n i j a.0) (behind (length ks) 0 (i ∷ j ∷ []) (variables_bytes ks ++ rest) ∙ kinds_read n ks rest a.1)

pub variables_read : (u : Record) (file : List ℕ) → Opens u file → All (λ k. faulty u.n k ≡ false) (kinds_in u)
    → kinds_from (length (kinds_in u)) variables_at file ≡ kinds_in u
unfolding opening_of little_of
variables_read u file o a =
    let f : List ℕ = opening_of (opening head_kind 0) ++ fields_of u in
    let v : List ℕ = variables_bytes (kinds_in u) in
    let z : List ℕ = replicate (2 * max_variables - length v) 0 in
    ap (kinds_from (length (kinds_in u)) variables_at) o.is
    ∙ behind (length (kinds_in u)) 0 f (v ++ z ++ (mark_bytes u ++ o.rest))
    ∙ ap (kinds_from (length (kinds_in u)) 0) (append_assoc v z (mark_bytes u ++ o.rest))
    ∙ kinds_read u.n (kinds_in u) (z ++ (mark_bytes u ++ o.rest)) a
