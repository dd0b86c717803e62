-- An accepted unit is carried by its record: read back, it is the unit that was built. Assumes nothing.
use Prim.Native.Nat.{ℕ, zero, suc, ◌+◌, ◌-◌, ◌*◌, ◌/◌, ◌%◌, ◌^◌, ◌≤◌, ◌<◌}
use native.Mathlib.Omega.{arith}
use mathlib.Core.Path.{◌≡◌, refl, sym, ap, ap₂, ◌∙◌}
use mathlib.Core.Bool.{true, false, ◌||◌, ◌&&◌}
use mathlib.Core.List.{List, [], ◌∷◌, ◌++◌, map}
use borrow.Author.Tests.{ltb-false, leb-false, lt-ltb}
use lib.Dec.{eqb, leb, ltb}
use lib.ListN.{length, get_or, take, drop, replicate, length-map, length-append, length-take, length-drop, length-replicate}
use lib.Seq.{take-append-le, take_all, get_or-append-add}
use mir.Facts.{to_z-of_z}
use mir.Syntax.{w64}
use mir.Val.{SFits}
use Rattle.lists.proofs.Entries.Joined.{all_append}
use Rattle.lists.proofs.Entries.Alls.{all_take, all_drop, all_map}
use Rattle.lists.specs.Members.{All}
use Rattle.lists.proofs.Entries.Members.{all_map as all_weaken}
use Rattle.lists.proofs.Tests.{or_false}
use Rattle.vectors.specs.declared.Kind.{Kind}
use Rattle.vectors.specs.declared.Kind.TheVariants.{One, Two}
use Rattle.vectors.specs.declared.Part.{Part}
use Rattle.vectors.specs.declared.Part.TheVariants.{Row, Column}
use Rattle.vectors.specs.declared.Variable.{Variable}
use Rattle.vectors.specs.Variable.{faulty, blank_variable}
use Rattle.vectors.specs.Bounds.{max_inputs, max_vectors, max_variables}
use Rattle.record.specs.declared.Mark.{Mark}
use Rattle.record.specs.declared.Record.{Record}
use Rattle.record.specs.Record.{mark_number, mark_of, variables_of, record_of}
use Rattle.record.proofs.Excesses.{excess_fits}
use Rattle.record.proofs.MarkNumbers.{mark_back}
use Rattle.flat.specs.Flat.{kind_word, part_word, variable_word, kind_at, part_at, low_variable, low_variables, variable_words, all_in_range, mark_place, spare_words, flat_of, unit_seen}
use Rattle.flat.proofs.Records.{unit_read, unit_seen_lem}
use Rattle.flat.proofs.Ranges.{kind_one, kind_two, part_row, part_column, low_bits, low_all}

-- ---- a variable

-- its word is in range, and read back it is the variable
abbrev Carries : Variable → Type 0
Carries v = (variable_word v < 2 ^ 17) × (low_variable (variable_word v) ≡ v)

abbrev made : Kind → Part → Variable
made k p = record { kind = k; part = p }

part_word_lt : (p : Part) → part_word p < 2
part_word_lt Row = omega arith
part_word_lt Column = omega arith

part_back : (p : Part) (w : ℕ) → w ≡ part_word p → part_at w ≡ p
part_back Row w e = sym (part_row w e)
part_back Column w e = sym (part_column w (λ z. omega arith))

read_back : (k : Kind) (p : Part) → kind_word k < 65536 → (let w = variable_word (made k p) in kind_at (w % 256) (w / 256 % 256) ≡ k) → Carries (made k p)
read_back k p h e =
    let w : ℕ = variable_word (made k p) in
    (omega (arith, part_word_lt p), sym (low_bits w k p (sym e) (sym (part_back p (w / 65536 % 2) (omega (arith, part_word_lt p))))))

one_carried : (i : ℕ) (p : Part) → i ≤ max_inputs → Carries (made (One i) p)
one_carried i p h =
    let w : ℕ = variable_word (made (One i) p) in
    let a : w % 256 ≡ i = omega (arith, part_word_lt p) in
    let q : w / 256 ≡ 256 * part_word p = omega (arith, part_word_lt p) in
    let b : w / 256 % 256 ≡ 0 = rw q (omega arith) in
    read_back (One i) p (omega arith) (sym (kind_one (w % 256) (w / 256 % 256) b) ∙ ap One a)

two_carried : (i j : ℕ) (p : Part) → i ≤ max_inputs → 0 < j → j ≤ max_inputs → Carries (made (Two i j) p)
two_carried i j p h l g =
    let w : ℕ = variable_word (made (Two i j) p) in
    let a : w % 256 ≡ i = omega (arith, part_word_lt p) in
    let q : w / 256 ≡ j + 256 * part_word p = omega (arith, part_word_lt p) in
    let b : w / 256 % 256 ≡ j = rw q (omega arith) in
    read_back (Two i j) p (omega arith) (sym (kind_two (w % 256) (w / 256 % 256) (λ z. omega arith)) ∙ ap₂ Two a b)

right_carried : (n : ℕ) → n ≤ max_inputs → (p : Part) (k : Kind) → faulty n k ≡ false → Carries (made k p)
right_carried n h p (One i) f = one_carried i p (omega (arith, ltb-false n i (or_false (eqb i 0) (ltb n i) f).1))
right_carried n h p (Two i j) f =
    let a = or_false (eqb i 0 || leb j i) (ltb n j) f in
    let l = leb-false j i (or_false (eqb i 0) (leb j i) a.0).1 in
    let m = ltb-false n j a.1 in
    two_carried i j p (omega arith) (omega arith) (omega arith)

-- ---- the variables of a record

all_blank : (m : ℕ) → All Carries (replicate m blank_variable)
all_blank zero = tt
all_blank (suc m) = (one_carried 0 Row (omega arith), all_blank m)

variables_carried : (n n1 : ℕ) (ks : List Kind) → n ≤ max_inputs → All (λ k. faulty n k ≡ false) ks → All Carries (variables_of n1 ks)
variables_carried n n1 ks h right =
    all_append Carries (map (λ k. made k Row) (take n1 ks) ++ map (λ k. made k Column) (drop n1 ks)) (replicate (max_variables - length ks) blank_variable)
    (all_append Carries (map (λ k. made k Row) (take n1 ks)) (map (λ k. made k Column) (drop n1 ks)) (marked Row (take n1 ks) (all_take (λ k. faulty n k ≡ false) n1 ks right))
    (marked Column (drop n1 ks) (all_drop (λ k. faulty n k ≡ false) n1 ks right)))
    (all_blank (max_variables - length ks))
  where
    marked : (p : Part) (ls : List Kind) → All (λ k. faulty n k ≡ false) ls → All Carries (map (λ k. made k p) ls)
    marked p ls a = all_map Carries (λ k. made k p) ls (all_weaken (λ k. faulty n k ≡ false) (λ k. Carries (made k p)) (right_carried n h p) ls a)

variables_many : (n1 : ℕ) (ks : List Kind) → length ks ≤ max_variables → length (variables_of n1 ks) ≡ max_variables
variables_many n1 ks h =
    let a : List Variable = map (λ k. made k Row) (take n1 ks) in
    let b : List Variable = map (λ k. made k Column) (drop n1 ks) in
    let c : List Variable = replicate (max_variables - length ks) blank_variable in
    omega (arith, length-append (a ++ b) c, length-append a b, length-map (take n1 ks) (λ k. made k Row), length-map (drop n1 ks) (λ k. made k Column), length-take n1 ks, length-drop n1 ks, length-replicate (max_variables - length ks) blank_variable)

in_range : (vs : List Variable) → All Carries vs → all_in_range (map variable_word vs) ≡ true
unfolding all_in_range
in_range [] c = refl
in_range (v ∷ vs) c = ap₂ ◌&&◌ (lt-ltb (variable_word v) (2 ^ 17) c.0.0) (in_range vs c.1)

read_all : (vs : List Variable) → All Carries vs → map low_variable (map variable_word vs) ≡ vs
read_all [] c = refl
read_all (v ∷ vs) c = ap₂ ◌∷◌ c.0.1 (read_all vs c.1)

-- ---- a record

words_of : (u : Record) → length u.variables ≡ max_variables → variable_words (flat_of u) ≡ map variable_word u.variables
unfolding flat_of
words_of u e =
    let l : length (map variable_word u.variables) ≡ max_variables = length-map u.variables variable_word ∙ e in
    take-append-le max_variables (map variable_word u.variables) (mark_number u.mark ∷ replicate spare_words 0) (omega arith) ∙ take_all max_variables (map variable_word u.variables) (omega arith)

mark_of_lem : (u : Record) → length u.variables ≡ max_variables → mark_of (get_or (flat_of u) mark_place 0) ≡ u.mark
unfolding flat_of
mark_of_lem u e =
    let vs : List ℕ = map variable_word u.variables in
    let l : length vs + 0 ≡ max_variables = omega (arith, length-map u.variables variable_word) in
    ap mark_of (rw l at (get_or-append-add vs (mark_number u.mark ∷ replicate spare_words 0) 0 0)) ∙ mark_back u.mark

module _ (u : Record) (many : length u.variables ≡ max_variables) (fits : SFits w64 u.excess) (c : All Carries u.variables) where
  seen_back : unit_seen (flat_of u) ≡ u
  unfolding flat_of
  seen_back =
      let ws : List ℕ = map variable_word u.variables in
      let range : all_in_range (variable_words (flat_of u)) ≡ true = ap all_in_range (words_of u many) ∙ in_range u.variables c in
      let vs : low_variables (variable_words (flat_of u)) ≡ u.variables = ap low_variables (words_of u many) ∙ low_all ws (length-map u.variables variable_word ∙ many) ∙ read_all u.variables c in
      sym (unit_read (flat_of u) u.excess u.variables u.mark (sym (to_z-of_z fits)) (sym (mark_of_lem u many)) ∙ unit_seen_lem (flat_of u) u.variables (sym vs) range)

-- the record of a list, whose variables are right
pub carried : (mark : Mark) (n n1 k : ℕ) (ks : List Kind) (cells tries : ℕ) → n ≤ max_inputs → All (λ i. faulty n i ≡ false) ks → length ks ≤ max_variables → k ≤ max_vectors
    → unit_seen (flat_of (record_of mark n n1 k ks cells tries)) ≡ record_of mark n n1 k ks cells tries
unfolding record_of
carried mark n n1 k ks cells tries h right few l =
    seen_back (record_of mark n n1 k ks cells tries) (variables_many n1 ks few) (excess_fits (length ks) k (omega arith) (omega arith)) (variables_carried n n1 ks h right)
