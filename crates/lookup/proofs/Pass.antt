-- The number that a run of a record's variables makes of a vector, from the last to the first, none of them faulty, and the row and the column in it. Assumes nothing.
use Prim.Native.Nat.{ℕ, suc, ◌+◌, ◌-◌, ◌*◌, ◌/◌, ◌%◌, ◌^◌, ◌≤◌, ◌<◌}
use native.Mathlib.Omega.{arith}
use native.Mathlib.Nat.{mul_comm, lt_of_lt_of_le}
use mathlib.Core.Path.{◌≡◌, sym, ap, ap₂, subst, ◌∙◌}
use mathlib.Core.Bool.{true, false, true≢false}
use mathlib.Core.List.{List}
use lib.ListN.{length, get_or, take, length-map}
use lib.Pow.{pow_mono, low, high}
use lib.Seq.{slice, slice-cons, slice_empty}
use Rattle.lists.specs.Members.{All}
use Rattle.lists.proofs.Entries.Members.{all_in, get_d_in, get_d_map, map_take}
use Rattle.lists.proofs.Finding.NonePass.{none_all, all_none}
use Rattle.vectors.specs.declared.Kind.{Kind}
use Rattle.vectors.specs.declared.Kind.TheVariants.{One}
use Rattle.vectors.specs.declared.Variable.{Variable}
use Rattle.vectors.specs.Variable.{value_of, faulty, number_of, row_of, column_of, mask_of, kinds_of, first_faulty}
use Rattle.vectors.proofs.Variables.Numbers.{value_word, number_none, number_step, number_slice_lt, number_split, row_lt, column_lt, kinds_at, kinds_length}
use Rattle.vectors.specs.Bounds.{max_inputs, max_variables}
use Rattle.vectors.specs.Masks.{value_by}

module _ (vs : List Variable) (to x : ℕ) (h : to ≤ length vs) where
  within : to ≤ length (kinds_of vs)
  within = rw (length-map vs (λ v. v.kind)) h

  pub values_none : 0 ≡ number_of (slice to to (kinds_of vs)) x
  values_none = number_none (kinds_of vs) to x within

  -- the variable before those that were taken
  pub values_turn : (i r m v : ℕ) (d : Variable) → x < 2 ^ max_inputs → 0 < i → i ≤ to → r ≡ number_of (slice i to (kinds_of vs)) x
      → m ≡ mask_of (get_or vs (i - 1) d).kind % 2 ^ max_inputs → v ≡ value_by m x → r * 2 + v ≡ number_of (slice (i - 1) to (kinds_of vs)) x
  values_turn i r m v d b p l e f g =
      let s : suc (i - 1) ≡ i = omega arith in
      let k : get_or (kinds_of vs) (i - 1) (One 0) ≡ (get_or vs (i - 1) d).kind = get_d_map (λ v. v.kind) vs (i - 1) d (One 0) (omega arith) in
      let w : v ≡ value_of x (get_or (kinds_of vs) (i - 1) (One 0)) =
      g ∙ ap (λ (n : ℕ). value_by n x) f ∙ value_word max_inputs x (get_or vs (i - 1) d).kind b ∙ ap (value_of x) (sym k) in
      let q : r ≡ number_of (slice (suc (i - 1)) to (kinds_of vs)) x = e ∙ ap (λ (j : ℕ). number_of (slice j to (kinds_of vs)) x) (sym s) in
      ap₂ (λ (a c : ℕ). a * 2 + c) q w ∙ number_step (kinds_of vs) to x within (One 0) (i - 1) (omega arith)

  pub values_lt : (i : ℕ) → number_of (slice i to (kinds_of vs)) x < 2 ^ (to - i)
  values_lt i = number_slice_lt (kinds_of vs) to x within i

  pub values_low : (i : ℕ) → to ≤ max_variables → number_of (slice i to (kinds_of vs)) x < 2 ^ max_variables
  values_low i l = lt_of_lt_of_le (values_lt i) (pow_mono {i = to - i} {j = max_variables} (omega arith))

-- none of a run of variables is faulty
abbrev Right : ℕ → List Kind → Type 0
Right n ks = All (λ k. faulty n k ≡ false) ks

module _ (n : ℕ) (vs : List Variable) (p : ℕ) (h : p ≤ length vs) where
  pub right_none : Right n (slice p p (kinds_of vs))
  right_none = rw slice_empty tt

  -- the variable before those that were tested
  pub right_turn : (i : ℕ) (d : Variable) → 0 < i → i ≤ p → faulty n (get_or vs (i - 1) d).kind ≡ false → Right n (slice i p (kinds_of vs))
      → Right n (slice (i - 1) p (kinds_of vs))
  right_turn i d g l f a =
      let s : suc (i - 1) ≡ i = omega arith in
      let k : get_or (kinds_of vs) (i - 1) (One 0) ≡ (get_or vs (i - 1) d).kind = get_d_map (λ v. v.kind) vs (i - 1) d (One 0) (omega arith) in
      rw (slice-cons (i - 1) p (kinds_of vs) (One 0) (omega arith) (rw (length-map vs (λ v. v.kind)) h))
      (ap (faulty n) k ∙ f, subst (λ (j : ℕ). Right n (slice j p (kinds_of vs))) (sym s) a)

  -- a faulty one is found
  pub fault_here : (i : ℕ) (d : Variable) → i < p → faulty n (get_or vs i d).kind ≡ true → first_faulty n (kinds_of (take p vs)) ≡ 0 → ⊥
  fault_here i d l f =
      let ks = kinds_of (take p vs) in
      let e : faulty n (get_or ks i (One 0)) ≡ true = ap (faulty n) (kinds_at vs p i d (One 0) l (omega arith)) ∙ f in
      λ z.
      true≢false (sym e ∙ all_in (λ k. faulty n k ≡ false) (get_or ks i (One 0)) ks (none_all (faulty n) ks z) (get_d_in ks i (One 0) (omega (arith, kinds_length vs p h))))

  -- or none is
  pub fault_none : Right n (slice 0 p (kinds_of vs)) → first_faulty n (kinds_of (take p vs)) ≡ 0
  fault_none a = all_none (faulty n) (kinds_of (take p vs)) (rw (map_take (λ (v : Variable). v.kind) p vs) a)

pub values_all : (vs : List Variable) (p x : ℕ) → number_of (slice 0 p (kinds_of vs)) x ≡ number_of (kinds_of (take p vs)) x
values_all vs p x = ap (λ (l : List Kind). number_of l x) (sym (map_take (λ (v : Variable). v.kind) p vs))

-- the low n1 bits of the values are the row, and those above them the column
module _ (vs : List Variable) (p n1 x : ℕ) (h : p ≤ length vs) (l : n1 ≤ p) where
  abbrev ks : List Kind
  ks = kinds_of (take p vs)

  split : number_of ks x ≡ column_of n1 ks x * 2 ^ n1 + row_of n1 ks x
  split = number_split ks n1 x (omega (arith, kinds_length vs p h)) ∙ omega (arith, mul_comm (2 ^ n1) (column_of n1 ks x))

  pub row_below : row_of n1 ks x < 2 ^ n1
  row_below = row_lt n1 ks x (omega (arith, kinds_length vs p h))

  pub values_row : number_of ks x % 2 ^ n1 ≡ row_of n1 ks x
  values_row = ap (λ (v : ℕ). v % 2 ^ n1) split ∙ low (column_of n1 ks x) n1 row_below

  pub values_column : number_of ks x / 2 ^ n1 ≡ column_of n1 ks x
  values_column = ap (λ (v : ℕ). v / 2 ^ n1) split ∙ high (column_of n1 ks x) n1 row_below

  pub column_below : column_of n1 ks x < 2 ^ (p - n1)
  column_below = rw (kinds_length vs p h) at (column_lt n1 ks x)

  -- of the values as a number: the row and the column that the code takes from it
  pub record Parted (row column : ℕ) : Type 0 where
    pub row_is : row ≡ row_of n1 (kinds_of (take p vs)) x
    pub row_low : row < 2 ^ n1
    pub column_is : column ≡ column_of n1 (kinds_of (take p vs)) x
    pub column_low : column < 2 ^ (p - n1)

  pub parted : (values row : ℕ) → values ≡ number_of ks x → row ≡ values % 2 ^ n1 → Parted row (values / 2 ^ n1)
  parted values row e f =
      let r = f ∙ ap (λ (v : ℕ). v % 2 ^ n1) e ∙ values_row in
      let c = ap (λ (v : ℕ). v / 2 ^ n1) e ∙ values_column in
      record { row_is = r; row_low = rw r row_below; column_is = c; column_low = rw c column_below }
