-- The images of single bits, made an input at a time. Assumes nothing.
use Prim.Native.Nat.{ℕ, suc, ◌+◌, ◌-◌, ◌*◌, ◌/◌, ◌%◌, ◌^◌, ◌≤◌, ◌<◌}
use native.Mathlib.Nat.{mod-lt, zero-lt-suc, zero-add, one-mul, mul_comm, mul_assoc, pow-suc}
use native.Mathlib.Omega.{arith}
use native.Mathlib.Numerals.{add-one}
use mathlib.Core.Path.{◌≡◌, refl, sym, ap, ap₂, ◌∙◌}
use mathlib.Core.Bool.{Bool, true, false}
use mathlib.Core.List.{List, [], ◌∷◌, ◌++◌, append_assoc, append-nil, map-append}
use borrow.Author.Tests.{eqb-true, eqb-false}
use lib.Bits.{bit_and, bit_xor, and_zero_r, xor_zero_l, xor_zero_r, xor_mod}
use lib.Count.{ones, ones_step}
use lib.Dec.{eqb}
use lib.ListN.{length, get_or, take, drop, set, replicate, get_or-replicate, length-set, length-map, length-append, length-drop}
use lib.Pow.{shl_exact}
use Rattle.std.proofs.lemmas.List.{drop-take}
use lib.Seq.{get_or-set_same, get_or-set_other, take-suc, take-take, length-take-le}
use Rattle.lists.proofs.Entries.Members.{map_drop, map_take}
use Rattle.vectors.specs.Bits.{bit, place_of}
use Rattle.vectors.specs.Bounds.{max_inputs}
use Rattle.vectors.specs.declared.Kind.TheVariants.{Two}
use Rattle.vectors.specs.declared.Variable.{Variable}
use Rattle.vectors.specs.Masks.{masks_of, value_by, number_by}
use Rattle.vectors.specs.Variable.{mask_of, kinds_of}
use Rattle.vectors.proofs.Bits.Laws.{odd_xor, bit_shl, place_in, half_lt}
use Rattle.vectors.proofs.Bits.Sets.{bit_other}
use Rattle.vectors.proofs.Variables.Masking.{masks_length}
use Rattle.record.specs.declared.Record.{Record}
use Rattle.record.specs.Record.{kinds_in}
use Rattle.record.specs.Inner.Formed.{InBounds}
use Rattle.many.specs.Inner.Images.{singles, image_masks, OnBits}
use Rattle.many.proofs.Linear.{digit_xor, sums_mod}
use Rattle.many.proofs.Masking.{number_append}
use Rattle.many.proofs.Singles.{value_single, singles_even, singles_odd, singles_zero}

-- a bit alone in a word
single_bit : (k : ℕ) → k < max_inputs → 1 * 2 ^ k % 2 ^ max_inputs ≡ 2 ^ k
single_bit k h = shl_exact 1 k max_inputs (omega arith) (omega arith) ∙ one-mul (2 ^ k)

-- ---- the last mask with another one added

value_mask : (m k x : ℕ) → value_by (bit_xor m k) x ≡ (value_by m x + value_by k x) % 2
value_mask m k x = odd_xor x m k ∙ sums_mod (ones (bit_and x m)) (ones (bit_and x k))

last_xor : (ms : List ℕ) (m k x : ℕ) → number_by (ms ++ (bit_xor m k ∷ [])) x ≡ bit_xor (number_by (ms ++ (m ∷ [])) x) (value_by k x * 2 ^ length ms)
unfolding number_by
last_xor [] m k x =
    let e : value_by k x * 2 ^ 0 ≡ value_by k x + 2 * 0 = omega arith in
    ap (λ (v : ℕ). v + 2 * 0) (value_mask m k x)
    ∙ sym (ap (bit_xor (value_by m x + 2 * 0)) e ∙ digit_xor (value_by m x) 0 (value_by k x) 0 (mod-lt _ (zero-lt-suc 1)) (mod-lt _ (zero-lt-suc 1)))
last_xor (a ∷ ms) m k x =
    let v = value_by k x in
    let q = length ms in
    let n = number_by (ms ++ (m ∷ [])) x in
    let e : v * 2 ^ suc q ≡ 0 + 2 * (v * 2 ^ q) = ap (λ (p : ℕ). v * p) (pow-suc 2 q) ∙ sym (mul_assoc v (2 ^ q) 2) ∙ mul_comm (v * 2 ^ q) 2 ∙ sym (zero-add _) in
    let d : (value_by a x + 0) % 2 ≡ value_by a x = same (ones (bit_and x a)) in
    ap (λ (y : ℕ). value_by a x + 2 * y) (last_xor ms m k x)
    ∙ sym (ap (bit_xor (value_by a x + 2 * n)) e ∙ digit_xor (value_by a x) n 0 (v * 2 ^ q) (mod-lt _ (zero-lt-suc 1)) (omega arith)
    ∙ ap (λ (y : ℕ). y + 2 * bit_xor n (v * 2 ^ q)) d)
  where
    same : (n : ℕ) → (n % 2 + 0) % 2 ≡ n % 2
    same n = omega arith

-- ---- a bit put at an input

value_own : (j : ℕ) → value_by (2 ^ j) (2 ^ j) ≡ 1
value_own j =
    let e : j + 0 ≡ j = omega arith in
    value_single j (2 ^ j) ∙ ap₂ bit (sym (one-mul (2 ^ j))) (sym e) ∙ bit_shl 1 j 0

value_other : (j b : ℕ) → (j ≡ b → ⊥) → value_by (2 ^ j) (2 ^ b) ≡ 0
value_other j b n = value_single j (2 ^ b) ∙ ap (λ (x : ℕ). bit x j) (sym (one-mul (2 ^ b))) ∙ bit_other b j n

module _ (ms : List ℕ) (m : ℕ) (l : List ℕ) (size : length l ≡ max_inputs) (s : OnBits max_inputs (number_by (ms ++ (m ∷ []))) l) where
  pub toggled : (j w : ℕ) → j < max_inputs → w ≡ 2 ^ length ms → OnBits max_inputs (number_by (ms ++ (bit_xor m (2 ^ j) ∷ []))) (set l j (bit_xor (get_or l j 0) w))
  toggled j w h e b g = go (eqb b j) refl
    where
      with_value : (v : ℕ) → value_by (2 ^ j) (2 ^ b) ≡ v → bit_xor (number_by (ms ++ (m ∷ [])) (2 ^ b)) (v * 2 ^ length ms) ≡ number_by (ms ++ (bit_xor m (2 ^ j) ∷ [])) (2 ^ b)
      with_value v q = sym (last_xor ms m (2 ^ j) (2 ^ b) ∙ ap (λ (y : ℕ). bit_xor (number_by (ms ++ (m ∷ [])) (2 ^ b)) (y * 2 ^ length ms)) q)

      go : (t : Bool) → eqb b j ≡ t → get_or (set l j (bit_xor (get_or l j 0) w)) b 0 ≡ number_by (ms ++ (bit_xor m (2 ^ j) ∷ [])) (2 ^ b)
      go true q =
          let r : b ≡ j = eqb-true b j q in
          ap (λ (i : ℕ). get_or (set l j (bit_xor (get_or l j 0) w)) i 0) r ∙ get_or-set_same l j _ 0 (omega arith)
          ∙ ap₂ bit_xor (ap (λ (i : ℕ). get_or l i 0) (sym r) ∙ s b g) (e ∙ sym (one-mul (2 ^ length ms)))
          ∙ with_value 1 (ap (λ (i : ℕ). value_by (2 ^ j) (2 ^ i)) r ∙ value_own j)
      go false q =
          let n : b ≡ j → ⊥ = eqb-false b j q in
          let z : 0 * 2 ^ length ms ≡ 0 = omega arith in
          let y = number_by (ms ++ (m ∷ [])) (2 ^ b) in
          get_or-set_other l j b _ 0 n ∙ s b g ∙ sym (ap (bit_xor y) z ∙ xor_zero_r y) ∙ with_value 0 (value_other j b (λ r. n (sym r)))

  -- by the number of an input
  pub toggled_input : (i w : ℕ) → (i ≡ 0 → ⊥) → i ≤ max_inputs → w ≡ 2 ^ length ms
      → OnBits max_inputs (number_by (ms ++ (bit_xor m (place_of i % 2 ^ max_inputs) ∷ []))) (set l (i - 1) (bit_xor (get_or l (i - 1) 0) w))
  toggled_input i w n h e = rw (place_in max_inputs i (omega arith) h) (toggled (i - 1) w (omega arith) e)

  -- an input that no word has
  pub toggled_none : (i : ℕ) → place_of i % 2 ^ max_inputs ≡ 0 → OnBits max_inputs (number_by (ms ++ (bit_xor m (place_of i % 2 ^ max_inputs) ∷ []))) l
  toggled_none i e = rw (e, xor_zero_r m) s

-- ---- one mask more

module _ (ms : List ℕ) (l : List ℕ) (s : OnBits max_inputs (number_by ms) l) where
  pub mask_none : OnBits max_inputs (number_by (ms ++ (0 ∷ []))) l
  unfolding number_by ones
  mask_none b h =
      s b h ∙ sym (number_append ms (0 ∷ []) (2 ^ b) ∙ ap (λ (v : ℕ). number_by ms (2 ^ b) + 2 ^ length ms * (ones v % 2 + 2 * 0)) (and_zero_r (2 ^ b)) ∙ none (number_by ms (2 ^ b)) (2 ^ length ms))
    where
      none : (a b : ℕ) → a + b * 0 ≡ a
      none a b = omega arith

  pub mask_single : length l ≡ max_inputs → (j w : ℕ) → j < max_inputs → w ≡ 2 ^ length ms → OnBits max_inputs (number_by (ms ++ (2 ^ j ∷ []))) (set l j (bit_xor (get_or l j 0) w))
  mask_single e j w h g = rw (xor_zero_l (2 ^ j)) at (toggled ms 0 l e mask_none j w h g)

-- the mask of one input, and of two, from no input on
pub one_mask : (ms : List ℕ) (i : ℕ) (l : List ℕ) → OnBits max_inputs (number_by (ms ++ (bit_xor 0 (place_of i % 2 ^ max_inputs) ∷ []))) l
    → OnBits max_inputs (number_by (ms ++ (place_of i % 2 ^ max_inputs ∷ []))) l
one_mask ms i l s = rw (xor_zero_l (place_of i % 2 ^ max_inputs)) at s

pub two_mask : (ms : List ℕ) (i j : ℕ) (l : List ℕ) → OnBits max_inputs (number_by (ms ++ (bit_xor (bit_xor 0 (place_of i % 2 ^ max_inputs)) (place_of j % 2 ^ max_inputs) ∷ []))) l
    → OnBits max_inputs (number_by (ms ++ (mask_of (Two i j) % 2 ^ max_inputs ∷ []))) l
two_mask ms i j l s =
    let e : bit_xor (bit_xor 0 (place_of i % 2 ^ max_inputs)) (place_of j % 2 ^ max_inputs) ≡ bit_xor (place_of i) (place_of j) % 2 ^ max_inputs =
    ap (λ (y : ℕ). bit_xor y (place_of j % 2 ^ max_inputs)) (xor_zero_l (place_of i % 2 ^ max_inputs)) ∙ sym (xor_mod (place_of i) (place_of j) max_inputs) in
    rw e at s

-- ---- the masks of the first variables of a list

abbrev pub marked : ℕ → List Variable → List ℕ
marked i vs = masks_of (kinds_of (take i vs))

module _ (vs : List Variable) where
  marked_length : (i : ℕ) → i ≤ length vs → length (marked i vs) ≡ i
  marked_length i h =
      masks_length (kinds_of (take i vs)) ∙ length-map (take i vs) (λ v. v.kind) ∙ length-take-le i vs h

  marked_more : (i : ℕ) (d : Variable) → i < length vs → marked (i + 1) vs ≡ marked i vs ++ (mask_of (get_or vs i d).kind % 2 ^ max_inputs ∷ [])
  marked_more i d h =
      ap (λ (n : ℕ). marked n vs) (add-one i) ∙ ap (λ l. masks_of (kinds_of l)) (take-suc vs i d h)
      ∙ ap masks_of (map-append (λ v. v.kind) (take i vs) (get_or vs i d ∷ []))
      ∙ map-append (λ k. mask_of k % 2 ^ max_inputs) (kinds_of (take i vs)) ((get_or vs i d).kind ∷ [])

  -- one variable more: new is left by what puts its bit at its inputs
  pub variable_more : (ms l new : List ℕ) (at i bit : ℕ) (d : Variable) → i < length vs → length ms ≡ at → at + i < max_inputs
      → bit ≡ 1 * 2 ^ (at + i) % 2 ^ max_inputs → OnBits max_inputs (number_by (ms ++ marked i vs)) l
      → ((ns : List ℕ) → bit ≡ 2 ^ length ns → OnBits max_inputs (number_by ns) l → OnBits max_inputs (number_by (ns ++ (mask_of (get_or vs i d).kind % 2 ^ max_inputs ∷ []))) new)
      → OnBits max_inputs (number_by (ms ++ marked (i + 1) vs)) new
  variable_more ms l new at i bit d h e low f s g =
      let n : length (ms ++ marked i vs) ≡ at + i = length-append ms (marked i vs) ∙ ap₂ (λ (a b : ℕ). a + b) e (marked_length i (omega arith)) in
      rw (marked_more i d h, ← append_assoc ms (marked i vs) (mask_of (get_or vs i d).kind % 2 ^ max_inputs ∷ []))
      (g (ms ++ marked i vs) (f ∙ single_bit (at + i) low ∙ ap (λ (a : ℕ). 2 ^ a) (sym n)) s)

-- ---- a loop that takes the kept inputs from the lowest on: rest is what is left of them, from place j on, and q masks are done

pub record Peeled (kept : ℕ) (l : List ℕ) (rest j q : ℕ) (ms : List ℕ) : Type 0 where
  pub done : List ℕ
  pub count : length done ≡ q
  pub holds : OnBits max_inputs (number_by done) l
  pub whole : done ++ singles (max_inputs - j) j rest ≡ ms ++ singles max_inputs 0 kept

pub record Peeling (bits kept at : ℕ) (old l : List ℕ) (rest j q : ℕ) : Type 0 where
  pub few : bits ≤ max_inputs
  pub low : j ≤ bits
  pub small : rest < 2 ^ (bits - j)
  pub size : length l ≡ max_inputs
  pub room : q + ones rest ≡ at + ones kept
  pub is : (ms : List ℕ) → length ms ≡ at → OnBits max_inputs (number_by ms) old → Peeled kept l rest j q ms

pub peel_none : (bits kept at : ℕ) (old : List ℕ) → bits ≤ max_inputs → kept < 2 ^ bits → length old ≡ max_inputs → Peeling bits kept at old old kept 0 at
peel_none bits kept at old f h e =
    let z : bits - 0 ≡ bits = omega arith in
    record { few = f; low = omega arith; small = rw z h; size = e; room = refl; is = λ ms n s. record { done = ms; count = n; holds = s; whole = refl } }

module _ (bits kept at : ℕ) (old l : List ℕ) (rest j q : ℕ) (s : Peeling bits kept at old l rest j q) where
  module _ (n : j < bits) where
    left : max_inputs - j ≡ suc (max_inputs - (j + 1))
    left = omega (arith, s.few)

    half : rest / 2 < 2 ^ (bits - (j + 1))
    half = let e : bits - j ≡ suc (bits - (j + 1)) = omega arith in half_lt (bits - (j + 1)) (rw e at s.small)

    next : (k : ℕ) → singles (max_inputs - (j + 1)) (suc j) k ≡ singles (max_inputs - (j + 1)) (j + 1) k
    next k = ap (λ (i : ℕ). singles (max_inputs - (j + 1)) i k) (sym (add-one j))

    pub peel_even : rest % 2 ≡ 0 → Peeling bits kept at old l (rest / 2) (j + 1) q
    peel_even e =
        let f : singles (max_inputs - j) j rest ≡ singles (max_inputs - (j + 1)) (j + 1) (rest / 2) =
        ap (λ (d : ℕ). singles d j rest) left ∙ singles_even (max_inputs - (j + 1)) j rest e ∙ next (rest / 2) in
        record {
          few = s.few;
          low = omega arith;
          small = half;
          size = s.size;
          room = ap (λ (k : ℕ). q + k) (sym (ones_step rest ∙ ap (λ (r : ℕ). r + ones (rest / 2)) e ∙ zero-add _)) ∙ s.room;
          is = λ ms k o.
              let p = s.is ms k o in
              record { done = p.done; count = p.count; holds = p.holds; whole = ap (λ (t : List ℕ). p.done ++ t) (sym f) ∙ p.whole };
        }

    pub peel_room : rest % 2 ≡ 1 → at + ones kept ≤ max_inputs → q < max_inputs
    peel_room e h = omega (arith, s.room, ones_step rest)

    pub peel_odd : (w : ℕ) → rest % 2 ≡ 1 → at + ones kept ≤ max_inputs → w ≡ 1 * 2 ^ q % 2 ^ max_inputs
        → Peeling bits kept at old (set l j (bit_xor (get_or l j 0) w)) (rest / 2) (j + 1) (q + 1)
    peel_odd w e h g =
        let f : singles (max_inputs - j) j rest ≡ 2 ^ j ∷ singles (max_inputs - (j + 1)) (j + 1) (rest / 2) =
        ap (λ (d : ℕ). singles d j rest) left ∙ singles_odd (max_inputs - (j + 1)) j rest e ∙ ap (λ (t : List ℕ). 2 ^ j ∷ t) (next (rest / 2)) in
        let b : w ≡ 2 ^ q = g ∙ single_bit q (peel_room e h) in
        record {
          few = s.few;
          low = omega arith;
          small = half;
          size = length-set l j _ ∙ s.size;
          room = omega (arith, s.room, ones_step rest);
          is = λ ms k o.
              let p = s.is ms k o in
              record {
                done = p.done ++ (2 ^ j ∷ []);
                count = length-append p.done (2 ^ j ∷ []) ∙ ap (λ (a : ℕ). a + 1) p.count;
                holds = mask_single p.done l p.holds s.size j w (omega (arith, s.few)) (b ∙ ap (λ (a : ℕ). 2 ^ a) (sym p.count));
                whole = append_assoc p.done (2 ^ j ∷ []) (singles (max_inputs - (j + 1)) (j + 1) (rest / 2)) ∙ ap (λ (t : List ℕ). p.done ++ t) (sym f) ∙ p.whole;
              };
        }

  pub peel_end : bits ≤ j → (ms : List ℕ) → length ms ≡ at → OnBits max_inputs (number_by ms) old → OnBits max_inputs (number_by (ms ++ singles max_inputs 0 kept)) l
  peel_end h ms k o =
      let d : bits - j ≡ 0 = omega arith in
      let t : rest < 2 ^ 0 = rw d at s.small in
      let e : rest ≡ 0 = omega arith in
      let p = s.is ms k o in
      let f : p.done ≡ ms ++ singles max_inputs 0 kept =
      sym (append-nil p.done) ∙ ap (λ (t : List ℕ). p.done ++ t) (sym (ap (singles (max_inputs - j) j) e ∙ singles_zero (max_inputs - j) j)) ∙ p.whole in
      rw (← f) p.holds

-- ---- no mask, then those of the column, of the row and of the kept inputs

-- the variables of the columns, and those of the rows
abbrev pub columns : Record → List Variable
columns u = take (u.p - u.n1) (drop u.n1 u.variables)

abbrev pub rows : Record → List Variable
rows u = take u.n1 u.variables

module _ (u : Record) (b : InBounds u) (h : u.p ≤ length u.variables) where
  pub columns_length : length (columns u) ≡ u.p - u.n1
  columns_length = length-take-le (u.p - u.n1) (drop u.n1 u.variables) (omega (arith, length-drop u.n1 u.variables))

  pub rows_length : length (rows u) ≡ u.n1
  rows_length = length-take-le u.n1 u.variables (omega (arith, b.rows_in))

  columns_are : masks_of (kinds_of (columns u)) ≡ masks_of (drop u.n1 (kinds_in u))
  columns_are =
      let e : u.n1 + (u.p - u.n1) ≡ u.p = omega (arith, b.rows_in) in
      ap (λ l. masks_of (kinds_of l)) (sym (drop-take u.n1 (u.p - u.n1) u.variables) ∙ ap (λ (k : ℕ). drop u.n1 (take k u.variables)) e)
      ∙ ap masks_of (map_drop (λ v. v.kind) u.n1 (take u.p u.variables))

  rows_are : masks_of (kinds_of (rows u)) ≡ masks_of (take u.n1 (kinds_in u))
  rows_are =
      ap masks_of (ap kinds_of (sym (take-take u.n1 u.p u.variables b.rows_in)) ∙ map_take (λ v. v.kind) u.n1 (take u.p u.variables))

  pub images_are : (m1 m2 m3 : List ℕ)
      → ((ms : List ℕ) → length ms ≡ 0 → OnBits max_inputs (number_by ms) (replicate max_inputs 0) → OnBits max_inputs (number_by (ms ++ masks_of (kinds_of (columns u)))) m1)
      → ((ms : List ℕ) → length ms ≡ u.p - u.n1 → OnBits max_inputs (number_by ms) m1 → OnBits max_inputs (number_by (ms ++ masks_of (kinds_of (rows u)))) m2)
      → ((ms : List ℕ) → length ms ≡ u.p → OnBits max_inputs (number_by ms) m2 → OnBits max_inputs (number_by (ms ++ singles max_inputs 0 u.kept)) m3)
      → OnBits max_inputs (number_by (image_masks u)) m3
  unfolding image_masks number_by
  images_are m1 m2 m3 f g k =
      let A : List ℕ = masks_of (kinds_of (columns u)) in
      let B : List ℕ = masks_of (kinds_of (rows u)) in
      let la : length A ≡ u.p - u.n1 = masks_length (kinds_of (columns u)) ∙ length-map (columns u) (λ v. v.kind) ∙ columns_length in
      let lb : length B ≡ u.n1 = masks_length (kinds_of (rows u)) ∙ length-map (rows u) (λ v. v.kind) ∙ rows_length in
      let lab : length (A ++ B) ≡ u.p = length-append A B ∙ omega (arith, b.rows_in) in
      rw (← columns_are, ← rows_are) (k (A ++ B) lab (g A la (f [] refl (λ i l. get_or-replicate max_inputs i 0 0 l))))
