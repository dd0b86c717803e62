-- The words of variables: one as the code's branches read it, up to 24 by their lowest bits, and all in range. Assumes nothing.
use Prim.Native.Nat.{ℕ, suc, ◌+◌, ◌-◌, ◌/◌, ◌%◌, ◌^◌, ◌≤◌, ◌<◌, min}
use native.Mathlib.Omega.{arith}
use native.Mathlib.Numerals.{add-one}
use mathlib.Core.Path.{◌≡◌, refl, sym, ap, ap₂, ◌∙◌}
use mathlib.Core.Bool.{Bool, cond, ◌&&◌, and-true, and_assoc}
use mathlib.Core.List.{List, [], ◌∷◌, ◌++◌, map, map-append, append-nil}
use mathlib.Core.Logic.{⊎_elim}
use borrow.Author.Tests.{eq-eqb, ne_eqb, lt-ltb, le-ltb}
use lib.Bits.{bit_or, or_lt, or_add_and, and_le_l, and_le_r}
use lib.ListN.{length, get_or, take, drop, set, replicate, length-append, length-map, length-take, drop_of_length-le}
use lib.Seq.{append_snoc, drop-cons, set_at, take_all, take-suc}
use Rattle.lists.proofs.Tests.{le_or_lt}
use Rattle.vectors.specs.declared.Kind.{Kind}
use Rattle.vectors.specs.declared.Kind.TheVariants.{One, Two}
use Rattle.vectors.specs.declared.Part.{Part}
use Rattle.vectors.specs.declared.Part.TheVariants.{Row, Column}
use Rattle.vectors.specs.declared.Variable.{Variable}
use Rattle.vectors.specs.Bounds.{max_variables}
use Rattle.vectors.specs.Variable.{blank_variable}
use Rattle.flat.specs.Flat.{kind_at, part_at, in_range, low_variable, variable_at, low_variables, all_in_range}

-- ---- one word

pub kind_one : (i j : ℕ) → j ≡ 0 → One i ≡ kind_at i j
kind_one i j e = sym (ap (λ (b : Bool). cond b (One i) (Two i j)) (eq-eqb j 0 e))

pub kind_two : (i j : ℕ) → (j ≡ 0 → ⊥) → Two i j ≡ kind_at i j
kind_two i j e = sym (ap (λ (b : Bool). cond b (One i) (Two i j)) (ne_eqb j 0 e))

pub part_row : (m : ℕ) → m ≡ 0 → Row ≡ part_at m
part_row m e = sym (ap (λ (b : Bool). cond b Row Column) (eq-eqb m 0 e))

pub part_column : (m : ℕ) → (m ≡ 0 → ⊥) → Column ≡ part_at m
part_column m e = sym (ap (λ (b : Bool). cond b Row Column) (ne_eqb m 0 e))

pub low_bits : (w : ℕ) (k : Kind) (q : Part) → k ≡ kind_at (w % 256) (w / 256 % 256) → q ≡ part_at (w / 65536 % 2) → record { kind = k; part = q } ≡ low_variable w
unfolding low_variable
low_bits w k q e f = ap₂ (λ (k : Kind) (q : Part). record { kind = k; part = q }) e f

pub variable_in : (w : ℕ) → w < 2 ^ 17 → low_variable w ≡ variable_at w
unfolding variable_at
variable_in w h = sym (ap (λ (b : Bool). cond b (low_variable w) blank_variable) (lt-ltb w (2 ^ 17) h))

pub variable_out : (w : ℕ) → 2 ^ 17 ≤ w → low_variable 0 ≡ variable_at w
unfolding variable_at
variable_out w h = sym (ap (λ (b : Bool). cond b (low_variable w) blank_variable) (le-ltb w (2 ^ 17) h))

-- ---- up to 24 of them, by their lowest bits

pub low_none : replicate max_variables blank_variable ≡ low_variables []
unfolding low_variables
low_none = refl

low_few : (ws : List ℕ) → length ws ≤ max_variables → low_variables ws ≡ map low_variable ws ++ replicate (max_variables - length ws) blank_variable
unfolding low_variables
low_few ws h = rw (take_all max_variables ws h)

pub low_all : (ws : List ℕ) → length ws ≡ max_variables → low_variables ws ≡ map low_variable ws
low_all ws e =
    let z : max_variables - length ws ≡ 0 = omega arith in
    low_few ws (omega arith) ∙ ap (λ (i : ℕ). map low_variable ws ++ replicate i blank_variable) z ∙ append-nil (map low_variable ws)

-- a word more
low_snoc : (ws : List ℕ) (w : ℕ) → length ws < max_variables → set (low_variables ws) (length ws) (low_variable w) ≡ low_variables (ws ++ (w ∷ []))
low_snoc ws w h =
    let front : List Variable = map low_variable ws in
    let rest : List Variable = replicate (max_variables - length (ws ++ (w ∷ []))) blank_variable in
    let n : length (ws ++ (w ∷ [])) ≡ length ws + 1 = length-append ws (w ∷ []) in
    let e : max_variables - length ws ≡ suc (max_variables - length (ws ++ (w ∷ []))) = omega arith in
    ap (λ (vs : List Variable). set vs (length ws) (low_variable w)) (low_few ws (omega arith))
    ∙ ap (λ (i : ℕ). set (front ++ replicate i blank_variable) (length ws) (low_variable w)) e
    ∙ set_at front blank_variable rest (low_variable w) (length ws) (length-map ws low_variable)
    ∙ sym (append_snoc front (low_variable w) rest)
    ∙ sym (ap (λ (vs : List Variable). vs ++ rest) (map-append low_variable ws (w ∷ [])))
    ∙ sym (low_few (ws ++ (w ∷ [])) (omega arith))

pub low_more : (ws : List ℕ) (vs : List Variable) (i : ℕ) (v : Variable) (d : ℕ) → i < length ws → i < max_variables → v ≡ low_variable (get_or ws i d) → vs ≡ low_variables (take i ws)
    → set vs i v ≡ low_variables (take (i + 1) ws)
low_more ws vs i v d h g e f =
    let n : length (take i ws) ≡ i = length-take i ws ∙ omega arith in
    ap₂ (λ (vs : List Variable) (v : Variable). set vs i v) f e
    ∙ ap (λ (j : ℕ). set (low_variables (take i ws)) j (low_variable (get_or ws i d))) (sym n)
    ∙ low_snoc (take i ws) (get_or ws i d) (omega arith)
    ∙ ap low_variables (sym (rw (add-one i) (take-suc ws i d h)))

pub low_end : (ws : List ℕ) (i : ℕ) → i ≡ min (length ws) max_variables → low_variables (take i ws) ≡ low_variables ws
unfolding low_variables
low_end ws i e =
    let n : max_variables - length (take i ws) ≡ max_variables - length ws = omega (arith, length-take i ws) in
    ap₂ (λ (l : List ℕ) (m : ℕ). map low_variable l ++ replicate m blank_variable) (take_all max_variables (take i ws) (omega (arith, length-take i ws)) ∙ ⊎_elim many few (le_or_lt max_variables (length ws))) n
  where
    many : max_variables ≤ length ws → take i ws ≡ take max_variables ws
    many h = let j : i ≡ max_variables = omega arith in ap (λ (j : ℕ). take j ws) j

    few : length ws < max_variables → take i ws ≡ take max_variables ws
    few h = take_all i ws (omega arith) ∙ sym (take_all max_variables ws (omega arith))

-- ---- all in range, by the bits that any of them has

or_low : (a b : ℕ) → a ≤ bit_or a b
or_low a b = omega (arith, or_add_and a b, and_le_r a b)

or_high : (a b : ℕ) → b ≤ bit_or a b
or_high a b = omega (arith, or_add_and a b, and_le_l a b)

or_range : (a b : ℕ) → in_range (bit_or a b) ≡ in_range a && in_range b
or_range a b = ⊎_elim high low (le_or_lt (2 ^ 17) a)
  where
    high : 2 ^ 17 ≤ a → in_range (bit_or a b) ≡ in_range a && in_range b
    high h = le-ltb (bit_or a b) (2 ^ 17) (omega (arith, or_low a b)) ∙ sym (ap (λ (t : Bool). t && in_range b) (le-ltb a (2 ^ 17) h))

    low : a < 2 ^ 17 → in_range (bit_or a b) ≡ in_range a && in_range b
    low h = ⊎_elim past within (le_or_lt (2 ^ 17) b) ∙ sym (ap (λ (t : Bool). t && in_range b) (lt-ltb a (2 ^ 17) h))
      where
        past : 2 ^ 17 ≤ b → in_range (bit_or a b) ≡ in_range b
        past g = le-ltb (bit_or a b) (2 ^ 17) (omega (arith, or_high a b)) ∙ sym (le-ltb b (2 ^ 17) g)

        within : b < 2 ^ 17 → in_range (bit_or a b) ≡ in_range b
        within g = lt-ltb (bit_or a b) (2 ^ 17) (or_lt 17 a b h g) ∙ sym (lt-ltb b (2 ^ 17) g)

-- one more
pub range_more : (ws : List ℕ) (i bits : ℕ) → i < length ws
    → in_range bits && all_in_range (drop i ws) ≡ in_range (bit_or bits (get_or ws i 0)) && all_in_range (drop (i + 1) ws)
unfolding all_in_range
range_more ws i bits h =
    rw (drop-cons ws i 0 h, add-one i)
    (sym (and_assoc (in_range bits) (in_range (get_or ws i 0)) (all_in_range (drop (suc i) ws)))
    ∙ sym (ap (λ (t : Bool). t && all_in_range (drop (suc i) ws)) (or_range bits (get_or ws i 0))))

pub range_end : (ws : List ℕ) (i bits : ℕ) → length ws ≤ i → in_range bits && all_in_range (drop i ws) ≡ in_range bits
unfolding all_in_range
range_end ws i bits h = rw (drop_of_length-le ws {i = i} h) (and-true (in_range bits))
