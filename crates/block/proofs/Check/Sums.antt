-- Sums of lists: by the end, by one entry, by parts; weights one more, and several more. Assumes nothing.
use mathlib.Core.Path.{◌≡◌, refl, ◌∙◌}
use mathlib.Core.List.{List, [], ◌∷◌, ◌++◌}
use Prim.Native.Nat.{ℕ, zero, suc, ◌+◌, ◌-◌, ◌*◌, ◌≤◌, ◌<◌}
use native.Mathlib.Nat.{suc-mul, mul-add, mul-le-mul_left, mul-le-mul_right}
use native.Mathlib.Numerals.{add-one}
use native.Mathlib.Omega.{arith}
use lib.ListN.{length, take, get_or, set}
use lib.Seq.{take_all, length-take-le}
use Rattle.lists.specs.Members.{All}
use Rattle.lists.proofs.Entries.Members.{take_more}
use Rattle.block.specs.Block.{sum_of, weigh}

pub sum_end : (l : List ℕ) (x : ℕ) → sum_of (l ++ (x ∷ [])) ≡ sum_of l + x
unfolding sum_of
sum_end [] x = omega arith
sum_end (b ∷ bs) x = omega (arith, sum_end bs x)

pub weigh_end : (w : ℕ) (l : List ℕ) (x : ℕ) → weigh w (l ++ (x ∷ [])) ≡ weigh w l + (w - length l) * x
unfolding weigh
weigh_end w [] x = let e : w - 0 ≡ w = omega arith in rw e (omega arith)
weigh_end w (b ∷ bs) x =
    let e : w - 1 - length bs ≡ w - suc (length bs) = omega arith in
    let k : weigh (w - 1) (bs ++ (x ∷ [])) ≡ weigh (w - 1) bs + (w - suc (length bs)) * x = rw e at (weigh_end (w - 1) bs x) in
    omega arith

-- each weight is one more
pub weigh_more : (w : ℕ) (l : List ℕ) → length l ≤ w → weigh (suc w) l ≡ weigh w l + sum_of l
unfolding weigh sum_of
weigh_more w [] h = refl
weigh_more w (b ∷ bs) h =
    let e : suc w - 1 ≡ suc (w - 1) = omega arith in
    let k : weigh (suc w - 1) bs ≡ weigh (w - 1) bs + sum_of bs = rw e (weigh_more (w - 1) bs (omega arith)) in
    let s : suc w * b ≡ w * b + b = suc-mul w b in
    omega arith

-- each weight is d more
pub weigh_add : (d w : ℕ) (l : List ℕ) → length l ≤ w → weigh (w + d) l ≡ weigh w l + d * sum_of l
weigh_add zero w l h = let e : w + 0 ≡ w = omega arith in rw e (omega arith)
weigh_add (suc d) w l h =
    let e : w + suc d ≡ suc (w + d) = omega arith in
    let m : suc d * sum_of l ≡ d * sum_of l + sum_of l = suc-mul d (sum_of l) in
    rw e (weigh_more (w + d) l (omega arith) ∙ omega (arith, weigh_add d w l h))

pub sum_append : (l m : List ℕ) → sum_of (l ++ m) ≡ sum_of l + sum_of m
unfolding sum_of
sum_append [] m = omega arith
sum_append (b ∷ bs) m = omega (arith, sum_append bs m)

pub weigh_append : (w : ℕ) (l m : List ℕ) → weigh w (l ++ m) ≡ weigh w l + weigh (w - length l) m
unfolding weigh
weigh_append w [] m = let e : w - 0 ≡ w = omega arith in rw e (omega arith)
weigh_append w (b ∷ bs) m =
    let e : w - 1 - length bs ≡ w - suc (length bs) = omega arith in
    let k : weigh (w - 1) (bs ++ m) ≡ weigh (w - 1) bs + weigh (w - suc (length bs)) m = rw e at (weigh_append (w - 1) bs m) in
    omega arith

-- one entry is another
pub sum_set : (l : List ℕ) (i v : ℕ) → i < length l → sum_of (set l i v) + get_or l i 0 ≡ sum_of l + v
unfolding sum_of
sum_set [] i v h = omega arith
sum_set (b ∷ bs) zero v h = omega arith
sum_set (b ∷ bs) (suc i) v h = omega (arith, sum_set bs i v (omega arith))

pub weigh_set : (w : ℕ) (l : List ℕ) (i v : ℕ) → i < length l → weigh w (set l i v) + (w - i) * get_or l i 0 ≡ weigh w l + (w - i) * v
unfolding weigh
weigh_set w [] i v h = omega arith
weigh_set w (b ∷ bs) zero v h = let e : w - 0 ≡ w = omega arith in rw e (omega arith)
weigh_set w (b ∷ bs) (suc i) v h =
    let e : w - 1 - i ≡ w - suc i = omega arith in
    let k : weigh (w - 1) (set bs i v) + (w - suc i) * get_or bs i 0 ≡ weigh (w - 1) bs + (w - suc i) * v = rw e at (weigh_set (w - 1) bs i v (omega arith)) in
    omega arith

-- low entries have low sums
pub sum_low : (m : ℕ) (l : List ℕ) → All (λ x. x ≤ m) l → sum_of l ≤ m * length l
unfolding sum_of
sum_low m [] h = omega arith
sum_low m (b ∷ bs) h = omega (arith, h.0, sum_low m bs h.1)

pub weigh_low : (w : ℕ) (l : List ℕ) → weigh w l ≤ w * sum_of l
unfolding weigh sum_of
weigh_low w [] = omega arith
weigh_low w (b ∷ bs) =
    let less : w - 1 ≤ w = omega arith in
    let m : (w - 1) * sum_of bs ≤ w * sum_of bs = mul-le-mul_right (sum_of bs) less in
    let d : w * (b + sum_of bs) ≡ w * b + w * sum_of bs = mul-add w b (sum_of bs) in
    omega (arith, weigh_low (w - 1) bs)

-- ---- running sums: the weighed sum is the sum of the plain sums on the way

-- after i of the n entries of l, none of them above m
pub record Running (m n : ℕ) (l : List ℕ) (s t i : ℕ) : Type 0 where
  pub within : i ≤ n
  pub plain : s ≡ sum_of (take i l)
  pub weighed : t ≡ weigh i (take i l)
  pub plain_low : s ≤ m * i
  pub weighed_low : t ≤ m * n * i

pub running_none : (m n : ℕ) (l : List ℕ) → Running m n l 0 0 0
unfolding sum_of weigh
running_none m n l = record { within = omega arith; plain = refl; weighed = refl; plain_low = omega arith; weighed_low = omega arith }

pub running_more : (m n : ℕ) (l : List ℕ) (s t i x : ℕ) → i < n → n ≤ length l → x ≡ get_or l i 0 → x ≤ m → Running m n l s t i → Running m n l (s + x) (t + (s + x)) (i + 1)
running_more m n l s t i x h long e low y =
    let one : take (i + 1) l ≡ take i l ++ (x ∷ []) = rw e (take_more l i 0 (omega arith)) in
    let size : length (take i l) ≡ i = length-take-le i l (omega arith) in
    let p : sum_of (take (i + 1) l) ≡ sum_of (take i l) + x = rw one (sum_end (take i l) x) in
    let w : weigh (i + 1) (take (i + 1) l) ≡ weigh (i + 1) (take i l) + (i + 1 - length (take i l)) * x = rw one (weigh_end (i + 1) (take i l) x) in
    let k : weigh (i + 1) (take i l) ≡ weigh i (take i l) + sum_of (take i l) = rw add-one (weigh_more i (take i l) (omega arith)) in
    let u : i + 1 - length (take i l) ≡ 1 = omega arith in
    let v : weigh (i + 1) (take (i + 1) l) ≡ weigh (i + 1) (take i l) + 1 * x = rw u at w in
    let a : m * (i + 1) ≡ m * i + m * 1 = mul-add m i 1 in
    let b : m * n * (i + 1) ≡ m * n * i + m * n * 1 = mul-add (m * n) i 1 in
    let c : m * (i + 1) ≤ m * n = mul-le-mul_left m (omega arith) in
    record { within = omega arith; plain = omega (arith, y.plain); weighed = omega (arith, y.plain, y.weighed); plain_low = omega (arith, y.plain_low); weighed_low = omega (arith, y.plain_low, y.weighed_low) }

pub running_end : (m n : ℕ) (l : List ℕ) (s t i : ℕ) → length l ≡ n → n ≤ i → Running m n l s t i → (s ≡ sum_of l) × (t ≡ weigh n l)
running_end m n l s t i long h y =
    let e : i ≡ n = omega (arith, y.within) in
    let a : take i l ≡ l = take_all i l (omega arith) in
    (rw a at y.plain, rw (a, e) at y.weighed)
