-- What alters the check: another byte in one place, two unequal bytes exchanged. Assumes nothing.
use mathlib.Core.Path.{◌≡◌, refl, sym, ap, ◌∙◌}
use mathlib.Core.Bool.{Bool, true, false}
use mathlib.Core.List.{List, [], ◌++◌, append-nil}
use Prim.Native.Nat.{ℕ, ◌+◌, ◌-◌, ◌*◌, ◌/◌, ◌%◌, ◌≤◌, ◌<◌}
use native.Mathlib.Nat.{add-mul, mul-add}
use native.Mathlib.Omega.{arith}
use lib.Dec.{ltb}
use lib.ListN.{length, drop, get_or, set, length-set}
use lib.Seq.{get_or-set_other}
use borrow.Author.Tests.{ltb-true, ltb-false}
use Rattle.lists.proofs.Entries.Alls.{all_at}
use Rattle.block.specs.Bytes.{little_of}
use Rattle.block.specs.Block.{check_at, modulus, sum_of, weigh, check_of, exchanged, Guards}
use Rattle.block.proofs.Check.Sums.{sum_set, weigh_set}
use Rattle.block.proofs.Check.Divisors.{apart}

-- ---- the check tells both sums

two_bytes : (a b : ℕ) (u v : List ℕ) → a < 65536 → b < 65536 → little_of 2 a ++ u ≡ little_of 2 b ++ v → (a ≡ b) × (u ≡ v)
unfolding little_of
two_bytes a b u v ha hb e =
    let lo : a % 256 ≡ b % 256 = ap (λ (l : List ℕ). get_or l 0 0) e in
    let hi : a / 256 % 256 ≡ b / 256 % 256 = ap (λ (l : List ℕ). get_or l 1 0) e in
    (omega arith, ap (drop 2) e)

sums_told : (b c : List ℕ) → check_of b ≡ check_of c → (sum_of b % modulus ≡ sum_of c % modulus) × (weigh check_at b % modulus ≡ weigh check_at c % modulus)
unfolding check_of
sums_told b c e =
    let p = two_bytes (sum_of b % modulus) (sum_of c % modulus) _ _ (below (sum_of b)) (below (sum_of c)) e in
    let q = two_bytes (weigh check_at b % modulus) (weigh check_at c % modulus) [] [] (below (weigh check_at b)) (below (weigh check_at c)) (rw (append-nil, append-nil) p.1) in
    (p.0, q.0)
  where
    below : (n : ℕ) → n % modulus < 65536
    below n = omega arith

-- ---- one byte is changed

same_byte : (a b x y : ℕ) → x < 256 → y < 256 → a + x ≡ b + y → a % modulus ≡ b % modulus → x ≡ y
same_byte a b x y hx hy e m = omega arith

-- ---- two bytes are exchanged

weigh_swap : (w : ℕ) (l : List ℕ) (i j : ℕ) → i < j → j < length l → j ≤ w
    → weigh w (exchanged l i j) + (j - i) * get_or l i 0 ≡ weigh w l + (j - i) * get_or l j 0
weigh_swap w l i j ij h jw =
    let a = weigh_set w l i (get_or l j 0) (omega arith) in
    let other : get_or (set l i (get_or l j 0)) j 0 ≡ get_or l j 0 = get_or-set_other l i j (get_or l j 0) 0 (λ (e : j ≡ i). omega arith) in
    let long : j < length (set l i (get_or l j 0)) = rw length-set h in
    let b = rw other at (weigh_set w (set l i (get_or l j 0)) j (get_or l i 0) long) in
    let split : w - i ≡ (w - j) + (j - i) = omega arith in
    let c = rw (split, add-mul, add-mul) at a in
    omega arith

apart_either : (t t' d x y : ℕ) → 0 < d → d < check_at → x < 256 → y < 256 → (x ≡ y → ⊥) → t' + d * x ≡ t + d * y → t' % modulus ≡ t % modulus → ⊥
apart_either t t' d x y d₀ hd hx hy ne q m = go (ltb x y) refl
  where
    more : (a b : ℕ) → a < b → b ≡ a + (b - a)
    more a b h = omega arith

    go : (b : Bool) → ltb x y ≡ b → ⊥
    go true k =
        let h : x < y = ltb-true x y k in
        let s : d * y ≡ d * x + d * (y - x) = ap (λ (n : ℕ). d * n) (more x y h) ∙ mul-add d x (y - x) in
        let r : t' ≡ t + d * (y - x) = omega arith in
        apart t d (y - x) d₀ hd (omega arith) (omega arith) (rw r at m)
    go false k =
        let l : y ≤ x = ltb-false x y k in
        let h : y < x = omega arith in
        let s : d * x ≡ d * y + d * (x - y) = ap (λ (n : ℕ). d * n) (more y x h) ∙ mul-add d y (x - y) in
        let r : t ≡ t' + d * (x - y) = omega arith in
        apart t' d (x - y) d₀ hd (omega arith) (omega arith) (rw r at (sym m))

-- ---- the theorem

pub check_guards : Guards check_of
check_guards = record {
  one_changed = λ b n bytes i v h hv ne e.
      ne (same_byte (sum_of (set b i v)) (sum_of b) (get_or b i 0) v (all_at (λ (x : ℕ). x < 256) b i 0 bytes (omega arith)) hv (sum_set b i v (omega arith)) (sums_told (set b i v) b e).0);
  two_exchanged = λ b n bytes i j ij h ne e.
      apart_either (weigh check_at b) (weigh check_at (exchanged b i j)) (j - i) (get_or b i 0) (get_or b j 0) (omega arith) (omega arith)
      (all_at (λ (x : ℕ). x < 256) b i 0 bytes (omega arith)) (all_at (λ (x : ℕ). x < 256) b j 0 bytes (omega arith)) ne (weigh_swap check_at b i j ij (omega arith) (omega arith)) (sums_told (exchanged b i j) b e).1;
}
