-- A number put into a list of bytes, the lowest byte first, and such a part put into a longer list. Assumes nothing.
use mathlib.Core.Path.{◌≡◌, refl, sym, ap, ◌∙◌}
use mathlib.Core.List.{List, ◌++◌, append_assoc, append-nil}
use Prim.Native.Nat.{ℕ, suc, ◌+◌, ◌-◌, ◌/◌, ◌%◌, ◌≤◌, ◌<◌}
use native.Mathlib.Numerals.{add-one}
use native.Mathlib.Omega.{arith}
use lib.ListN.{length, take, drop, set, length-set, length-append, length-take, length-drop, drop_of_length-le}
use lib.Seq.{sets, sets-eq, drop-drop, length-take-le}
use borrow.Rule.Slice.PartMut.{put_mid}
use Rattle.block.specs.Bytes.{little_of}
use Rattle.block.proofs.Laying.Words.{length_little}

-- the loop at place i: l is left of before, and the rest of the number is still to be put
pub record Putting (number size at : ℕ) (before l : List ℕ) (rest i : ℕ) : Type 0 where
  pub within : i ≤ at + size
  pub long : length l ≡ length before
  pub is : sets l i (little_of (at + size - i) rest) ≡ sets before at (little_of size number)

-- the k entries from place a on, written over
pub part_set : (xs ys : List ℕ) (a k : ℕ) → length ys ≡ k → a + k ≤ length xs → put_mid a k xs ys ≡ sets xs a ys
part_set xs ys a k n room =
    let d : drop k (drop a xs) ≡ drop (a + length ys) xs = drop-drop k a xs ∙ ap (λ (i : ℕ). drop (a + i) xs) (sym n) in
    ap (λ (l : List ℕ). take a xs ++ (ys ++ l)) d ∙ sym (append_assoc (take a xs) ys (drop (a + length ys) xs)) ∙ sym (sets-eq ys xs a (omega arith))

pub part_long : (xs ys : List ℕ) (a k : ℕ) → length ys ≡ length (take k (drop a xs)) → length (put_mid a k xs ys) ≡ length xs
part_long xs ys a k e =
    let z : List ℕ = drop k (drop a xs) in
    length-append (take a xs) (ys ++ z) ∙ omega (arith, length-append ys z, length-take a xs, length-take k (drop a xs), length-drop k (drop a xs), length-drop a xs)

module _ (number size at : ℕ) (before : List ℕ) where
  pub putting_none : Putting number size at before before number at
  putting_none = let e : at + size - at ≡ size = omega arith in record { within = omega arith; long = refl; is = rw e }

  pub putting_more : (l : List ℕ) (rest i : ℕ) → i < at + size → Putting number size at before l rest i
      → Putting number size at before (set l i (rest % 256)) (rest / 256) (i + 1)
  unfolding little_of
  putting_more l rest i h p =
      let e : at + size - i ≡ suc (at + size - suc i) = omega arith in
      record { within = omega arith; long = length-set l i (rest % 256) ∙ p.long; is = rw (add-one i) (rw e at p.is) }

  pub putting_end : (l : List ℕ) (rest i : ℕ) → at + size ≤ i → Putting number size at before l rest i → l ≡ sets before at (little_of size number)
  unfolding little_of
  putting_end l rest i h p = let e : at + size - i ≡ 0 = omega arith in rw e at p.is

-- a whole list written over
pub putting_all : (number : ℕ) (before l : List ℕ) (rest i : ℕ) → length before ≤ i → Putting number (length before) 0 before l rest i → l ≡ little_of (length before) number
putting_all number before l rest i h p =
    let b : List ℕ = little_of (length before) number in
    let n : length b ≡ length before = length_little (length before) number in
    let z : 0 + length b ≡ length b = omega arith in
    putting_end number (length before) 0 before l rest i (omega arith) p
    ∙ sets-eq b before 0 (omega arith) ∙ ap (λ (x : List ℕ). b ++ x) (drop_of_length-le before {i = 0 + length b} (omega arith)) ∙ append-nil b

-- a part of a list written over with the bytes of a number
pub number_set : (xs ys : List ℕ) (a k number : ℕ) → ys ≡ little_of (length (take k (drop a xs))) number → a + k ≤ length xs → put_mid a k xs ys ≡ sets xs a (little_of k number)
number_set xs ys a k number e room =
    let m : length (take k (drop a xs)) ≡ k = length-take-le k (drop a xs) (omega (arith, length-drop a xs)) in
    let f : ys ≡ little_of k number = e ∙ ap (λ (i : ℕ). little_of i number) m in
    part_set xs ys a k (ap length f ∙ length_little k number) room ∙ ap (sets xs a) f
