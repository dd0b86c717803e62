-- Loops along a list of keys. Assumes nothing.
use Prim.Native.Nat.{ℕ, zero, suc, ◌+◌, ◌<◌}
use native.Mathlib.Numerals.{add-one}
use native.Mathlib.Omega.{arith}
use mathlib.Core.Path.{◌≡◌, ap, refl, ◌∙◌}
use mathlib.Core.Bool.{Bool, true, ◌&&◌}
use mathlib.Core.List.{List, [], ◌∷◌, map}
use lib.ListN.{length, get_or, take, set}
use lib.Seq.{take-suc, take-suc-set}
use Rattle.std.specs.List.{list_all}
use Rattle.lists.specs.Members.{every}
use Rattle.lists.proofs.Entries.Members.{map_take}
use Rattle.lists.proofs.Tests.{and_true}

-- all entries pass, once mapped
pub every_mapped : {A B : Type 0} (test : B → Bool) (f : A → B) (l : List A) → list_all (λ x. test (f x)) l ≡ every test (map f l)
unfolding every
every_mapped test f [] = refl
every_mapped test f (x ∷ l) = ap (λ (b : Bool). test (f x) && b) (every_mapped test f l)

pub every_front : {A : Type 0} (test : A → Bool) (m : ℕ) (l : List A) → every test l ≡ true → every test (take m l) ≡ true
unfolding every
every_front test zero l e = refl
every_front test (suc m) [] e = refl
every_front test (suc m) (x ∷ l) e = let p = and_true (test x) (every test l) e in rw (p.0, every_front test m l p.1)

-- each of the entries passes
pub every_at : {A : Type 0} (test : A → Bool) (l : List A) (i : ℕ) (d : A) → every test l ≡ true → i < length l → test (get_or l i d) ≡ true
unfolding every
every_at test [] i d e h = absurd (omega arith)
every_at test (x ∷ l) zero d e h = (and_true (test x) (every test l) e).0
every_at test (x ∷ l) (suc i) d e h = every_at test l i d (and_true (test x) (every test l) e).1 (omega arith)

-- a loop that copies a list into another, from the front
pub copied_more : {A : Type 0} (xs ys : List A) (i : ℕ) (y d : A) → i < length xs → i < length ys → y ≡ get_or xs i d → take i ys ≡ take i xs
    → take (i + 1) (set ys i y) ≡ take (i + 1) xs
copied_more xs ys i y d h g e s = rw (add-one i, take-suc-set ys i y g, take-suc xs i d h, s, e)

-- the first entries, mapped twice
pub map_front : {A B C : Type 0} (f : A → B) (g : B → C) (m : ℕ) (l : List A) → map g (map f (take m l)) ≡ take m (map g (map f l))
map_front f g m l = ap (map g) (map_take f m l) ∙ map_take g m (map f l)
