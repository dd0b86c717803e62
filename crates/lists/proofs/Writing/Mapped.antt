-- A loop that maps one list into another, from the front. Assumes nothing.
use Prim.Native.Nat.{ℕ, ◌+◌, ◌<◌}
use native.Mathlib.Numerals.{add-one}
use mathlib.Core.Path.{◌≡◌, sym}
use mathlib.Core.List.{List, [], ◌∷◌, map, map-append}
use lib.ListN.{length, get_or, take, set}
use lib.Seq.{take-suc, take-suc-set}

pub mapped_more : {A B : Type 0} (f : A → B) (xs : List A) (ys : List B) (i : ℕ) (y : B) (d : A) → i < length xs → i < length ys → y ≡ f (get_or xs i d)
    → take i ys ≡ map f (take i xs) → take (i + 1) (set ys i y) ≡ map f (take (i + 1) xs)
mapped_more f xs ys i y d h g e s = rw (add-one i, take-suc-set ys i y g, take-suc xs i d h, s, e) (sym (map-append f (take i xs) (get_or xs i d ∷ [])))
