-- What is read into the front of a buffer: it grows by each read, and at the end it is the whole input, or as much of it as the buffer holds.
use Rattle.std.proofs.Common.{◌≡◌, ℕ, ◌-◌, ◌<◌, ◌≤◌, ◌⊎◌, List, [], ◌++◌, Option, Some, None, IfSome, length, take, drop, sym, ap, subst, ◌∙◌, inl, inr, arith, append-nil, take_all, length-take-le, add-sub_of_le, eq-or-lt_of_le}
use lib.Seq.{take-append_seam, take-add}
use Rattle.std.specs.Io.KnownBytes.{Consumes, IsAtEnd}
use Rattle.std.proofs.KnownBytes.{Consumes-trans}

-- xs was filled up to f, and ys up to k
pub read_on : (a b c : Option (List ℕ)) (xs ys : List ℕ) (f k : ℕ) → f ≤ k → take f ys ≡ take f xs
    → Consumes a b (take f xs) → Consumes b c (take (k - f) (drop f ys)) → Consumes a c (take k ys)
read_on a b c xs ys f k l front before read =
    subst (Consumes a c) (ap (λ zs. zs ++ take (k - f) (drop f ys)) (sym front) ∙ sym (take-add f (k - f) ys) ∙ ap (λ n. take n ys) (add-sub_of_le l))
    (Consumes-trans a b c _ _ before read)

-- the front of the buffer, of a known input
front_of_all : (xs rest buf : List ℕ) (k : ℕ) → k ≤ length buf → xs ≡ take k buf ++ rest → (k < length buf → rest ≡ []) → take k buf ≡ take (length buf) xs
front_of_all xs rest buf k w e end = go (eq-or-lt_of_le w)
  where
    go : k ≡ length buf ⊎ k < length buf → take k buf ≡ take (length buf) xs
    go (inl full) =
        let n : length (take k buf) ≡ length buf = length-take-le k buf w ∙ full in
        sym (ap (take (length buf)) e ∙ ap (λ m. take m (take k buf ++ rest)) (sym n) ∙ take-append_seam (take k buf) rest)
    go (inr less) =
        let all : xs ≡ take k buf = e ∙ ap (λ r. take k buf ++ r) (end less) ∙ append-nil (take k buf) in
        let n : length xs ≤ length buf = omega (arith, ap length all, length-take-le k buf w) in
        sym (take_all (length buf) xs n ∙ all)

pub whole_input : (a b : Option (List ℕ)) (buf : List ℕ) (k n : ℕ) (P : List ℕ → Type 0) → n ≡ length buf → k ≤ length buf → Consumes a b (take k buf)
    → (k < length buf → IsAtEnd b) → P (take k buf) → IfSome a (λ xs. P (take n xs))
whole_input None b buf k n P size w read end holds = tt
whole_input (Some xs) None buf k n P size w read end holds = absurd read
whole_input (Some xs) (Some rest) buf k n P size w read end holds =
    subst P (front_of_all xs rest buf k w read end ∙ ap (λ m. take m xs) (sym size)) holds
