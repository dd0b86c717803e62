-- The links taken out of the words. Assumes nothing.
use Prim.Native.Nat.{ℕ, zero, suc, ◌-◌, ◌%◌, ◌≤◌, ◌<◌}
use native.Mathlib.Omega.{arith}
use mathlib.Core.Path.{◌≡◌, refl, ap, ◌∙◌}
use mathlib.Core.List.{List, [], ◌∷◌, ◌++◌, map}
use lib.ListN.{length, get_or, take, drop, length-map, drop_of_length-le}
use lib.Seq.{ext_get_or, take_all, drop-length}
use borrow.Rule.Slice.PartMut.{put_mid}
use Rattle.std.proofs.Common.{append-nil}
use Rattle.rows.specs.Care.{Care}
use Rattle.rows.specs.Answer.{care_of, max_places}
use Rattle.rows.specs.Inner.Chains.{Packed, unlinked}
use Rattle.rows.proofs.Chains.Steps.{tail_is}

unlinked_length : (ws : List ℕ) → length (unlinked ws) ≡ length ws
unfolding unlinked
unlinked_length [] = refl
unlinked_length (w ∷ ws) = ap suc (length-map ws (λ v. v % max_places))

unlinked_first : (ws : List ℕ) → get_or (unlinked ws) 0 0 ≡ get_or ws 0 0
unfolding unlinked
unlinked_first [] = refl
unlinked_first (w ∷ ws) = refl

low_at : (ws : List ℕ) (j : ℕ) → get_or (map (λ v. v % max_places) ws) j 0 ≡ get_or ws j 0 % max_places
low_at [] zero = refl
low_at [] (suc j) = refl
low_at (w ∷ ws) zero = refl
low_at (w ∷ ws) (suc j) = low_at ws j

unlinked_at : (ws : List ℕ) (j : ℕ) → 0 < j → get_or (unlinked ws) j 0 ≡ get_or ws j 0 % max_places
unfolding unlinked
unlinked_at ws zero p = absurd (omega arith)
unlinked_at [] (suc j) p = refl
unlinked_at (w ∷ ws) (suc j) p = low_at ws j

-- the words ws, with the rows and columns of packed words, are those words without the links
pub unlinked_is : (ws₀ ws : List ℕ) (rows : ℕ) → Packed ws₀ rows → length ws ≡ length ws₀ → get_or ws 0 0 ≡ get_or ws₀ 0 0
    → ((j : ℕ) → care_of j (get_or ws j 0) ≡ care_of j (get_or ws₀ j 0)) → unlinked ws ≡ ws₀
unlinked_is ws₀ ws rows packed size first cares = ext_get_or 0 (unlinked ws) ws₀ (unlinked_length ws ∙ size) by
  where
    by : (j : ℕ) → j < length (unlinked ws) → get_or (unlinked ws) j 0 ≡ get_or ws₀ j 0
    by zero l = unlinked_first ws ∙ first
    by (suc j) l =
        let r = ap (λ (c : Care). c.row) (cares (suc j)) in
        let k = ap (λ (c : Care). c.column) (cares (suc j)) in
        let p = packed.words (suc j) (omega arith) (omega (arith, unlinked_length ws)) in
        unlinked_at ws (suc j) (omega arith) ∙ omega arith

-- ---- the end of the loop: n of the words after the first are unlinked, which are all

pub unlinking_end : (ws items : List ℕ) (n : ℕ) → 0 < length ws → length (take (length ws - 1) (drop 1 ws)) ≤ n
    → items ≡ map (λ v. v % max_places) (take n (take (length ws - 1) (drop 1 ws))) ++ drop n (take (length ws - 1) (drop 1 ws))
    → put_mid 1 (length ws - 1) ws items ≡ unlinked ws
unfolding unlinked
unlinking_end [] items n p l e = absurd (omega arith)
unlinking_end (w ∷ ws) items n p l e =
    let t = tail_is (w ∷ ws) in
    let m : length ws ≤ n = rw t at l in
    let i : items ≡ map (λ v. v % max_places) ws = rw (t, take_all n ws m, drop_of_length-le ws {i = n} m, append-nil) at e in
    let k : suc (length ws) - 1 ≡ length ws = omega arith in
    rw (k, drop-length, append-nil, i)
