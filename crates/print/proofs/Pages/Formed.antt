-- What the printer knows of a well-formed unit: how many rows, exact masks, and the unit's text as the code makes it. Assumes nothing.
use Prim.Native.Nat.{ℕ, zero, suc, ◌+◌, ◌*◌, ◌%◌, ◌^◌, ◌≤◌, ◌<◌}
use native.Mathlib.Omega.{arith}
use native.Mathlib.Nat.{mod-eq_of_lt, mod-lt, one-mul}
use native.Mathlib.Numerals.{add-one}
use mathlib.Core.Path.{◌≡◌, ◌∙◌}
use mathlib.Core.Bool.{false, ◌||◌}
use mathlib.Core.List.{List, [], ◌∷◌, map}
use borrow.Author.Tests.{ltb-false, leb-false}
use lib.Bits.{xor_lt}
use lib.Dec.{eqb, leb, ltb}
use lib.IntN.{ℤ}
use lib.ListN.{take}
use lib.Pow.{pow_pos, pow-lt, pow_mono, shl_exact}
use Rattle.lists.proofs.Tests.{or_false}
use Rattle.lists.specs.Members.{All}
use Rattle.lists.proofs.Entries.Members.{map_same}
use Rattle.vectors.specs.declared.Kind.{Kind}
use Rattle.vectors.specs.declared.Kind.TheVariants.{One, Two}
use Rattle.vectors.specs.Bits.{place_of}
use Rattle.vectors.specs.Variable.{mask_of, faulty}
use Rattle.record.specs.declared.Record.{Record}
use Rattle.vectors.specs.Bounds.{max_inputs, max_side}
use Rattle.record.specs.Record.{kinds_in}
use Rattle.record.specs.Tables.{Tables}
use Rattle.record.specs.Inner.Formed.{WellFormed}
use Rattle.vectors.specs.Masks.{masks_of}
use Rattle.print.specs.Print.{numbers_of, page_of, text_of}

-- the code's number of rows
pub rows_are : (n1 : ℕ) → n1 ≤ max_side → (1 * 2 ^ n1 % 2 ^ max_inputs ≡ 2 ^ n1) × (2 ^ n1 ≤ 4096)
rows_are n1 h = (shl_exact {a = 1} 1 n1 max_inputs (omega arith) (omega arith) ∙ one-mul (2 ^ n1), pow_mono {i = n1} {j = max_side} h)

place_lt : (w i : ℕ) → i ≤ w → place_of i < 2 ^ w
place_lt w zero h = pow_pos w
place_lt w (suc i) h = pow-lt h

-- the mask of a variable that is not faulty is a word
mask_exact : (n : ℕ) → n ≤ max_inputs → (k : Kind) → faulty n k ≡ false → mask_of k % 2 ^ max_inputs ≡ mask_of k
mask_exact n h (One i) f = mod-eq_of_lt (place_lt max_inputs i (omega (arith, ltb-false n i (or_false (eqb i 0) (ltb n i) f).1)))
mask_exact n h (Two i j) f =
    let a = or_false (eqb i 0 || leb j i) (ltb n j) f in
    let b = or_false (eqb i 0) (leb j i) a.0 in
    let l = leb-false j i b.1 in
    let m = ltb-false n j a.1 in
    mod-eq_of_lt (xor_lt max_inputs (place_of i) (place_of j) (place_lt max_inputs i (omega arith)) (place_lt max_inputs j (omega arith)))

-- the masks of variables that are not faulty are words
pub masks_low : (n : ℕ) → n ≤ max_inputs → (ks : List Kind) → All (λ k. faulty n k ≡ false) ks → All (λ x. x < 2 ^ 64) (map mask_of ks)
masks_low n h [] a = tt
masks_low n h (k ∷ ks) a = (rw (mask_exact n h k a.0) at (mod-lt (mask_of k) {m = 2 ^ max_inputs} (omega arith)), masks_low n h ks a.1)

masks_exact : (n : ℕ) → n ≤ max_inputs → (ks : List Kind) → All (λ k. faulty n k ≡ false) ks → masks_of ks ≡ map mask_of ks
masks_exact n h ks a = map_same (λ k. mask_of k % 2 ^ max_inputs) mask_of (λ k. faulty n k ≡ false) (mask_exact n h) ks a

-- the page that the code makes is the unit's text
pub text_is : (u : Record) (t : Tables) {y : ℤ} {masks : List ℕ} {rows : ℕ} → WellFormed u t → y ≡ u.excess → masks ≡ masks_of (kinds_in u) → rows ≡ 2 ^ u.n1
    → page_of (numbers_of u) y masks u.kept (take rows t.h) (take u.cells t.g) (take (u.k + 1) t.aux) ≡ text_of u t
unfolding text_of
text_is u t w e f g = rw (e, f ∙ masks_exact u.n w.bounds.inputs (kinds_in u) w.inputs.right, g, add-one u.k)
