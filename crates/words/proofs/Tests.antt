-- The tests of words. Assumes nothing.
use Prim.Native.Nat.{ℕ, suc}
use mathlib.Core.Path.{◌≡◌, refl, sym, ◌∙◌}
use mathlib.Core.Bool.{Bool, true, false, false≢true, ◌&&◌}
use mathlib.Core.List.{List, [], ◌∷◌}
use native.Mathlib.Omega.{arith}
use borrow.Author.Tests.{ne_eqb}
use lib.Dec.{eqb}
use lib.ListN.{length}
use Rattle.std.specs.Cmp.Lexicographic.{pointwise}
use Rattle.lists.proofs.Tests.{eqb_iff}
use Rattle.input.specs.Opens.{opens}
use Rattle.words.specs.Words.{says, show_word, list_word, find_word, add_word, asks_file}

-- the library's equality of lists
pub says_is : (word bytes : List ℕ) → pointwise eqb bytes word ≡ says word bytes
unfolding opens
says_is [] [] = refl
says_is (w ∷ ws) [] = rw (ne_eqb 0 (suc (length ws)) (λ (p : 0 ≡ suc (length ws)). omega arith))
says_is [] (b ∷ bs) = rw (ne_eqb (suc (length bs)) 0 (λ (p : suc (length bs) ≡ 0). omega arith))
says_is (w ∷ ws) (b ∷ bs) =
    let e : eqb (length (b ∷ bs)) (length (w ∷ ws)) ≡ eqb (length bs) (length ws) = eqb_iff (λ (p : suc (length bs) ≡ suc (length ws)). omega arith) (λ (p : length bs ≡ length ws). omega arith) in
    let q : eqb w b ≡ eqb b w = eqb_iff (λ (p : w ≡ b). sym p) (λ (p : b ≡ w). sym p) in
    rw (e, q) (go (eqb b w) (eqb (length bs) (length ws)) (says_is ws bs))
  where
    go : (t n : Bool) → pointwise eqb bs ws ≡ (n && opens ws bs) → (t && pointwise eqb bs ws) ≡ (n && (t && opens ws bs))
    go true n h = h
    go false true h = refl
    go false false h = refl

-- ---- words for a file

module _ (given : List ℕ) where
  module _ (no_show : says show_word given ≡ false) where
    module _ (no_list : says list_word given ≡ false) where
      pub asks_add : opens find_word given ≡ false → opens add_word given ≡ asks_file given
      unfolding asks_file
      asks_add h = rw (no_show, no_list, h, asks_file)

      -- where the words are not for adding, the last of them is `find`
      pub finds : asks_file given ≡ true → opens add_word given ≡ false → opens find_word given ≡ true
      finds a n = go (opens find_word given) refl
        where
          go : (b : Bool) → opens find_word given ≡ b → opens find_word given ≡ true
          go true q = q
          go false q = absurd (false≢true (sym n ∙ asks_add q ∙ a))
