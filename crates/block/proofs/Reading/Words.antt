-- Words of m bytes read back. Assumes nothing.
use mathlib.Core.Path.{◌≡◌, refl, sym, ap, ap₂, ◌∙◌}
use mathlib.Core.List.{List, [], ◌∷◌, ◌++◌, map, append_assoc}
use Prim.Native.Nat.{ℕ, zero, suc, ◌+◌, ◌*◌, ◌%◌, ◌^◌, ◌≤◌, ◌<◌}
use native.Mathlib.Nat.{mod-eq_of_lt}
use native.Mathlib.Omega.{arith}
use lib.ListN.{length, take, drop, length-drop}
use lib.Seq.{take_at, drop_at, take-add, length-take-le}
use Rattle.lists.specs.Members.{All}
use Rattle.lists.proofs.Entries.Alls.{all_take, all_drop}
use Rattle.block.specs.Bytes.{little_of, words_of, value_of, words_at}
use Rattle.block.proofs.Laying.Words.{length_little}
use Rattle.block.proofs.Reading.Numbers.{Bytes, value_little, little_value, little_mod}

-- words as m bytes hold them
abbrev pub low_words : ℕ → List ℕ → List ℕ
low_words m = map (λ (w : ℕ). w % 256 ^ m)

-- words of m bytes are held whole
pub low_whole : (m : ℕ) (ws : List ℕ) → All (λ (w : ℕ). w < 256 ^ m) ws → low_words m ws ≡ ws
low_whole m [] a = refl
low_whole m (w ∷ ws) a = ap₂ (λ (v : ℕ) (l : List ℕ). v ∷ l) (mod-eq_of_lt a.0) (low_whole m ws a.1)

-- words read from the front of what was written
pub words_read : (m : ℕ) (ws rest : List ℕ) → words_at m (length ws) (words_of m ws ++ rest) ≡ low_words m ws
unfolding words_of words_at
words_read m [] rest = refl
words_read m (w ∷ ws) rest =
    let b : List ℕ = little_of m w in
    let s : b ++ words_of m ws ++ rest ≡ b ++ (words_of m ws ++ rest) = append_assoc b (words_of m ws) rest in
    let t : take m (b ++ words_of m ws ++ rest) ≡ b = ap (take m) s ∙ take_at b (words_of m ws ++ rest) m (length_little m w) in
    let d : drop m (b ++ words_of m ws ++ rest) ≡ words_of m ws ++ rest = ap (drop m) s ∙ drop_at b (words_of m ws ++ rest) m (length_little m w) in
    ap₂ (λ (x l : List ℕ). value_of x ∷ words_at m (length ws) l) t d
    ∙ ap₂ (λ (v : ℕ) (l : List ℕ). v ∷ l) (value_little m w) (words_read m ws rest)

-- words written again that were read from bytes
pub words_back : (m count : ℕ) (b : List ℕ) → m * count ≤ length b → Bytes b → words_of m (words_at m count b) ≡ take (m * count) b
unfolding words_of words_at
words_back m zero b h a = let e : m * 0 ≡ 0 = omega arith in rw e
words_back m (suc count) b h a =
    let e : m * suc count ≡ m + m * count = omega arith in
    let p : little_of m (value_of (take m b)) ≡ take m b = little_value m (take m b) (length-take-le m b (omega arith)) (all_take (λ (x : ℕ). x < 256) m b a) in
    let r : words_of m (words_at m count (drop m b)) ≡ take (m * count) (drop m b) =
    words_back m count (drop m b) (omega (arith, length-drop m b)) (all_drop (λ (x : ℕ). x < 256) m b a) in
    ap₂ (λ (x y : List ℕ). x ++ y) p r ∙ sym (take-add m (m * count) b) ∙ ap (λ (i : ℕ). take i b) (sym e)

-- m bytes hold no more of a word
pub words_low : (m : ℕ) (ws : List ℕ) → words_of m (low_words m ws) ≡ words_of m ws
unfolding words_of
words_low m [] = refl
words_low m (w ∷ ws) = ap₂ (λ (x y : List ℕ). x ++ y) (little_mod m w) (words_low m ws)
