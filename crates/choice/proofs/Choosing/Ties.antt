-- The inputs that are tied when p variables are taken. Assumes nothing.
use Prim.Native.Nat.{ℕ, zero, suc, ◌^◌, ◌≤◌, ◌<◌}
use native.Mathlib.Omega.{arith}
use native.Mathlib.Nat.{zero-div}
use mathlib.Core.Path.{◌≡◌, refl, sym, subst, ◌∙◌}
use mathlib.Core.Bool.{Bool, true, false}
use mathlib.Core.List.{List, [], ◌∷◌, map}
use lib.Bits.{bit_or}
use lib.Dec.{eqb}
use lib.ListN.{length}
use borrow.Author.Tests.{eqb-true, eqb-false}
use Rattle.lists.specs.Cut.{cut}
use Rattle.lists.specs.Members.{All}
use Rattle.lists.proofs.Entries.Members.{all_map, get_d_in}
use Rattle.lists.proofs.Entries.Alls as alls
use Rattle.vectors.specs.declared.Kind.{Kind}
use Rattle.vectors.specs.declared.Kind.TheVariants.{One, Two}
use Rattle.vectors.specs.Bits.{input}
use Rattle.vectors.specs.Bounds.{max_inputs}
use Rattle.choice.specs.Choice.{candidates, best_of}
use Rattle.vectors.specs.Variable.{earlier, later, value_of, faulty}
use Rattle.vectors.proofs.Bits.Sets.{input_set}
use Rattle.choice.proofs.Choice.Candidates.{candidates_some, candidate_sound}
use Rattle.choice.specs.Inner.Split.{joined, part, refined}
use Rattle.choice.proofs.Choice.Groups.{part_all, refined_all}
use Rattle.choice.proofs.Choice.Least.{best_least}
use Rattle.choice.specs.Inner.Ties.{Tied, Ties, later_of}
use Rattle.choice.proofs.Counting.Columns.{value_inputs}
use Rattle.choice.proofs.Grouping.Cut.{cut_map}
use Rattle.choice.proofs.Searching.Order.{inputs_in}

-- the best candidate is one of them
pub best_sound : (f : Kind → ℕ) (n degree : ℕ) (c : Kind) → 0 < n → c ≡ best_of f (candidates n degree) → faulty n c ≡ false
best_sound f n degree c h e =
    let l = best_least f (candidates n degree) (candidates_some n degree h) in
    subst (λ (k : Kind). faulty n k ≡ false) (l.is ∙ sym e) (candidate_sound n degree _ (get_d_in (candidates n degree) l.at (One 0) l.below))

-- a half has one value
part_value : (b : ℕ → ℕ) (v : ℕ) (g : List ℕ) → All (λ m. b m ≡ v) (part b v g)
unfolding part
part_value b v [] = tt
part_value b v (m ∷ g) = go (eqb (b m) v) refl (part_value b v g)
  where
    go : (t : Bool) → eqb (b m) v ≡ t → All (λ m. b m ≡ v) (part b v g) → All (λ m. b m ≡ v) (joined t m (part b v g))
    go true e r = (eqb-true (b m) v e, r)
    go false e r = r

-- with the later input of a variable set, the others stay
others_stay : (n : ℕ) (c : Kind) → n ≤ max_inputs → faulty n c ≡ false → (tied j : ℕ) → (j ≡ later c → ⊥) → input (bit_or tied (later_of c)) j ≡ input tied j
others_stay n c h s tied j d = let l = inputs_in n c s in input_set max_inputs tied (later c) j (omega arith) (omega arith) d

module _ (h : ℕ → ℕ) where
  -- none
  pub ties_none : (gs : List (List ℕ)) → Ties 0 h gs
  ties_none gs zero e = absurd (omega arith)
  ties_none gs (suc j) e = absurd (omega (arith, zero-div (2 ^ j)))

  -- ties stay where groups are split
  ties_kept : (b : ℕ → ℕ) (i j : ℕ) (gs : List (List ℕ)) → All (Tied h i j) gs → All (Tied h i j) (refined b gs)
  ties_kept b i j = refined_all (Tied h i j) (Tied h i j) b (λ g v t s. (t.0, part_all (λ m. value_of (h m) (Two i j) ≡ t.0) b v g t.1))

  -- the inputs of the variable by which they are split
  ties_new : (c : Kind) (gs : List (List ℕ)) → All (λ g. 2 ≤ length g) gs → All (Tied h (earlier c) (later c)) (refined (λ m. value_of (h m) c) gs)
  ties_new c =
      refined_all (λ g. 2 ≤ length g) (Tied h (earlier c) (later c)) (λ m. value_of (h m) c)
      (λ g v t s. (v, all_map (λ m. value_of (h m) c ≡ v) (λ m. value_of (h m) (Two (earlier c) (later c)) ≡ v) (λ m e. value_inputs (h m) c ∙ e) (part (λ m. value_of (h m) c) v g) (part_value (λ m. value_of (h m) c) v g)))

  -- one variable more is taken, its later input is tied
  pub ties_more : (n tied : ℕ) (c : Kind) (gs : List (List ℕ)) → n ≤ max_inputs → faulty n c ≡ false → All (λ g. 2 ≤ length g) gs → Ties tied h gs
      → Ties (bit_or tied (later_of c)) h (refined (λ m. value_of (h m) c) gs)
  ties_more n tied c gs fits s many t j e = go (eqb j (later c)) refl
    where
      go : (b : Bool) → eqb j (later c) ≡ b → (i : ℕ) × (i < j) × All (Tied h i j) (refined (λ m. value_of (h m) c) gs)
      go true q = let z = eqb-true j (later c) q in rw z (earlier c, (inputs_in n c s).0, ties_new c gs many)
      go false q =
          let (i, m, g) = t j (sym (others_stay n c fits s tied j (eqb-false j (later c) q)) ∙ e) in
          (i, m, ties_kept (λ m. value_of (h m) c) i j gs g)

  -- of the words gathered
  pub ties_words : (tied : ℕ) (sizes order : List ℕ) → Ties tied h (cut sizes order) → Ties tied (λ x. x) (cut sizes (map h order))
  ties_words tied sizes order t j e =
      let (i, l, g) = t j e in
      (i, l, rw (cut_map h sizes order) (alls.all_map (Tied (λ x. x) i j) (map h) (cut sizes order) (all_map (Tied h i j) (λ g. Tied (λ x. x) i j (map h g)) (λ g t. (t.0, alls.all_map (λ x. value_of x (Two i j) ≡ t.0) h g t.1)) (cut sizes order) g)))
