-- Going through the variables with labels: the first that is an XOR of earlier ones. Assumes nothing.
use Prim.Native.Nat.{ℕ, suc, ◌+◌, ◌<◌}
use native.Mathlib.Numerals.{add-one}
use mathlib.Core.Path.{◌≡◌, refl, sym, ap, ◌∙◌}
use mathlib.Core.Bool.{Bool, true, false}
use mathlib.Core.List.{List, [], ◌∷◌, map}
use lib.Dec.{eqb}
use lib.ListN.{length, get_or, drop}
use lib.Seq.{drop-cons, drop-length}
use Rattle.std.proofs.Common.{Option, None, Some, MatchOption}
use Rattle.std.specs.Option.{option_or}
use Rattle.std.specs.Bool.{then_some}
use Rattle.lists.specs.First.{first_in, first_of, place_number}
use Rattle.lists.specs.Members.{All}
use Rattle.lists.proofs.Entries.Members.{all_in, get_d_in}
use Rattle.lists.proofs.Finding.Firsts.{first_here, first_on}
use Rattle.vectors.specs.declared.Kind.{Kind}
use Rattle.vectors.specs.Variable.{earlier, later, mask_of}
use Rattle.span.specs.Span.{spans, first_dependent}
use Rattle.span.specs.Inner.Tags.{nodes_from, merged}
use Rattle.span.proofs.Labels.Tied.{Tied}
use Rattle.span.proofs.Labels.Edges.{Edge, tied_kind, spans_kind, tied_nodes}

-- the i-th of the variables is an edge
pub edge_at : (n : ℕ) (ks : List Kind) (i : ℕ) (d : Kind) → All (Edge n) ks → i < length ks → Edge n (get_or ks i d)
edge_at n ks i d f h = all_in (Edge n) (get_or ks i d) ks f (get_d_in ks i d h)

-- at the loop's head, with i variables passed, first being the place of the first dependent one among them
pub record Going (ks : List Kind) (c : List ℕ) (first : Option ℕ) (i : ℕ) : Type 0 where
  pub ms : List ℕ
  pub tied : Tied ms c
  pub known : MatchOption first (first_dependent ks ≡ first_in spans ms (map mask_of (drop i ks)) (i + 1)) (λ j. first_dependent ks ≡ suc j)

pub going_start : (ks : List Kind) (d : ℕ) → Going ks (nodes_from d 0) None 0
unfolding first_dependent first_of
going_start ks d = record { ms = []; tied = tied_nodes d; known = refl }

module _ (n : ℕ) (ks : List Kind) (c : List ℕ) (i : ℕ) (d : Kind) (f : All (Edge n) ks) (l : n < length c) (h : i < length ks) where
  abbrev k : Kind
  k = get_or ks i d

  abbrev inside : Bool
  inside = eqb (get_or c (earlier k) 0) (get_or c (later k) 0)

  pub going_more : (first : Option ℕ) (c' : List ℕ) → c' ≡ merged c (earlier k) (later k) → Going ks c first i
      → Going ks c' (option_or first (then_some inside i)) (i + 1)
  going_more first c' m g = record { ms = mask_of k ∷ g.ms; tied = rw m (tied_kind n k g.ms c (edge_at n ks i d f h) l g.tied); known = go first g.known inside refl }
    where
      spanned : spans g.ms (mask_of k) ≡ inside
      spanned = spans_kind n k g.ms c (edge_at n ks i d f h) l g.tied

      next : first_dependent ks ≡ first_in spans g.ms (map mask_of (drop i ks)) (i + 1)
          → first_dependent ks ≡ first_in spans g.ms (mask_of k ∷ map mask_of (drop (suc i) ks)) (i + 1)
      next e = e ∙ ap (λ (t : List Kind). first_in spans g.ms (map mask_of t) (i + 1)) (drop-cons ks i d h)

      go : (first : Option ℕ) → MatchOption first (first_dependent ks ≡ first_in spans g.ms (map mask_of (drop i ks)) (i + 1)) (λ j. first_dependent ks ≡ suc j)
          → (y : Bool) → inside ≡ y
          → MatchOption (option_or first (then_some y i)) (first_dependent ks ≡ first_in spans (mask_of k ∷ g.ms) (map mask_of (drop (i + 1) ks)) (i + 1 + 1))
          (λ j. first_dependent ks ≡ suc j)
      go (Some j) e y p = e
      go None e true p = next e ∙ first_here spans g.ms (mask_of k) (map mask_of (drop (suc i) ks)) (i + 1) (spanned ∙ p) ∙ add-one i
      go None e false p =
          next e ∙ first_on spans g.ms (mask_of k) (map mask_of (drop (suc i) ks)) (i + 1) (spanned ∙ p) ∙ rw (add-one (i + 1), add-one i)

pub going_end : (ks : List Kind) (c : List ℕ) (first : Option ℕ) (i : ℕ) → Going ks c first i → length ks ≡ i → place_number first ≡ first_dependent ks
unfolding first_in
going_end ks c first i g e = go first g.known
  where
    go : (first : Option ℕ) → MatchOption first (first_dependent ks ≡ first_in spans g.ms (map mask_of (drop i ks)) (i + 1)) (λ j. first_dependent ks ≡ suc j)
        → place_number first ≡ first_dependent ks
    go (Some j) k = sym k
    go None k = sym (k ∙ rw (← e, drop-length ks))
