-- The variables of a head, one more at a time, and the record that it says. Assumes nothing.
use mathlib.Core.Path.{◌≡◌, refl, sym, ap, ap₂, ◌∙◌}
use mathlib.Core.List.{List, [], ◌∷◌, ◌++◌, map, map-append}
use Prim.Native.Nat.{ℕ, zero, suc, ◌+◌, ◌*◌, ◌≤◌, ◌<◌}
use native.Mathlib.Numerals.{add-one}
use native.Mathlib.Omega.{arith}
use lib.ListN.{length, get_or, take, set, length-set}
use lib.IntN.{ℤ}
use lib.Seq.{take_all, take-suc-set}
use Rattle.lists.proofs.Entries.Members.{map_take}
use Rattle.vectors.specs.declared.Kind.{Kind}
use Rattle.vectors.specs.declared.Variable.{Variable}
use Rattle.vectors.specs.Bounds.{max_variables}
use Rattle.vectors.specs.Variable.{kinds_of}
use Rattle.span.specs.Span.{kept}
use Rattle.span.specs.Within.{inputs_in, within, kinds_within}
use Rattle.record.specs.declared.Mark.{Mark}
use Rattle.record.specs.Record.{mark_of, variables_of, excess_of}
use Rattle.block.specs.Bytes.{number_at}
use Rattle.file.specs.Layout.{n_at, p_at, n1_at, k_at, cells_at, tries_at, variables_at, mark_at}
use Rattle.file.specs.Decode.{kind_of, kinds_from}
use Rattle.load.specs.Inner.Said.{kinds_said, said_in}

-- one variable more, at the end
kinds_more : (p at : ℕ) (file : List ℕ) → kinds_from (suc p) at file ≡ kinds_from p at file ++ (kind_of (get_or file (at + 2 * p) 0) (get_or file (at + 2 * p + 1) 0) ∷ [])
unfolding kinds_from
kinds_more zero at file = let e : at + 2 * 0 ≡ at = omega arith in let f : at + 1 ≡ suc at = omega arith in rw (e, f)
kinds_more (suc p) at file =
    let e : suc (suc at) + 2 * p ≡ at + 2 * suc p = omega arith in
    ap (λ (ks : List Kind). kind_of (get_or file at 0) (get_or file (suc at) 0) ∷ ks)
    (kinds_more p (suc (suc at)) file ∙ ap (λ (i : ℕ). kinds_from p (suc (suc at)) file ++ (kind_of (get_or file i 0) (get_or file (i + 1) 0) ∷ [])) e)

-- the loop at variable i
pub record Naming (file : List ℕ) (vs : List Variable) (i : ℕ) : Type 0 where
  pub within : i ≤ max_variables
  pub size : length vs ≡ max_variables
  pub is : kinds_of (take i vs) ≡ kinds_from i variables_at file

module _ (file : List ℕ) (vs : List Variable) where
  pub naming_none : length vs ≡ max_variables → Naming file vs 0
  unfolding kinds_from
  naming_none n = record { within = omega arith; size = n; is = refl }

  pub naming_more : (i : ℕ) (v : Variable) → i < max_variables → v.kind ≡ kind_of (get_or file (variables_at + 2 * i) 0) (get_or file (variables_at + 2 * i + 1) 0)
      → Naming file vs i → Naming file (set vs i v) (i + 1)
  naming_more i v h e k =
      let t : take (suc i) (set vs i v) ≡ take i vs ++ (v ∷ []) = take-suc-set vs i v (omega (arith, k.size)) in
      record {
        within = omega arith;
        size = length-set vs i v ∙ k.size;
        is = rw (add-one i) (ap kinds_of t ∙ map-append (λ (w : Variable). w.kind) (take i vs) (v ∷ [])
            ∙ ap₂ (λ (ks : List Kind) (x : Kind). ks ++ (x ∷ [])) k.is e ∙ sym (kinds_more i variables_at file));
      }

  pub naming_end : (i : ℕ) → max_variables ≤ i → Naming file vs i → kinds_of vs ≡ kinds_from max_variables variables_at file
  naming_end i h k =
      let e : i ≡ max_variables = omega (arith, k.within) in
      sym (ap kinds_of (take_all i vs (omega (arith, k.size)))) ∙ k.is ∙ ap (λ (j : ℕ). kinds_from j variables_at file) e

-- ---- the record

pub said_made : (file : List ℕ) (vs marks : List Variable) (n p n1 k cells tries mask number : ℕ) (excess : ℤ) (mark : Mark) → kinds_of vs ≡ kinds_from max_variables variables_at file
    → n ≡ number_at 1 n_at file → p ≡ number_at 1 p_at file → n1 ≡ number_at 1 n1_at file → k ≡ number_at 2 k_at file → cells ≡ number_at 2 cells_at file → tries ≡ number_at 4 tries_at file
    → mask ≡ kept (inputs_in n) (kinds_within n p vs) → excess ≡ excess_of p k → marks ≡ variables_of n1 (kinds_of (take p vs)) → number ≡ number_at 1 mark_at file → mark ≡ mark_of number
    → record { n = n; p = p; n1 = n1; k = k; cells = cells; kept = mask; tries = tries; excess = excess; variables = marks; mark = mark } ≡ said_in file
unfolding said_in
said_made file vs marks n p n1 k cells tries mask number excess mark ks en ep e1 ek ec et em ex ev eb er =
    let q : kinds_of (take p vs) ≡ kinds_said file = map_take (λ (v : Variable). v.kind) p vs ∙ ap₂ take ep ks in
    let m : mask ≡ kept (inputs_in (number_at 1 n_at file)) (map (within (inputs_in (number_at 1 n_at file))) (kinds_said file)) =
    em ∙ ap₂ (λ (i : ℕ) (l : List Kind). kept (inputs_in i) (map (within (inputs_in i)) l)) en q in
    let x : excess ≡ excess_of (number_at 1 p_at file) (number_at 2 k_at file) = ex ∙ ap₂ excess_of ep ek in
    let v : marks ≡ variables_of (number_at 1 n1_at file) (kinds_said file) = ev ∙ ap₂ variables_of e1 q in
    let r : mark ≡ mark_of (number_at 1 mark_at file) = er ∙ ap mark_of eb in
    cc
