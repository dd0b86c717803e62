-- What holds at the heads of the loops over tags. Assumes nothing.
use Prim.Native.Nat.{ℕ, ◌+◌, ◌-◌, ◌*◌, ◌/◌, ◌%◌, ◌^◌, ◌≤◌, ◌<◌, min}
use native.Mathlib.Nat.{mul-zero, mul-one}
use native.Mathlib.Omega.{arith}
use mathlib.Core.Path.{◌≡◌, sym, ap, ap₂, ◌∙◌}
use mathlib.Core.Bool.{Bool, true, false, cond}
use mathlib.Core.List.{List, map}
use lib.Dec.{eqb}
use lib.ListN.{length, get_or, take, drop, length-map}
use Rattle.std.proofs.lemmas.List.{get_or-map}
use Rattle.std.proofs.Common.{Option, None}
use Rattle.std.specs.Option.{option_or}
use Rattle.std.specs.Bool.{then_some}
use Rattle.lists.specs.First.{place_number}
use Rattle.lists.specs.Members.{All}
use Rattle.lists.proofs.Entries.Parts.{take_least}
use Rattle.vectors.specs.declared.Kind.{Kind}
use Rattle.vectors.specs.declared.Kind.TheVariants.{One}
use Rattle.vectors.specs.declared.Variable.{Variable}
use Rattle.vectors.specs.Bounds.{max_inputs, max_variables}
use Rattle.vectors.specs.Variable.{earlier, later, kinds_of}
use Rattle.span.specs.Within.{within, inputs_in, kinds_within}
use Rattle.span.specs.Span.{first_dependent}
use Rattle.span.specs.Inner.Tags.{start_tags, half, met, joined, tags_on, grounded_on, kept_on}
use Rattle.span.proofs.Labels.Edges.{Edge}
use Rattle.span.proofs.Labels.Tags.{half_at, half_joined, half_start, length_start, length_joined}
use Rattle.span.proofs.Labels.Depend.{Going, going_start, going_more, going_end}
use Rattle.span.proofs.Labels.Walk.{Low, low_more, low_all, tags_more, tags_end, ground_more, ground_end, kept_more, kept_end}

-- ---- the variables that count

module _ (n p q : ℕ) (vs : List Variable) (e : length vs ≡ max_variables) (f : q ≡ min p max_variables) where
  looked_at : take q vs ≡ take p vs
  looked_at = rw f (take_least p vs max_variables e)

  pub kinds_many : length (kinds_within n p vs) ≡ length (take q vs)
  kinds_many = length-map (kinds_of (take p vs)) (within (inputs_in n)) ∙ length-map (take p vs) (λ v. v.kind) ∙ ap length (sym looked_at)

  pub kinds_one : (i : ℕ) (d : Variable) → i < length (take q vs) → within (inputs_in n) (get_or (take q vs) i d).kind ≡ get_or (kinds_within n p vs) i (One 0)
  kinds_one i d h =
      let l : i < length (take p vs) = rw looked_at at h in
      let m : i < length (kinds_of (take p vs)) = omega (arith, length-map (take p vs) (λ v. v.kind)) in
      rw looked_at
      (sym
      (get_or-map (within (inputs_in n)) (kinds_of (take p vs)) i (One 0) (One 0) m
      ∙ ap (within (inputs_in n)) (get_or-map (λ v. v.kind) (take p vs) i d (One 0) l)))

-- ---- through the variables: i of them passed, rest the values left

pub record Walking (ks : List Kind) (values : ℕ) (c : List ℕ) (rest : ℕ) (first : Option ℕ) (i : ℕ) : Type 0 where
  pub size : length c ≡ max_inputs + 1
  pub going : Going ks (map half c) first i
  pub left : tags_on (drop i ks) rest c ≡ tags_on ks values (start_tags (max_inputs + 1))

pub walking_none : (ks : List Kind) (values : ℕ) (c : List ℕ) → c ≡ start_tags (max_inputs + 1) → Walking ks values c values None 0
walking_none ks values c e =
    record {
      size = ap length e ∙ length_start (max_inputs + 1);
      going = rw (e, half_start (max_inputs + 1)) (going_start ks (max_inputs + 1));
      left = ap (tags_on ks values) e;
    }

pub walking_more : (n : ℕ) (ks : List Kind) (values : ℕ) (c : List ℕ) (rest : ℕ) (first : Option ℕ) (i : ℕ) (k : Kind) (c' : List ℕ) (inside : Bool) → n ≤ max_inputs
    → All (Edge n) ks → i < length ks → k ≡ get_or ks i (One 0) → c' ≡ joined c (earlier k) (later k) (rest % 2)
    → inside ≡ met c (earlier k) (later k) → Walking ks values c rest first i → Walking ks values c' (rest / 2) (option_or first (then_some inside i)) (i + 1)
walking_more n ks values c rest first i k c' inside l f h e j q w =
    let m : length (map half c) ≡ length c = length-map c half in
    let p : inside ≡ eqb (get_or (map half c) (earlier k) 0) (get_or (map half c) (later k) 0) =
    q ∙ sym (ap₂ eqb (half_at c (earlier k)) (half_at c (later k))) in
    record {
      size = ap length j ∙ length_joined c (earlier k) (later k) (rest % 2) ∙ w.size;
      going = rw (p, e)
          (going_more n ks (map half c) i (One 0) f (omega (arith, w.size)) h first (map half c')
          (ap (map half) j ∙ half_joined c (earlier k) (later k) (rest % 2) (omega arith) ∙ rw e) w.going);
      left = sym (tags_more ks rest c c' i (One 0) h (rw e at j)) ∙ w.left;
    }

pub walking_all : (ks : List Kind) (values : ℕ) (c : List ℕ) (rest : ℕ) (first : Option ℕ) (i : ℕ) → length ks ≡ i → Walking ks values c rest first i
    → (place_number first ≡ first_dependent ks) × (c ≡ tags_on ks values (start_tags (max_inputs + 1)))
walking_all ks values c rest first i e w = (going_end ks (map half c) first i w.going e, sym (tags_end ks rest c i e) ∙ w.left)

-- ---- through n inputs: j of them passed, w the bits left

pub record Grounding (n word : ℕ) (c₀ c : List ℕ) (w kept j : ℕ) : Type 0 where
  pub size : length c ≡ length c₀
  pub low : Low (kept_on n 0 (map half c₀)) kept j (kept_on (n - j) j (map half c))
  pub left : grounded_on (n - j) j w c ≡ grounded_on n 0 word c₀

module _ (n word : ℕ) (c₀ c : List ℕ) (w kept j : ℕ) (h : j < n) (c' : List ℕ) (q : c' ≡ joined c (j + 1) 0 (w % 2)) (g : Grounding n word c₀ c w kept j) where
  pub grounding_more : (y : Bool) → met c (j + 1) 0 ≡ y → (kept' : ℕ) → kept' ≡ kept + 2 ^ j * cond y 0 1
      → Grounding n word c₀ c' (cond y w (w / 2)) kept' (j + 1)
  grounding_more y e kept' k =
      record {
        size = ap length q ∙ length_joined c (j + 1) 0 (w % 2) ∙ g.size;
        low = low_more _ kept j (cond y 0 1) _ _ kept' (bit y) (kept_more n j w c h c' (w % 2) (omega arith) q ∙ rw e) k g.low;
        left = sym (ground_more n j w c h (cond y w (w / 2)) c' (rw e) q) ∙ g.left;
      }
    where
      bit : (y : Bool) → cond {A = ℕ} y 0 1 < 2
      bit true = omega arith
      bit false = omega arith

  -- the input has met the ground
  pub grounding_on : met c (j + 1) 0 ≡ true → Grounding n word c₀ c' w kept (j + 1)
  grounding_on e = grounding_more true e kept (omega (arith, mul-zero (2 ^ j)))

  -- the input is kept
  pub grounding_kept : met c (j + 1) 0 ≡ false → (kept' : ℕ) → kept' ≡ kept + 2 ^ j → Grounding n word c₀ c' (w / 2) kept' (j + 1)
  grounding_kept e kept' k = grounding_more false e kept' (k ∙ ap (λ (t : ℕ). kept + t) (sym (mul-one (2 ^ j))))

pub grounding_all : (n word : ℕ) (c₀ c : List ℕ) (w kept j : ℕ) → j ≡ n → Grounding n word c₀ c w kept j
    → (kept ≡ kept_on n 0 (map half c₀)) × (c ≡ grounded_on n 0 word c₀)
grounding_all n word c₀ c w kept j e g = (low_all _ _ _ _ (kept_end n j (map half c) e) g.low, sym (ground_end n j c e w) ∙ g.left)
