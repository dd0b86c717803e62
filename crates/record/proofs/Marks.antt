-- The variables of a record with their part marks, one more at a time. Assumes nothing.
use Prim.Native.Nat.{ℕ, suc, ◌+◌, ◌-◌, ◌≤◌, ◌<◌}
use native.Mathlib.Omega.{arith}
use mathlib.Core.Path.{◌≡◌, refl, sym, ap, ap₂, ◌∙◌}
use mathlib.Core.List.{List, [], ◌∷◌, ◌++◌, map, map-append, append-nil, append_assoc}
use mathlib.Core.Logic.{⊎_elim}
use lib.ListN.{length, get_or, take, drop, set, replicate, length-append, length-map, length-take, length-drop, take-append-drop, drop_of_length-le}
use lib.Seq.{take_at, set_at, append_snoc, take_all, take-nil, drop-nil, take-append-le, drop-append-le}
use borrow.Author.Tests.{lt-ltb, le-ltb}
use Rattle.lists.proofs.Tests.{le_or_lt}
use Rattle.lists.proofs.Entries.Members.{take_more, map_take}
use Rattle.vectors.specs.declared.Kind.{Kind}
use Rattle.vectors.specs.declared.Part.{Part}
use Rattle.vectors.specs.declared.Part.TheVariants.{Row, Column}
use Rattle.vectors.specs.declared.Variable.{Variable}
use Rattle.vectors.specs.Variable.{kinds_of, blank_variable}
use Rattle.vectors.proofs.Variables.Numbers.{kinds_length}
use Rattle.vectors.specs.Bounds.{max_variables}
use Rattle.record.specs.Record.{variables_of}
use Rattle.record.specs.Inner.Parts.{part_at}

abbrev with_part : Part → Kind → Variable
with_part p k = record { kind = k; part = p }

-- the used places
abbrev front : ℕ → List Kind → List Variable
front n1 ks = map (with_part Row) (take n1 ks) ++ map (with_part Column) (drop n1 ks)

front_length : (n1 : ℕ) (ks : List Kind) → length (front n1 ks) ≡ length ks
front_length n1 ks =
    length-append (map (with_part Row) (take n1 ks)) (map (with_part Column) (drop n1 ks))
    ∙ ap₂ ◌+◌ (length-map (take n1 ks) (with_part Row) ∙ length-take n1 ks) (length-map (drop n1 ks) (with_part Column) ∙ length-drop n1 ks)
    ∙ omega arith

front_snoc : (n1 : ℕ) (ks : List Kind) (k : Kind) → front n1 (ks ++ (k ∷ [])) ≡ front n1 ks ++ (with_part (part_at (length ks) n1) k ∷ [])
front_snoc n1 ks k = ⊎_elim column row (le_or_lt n1 (length ks))
  where
    column : n1 ≤ length ks → front n1 (ks ++ (k ∷ [])) ≡ front n1 ks ++ (with_part (part_at (length ks) n1) k ∷ [])
    column h =
        rw (le-ltb (length ks) n1 h, take-append-le n1 ks (k ∷ []) h, drop-append-le n1 ks (k ∷ []) h, map-append (with_part Column) (drop n1 ks) (k ∷ []))
        (sym (append_assoc (map (with_part Row) (take n1 ks)) (map (with_part Column) (drop n1 ks)) (with_part Column k ∷ [])))

    row : length ks < n1 → front n1 (ks ++ (k ∷ [])) ≡ front n1 ks ++ (with_part (part_at (length ks) n1) k ∷ [])
    row h =
        let l : length (ks ++ (k ∷ [])) ≤ n1 = omega (arith, length-append ks (k ∷ [])) in
        let m : length ks ≤ n1 = omega arith in
        rw (lt-ltb (length ks) n1 h, take_all n1 (ks ++ (k ∷ [])) l, drop_of_length-le (ks ++ (k ∷ [])) {i = n1} l, take_all n1 ks m, drop_of_length-le ks {i = n1} m)
        (rw (append-nil, append-nil) (map-append (with_part Row) ks (k ∷ [])))

pub marks_none : (n1 : ℕ) → replicate max_variables blank_variable ≡ variables_of n1 []
marks_none n1 = rw (take-nil n1, drop-nil n1)

-- the next place gets its variable, with the part mark of the place
pub marks_more : (n1 : ℕ) (ks : List Kind) (k : Kind) → length ks < max_variables
    → set (variables_of n1 ks) (length ks) (record { kind = k; part = part_at (length ks) n1 }) ≡ variables_of n1 (ks ++ (k ∷ []))
marks_more n1 ks k h =
    let e : max_variables - length ks ≡ suc (max_variables - length (ks ++ (k ∷ []))) = omega (arith, length-append ks (k ∷ [])) in
    ap (λ (d : ℕ). set (front n1 ks ++ replicate d blank_variable) (length ks) v) e
    ∙ set_at (front n1 ks) blank_variable (replicate (max_variables - length (ks ++ (k ∷ []))) blank_variable) v (length ks) (front_length n1 ks)
    ∙ sym (append_snoc (front n1 ks) v (replicate (max_variables - length (ks ++ (k ∷ []))) blank_variable))
    ∙ ap (λ (l : List Variable). l ++ replicate (max_variables - length (ks ++ (k ∷ []))) blank_variable) (sym (front_snoc n1 ks k))
  where
    v : Variable
    v = with_part (part_at (length ks) n1) k

-- a variable more, as a loop over the places has it
pub marking_more : (n1 : ℕ) (vs m : List Variable) (i : ℕ) (d : Variable) (part : Part) → i < length vs → i < max_variables → part ≡ part_at i n1
    → m ≡ variables_of n1 (kinds_of (take i vs)) → set m i (record { kind = (get_or vs i d).kind; part = part }) ≡ variables_of n1 (kinds_of (take (i + 1) vs))
marking_more n1 vs m i d part h g e f =
    let l : length (kinds_of (take i vs)) ≡ i = kinds_length vs i (omega arith) in
    let s : kinds_of (take (i + 1) vs) ≡ kinds_of (take i vs) ++ ((get_or vs i d).kind ∷ []) =
    ap kinds_of (take_more vs i d h) ∙ map-append (λ (v : Variable). v.kind) (take i vs) (get_or vs i d ∷ []) in
    ap₂ (λ (t : List Variable) (q : Part). set t i (with_part q (get_or vs i d).kind)) f e
    ∙ ap (λ (j : ℕ). set (variables_of n1 (kinds_of (take i vs))) j (with_part (part_at j n1) (get_or vs i d).kind)) (sym l)
    ∙ marks_more n1 (kinds_of (take i vs)) (get_or vs i d).kind (omega arith) ∙ ap (variables_of n1) (sym s)

-- ---- the variables without their marks

unmarked : (p : Part) (ks : List Kind) → kinds_of (map (with_part p) ks) ≡ ks
unmarked p [] = refl
unmarked p (k ∷ ks) = ap (λ (l : List Kind). k ∷ l) (unmarked p ks)

-- the places in use have the variables as they were
pub kinds_in_lem : (n1 : ℕ) (ks : List Kind) → kinds_of (take (length ks) (variables_of n1 ks)) ≡ ks
kinds_in_lem n1 ks =
    let rest : List Variable = replicate (max_variables - length ks) blank_variable in
    let f : kinds_of (front n1 ks) ≡ ks =
    map-append (λ (v : Variable). v.kind) (map (with_part Row) (take n1 ks)) (map (with_part Column) (drop n1 ks))
    ∙ ap₂ (λ (a b : List Kind). a ++ b) (unmarked Row (take n1 ks)) (unmarked Column (drop n1 ks)) ∙ take-append-drop n1 ks in
    map_take (λ (v : Variable). v.kind) (length ks) (variables_of n1 ks)
    ∙ ap (take (length ks)) (map-append (λ (v : Variable). v.kind) (front n1 ks) rest ∙ ap (λ (a : List Kind). a ++ kinds_of rest) f)
    ∙ take_at ks (kinds_of rest) (length ks) refl
