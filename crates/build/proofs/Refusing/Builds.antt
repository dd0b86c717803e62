-- The two builds, refusal by refusal. Assumes nothing.
use Prim.Native.Nat.{ℕ, suc, ◌^◌}
use native.Mathlib.Omega.{arith}
use mathlib.Core.Path.{◌≡◌, refl, sym, ap, ◌∙◌}
use mathlib.Core.Bool.{Bool, true, false, not}
use mathlib.Core.List.{List, [], ◌∷◌, ◌++◌}
use lib.Dec.{ltb}
use lib.ListN.{length, take}
use Rattle.vectors.specs.declared.Kind.{Kind}
use Rattle.vectors.specs.declared.Variable.{Variable}
use Rattle.vectors.specs.Variable.{kinds_of}
use Rattle.choice.specs.Choice.{choose, apart}
use Rattle.vectors.specs.Bounds.{max_variables}
use Rattle.build.specs.Build.{rows_share, after, refused, outcome, chosen_refusal, given_refusal, build_chosen, build_given}
use Rattle.std.proofs.Common.{Err}
use Rattle.refusal.specs.declared.Refused.{Refused}
use Rattle.build.specs.Built.{Refusal, Built, told, refused_as}
use Rattle.refusal.proofs.Numbers.{numbered}
use Rattle.build.specs.Refusals.{ladder, refuse_if, list_checks, given_checks, check2_chosen, check2_given, check11, check12}
use Rattle.record.specs.Tables.{Tables}
use Rattle.build.proofs.Refusing.Ladder.{ladder_append, or_given, or_passed, if_yes, if_no, outcome_refused}

-- a ladder of one rung
one_rung : (m : ℕ) (t : Bool) → ladder (refuse_if (suc m) t ∷ []) ≡ refuse_if (suc m) t
unfolding ladder
one_rung m true = refl
one_rung m false = refl

last_rung : (n1 : ℕ) (h : List ℕ) → ladder (check12 n1 h ∷ []) ≡ check12 n1 h
last_rung n1 h = one_rung 11 (ltb (length h) (2 ^ n1))

-- the first part gives a refusal, or the second part decides
ladder_first : (ps qs : List Refusal) (r : Refusal) → r ≡ ladder ps → (r.number ≡ 0 → ⊥) → ladder (ps ++ qs) ≡ r
ladder_first ps qs r e h = ladder_append ps qs ∙ rw (← e) (or_given r (ladder qs) h)

ladder_second : (ps qs : List Refusal) → (ladder ps).number ≡ 0 → ladder (ps ++ qs) ≡ ladder qs
ladder_second ps qs h = ladder_append ps qs ∙ or_passed (ladder ps) (ladder qs) h

-- a refusal of the code has a number
has_number : (e : Refused) (r : Refusal) → told (Err e) ≡ refused_as r → r.number ≡ 0 → ⊥
has_number e r h z = omega (arith, numbered e.refusal, ap (λ (b : Built). b.refusal) h)

-- ---- variables chosen by rule

-- checks 1 to 7
abbrev pub chosen_list : ℕ → ℕ → ℕ → List ℕ → Tables → List Refusal
chosen_list n degree cells vs t = list_checks n (check2_chosen degree) cells vs (length t.g) (length t.aux)

module _ (n degree cells a : ℕ) (vs : List ℕ) (t : Tables) where
  abbrev ks : List Kind
  ks = choose max_variables n degree vs

  abbrev n1 : ℕ
  n1 = rows_share (length ks)

  abbrev list : List Refusal
  list = chosen_list n degree cells vs t

  by_refusal : (r : Refusal) → chosen_refusal n degree ks cells vs t ≡ r → build_chosen n degree cells a vs t ≡ outcome r n n1 ks cells a vs t
  unfolding build_chosen
  by_refusal r e = rw e

  pub chosen_list_lem : (e : Refused) → told (Err e) ≡ refused_as (ladder list) → after (told (Err e)) t.h t.g t.aux ≡ build_chosen n degree cells a vs t
  unfolding chosen_refusal
  chosen_list_lem e h =
      let r = ladder list in
      let some = has_number e r h in
      ap (λ (b : Built). after b t.h t.g t.aux) h
      ∙ sym (by_refusal r (ladder_first list (check11 ks vs ∷ check12 n1 t.h ∷ []) r refl some) ∙ outcome_refused r n n1 ks cells a vs t some)

  module _ (h : (ladder list).number ≡ 0) where
    pub chosen_apart : apart vs ks ≡ false → refused (record { number = 11; place = 0 }) t ≡ build_chosen n degree cells a vs t
    unfolding chosen_refusal
    chosen_apart q =
        sym
        (by_refusal (record { number = 11; place = 0 })
        (ladder_second list (check11 ks vs ∷ check12 n1 t.h ∷ []) h ∙ if_yes 10 (check12 n1 t.h ∷ []) (not (apart vs ks)) (ap not q))
        ∙ outcome_refused (record { number = 11; place = 0 }) n n1 ks cells a vs t (λ z. omega arith))

    pub chosen_rest : apart vs ks ≡ true → build_chosen n degree cells a vs t ≡ outcome (check12 n1 t.h) n n1 ks cells a vs t
    unfolding chosen_refusal
    chosen_rest q =
        by_refusal (check12 n1 t.h)
        (ladder_second list (check11 ks vs ∷ check12 n1 t.h ∷ []) h ∙ if_no 10 (check12 n1 t.h ∷ []) (not (apart vs ks)) (ap not q) ∙ last_rung n1 t.h)

-- the choice as the code has it: the same kinds, as many
pub chosen_same : (n : ℕ) (p : ℕ) (ks ks' : List Kind) (cells a : ℕ) (vs : List ℕ) (t : Tables) → ks' ≡ ks → p ≡ length ks
    → outcome (check12 (rows_share p) t.h) n (rows_share p) ks' cells a vs t ≡ outcome (check12 (rows_share (length ks)) t.h) n (rows_share (length ks)) ks cells a vs t
chosen_same n p ks ks' cells a vs t e f = rw (e, f)

-- ---- variables given by the caller

abbrev pub given_list : ℕ → ℕ → ℕ → ℕ → List ℕ → Tables → List Refusal
given_list n p n1 cells vs t = list_checks n (check2_given p n1) cells vs (length t.g) (length t.aux)

module _ (n : ℕ) (variables : List Variable) (p n1 cells a : ℕ) (vs : List ℕ) (t : Tables) where
  abbrev gs : List Kind
  gs = kinds_of (take p variables)

  abbrev own : List Refusal
  own = given_list n p n1 cells vs t

  by_given : (r : Refusal) → given_refusal n p n1 gs cells vs t ≡ r → build_given n variables p n1 cells a vs t ≡ outcome r n n1 gs cells a vs t
  unfolding build_given
  by_given r e = rw e

  pub given_list_lem : (e : Refused) → told (Err e) ≡ refused_as (ladder own) → after (told (Err e)) t.h t.g t.aux ≡ build_given n variables p n1 cells a vs t
  unfolding given_refusal
  given_list_lem e h =
      let r = ladder own in
      let some = has_number e r h in
      ap (λ (b : Built). after b t.h t.g t.aux) h
      ∙ sym (by_given r (ladder_first own (given_checks n gs vs ++ (check12 n1 t.h ∷ [])) r refl some) ∙ outcome_refused r n n1 gs cells a vs t some)

  module _ (h : (ladder own).number ≡ 0) where
    pub given_variables : (e : Refused) → told (Err e) ≡ refused_as (ladder (given_checks n gs vs)) → after (told (Err e)) t.h t.g t.aux ≡ build_given n variables p n1 cells a vs t
    unfolding given_refusal
    given_variables e k =
        let r = ladder (given_checks n gs vs) in
        let some = has_number e r k in
        ap (λ (b : Built). after b t.h t.g t.aux) k
        ∙ sym
        (by_given r
        (ladder_second own (given_checks n gs vs ++ (check12 n1 t.h ∷ [])) h ∙ ladder_first (given_checks n gs vs) (check12 n1 t.h ∷ []) r refl some)
        ∙ outcome_refused r n n1 gs cells a vs t some)

    pub given_rest : (ladder (given_checks n gs vs)).number ≡ 0 → build_given n variables p n1 cells a vs t ≡ outcome (check12 n1 t.h) n n1 gs cells a vs t
    unfolding given_refusal
    given_rest k =
        by_given (check12 n1 t.h)
        (ladder_second own (given_checks n gs vs ++ (check12 n1 t.h ∷ [])) h ∙ ladder_second (given_checks n gs vs) (check12 n1 t.h ∷ []) k ∙ last_rung n1 t.h)
