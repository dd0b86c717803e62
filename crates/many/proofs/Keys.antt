-- A loop along the keys: the indices stored, and the first refusal. Assumes nothing.
use Prim.Native.Nat.{ℕ, suc, ◌+◌, ◌-◌, ◌≤◌, ◌<◌}
use native.Mathlib.Omega.{arith}
use native.Mathlib.Numerals.{add-one}
use mathlib.Core.Path.{◌≡◌, refl, sym, ap, ap₂, ◌∙◌}
use Rattle.std.proofs.Common.{Result, Ok, Err}
use mathlib.Core.Bool.{cond}
use mathlib.Core.List.{List, [], ◌∷◌, ◌++◌, map}
use borrow.Author.Tests.{lt-ltb, le-ltb}
use lib.Dec.{ltb}
use lib.ListN.{length, get_or, take, drop, set, replicate, length-map, drop_of_length-le}
use lib.Seq.{drop-cons, length-take-le}
use Rattle.lists.proofs.Entries.Members.{get_d_map}
use Rattle.lists.proofs.Writing.Storing.{storing_none}
use Rattle.refusal.specs.declared.Refusal.{Refusal}
use Rattle.refusal.specs.declared.Refused.{Refused}
use Rattle.refusal.specs.Refusal.{number_of}
use Rattle.record.specs.Tables.{over}
use Rattle.lookup.specs.Lookup.{Found, found, not_found}
use Rattle.many.specs.Lookups.{Many, refused_at, or_else, first_refused, left, left_by, lookup_many}
use Rattle.many.specs.Inner.Keys.{Done, Within, Stopped}
use Rattle.many.proofs.Stored.{stored_more, stored_all}

-- ---- one key more

pub done_more : (look : ℕ → Found) (keys old l : List ℕ) (v i : ℕ) → i < length keys → v ≡ (look (get_or keys i 0)).index → Done look keys old l i
    → Done look keys old (set l i v) (i + 1)
done_more look keys old l v i h e g =
    stored_more (map (λ x. (look x).index) keys) old 0 v l i (rw (length-map keys (λ x. (look x).index)) h)
    (e ∙ sym (get_d_map (λ x. (look x).index) keys i 0 0 h)) g

pub done_none : (look : ℕ → Found) (keys old : List ℕ) → Done look keys old old 0
done_none look keys old = storing_none _ old 0

-- no key from one on up to i is refused
pub record Stage (look : ℕ → Found) (keys old : List ℕ) (from : ℕ) (l : List ℕ) (i : ℕ) : Type 0 where
  pub stored : Done look keys old l i
  pub rest : first_refused look (suc i) (drop i keys) ≡ first_refused look (suc from) (drop from keys)

module _ (look : ℕ → Found) (keys old : List ℕ) where
  pub stage_none : (from : ℕ) (l : List ℕ) → Done look keys old l from → Stage look keys old from l from
  stage_none from l d = record { stored = d; rest = refl }

  module _ (from : ℕ) (l : List ℕ) (i : ℕ) (g : Stage look keys old from l i) where
    module _ (h : i < length keys) where
      next : or_else (look (get_or keys i 0)).refusal (suc i) (first_refused look (suc (suc i)) (drop (suc i) keys)) ≡ first_refused look (suc from) (drop from keys)
      unfolding first_refused
      next = rw (drop-cons keys i 0 h) at g.rest

      pub stage_more : (v : ℕ) → found v ≡ look (get_or keys i 0) → Stage look keys old from (set l i v) (i + 1)
      unfolding or_else
      stage_more v e =
          record { stored = done_more look keys old l v i h (ap (λ f. f.index) e) g.stored; rest = rw (add-one i) (rw (sym e) at next) }

      pub stage_stop : (r : Refusal) (k : ℕ) → number_of r ≡ suc k → not_found (suc k) ≡ look (get_or keys i 0)
          → Stopped look keys old from l (Err (record { refusal = r; place = i + 1 }))
      unfolding or_else
      stage_stop r k n e =
          let z : i + 1 - 1 ≡ i = omega arith in
          record {
            stored = rw z g.stored;
            first = rw (n, add-one i) (rw (sym e) at next);
            blank = rw z (λ _. sym (ap (λ f. f.index) e));
          }

    pub stage_all : length keys ≤ i → Stopped look keys old from l (Ok tt)
    unfolding first_refused
    stage_all h =
        let e : i ≡ length keys = omega (arith, g.stored.within, length-map keys (λ x. (look x).index)) in
        record { stored = rw e at g.stored; first = rw (drop_of_length-le keys h) at g.rest; blank = λ k. absurd (omega arith) }

  -- every key done
  pub done_left : (new : List ℕ) (m : Many) → length keys ≤ length old → m ≡ first_refused look 1 keys → Done look keys old new (length keys)
      → left m new ≡ left_by look keys old
  unfolding left_by
  done_left new m n e d =
      let k : length (map (λ x. (look x).index) keys) ≡ length keys = length-map keys (λ x. (look x).index) in
      ap₂ left e (stored_all (map (λ x. (look x).index) keys) old new (length keys) (omega arith) (omega arith) d)

-- ---- from run to run

-- a run that stops goes on after it
pub within_any : (from keys : ℕ) (r : Result (Unit {0}) Refused) → Within from keys r → Within 0 keys r
within_any from keys (Ok u) w = tt
within_any from keys (Err s) w = (omega arith, w.1)

-- how many keys are left then, and the one at which it stopped
abbrev pub ahead : ℕ → Result (Unit {0}) Refused → ℕ
ahead keys (Ok u) = 0
ahead keys (Err s) = keys + 1 - s.place

pub ahead_less : (from keys : ℕ) (r : Result (Unit {0}) Refused) → from ≤ keys → Within from keys r → ahead keys r < keys + 1 - from
ahead_less from keys (Ok u) h w = omega arith
ahead_less from keys (Err s) h w = omega (arith, w.0, w.1)

-- ---- a unit that is not well formed refuses every key

zeros : (keys : List ℕ) → replicate {A = ℕ} (length keys) 0 ≡ map (λ x. 0) keys
zeros [] = refl
zeros (x ∷ xs) = ap (λ (l : List ℕ). 0 ∷ l) (zeros xs)

-- z is what was cleared of the indices
module _ (keys old z : List ℕ) (m : Many) (h : length keys ≤ length old) (e : z ≡ replicate {A = ℕ} (length (take (length keys) old)) 0) where
  cleared : z ++ drop (length keys) old ≡ over (map (λ x. 0) keys) old
  cleared =
      ap₂ (λ (y : List ℕ) (n : ℕ). y ++ drop n old)
      (e ∙ ap (λ (n : ℕ). replicate n 0) (length-take-le (length keys) old h) ∙ zeros keys)
      (sym (length-map keys (λ x. 0)))

  pub unformed_none : m ≡ refused_at 0 0 → length keys ≡ 0 → left m (z ++ drop (length keys) old) ≡ left_by (λ x. not_found 14) keys old
  unfolding left_by first_refused
  unformed_none f q = ap₂ left (f ∙ go keys q) cleared
    where
      go : (keys : List ℕ) → length keys ≡ 0 → refused_at 0 0 ≡ first_refused (λ x. not_found 14) 1 keys
      go [] e = refl
      go (x ∷ xs) e = absurd (omega arith)

  pub unformed_some : m ≡ refused_at 14 1 → (length keys ≡ 0 → ⊥) → left m (z ++ drop (length keys) old) ≡ left_by (λ x. not_found 14) keys old
  unfolding left_by first_refused or_else
  unformed_some f n = ap₂ left (f ∙ go keys n) cleared
    where
      go : (keys : List ℕ) → (length keys ≡ 0 → ⊥) → refused_at 14 1 ≡ first_refused (λ x. not_found 14) 1 keys
      go [] e = absurd (e refl)
      go (x ∷ xs) e = refl

-- ---- the call

module _ (look : ℕ → Found) (keys old : List ℕ) where
  pub many_short : (r : Many) → r ≡ refused_at 20 0 → length old < length keys → left r old ≡ lookup_many look keys old
  unfolding lookup_many
  many_short r e h = rw (lt-ltb (length old) (length keys) h, lookup_many) (ap (λ (m : Many). left m old) e)

  pub many_by : length keys ≤ length old → left_by look keys old ≡ lookup_many look keys old
  unfolding lookup_many
  many_by h = rw (le-ltb (length old) (length keys) h, lookup_many)

-- the same answer for every key
pub many_same : (look other : ℕ → Found) → ((x : ℕ) → look x ≡ other x) → (keys old : List ℕ) → lookup_many look keys old ≡ lookup_many other keys old
unfolding lookup_many left_by first_refused
many_same look other e keys old =
    ap (cond (ltb (length old) (length keys)) (left (refused_at 20 0) old))
    (ap₂ (λ (m : Many) (vs : List ℕ). left m (over vs old)) (refusals 1 keys) (indices keys))
  where
    refusals : (i : ℕ) (keys : List ℕ) → first_refused look i keys ≡ first_refused other i keys
    refusals i [] = refl
    refusals i (x ∷ xs) = ap₂ (λ (f : Found) (m : Many). or_else f.refusal i m) (e x) (refusals (suc i) xs)

    indices : (keys : List ℕ) → map (λ x. (look x).index) keys ≡ map (λ x. (other x).index) keys
    indices [] = refl
    indices (x ∷ xs) = ap₂ (λ (f : Found) (vs : List ℕ). f.index ∷ vs) (e x) (indices xs)
