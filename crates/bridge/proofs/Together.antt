-- Keys looked up together, with a record and tables that answer by the list. Assumes nothing.
use Prim.Native.Nat.{ℕ, suc, ◌*◌, ◌%◌, ◌^◌, ◌≤◌, ◌<◌}
use native.Mathlib.Omega.{arith}
use mathlib.Core.Path.{◌≡◌, refl, sym, ap, ap₂, ◌∙◌}
use mathlib.Core.List.{List, [], ◌∷◌, map}
use lib.ListN.{length}
use Rattle.lists.specs.Members.{All}
use Rattle.lookup.specs.Lookup.{Found}
use Rattle.lookup.proofs.Indices.{found_number}
use Rattle.record.specs.Holds.{index_of}
use Rattle.record.specs.Tables.{Tables, over}
use Rattle.many.specs.Lookups.{Many, refused_at, or_else, first_refused, left_by}
use Rattle.many.specs.Lookups as many
use Rattle.many.proofs.Keys.{many_by}
use Rattle.flat.specs.Flat.{unit_seen}
use Rattle.bridge.specs.Calls.{answer, Left, found_in, lookup_call, indexed, place_bits, many_call}
use Rattle.bridge.specs.Boundary.{Exact, ExactTogether}
use Rattle.bridge.proofs.Answers.{seen_found}

module _ (vs words : List ℕ) (t : Tables) where
  -- the call for one key answers by the list
  abbrev Right : ℕ → Type 0
  Right x = lookup_call words t x ≡ 256 * index_of vs x

  right_is : (x : ℕ) → Right x → ((found_in words t x).refusal ≡ 0) × ((found_in words t x).index ≡ index_of vs x)
  unfolding lookup_call
  right_is x e =
      let b = found_number (unit_seen words) t x in
      let f = ap (λ (f : Found). f.refusal) (seen_found words t x) in
      (omega (arith, b, f, e), omega (arith, b, f, e))

  right_none : (i : ℕ) (keys : List ℕ) → All Right keys → first_refused (found_in words t) i keys ≡ refused_at 0 0
  unfolding first_refused or_else
  right_none i [] a = refl
  right_none i (x ∷ xs) a = rw ((right_is x a.0).0, first_refused) (right_none (suc i) xs a.1)

  right_indices : (keys : List ℕ) → All Right keys → map (λ x. (found_in words t x).index) keys ≡ map (index_of vs) keys
  right_indices [] a = refl
  right_indices (x ∷ xs) a = ap₂ (λ (i : ℕ) (l : List ℕ). i ∷ l) (right_is x a.0).1 (right_indices xs a.1)

  together : (keys old : List ℕ) → All Right keys → length keys ≤ length old → many_call words t keys old ≡ indexed 0 (over (map (index_of vs) keys) old)
  unfolding many_call left_by
  together keys old a n =
      ap (λ (l : many.Left). indexed (answer l.answer.refusal (l.answer.place % 2 ^ place_bits)) l.indices)
      (sym (many_by (found_in words t) keys old n) ∙ ap₂ (λ (m : Many) (l : List ℕ). many.left m (over l old)) (right_none 1 keys a) (right_indices keys a))

pub exact_together : (n : ℕ) (vs : List ℕ) (l : Left) → Exact n vs l → ExactTogether n vs l
exact_together n vs l e z keys old a h = together vs l.words l.tables keys old (all keys a) h
  where
    all : (keys : List ℕ) → All (λ x. x < 2 ^ n) keys → All (Right vs l.words l.tables) keys
    all [] a = tt
    all (x ∷ xs) a = (e.lookup_exact z x a.0, all xs a.1)
