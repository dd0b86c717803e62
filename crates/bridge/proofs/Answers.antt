-- What the calls of the boundary give, from what the calls of the unit give. Assumes nothing.
use Prim.Native.Nat.{ℕ, ◌%◌, ◌^◌, ◌≤◌, ◌<◌}
use native.Mathlib.Omega.{arith}
use mathlib.Core.Path.{◌≡◌, refl, sym, ap, ap₂, ◌∙◌}
use mathlib.Core.Bool.{Bool, true, false, cond}
use mathlib.Core.List.{List, map}
use lib.ListN.{get_or}
use Rattle.std.proofs.Common.{Result, Ok, Err}
use Rattle.refusal.specs.declared.Refusal.{Refusal}
use Rattle.vectors.specs.declared.Variable.{Variable}
use Rattle.build.specs.Built.{Built}
use Rattle.lookup.specs.Lookup.{Found, told, not_found, lookup_of}
use Rattle.recover.specs.Recover.{Recovered, not_recovered, recover_of}
use Rattle.record.specs.declared.Record.{Record}
use Rattle.record.specs.Tables.{Tables, lent}
use Rattle.build.specs.Build.{Outcome, after, build_chosen, build_given}
use Rattle.build.specs.Cells.{needed_limit}
use Rattle.build.proofs.Places.{place_limit}
use Rattle.record.specs.Formed.{well_formed, sound}
use Rattle.lookup.proofs.Indices.{found_index}
use Rattle.lookup.proofs.Lookups.{lookup_unformed}
use Rattle.recover.proofs.Recovery.{recover_unformed}
use Rattle.many.specs.Lookups.{Many, lookup_many}
use Rattle.many.specs.Lookups as many
use Rattle.many.proofs.Keys.{many_same}
use Rattle.file.specs.Write as file
use Rattle.file.specs.Write.{Written, write_of}
use Rattle.file.proofs.Outcomes.{written_few, write_unsound}
use Rattle.file.specs.Read.{Reading, read_of}
use Rattle.load.specs.Load as load
use Rattle.load.specs.Load.{Loaded}
use Rattle.flat.specs.Flat.{variable_at, flat_of, variable_words, unit_at, all_in_range, unreadable, unit_seen}
use Rattle.bridge.specs.Calls.{answer, answered, number_in, built_answer, left, left_by, build_call, given_call, found_in, recovered_in, lookup_call, indexed, place_bits, many_call, filed, filed_by, write_call, read_call}

-- ---- the builds

module _ (r : Built) (h g aux : List ℕ) (o : Outcome) (e : after r h g aux ≡ o) where
  pub answer_fits : o.built.place < place_limit → o.built.needed ≤ needed_limit → (r.place < 65536) × (r.needed < 65536)
  answer_fits l k = (omega (arith, ap (λ (o : Outcome). o.built.place) e), omega (arith, ap (λ (o : Outcome). o.built.needed) e))

  pub left_is : (words : List ℕ) (a : ℕ) → words ≡ flat_of r.unit → a ≡ built_answer r.refusal r.place r.needed → left a words (lent h g aux) ≡ left_by o
  left_is words a f i = ap₂ (λ (b : ℕ) (w : List ℕ). left b w (lent h g aux)) i f ∙ ap left_by e

pub build_left : (n degree cells allowance : ℕ) (vs : List ℕ) (t : Tables) → left_by (build_chosen n degree cells allowance vs t) ≡ build_call n degree cells allowance vs t
unfolding build_call
build_left n degree cells allowance vs t = refl

pub given_left : (n p n1 cells allowance : ℕ) (variables : List ℕ) (given : List Variable) (vs : List ℕ) (t : Tables) → given ≡ map variable_at variables
    → left_by (build_given n given p n1 cells allowance vs t) ≡ given_call n p n1 cells allowance variables vs t
unfolding given_call
given_left n p n1 cells allowance variables given vs t e = ap (λ (l : List Variable). left_by (build_given n l p n1 cells allowance vs t)) e

-- ---- lookup and recovery, by the unit of any record

module _ (words : List ℕ) (t : Tables) (x : ℕ) where
  pub seen_found : lookup_of (unit_seen words) t x ≡ found_in words t x
  unfolding unit_seen found_in well_formed
  seen_found = go (all_in_range (variable_words words))
    where
      go : (b : Bool) → lookup_of (cond b (unit_at words) (unreadable (get_or words 3 0))) t x ≡ cond b (lookup_of (unit_at words) t x) (not_found 14)
      go true = refl
      go false = sym (lookup_unformed (unreadable (get_or words 3 0)) t x refl)

  pub found_by : (u : Record) (f : Found) → u ≡ unit_seen words → f ≡ lookup_of u t x → f ≡ found_in words t x
  found_by u f v l = l ∙ ap (λ (u : Record). lookup_of u t x) v ∙ seen_found

  pub found_unread : all_in_range (variable_words words) ≡ false → not_found 14 ≡ found_in words t x
  unfolding found_in
  found_unread e = sym (ap (λ (b : Bool). cond b (lookup_of (unit_at words) t x) (not_found 14)) e)

  pub found_called : (f : Found) (a : ℕ) → f ≡ found_in words t x → a ≡ answer f.refusal f.index → a ≡ lookup_call words t x
  unfolding lookup_call
  found_called f a e i = i ∙ ap (λ (f : Found). answer f.refusal f.index) e

  pub recovered_by : (u : Record) (r : Recovered) → u ≡ unit_seen words → r ≡ recover_of u t x → r ≡ recovered_in words t x
  unfolding unit_seen recovered_in well_formed
  recovered_by u r v l = l ∙ ap (λ (u : Record). recover_of u t x) v ∙ go (all_in_range (variable_words words))
    where
      go : (b : Bool) → recover_of (cond b (unit_at words) (unreadable (get_or words 3 0))) t x ≡ cond b (recover_of (unit_at words) t x) (not_recovered 14)
      go true = refl
      go false = sym (recover_unformed (unreadable (get_or words 3 0)) t x refl)

-- the answer of what a lookup gives
pub answered_found : (r : Result ℕ Refusal) → (number_in r ≡ (told r).index) × (answered r ≡ answer (told r).refusal (told r).index)
answered_found (Ok i) = (refl, refl)
answered_found (Err e) = (refl, refl)

pub index_fits : (words : List ℕ) (t : Tables) (x : ℕ) (f : Found) → f ≡ found_in words t x → f.index < 65536
index_fits words t x f e = omega (arith, found_index (unit_seen words) t x, ap (λ (f : Found). f.index) (e ∙ sym (seen_found words t x)))

-- ---- many keys

pub many_called : (words : List ℕ) (t : Tables) (keys old : List ℕ) (u : Record) (m : Many) (l : List ℕ) (a : ℕ) → u ≡ unit_seen words
    → many.left m l ≡ lookup_many (lookup_of u t) keys old → a ≡ answer m.refusal (m.place % 2 ^ place_bits) → indexed a l ≡ many_call words t keys old
unfolding many_call
many_called words t keys old u m l a v e i =
    ap (λ (b : ℕ). indexed b l) i
    ∙ ap (λ (r : many.Left). indexed (answer r.answer.refusal (r.answer.place % 2 ^ place_bits)) r.indices)
    (e ∙ ap (λ (u : Record). lookup_many (lookup_of u t) keys old) v ∙ many_same (lookup_of (unit_seen words) t) (found_in words t) (seen_found words t) keys old)

-- ---- writing a file

pub filed_by_lem : (words : List ℕ) (t : Tables) (target : List ℕ) (u : Record) (w : Written) (l : List ℕ) (a : ℕ) → u ≡ unit_seen words → file.after w l ≡ write_of u t target
    → a ≡ answer w.refusal w.length → filed a l ≡ write_call words t target
unfolding unit_seen write_call sound well_formed
filed_by_lem words t target u w l a v o i =
    ap (λ (b : ℕ). filed b l) i ∙ ap filed_by (o ∙ ap (λ (u : Record). write_of u t target) v) ∙ go (all_in_range (variable_words words))
  where
    go : (b : Bool) → filed_by (write_of (cond b (unit_at words) (unreadable (get_or words 3 0))) t target) ≡ cond b (filed_by (write_of (unit_at words) t target)) (filed 14 target)
    go true = refl
    go false = ap filed_by (write_unsound (unreadable (get_or words 3 0)) t target refl)

-- the answer of what writing gives
pub answered_written : (r : Result ℕ Refusal) → (number_in r ≡ (file.told r).length) × (answered r ≡ answer (file.told r).refusal (file.told r).length)
answered_written (Ok n) = (refl, refl)
answered_written (Err e) = (refl, refl)

pub length_fits : (u : Record) (t : Tables) (target : List ℕ) (w : Written) (l : List ℕ) → file.after w l ≡ write_of u t target → w.length < 65536
length_fits u t target w l e = omega (arith, written_few u t target, ap (λ (o : file.Outcome). o.written.length) e)

-- ---- reading a file

pub read_left : (r : Loaded) (h g aux : List ℕ) (file : List ℕ) (t : Tables) (words : List ℕ) (a : ℕ) → load.after r (lent h g aux) ≡ read_of file t → words ≡ flat_of r.unit
    → a ≡ r.refusal → left a words (lent h g aux) ≡ read_call file t
unfolding read_call
read_left r h g aux file t words a e f i =
    ap₂ (λ (b : ℕ) (w : List ℕ). left b w (lent h g aux)) i f ∙ ap (λ (o : Reading). left o.refusal (flat_of o.unit) o.tables) e
