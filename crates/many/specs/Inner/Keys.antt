-- The keys looked up so far.
use Rattle.std.specs.Prelude.{ℕ, suc, ◌-◌, ◌≤◌, ◌<◌, ◌≡◌, Result, Ok, Err, List, map, length, get_or, drop}
use Rattle.lists.proofs.Writing.Storing.{Storing}
use Rattle.record.specs.declared.Record.{Record}
use Rattle.record.specs.Tables.{Tables}
use Rattle.refusal.specs.declared.Refused.{Refused}
use Rattle.lookup.specs.Lookup.{Found, lookup_of}
use Rattle.many.specs.declared.find.Frame.{Frame}
use Rattle.many.specs.Inner.Images.{Opened}
use Rattle.many.specs.Lookups.{told, first_refused}

-- the indices of the first i keys are stored over old, which left l
abbrev pub Done : (ℕ → Found) → List ℕ → List ℕ → List ℕ → ℕ → Type 0
Done look keys old l i = Storing (map (λ x. (look x).index) keys) old 0 l i

-- the key after the first i, if there is one, has the index 0
abbrev pub Blank : (ℕ → Found) → List ℕ → ℕ → Type 0
Blank look keys i = i < length keys → (look (get_or keys i 0)).index ≡ 0

-- how many keys are done where a run is at its end, or stopped at a key that is refused
abbrev pub reached : List ℕ → Result (Unit {0}) Refused → ℕ
reached keys (Ok u) = length keys
reached keys (Err s) = s.place - 1

-- a run from one of so many keys on stops, if it does, at one of them
abbrev pub Within : ℕ → ℕ → Result (Unit {0}) Refused → Type 0
Within from keys (Ok u) = Unit {0}
Within from keys (Err s) = (from < s.place) × (s.place ≤ keys)

-- the keys from one on, up to the first that is refused: r has its refusal and its number
pub record Stopped (look : ℕ → Found) (keys old : List ℕ) (from : ℕ) (l : List ℕ) (r : Result (Unit {0}) Refused) : Type 0 where
  pub stored : Done look keys old l (reached keys r)
  pub first : told r ≡ first_refused look (suc from) (drop from keys)
  pub blank : Blank look keys (reached keys r)

-- .. of any unit that is opened: from is the number of keys done before, and before and after are the indices as they were and as they are
abbrev pub Ran : Frame → List ℕ → Tables → List ℕ → ℕ → List ℕ → List ℕ → Result (Unit {0}) Refused → Type 0
Ran frame images t keys from before after r = Within from (length keys) r
    × ((u : Record) → Opened u t frame images → (old : List ℕ) → Done (lookup_of u t) keys old before from → Stopped (lookup_of u t) keys old from after r)
