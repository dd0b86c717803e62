-- The calls of the boundary, over the definitions of the unit.
use Rattle.std.specs.Prelude.{ℕ, ◌+◌, ◌*◌, ◌%◌, ◌^◌, cond, Result, Ok, Err, List, map}
use Rattle.refusal.specs.declared.Refusal.{Refusal}
use Rattle.refusal.specs.Refusal.{number_of}
use Rattle.lookup.specs.Lookup.{Found, not_found, lookup_of}
use Rattle.recover.specs.Recover.{Recovered, not_recovered, recover_of}
use Rattle.record.specs.Tables.{Tables}
use Rattle.build.specs.Build.{Outcome, build_chosen, build_given}
use Rattle.many.specs.Lookups.{lookup_many}
use Rattle.file.specs.Write as file
use Rattle.file.specs.Write.{write_of}
use Rattle.file.specs.Read.{read_of}
use Rattle.flat.specs.Flat.{variable_at, flat_of, unit_at, variable_words, all_in_range}

-- the answer: the refusal, and above its 8 bits the place or the index
abbrev pub answer : ℕ → ℕ → ℕ
answer refusal number = refusal + 256 * number

-- the answer of a number or of a refusal by name, and the number in it
abbrev pub answered : Result ℕ Refusal → ℕ
answered (Ok number) = answer 0 number
answered (Err r) = answer (number_of r) 0

abbrev pub number_in : Result ℕ Refusal → ℕ
number_in (Ok number) = number
number_in (Err r) = 0

-- a build's answer: above these 32 bits the cells needed
abbrev pub built_answer : ℕ → ℕ → ℕ → ℕ
built_answer refusal place needed = answer refusal place + 2 ^ 32 * needed

-- what a build leaves: its answer, the record and every word of H, G and AUX
pub record Left : Type 0 where
  pub answer : ℕ
  pub words : List ℕ
  pub tables : Tables

abbrev pub left : ℕ → List ℕ → Tables → Left
left r words t = record { answer = r; words = words; tables = t }

abbrev pub left_by : Outcome → Left
left_by o = left (built_answer o.built.refusal o.built.place o.built.needed) (flat_of o.built.unit) o.tables

unfoldable pub build_call : ℕ → ℕ → ℕ → ℕ → List ℕ → Tables → Left
unfolding build_chosen flat_of
build_call n degree cells allowance vs t = left_by (build_chosen n degree cells allowance vs t)

unfoldable pub given_call : ℕ → ℕ → ℕ → ℕ → ℕ → List ℕ → List ℕ → Tables → Left
unfolding build_given variable_at flat_of
given_call n p n1 cells allowance variables vs t = left_by (build_given n (map variable_at variables) p n1 cells allowance vs t)

-- a word that is no variable's, any of the 24, is refused as 14 by lookup and recovery
unfoldable pub found_in : List ℕ → Tables → ℕ → Found
unfolding all_in_range unit_at lookup_of
found_in words t x = cond (all_in_range (variable_words words)) (lookup_of (unit_at words) t x) (not_found 14)

unfoldable pub recovered_in : List ℕ → Tables → ℕ → Recovered
unfolding all_in_range unit_at recover_of
recovered_in words t i = cond (all_in_range (variable_words words)) (recover_of (unit_at words) t i) (not_recovered 14)

-- the refusal and the index of a lookup
unfoldable pub lookup_call : List ℕ → Tables → ℕ → ℕ
unfolding found_in
lookup_call words t x = let f = found_in words t x in answer f.refusal f.index

-- what looking up many keys leaves: its answer, and every word of the indices
pub record Indexed : Type 0 where
  pub answer : ℕ
  pub indices : List ℕ

abbrev pub indexed : ℕ → List ℕ → Indexed
indexed r indices = record { answer = r; indices = indices }

-- an answer has so many bits for a place: more than any memory has keys
abbrev pub place_bits : ℕ
place_bits = 56

-- SCOPE 9.5: each key looked up as in a call for it alone
unfoldable pub many_call : List ℕ → Tables → List ℕ → List ℕ → Indexed
unfolding found_in lookup_many
many_call words t keys old =
    let l = lookup_many (found_in words t) keys old in indexed (answer l.answer.refusal (l.answer.place % 2 ^ place_bits)) l.indices

-- what writing a file leaves: its answer, with the bytes written, and every byte of the target
pub record Filed : Type 0 where
  pub answer : ℕ
  pub target : List ℕ

abbrev pub filed : ℕ → List ℕ → Filed
filed r target = record { answer = r; target = target }

abbrev pub filed_by : file.Outcome → Filed
filed_by o = filed (answer o.written.refusal o.written.length) o.target

unfoldable pub write_call : List ℕ → Tables → List ℕ → Filed
unfolding all_in_range unit_at write_of
write_call words t target = cond (all_in_range (variable_words words)) (filed_by (write_of (unit_at words) t target)) (filed 14 target)

-- what reading a file leaves: the refusal, the record and every word of H, G and AUX
unfoldable pub read_call : List ℕ → Tables → Left
unfolding read_of flat_of
read_call file t = let r = read_of file t in left r.refusal (flat_of r.unit) r.tables
