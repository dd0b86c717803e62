-- The call for C that adds a vector, over the definition of adding.
use Rattle.std.specs.Prelude.{ℕ, zero, suc, Result, Ok, Err, List}
use Rattle.refusal.specs.declared.Refused.{Refused}
use Rattle.record.specs.declared.Record.{Record}
use Rattle.record.specs.Tables.{Tables}
use Rattle.build.specs.Build.{Outcome}
use Rattle.add.specs.Add.{add_of}
use Rattle.flat.specs.Flat.{flat_of, unit_seen}
use Rattle.bridge.specs.Calls.{Left, left, answer}

-- SCOPE 22.2, 22.5: the record of the amended unit; a refusal leaves its 40 words as they were
abbrev pub words_after : List ℕ → Outcome → List ℕ
words_after words o = elim o.built.refusal [ zero ↦ flat_of o.built.unit | suc m ↦ words ]

-- the record after what adding answers
abbrev pub words_left : Result Record Refused → List ℕ → List ℕ
words_left (Ok u) words = flat_of u
words_left (Err r) words = words

abbrev pub added_to : List ℕ → Outcome → Left
added_to words o = left (answer o.built.refusal o.built.place) (words_after words o) o.tables

-- the answer, the record and every word of H, G and AUX
unfoldable pub add_call : List ℕ → Tables → ℕ → Left
unfolding unit_seen add_of flat_of
add_call words t x = added_to words (add_of (unit_seen words) t x)
