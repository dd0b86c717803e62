-- The tables, as lent to a call and as a call leaves them.
use Rattle.std.specs.Prelude.{ℕ, List, ◌++◌, length, drop}

pub record Tables : Type 0 where
  pub h : List ℕ
  pub g : List ℕ
  pub aux : List ℕ

-- the tables as lent to a call, and as it leaves them
abbrev pub lent : List ℕ → List ℕ → List ℕ → Tables
lent h g aux = record { h = h; g = g; aux = aux }

-- the first words of a table written; those beyond keep their value
abbrev pub over : List ℕ → List ℕ → List ℕ
over words old = words ++ drop (length words) old

-- the index that a word of G holds; 0 where its cell is empty
abbrev pub index_in : ℕ → ℕ
index_in word = word
