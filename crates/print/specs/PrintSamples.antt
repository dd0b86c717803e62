-- The printed page of SCOPE 14.9; a unit with no variables; a first line with a negative excess; a refusal; a sentence: all computed.
use Rattle.std.specs.Prelude.{ℕ, ◌≡◌, refl, List, [], ◌∷◌, negsuc}
use Rattle.build.specs.Build.{Outcome, build_chosen}
use Rattle.unit.specs.Samples.{S, nines}
use Rattle.print.specs.Ascii.{ascii}
use Rattle.print.specs.Print.{head_line, text_of, refused_text}
use Rattle.print.specs.Sentence.{sentence}

-- the text of what a build leaves
abbrev text_after : Outcome → List ℕ
text_after o = text_of o.built.unit o.tables

pub record Table : Type 0 where
  -- the list S
  pub whole : text_after (build_chosen 6 2 7 15 S (nines 5 8 9))
      ≡ ascii "unit 6 3 2 1 7 7 15 0\nvars 2 4 24\nrest 41\nh 0 2 4 5\ng 5 1 7 2 4 3 6\naux 0 0 1 2 10 16 23 25\n"
  -- one vector: no variables
  pub alone : text_after (build_chosen 6 1 1 1 (16 ∷ []) (nines 1 1 2)) ≡ ascii "unit 6 0 0 0 1 1 1 0\nvars\nrest 63\nh 0\ng 1\naux 0 16\n"
  -- SCOPE 14.7: -1, from a record that no build leaves
  pub below_zero : head_line (6 ∷ 0 ∷ 0 ∷ 0 ∷ 1 ∷ 1 ∷ 1 ∷ []) (negsuc 0) ≡ ascii "unit 6 0 0 0 1 1 1 -1\n"
  -- refusal 13, place 3
  pub refusal : refused_text 13 3 ≡ ascii "refused 13 3\n"
  -- two numbers, the second of them twice; a letter past theirs
  pub numbered : sentence (7 ∷ 40 ∷ []) (ascii "A of B, not B of C") ≡ ascii "7 of 40, not 40 of C"

pub samples : Table
unfolding build_chosen head_line text_of sentence
samples = record { whole = refl; alone = refl; below_zero = refl; refusal = refl; numbered = refl }
