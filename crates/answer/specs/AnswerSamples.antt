-- The worked example of SCOPE 14.9 from the bytes read to the bytes written, computed; a text that is no list, and a refusal.
use Rattle.std.specs.Prelude.{◌≡◌, refl}
use Rattle.print.specs.Ascii.{ascii}
use Rattle.answer.specs.Answer.{answer_of}

pub record Table : Type 0 where
  -- SCOPE 14.9: the list S
  pub whole : answer_of (ascii "6 2 7 16 18 20 28 32 55 58")
      ≡ ascii "unit 6 3 2 1 7 7 15 0\nvars 2 4 24\nrest 41\nh 0 2 4 5\ng 5 1 7 2 4 3 6\naux 0 0 1 2 10 16 23 25\n"
  -- SCOPE 14.8, 15.4: one cell less
  pub refusal : answer_of (ascii "6 2 6 16 18 20 28 32 55 58\n") ≡ ascii "refused 13 3\n"
  -- SCOPE 14.3 c: two separators together
  pub no_list : answer_of (ascii "6 2  7 16") ≡ ascii "input\n"

pub samples : Table
unfolding answer_of
samples = record { whole = refl; refusal = refl; no_list = refl }
