-- Texts of profile keys: their lines, how many cells they get, and texts that are none, computed.
use Rattle.std.specs.Prelude.{◌≡◌, refl, [], ◌∷◌}
use Rattle.print.specs.Ascii.{ascii}
use Rattle.answer.specs.Answer.{input_text}
use Rattle.build.specs.Build.{build_chosen}
use Rattle.keys.specs.Keys.{body, lines_from, lines_in, cells_for, keys_of}

pub record Table : Type 0 where
  -- with the names in front and without, the last newline left out
  pub named : lines_in (body (ascii "press,ink,substrate,screen,day\n3,1,2,4,5\n6,7,8,9,1\n")) ≡ ascii "3,1,2,4,5" ∷ ascii "6,7,8,9,1" ∷ []
  pub unnamed : lines_in (body (ascii "3,1,2,4,5\n6,7,8,9,1")) ≡ ascii "3,1,2,4,5" ∷ ascii "6,7,8,9,1" ∷ []
  -- twice as many, rounded up
  pub one : cells_for 1 ≡ 2
  pub three : cells_for 3 ≡ 8
  pub four : cells_for 4 ≡ 8
  pub most : cells_for 1023 ≡ 2048
  -- no keys; a field over its width; four fields
  pub none : keys_of [] (ascii "press,ink,substrate,screen,day\n") ≡ ascii "refused 3 0\n"
  pub wide : keys_of [] (ascii "3,1200,77,150,9815\n3,1200,77,256,9815\n") ≡ ascii "refused 30 0\n"
  -- cells that are asked for
  pub asked : keys_of (ascii "2\n8193\n") (ascii "3,1200,77,150,9815\n") ≡ ascii "refused 4 0\n"
  pub words : keys_of (ascii "2\n") (ascii "3,1200,77,150,9815\n") ≡ input_text
  pub short : keys_of [] (ascii "3,1200,77,150\n") ≡ input_text

pub samples : Table
unfolding body lines_from cells_for keys_of build_chosen
samples =
    record {
      named = refl;
      unnamed = refl;
      one = refl;
      three = refl;
      four = refl;
      most = refl;
      none = refl;
      wide = refl;
      asked = refl;
      words = refl;
      short = refl;
    }
