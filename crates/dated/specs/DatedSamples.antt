-- Lines of five numbers, and lines that are none, computed.
use Rattle.std.specs.Prelude.{◌≡◌, refl, true, false}
use Rattle.print.specs.Ascii.{ascii}
use Rattle.dated.specs.Dated.{no_line, dated_of}

pub record Table : Type 0 where
  -- press 3, ink 1200, substrate 77, screen 150, day 9815
  pub red : dated_of (ascii "3,1200,77,150,9815") ≡ record { good = true; wide = false; word = 0x2657_96_04d_4b0_03 }
  -- a day over its width, and a number far above
  pub wide : dated_of (ascii "3,1200,77,150,65536") ≡ record { good = true; wide = true; word = 0 }
  pub far : dated_of (ascii "18446744073709551615,0,0,0,0") ≡ record { good = true; wide = true; word = 0 }
  -- four numbers, six, a space, an empty field, the names
  pub four : dated_of (ascii "3,1200,77,150") ≡ no_line
  pub six : dated_of (ascii "3,1200,77,150,9815,1") ≡ no_line
  pub space : dated_of (ascii "3, 1200,77,150,9815") ≡ no_line
  pub empty : dated_of (ascii "3,1200,,150,9815") ≡ no_line
  pub names : dated_of (ascii "press,ink,substrate,screen,day") ≡ no_line

pub samples : Table
unfolding dated_of
samples = record { red = refl; wide = refl; far = refl; four = refl; six = refl; space = refl; empty = refl; names = refl }
