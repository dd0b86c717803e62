-- A profile key as it is written: five decimal numbers parted by commas (SCOPE 21.10).
use Rattle.std.specs.Prelude.{ℕ, min, Bool, true, false, cond, not, ◌&&◌, List, map, eqb, leb, length, Result, Ok, Err}
use Rattle.input.specs.Input.{good_text, listed, numbers_in}
use Rattle.profiles.specs.declared.Key.{Key}
use Rattle.profiles.specs.Key.{Word}
use Rattle.profiles.specs.Key.{key_of, word_of}
use Rattle.dated.specs.declared.NoWord.{NoWord}
use Rattle.dated.specs.declared.NoWord.TheVariants.{NoKey, Wide}

-- the word of a key as it was read; wide where a field is over its width, and then the word is 0
pub record Dated : Type 0 where
  pub good : Bool
  pub wide : Bool
  pub word : ℕ

-- the bytes of the longest line
abbrev pub max_line : ℕ
max_line = 128

-- a comma for a space and a space for a comma: then the numbers are parted as those of a list
abbrev pub exchanged : ℕ → ℕ
exchanged b = cond (eqb b 44) 32 (cond (eqb b 32) 44 b)

unfoldable pub spaced : List ℕ → List ℕ
spaced line = map exchanged line

-- a line of five numbers, and no more bytes than allowed
unfoldable pub good_line : List ℕ → Bool
unfolding good_text spaced numbers_in
good_line line = leb (length line) max_line && (good_text (spaced line) 2 && eqb (listed (spaced line)) 2)

-- a number above every width counts as 65,536
abbrev pub capped : ℕ → ℕ
capped x = min x 65536

-- the key that a line says
unfoldable pub key_in : List ℕ → Key
unfolding numbers_in spaced
key_in line = key_of (map capped (numbers_in (spaced line)))

abbrev pub no_line : Dated
no_line = record { good = false; wide = false; word = 0 }

-- what was read of a line
abbrev pub told : Result ℕ NoWord → Dated
told (Ok word) = record { good = true; wide = false; word = word }
told (Err NoKey) = no_line
told (Err Wide) = record { good = true; wide = true; word = 0 }

-- the word of the key; wide where a field is over its width
abbrev pub dated_by : Word → Dated
dated_by w = record { good = true; wide = not w.good; word = w.word }

unfoldable pub dated_of : List ℕ → Dated
unfolding good_line key_in word_of
dated_of line = elim (good_line line) [ true ↦ dated_by (word_of (key_in line)) | false ↦ no_line ]
