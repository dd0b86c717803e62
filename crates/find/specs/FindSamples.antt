-- Keys looked up in the unit that is built for the list S, computed (SCOPE 15.3, 15.5); keys that are too wide, and words that are no keys.
use Rattle.std.specs.Prelude.{ℕ, ◌≡◌, refl, true, List}
use Rattle.build.specs.Build.{Outcome, build_chosen}
use Rattle.unit.specs.Samples.{S, nines}
use Rattle.print.specs.Ascii.{ascii}
use Rattle.find.specs.Keys.{no_key, key_of}
use Rattle.find.specs.Find.{input_text, find_text}

abbrev built : Outcome
built = build_chosen 6 2 7 15 S (nines 5 8 9)

abbrev found : List ℕ → List ℕ
found text = find_text text built.built.unit built.tables

pub record Table : Type 0 where
  -- registered, not registered, in either case of letters, with zeros in front
  pub some : found (ascii "20\n6\n0x3A\n0x3a\n0016\n") ≡ ascii "20 3\n6 0\n0x3A 7\n0x3a 7\n0016 1\n"
  -- the second key has a bit beyond n
  pub wide : found (ascii "20\n64\n99\n") ≡ ascii "refused 6 2\n"
  -- no key at all, an empty one, another byte, no digit after 0x, a hexadecimal digit without it, no newline at the end
  pub none : found (ascii "") ≡ input_text
  pub empty : found (ascii "20\n\n") ≡ input_text
  pub other : found (ascii "2-0\n") ≡ input_text
  pub mark : found (ascii "0x\n") ≡ input_text
  pub letter : found (ascii "3a\n") ≡ input_text
  pub unended : found (ascii "20\n6") ≡ input_text
  -- a profile key, and one whose day is over its width
  pub dated : key_of (ascii "3,1200,77,150,9815") ≡ record { good = true; value = 0x2657_96_04d_4b0_03 }
  pub dated_wide : key_of (ascii "3,1200,77,150,65536") ≡ no_key
  -- 2^64 - 1 and one more
  pub largest : key_of (ascii "18446744073709551615") ≡ record { good = true; value = 18446744073709551615 }
  pub above : key_of (ascii "18446744073709551616") ≡ no_key
  pub hex_largest : key_of (ascii "0xffffffffffffffff") ≡ record { good = true; value = 18446744073709551615 }
  pub hex_above : key_of (ascii "0x10000000000000000") ≡ no_key

pub samples : Table
unfolding find_text build_chosen key_of
samples =
    record {
      some = refl;
      wide = refl;
      none = refl;
      empty = refl;
      other = refl;
      mark = refl;
      letter = refl;
      unended = refl;
      dated = refl;
      dated_wide = refl;
      largest = refl;
      above = refl;
      hex_largest = refl;
      hex_above = refl;
    }
