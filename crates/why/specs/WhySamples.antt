-- Every cause once, from the bytes read to the line written, computed.
use Rattle.std.specs.Prelude.{◌≡◌, refl, [], ◌∷◌}
use Rattle.print.specs.Ascii.{ascii}
use Rattle.input.specs.InputSamples.{ones}
use Rattle.fault.specs.Fault.{fault_from}
use Rattle.why.specs.Why.{fault_text, why_of}

pub record Table : Type 0 where
  -- the list S; with newlines between
  pub good : why_of (ascii "6 2 7 16 18 20 28 32 55 58\n") ≡ ascii "good\n"
  pub good_lines : why_of (ascii "6\n2\n7\n16\n18\n20\n28\n32\n55\n58") ≡ ascii "good\n"
  -- line ends of two bytes, 13 and 10
  pub carriage : why_of (ascii "6 2 7\r\n16 18\r\n") ≡ ascii "line 1 column 6: byte 13, where a digit, a space or a newline is expected\n"
  -- a byte order mark
  pub mark : why_of (239 ∷ 187 ∷ 191 ∷ ascii "6 2 7 16") ≡ ascii "line 1 column 1: byte 239, where a digit is expected\n"
  pub comma : why_of (ascii "6 2 7\n16, 18") ≡ ascii "line 2 column 3: byte 44, where a digit, a space or a newline is expected\n"
  pub tab : why_of (ascii "6 2 7 16\t18") ≡ ascii "line 1 column 9: byte 9, where a digit, a space or a newline is expected\n"
  pub hexadecimal : why_of (ascii "6 2 7 0x1F") ≡ ascii "line 1 column 8: byte 120, where a digit, a space or a newline is expected\n"
  pub minus : why_of (ascii "6 2 7\n-16") ≡ ascii "line 2 column 1: byte 45, where a digit is expected\n"
  -- two separators together; a blank last line; a separator in front
  pub together : why_of (ascii "6 2  7 16") ≡ ascii "line 1 column 5: byte 32, where a digit is expected\n"
  pub blank : why_of (ascii "6 2 7 16\n\n") ≡ ascii "line 2 column 1: byte 10, where a digit is expected\n"
  pub front : why_of (ascii " 6 2 7 16") ≡ ascii "line 1 column 1: byte 32, where a digit is expected\n"
  -- the empty text; a final space
  pub empty : why_of [] ≡ ascii "line 1 column 1: the end, where a digit is expected\n"
  pub final_space : why_of (ascii "6 2 7 16 ") ≡ ascii "line 1 column 10: the end, where a digit is expected\n"
  -- 2^64
  pub above : why_of (ascii "6 2 7\n18446744073709551616") ≡ ascii "line 2 column 20: byte 54, where a number of at most 18446744073709551615 is expected\n"
  -- one number; two, and a final newline
  pub one : why_of (ascii "6") ≡ ascii "line 1 column 2: the end, where one of the first three numbers is expected\n"
  pub two : why_of (ascii "6 2\n") ≡ ascii "line 2 column 1: the end, where one of the first three numbers is expected\n"
  -- 1,025 vectors; a byte above 64 KiB, from the last one below on
  pub many : why_of (ones 1028) ≡ ascii "line 1 column 2055: byte 49, where the end, after 1024 vectors, is expected\n"
  pub long : fault_text (fault_from (record { at = 65535; line = 1; column = 65536; count = 3; last = 48; value = 0 }) (ascii "7\n"))
      ≡ ascii "line 1 column 65537: byte 10, where the end, after 65536 bytes, is expected\n"
  -- refusals
  pub inputs : why_of (ascii "65 2 7 16") ≡ ascii "refused 1 0: n is 65\n"
  pub degree : why_of (ascii "6 3 7 16") ≡ ascii "refused 2 0: the degree is 3\n"
  pub no_vectors : why_of (ascii "6 2 7\n") ≡ ascii "refused 3 0: the list has 0 vectors\n"
  pub vectors : why_of (ones 1027) ≡ ascii "refused 3 0: the list has 1024 vectors\n"
  pub cells : why_of (ascii "6 2 8193 16") ≡ ascii "refused 4 0: L is 8193\n"
  pub beyond : why_of (ascii "6 2 7 16 64 18") ≡ ascii "refused 6 2: vector 2 is 64\n"
  pub alike : why_of (ascii "6 2 7 18 16 20 16 16") ≡ ascii "refused 7 4: vector 4 is 16, and so is vector 2\n"
  pub no_place : why_of (ascii "6 2 6 16 18 20 28 32 55 58\n") ≡ ascii "refused 13 3: row 3 has no place\n"

pub samples : Table
unfolding why_of fault_text fault_from
samples =
    record {
      good = refl;
      good_lines = refl;
      carriage = refl;
      mark = refl;
      comma = refl;
      tab = refl;
      hexadecimal = refl;
      minus = refl;
      together = refl;
      blank = refl;
      front = refl;
      empty = refl;
      final_space = refl;
      above = refl;
      one = refl;
      two = refl;
      many = refl;
      long = refl;
      inputs = refl;
      degree = refl;
      no_vectors = refl;
      vectors = refl;
      cells = refl;
      beyond = refl;
      alike = refl;
      no_place = refl;
    }
