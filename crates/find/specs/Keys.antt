-- Keys written as words, a line each: decimal, hexadecimal after 0x, or a profile key (SCOPE 14.18, 21.10).
use Rattle.std.specs.Prelude.{ℕ, suc, ◌+◌, ◌-◌, ◌*◌, ◌^◌, Bool, true, false, cond, ◌&&◌, List, [], ◌∷◌, ◌++◌, map, eqb, leb, ltb, length, get_or, drop}
use Rattle.lists.specs.Members.{every}
use Rattle.print.specs.Line.{newline}
use Rattle.print.specs.Print.{max_bytes}
use Rattle.dated.specs.Dated.{Dated}
use Rattle.dated.specs.Dated.{dated_of}

-- a key's value; 0 where it is not good
pub record Key : Type 0 where
  pub good : Bool
  pub value : ℕ

-- the largest key that may be written
abbrev pub max_key : ℕ
max_key = 2 ^ 64 - 1

-- the keys of the longest call
abbrev pub max_keys : ℕ
max_keys = 1024

-- what a digit stands for, 0 to 9, A to F or a to f; 16 for every other byte
abbrev pub digit_of : ℕ → ℕ
digit_of b =
    cond (ltb b 48) 16 (cond (ltb b 58) (b - 48) (cond (ltb b 65) 16 (cond (ltb b 71) (b - 55) (cond (ltb b 97) 16 (cond (ltb b 103) (b - 87) 16)))))

abbrev pub no_key : Key
no_key = record { good = false; value = 0 }

-- digits of a base, v being the value of those in front of them; no value may be above the largest key
unfoldable pub numeral_from : ℕ → ℕ → List ℕ → Key
numeral_from base v [] = record { good = true; value = v }
numeral_from base v (b ∷ bs) =
    elim (ltb (digit_of b) base && leb (base * v + digit_of b) max_key) [ true ↦ numeral_from base (base * v + digit_of b) bs | false ↦ no_key ]

-- one digit at least
unfoldable pub numeral_of : ℕ → List ℕ → Key
unfolding numeral_from
numeral_of base bs = elim (eqb (length bs) 0) [ true ↦ no_key | false ↦ numeral_from base 0 bs ]

-- whether a word opens with 0x
abbrev pub marked : List ℕ → Bool
marked word = leb 2 (length word) && (eqb (get_or word 0 0) 48 && eqb (get_or word 1 0) 120)

-- a key that is one number
unfoldable pub number_of : List ℕ → Key
unfolding numeral_of
number_of word = elim (marked word) [ true ↦ numeral_of 16 (drop 2 word) | false ↦ numeral_of 10 word ]

-- a profile key; none where a field is over its width
abbrev pub profile_of : Dated → Key
profile_of d = cond d.wide no_key (record { good = true; value = d.word })

-- of either form
unfoldable pub key_of : List ℕ → Key
unfolding number_of dated_of
key_of word = elim (dated_of word).good [ true ↦ profile_of (dated_of word) | false ↦ number_of word ]

-- how many bytes the first line has, without its newline
unfoldable pub line_length : List ℕ → ℕ
line_length [] = 0
line_length (b ∷ bs) = elim (eqb b newline) [ true ↦ 0 | false ↦ suc (line_length bs) ]

-- the keys of the lines, the bytes of the line in hand given apart; a last line that no newline ends is no key
unfoldable pub keys_from : List ℕ → List ℕ → List Key
unfolding key_of
keys_from word [] = elim (eqb (length word) 0) [ true ↦ [] | false ↦ no_key ∷ [] ]
keys_from word (b ∷ bs) = elim (eqb b newline) [ true ↦ key_of word ∷ keys_from [] bs | false ↦ keys_from (word ++ (b ∷ [])) bs ]

unfoldable pub keys_in : List ℕ → List Key
unfolding keys_from
keys_in text = keys_from [] text

-- a text of one key at least, no more than allowed, and each of them good
unfoldable pub good_keys : List ℕ → Bool
unfolding keys_in every
good_keys text =
    leb (length text) max_bytes && (every (λ (k : Key). k.good) (keys_in text) && (ltb 0 (length (keys_in text)) && leb (length (keys_in text)) max_keys))

abbrev pub values_in : List ℕ → List ℕ
values_in text = map (λ (k : Key). k.value) (keys_in text)
