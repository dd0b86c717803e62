-- Where a key leads, as one number, and what that number keeps.
use Rattle.std.specs.Prelude.{ℕ, ◌+◌, ◌-◌, ◌*◌, ◌^◌, ◌<◌, ◌≡◌}
use Rattle.std.specs.Int.Bits.{bit_xor}
use Rattle.vectors.specs.Variable.{column_of}
use Rattle.record.specs.declared.Record.{Record}
use Rattle.record.specs.Record.{kinds_in}
use Rattle.record.specs.Leads.{word_in}

-- SCOPE 5.3, 6.3: the image of a key: its column in the lowest bits, above it its comparison word, which is its row and above that its kept inputs
abbrev pub image_of : Record → ℕ → ℕ
image_of u x = column_of u.n1 (kinds_in u) x + 2 ^ (u.p - u.n1) * word_in u x

-- XOR goes to XOR
abbrev pub Linear : (ℕ → ℕ) → Type 0
Linear f = (a b : ℕ) → f (bit_xor a b) ≡ bit_xor (f a) (f b)

-- so it does for numbers below a bound
abbrev pub LinearBelow : ℕ → (ℕ → ℕ) → Type 0
LinearBelow bound f = (a b : ℕ) → a < bound → b < bound → f (bit_xor a b) ≡ bit_xor (f a) (f b)

-- below a bound no two numbers have one value
abbrev pub OneToOne : ℕ → (ℕ → ℕ) → Type 0
OneToOne bound f = (x y : ℕ) → x < bound → y < bound → f x ≡ f y → x ≡ y
