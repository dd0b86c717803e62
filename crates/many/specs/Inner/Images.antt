-- The masks of an image's bits, the images of bytes in tables, and what is taken from a unit once for all keys.
use Rattle.std.specs.Prelude.{ℕ, zero, suc, ◌+◌, ◌-◌, ◌*◌, ◌/◌, ◌%◌, ◌^◌, ◌≤◌, ◌<◌, ◌≡◌, Bool, true, false, List, [], ◌∷◌, ◌++◌, length, get_or, take, drop}
use Rattle.vectors.specs.Bounds.{max_inputs, max_side}
use Rattle.vectors.specs.Masks.{masks_of, number_by}
use Rattle.record.specs.declared.Record.{Record}
use Rattle.record.specs.Record.{kinds_in}
use Rattle.record.specs.Tables.{Tables}
use Rattle.record.specs.Formed.{well_formed}
use Rattle.many.specs.declared.find.Frame.{Frame}
use Rattle.many.specs.Image.{image_of}

-- the bits of a mask, each as a mask of its own: d of them looked at, the lowest at place j
unfoldable pub singles : ℕ → ℕ → ℕ → List ℕ
singles zero j m = []
singles (suc d) j m = elim (m % 2) [ zero ↦ singles d (suc j) (m / 2) | suc r ↦ 2 ^ j ∷ singles d (suc j) (m / 2) ]

-- the masks of an image's bits, the lowest first: those of the column, of the row, and the kept inputs
unfoldable pub image_masks : Record → List ℕ
unfolding singles
image_masks u = masks_of (drop u.n1 (kinds_in u)) ++ masks_of (take u.n1 (kinds_in u)) ++ singles max_inputs 0 u.kept

-- ---- the values of a function in tables

-- the bytes of a word, the bits of a byte and its values, and the words of all tables
abbrev pub word_bytes : ℕ
word_bytes = 8

abbrev pub byte_bits : ℕ
byte_bits = 8

abbrev pub byte_values : ℕ
byte_values = 256

abbrev pub table_words : ℕ
table_words = word_bytes * byte_values

-- the values of f at so many single bits
abbrev pub OnBits : ℕ → (ℕ → ℕ) → List ℕ → Type 0
OnBits count f images = (b : ℕ) → b < count → get_or images b 0 ≡ f (2 ^ b)

-- the values of f at the numbers below a count
abbrev pub Below : ℕ → (ℕ → ℕ) → List ℕ → Type 0
Below count f table = (m : ℕ) → m < count → get_or table m 0 ≡ f m

-- the values of f at each byte, the first byte in the lowest place, in tables of which so many are made; in the others at the byte 0 alone
abbrev pub Tabled : ℕ → (ℕ → ℕ) → List ℕ → Type 0
Tabled count f tables =
    (t m : ℕ) → t < word_bytes → m < byte_values → (count ≤ t → m ≡ 0) → get_or tables (byte_values * t + m) 0 ≡ f (m * 2 ^ (byte_bits * t))

-- the bytes of a key of n bits
abbrev pub key_bytes : ℕ → ℕ
key_bytes n = (n + byte_bits - 1) / byte_bits

-- the bits of all bytes but the last; a key that is not wide has no others
abbrev pub narrow_bits : ℕ
narrow_bits = byte_bits * (word_bytes - 1)

abbrev pub Narrow : Bool → ℕ → Type 0
Narrow wide x = wide ≡ false → x < 2 ^ narrow_bits

-- ---- what is taken from a unit once for all keys

pub record FrameOf (u : Record) (f : Frame) : Type 0 where
  pub kinds : length (kinds_in u) ≡ u.p
  pub rows_in : u.n1 ≤ u.p
  pub columns_few : u.p - u.n1 ≤ max_side
  pub last : f.last ≡ 2 ^ u.n - 1
  pub shift : f.shift ≡ u.p - u.n1
  pub columns : f.columns ≡ 2 ^ (u.p - u.n1) - 1
  pub rows : f.rows ≡ 2 ^ u.n1 - 1
  pub cells : f.cells ≡ u.cells
  pub k : f.k ≡ u.k

-- H and G are long enough for what a frame reads
pub record Fits (f : Frame) (h g : ℕ) : Type 0 where
  pub shift_low : f.shift ≤ max_side
  pub columns_low : f.columns < 2 ^ max_side
  pub rows_held : f.rows < h
  pub cells_held : f.cells ≤ g

-- so are AUX and the tables of images
pub record Room (f : Frame) (images h g aux : ℕ) : Type 0 where
  pub images_held : images ≡ table_words
  pub fits : Fits f h g
  pub words_held : f.k < aux

-- a unit that is well formed, with its tables of images
pub record Opened (u : Record) (t : Tables) (f : Frame) (images : List ℕ) : Type 0 where
  pub frame : FrameOf u f
  pub formed : well_formed u t ≡ true
  pub tabled : Tabled (key_bytes u.n) (number_by (image_masks u)) images
  pub image : (x : ℕ) → x < 2 ^ max_inputs → number_by (image_masks u) x ≡ image_of u x
