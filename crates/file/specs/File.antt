-- The file of a unit, block by block.
use Rattle.std.specs.Prelude.{ℕ, zero, suc, ◌+◌, ◌-◌, ◌*◌, ◌/◌, ◌^◌, List, [], ◌∷◌, ◌++◌, length, take, drop}
use Rattle.vectors.specs.declared.Kind.{Kind}
use Rattle.vectors.specs.declared.Kind.TheVariants.{One, Two}
use Rattle.vectors.specs.Bounds.{max_variables}
use Rattle.record.specs.declared.Record.{Record}
use Rattle.record.specs.Record.{mark_number, kinds_in}
use Rattle.record.specs.Tables.{Tables}
use Rattle.block.specs.declared.Opening.{Opening}
use Rattle.block.specs.Bytes.{little_of, words_of}
use Rattle.block.specs.Block.{padded, block_size, block_of, short_word, long_word, short_words, long_words}
use Rattle.file.specs.Layout.{head_kind, h_kind, g_kind, aux_kind, version, letters}

-- SCOPE 20.1: how block number i begins
abbrev pub opening : ℕ → ℕ → Opening
opening kind i = record { kind = kind; version = version; number = i }

-- ---- the head

-- SCOPE 20.6: a variable in two bytes, the second 0 for a single input
abbrev pub variable_bytes : Kind → List ℕ
variable_bytes (One i) = i ∷ 0 ∷ []
variable_bytes (Two i j) = i ∷ j ∷ []

unfoldable pub variables_bytes : List Kind → List ℕ
variables_bytes [] = []
variables_bytes (k ∷ ks) = variable_bytes k ++ variables_bytes ks

-- SCOPE 20.6: the fields one after another from byte 4 on; a variable that is not used is two zeros, and tries count modulo 2^32
unfoldable pub head_payload : Record → List ℕ
unfolding little_of variables_bytes
head_payload u =
    letters
    ++ little_of 1 u.n
    ++ little_of 1 u.p
    ++ little_of 1 u.n1
    ++ little_of 2 u.k
    ++ little_of 2 u.cells
    ++ little_of 4 u.tries
    ++ padded (2 * max_variables) (variables_bytes (kinds_in u))
    ++ little_of 1 (mark_number u.mark)

unfoldable pub head_of : Record → List ℕ
unfolding block_of head_payload
head_of u = block_of (opening head_kind 0) (head_payload u)

-- ---- the tables

-- the blocks of so many words, with per of them in a block
abbrev pub blocks_for : ℕ → ℕ → ℕ
blocks_for per words = (words + (per - 1)) / per

-- blocks 0 to m - 1, one after another
unfoldable pub stack : (ℕ → List ℕ) → ℕ → List ℕ
stack block zero = []
stack block (suc m) = stack block m ++ block m

-- SCOPE 20.7: block i of a table, the first being number `first` of the file
unfoldable pub table_block : ℕ → ℕ → ℕ → ℕ → List ℕ → ℕ → List ℕ
unfolding block_of words_of
table_block kind size per first words i = block_of (opening kind (first + i)) (words_of size (take per (drop (per * i) words)))

unfoldable pub table_of : ℕ → ℕ → ℕ → ℕ → List ℕ → List ℕ
unfolding stack table_block
table_of kind size per first words = stack (table_block kind size per first words) (blocks_for per (length words))

-- ---- the whole

abbrev pub rows_in : Record → ℕ
rows_in u = 2 ^ u.n1

abbrev pub words_in : Record → ℕ
words_in u = suc u.k

-- SCOPE 20.7: the numbers of the first blocks of H, G and AUX, and of the block past the last
abbrev pub h_first : ℕ
h_first = 1

abbrev pub g_first : Record → ℕ
g_first u = h_first + blocks_for short_words (rows_in u)

abbrev pub aux_first : Record → ℕ
aux_first u = g_first u + blocks_for short_words u.cells

abbrev pub blocks_in : Record → ℕ
blocks_in u = aux_first u + blocks_for long_words (words_in u)

-- SCOPE 20.8: how many bytes the head says that a file has
abbrev pub size_of : Record → ℕ
size_of u = block_size * blocks_in u

-- SCOPE 20.8: the bytes of the longest file, of 68 blocks
abbrev pub longest_file : ℕ
longest_file = 34816

-- SCOPE 20.4: the head and the three tables
unfoldable pub file_with : Record → List ℕ → List ℕ → List ℕ → List ℕ
unfolding head_of table_of
file_with u h g aux =
    head_of u
    ++ table_of h_kind short_word short_words h_first h
    ++ table_of g_kind short_word short_words (g_first u) g
    ++ table_of aux_kind long_word long_words (aux_first u) aux

-- SCOPE 20.4: H, G and AUX in their ranges
unfoldable pub file_of : Record → Tables → List ℕ
unfolding file_with
file_of u t = file_with u (take (rows_in u) t.h) (take u.cells t.g) (take (words_in u) t.aux)
