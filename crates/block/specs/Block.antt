-- A block of 512 bytes: its opening, its payload and its check.
use Rattle.std.specs.Prelude.{ℕ, ◌+◌, ◌-◌, ◌*◌, ◌%◌, ◌<◌, ◌≡◌, Bool, true, false, cond, ◌&&◌, List, [], ◌∷◌, ◌++◌, eqb, length, get_or, take, drop, set, replicate}
use Rattle.lists.specs.Members.{All}
use Rattle.block.specs.declared.Opening.{Opening}
use Rattle.block.specs.Bytes.{little_of}

-- SCOPE 20.1: the bytes of a block, and where its payload and its check begin
abbrev pub block_size : ℕ
block_size = 512

abbrev pub payload_at : ℕ
payload_at = 4

abbrev pub check_at : ℕ
check_at = 508

-- SCOPE 20.7: the bytes of a short word and of a long one; how many of either a payload holds
abbrev pub short_word : ℕ
short_word = 2

abbrev pub long_word : ℕ
long_word = 8

abbrev pub short_words : ℕ
short_words = 252

abbrev pub long_words : ℕ
long_words = 63

-- SCOPE 20.1: kind, version, and the block's number in two bytes
unfoldable pub opening_of : Opening → List ℕ
unfolding little_of
opening_of o = o.kind ∷ o.version ∷ little_of 2 o.number

-- zeros behind the bytes, up to so many
abbrev pub padded : ℕ → List ℕ → List ℕ
padded size bytes = bytes ++ replicate (size - length bytes) 0

-- SCOPE 20.3: the sum of the bytes
unfoldable pub sum_of : List ℕ → ℕ
sum_of [] = 0
sum_of (b ∷ bs) = b + sum_of bs

-- SCOPE 20.3: w times the first byte, w - 1 times the second, and so on
unfoldable pub weigh : ℕ → List ℕ → ℕ
weigh w [] = 0
weigh w (b ∷ bs) = w * b + weigh (w - 1) bs

abbrev pub modulus : ℕ
modulus = 65521

-- SCOPE 20.3: the check of the bytes in front of it: both sums modulo 65,521, two bytes each
unfoldable pub check_of : List ℕ → List ℕ
unfolding sum_of weigh little_of
check_of bytes = little_of 2 (sum_of bytes % modulus) ++ little_of 2 (weigh check_at bytes % modulus)

-- the bytes, and their check behind them
abbrev pub sealed : List ℕ → List ℕ
sealed bytes = bytes ++ check_of bytes

-- SCOPE 20.1, 20.4: the block with an opening and a payload; payload bytes that are not used are 0
unfoldable pub block_of : Opening → List ℕ → List ℕ
unfolding opening_of check_of
block_of o payload = sealed (padded check_at (opening_of o ++ payload))

-- the same bytes in the same places
unfoldable pub same : List ℕ → List ℕ → Bool
same [] [] = true
same [] (b ∷ bs) = false
same (a ∷ l) [] = false
same (a ∷ l) (b ∷ bs) = eqb a b && same l bs

-- SCOPE 20.3: whether a block ends in the check of its other bytes
unfoldable pub right_check : List ℕ → Bool
unfolding same check_of
right_check block = same (drop check_at block) (check_of (take check_at block))

-- lent bytes that are as long as a block become it, others stay as they are
abbrev pub in_block : List ℕ → List ℕ → List ℕ
in_block block lent = cond (eqb (length lent) block_size) block lent

-- ---- what the check is for

-- the bytes at i and j exchanged
abbrev pub exchanged : List ℕ → ℕ → ℕ → List ℕ
exchanged b i j = set (set b i (get_or b j 0)) j (get_or b i 0)

-- SCOPE 20.5, of any check: b has the bytes 0 to 507 of a block
pub record Guards (check : List ℕ → List ℕ) : Type 0 where
  -- another byte in one place alters the check
  pub one_changed : (b : List ℕ) → length b ≡ check_at → All (λ x. x < 256) b → (i v : ℕ) → i < check_at → v < 256
      → (get_or b i 0 ≡ v → ⊥) → check (set b i v) ≡ check b → ⊥
  -- two unequal bytes exchanged alter it
  pub two_exchanged : (b : List ℕ) → length b ≡ check_at → All (λ x. x < 256) b → (i j : ℕ) → i < j → j < check_at
      → (get_or b i 0 ≡ get_or b j 0 → ⊥) → check (exchanged b i j) ≡ check b → ⊥
