-- The parts of a block: its opening, its payload, the zeros behind it, and the check. Assumes nothing.
use mathlib.Core.Path.{◌≡◌, sym, ap, ◌∙◌}
use mathlib.Core.List.{List, ◌++◌, append_assoc}
use Prim.Native.Nat.{ℕ, ◌-◌, ◌≤◌}
use native.Mathlib.Omega.{arith}
use lib.ListN.{length, take, drop, replicate, length-append}
use lib.Seq.{take_at, drop_at}
use Rattle.block.specs.declared.Opening.{Opening}
use Rattle.block.specs.Bytes.{words_of, words_at}
use Rattle.block.specs.Block.{payload_at, check_at, opening_of, padded, check_of, block_of}
use Rattle.block.proofs.Laying.Words.{length_opening, length_padded}
use Rattle.block.proofs.Reading.Words.{low_words, words_read}

module _ (o : Opening) (payload : List ℕ) where
  -- the bytes in front of the check
  abbrev pub body_of : List ℕ
  body_of = padded check_at (opening_of o ++ payload)

  -- the bytes of the payload that are not used
  abbrev pub unused : List ℕ
  unused = replicate (check_at - length (opening_of o ++ payload)) 0

  pub block_parts : block_of o payload ≡ opening_of o ++ (payload ++ (unused ++ check_of body_of))
  unfolding block_of
  block_parts =
      append_assoc (opening_of o ++ payload) unused (check_of body_of)
      ∙ append_assoc (opening_of o) payload (unused ++ check_of body_of)

  pub block_payload : drop payload_at (block_of o payload) ≡ payload ++ (unused ++ check_of body_of)
  block_payload = ap (drop payload_at) block_parts ∙ drop_at (opening_of o) _ payload_at (length_opening o)

  module _ (fits : length payload ≤ check_at - payload_at) where
    length_body : length body_of ≡ check_at
    length_body = length_padded check_at (opening_of o ++ payload) (omega (arith, length-append (opening_of o) payload, length_opening o))

    pub block_body : take check_at (block_of o payload) ≡ body_of
    unfolding block_of
    block_body = take_at body_of (check_of body_of) check_at length_body

    pub block_check : drop check_at (block_of o payload) ≡ check_of (take check_at (block_of o payload))
    unfolding block_of
    block_check = drop_at body_of (check_of body_of) check_at length_body ∙ ap check_of (sym block_body)

-- the words of a block read back, whatever stands behind it
pub block_words : (m : ℕ) (o : Opening) (ws rest : List ℕ) → words_at m (length ws) (drop payload_at (block_of o (words_of m ws)) ++ rest) ≡ low_words m ws
block_words m o ws rest =
    let b : List ℕ = words_of m ws in
    ap (λ (l : List ℕ). words_at m (length ws) (l ++ rest)) (block_payload o b)
    ∙ ap (words_at m (length ws)) (append_assoc b _ rest)
    ∙ words_read m ws _
