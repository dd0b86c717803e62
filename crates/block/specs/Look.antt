-- What is read of a block: whether it opens so and is 0 where it is not used, and its words.
use Rattle.std.specs.Prelude.{ℕ, min, Bool, cond, ◌&&◌, List, eqb, length, take, drop}
use Rattle.std.proofs.lemmas.List.Edits.{sets}
use Rattle.lists.specs.Members.{every}
use Rattle.block.specs.declared.Opening.{Opening}
use Rattle.block.specs.Bytes.{words_at}
use Rattle.block.specs.Block.{block_size, payload_at, check_at, opening_of, same}

-- SCOPE 20.4: the bytes from a place up to the check are 0
unfoldable pub blank_from : ℕ → List ℕ → Bool
unfolding every
blank_from at block = every (λ b. eqb b 0) (drop at (take check_at block))

-- SCOPE 20.1, 20.4: a block with this opening whose payload is 0 from a place on
unfoldable pub laid_out : Opening → ℕ → List ℕ → Bool
unfolding same opening_of blank_from
laid_out o at block = same (opening_of o) (take payload_at block) && blank_from at block

-- SCOPE 20.7: the first words of a block in the place of lent ones, at most per of them; they stay as they are where it is no whole block
abbrev pub words_over : ℕ → ℕ → List ℕ → List ℕ → List ℕ
words_over size per block lent =
    cond (eqb (length block) block_size) (sets lent 0 (words_at size (min per (length lent)) (drop payload_at block))) lent
