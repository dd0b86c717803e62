use Rattle.std.proofs.Common.{◌≡◌, ℕ, ◌<◌, List, ◌+◌, ◌-◌, ◌*◌, ◌%◌, ap, ◌∙◌, get_or, take, drop, get_or-take, arith}
use Rattle.std.proofs.lemmas.Grind.{get_or_after_one}
use Rattle.vectors.proofs.Bits.Laws.{put_digit}
use Rattle.span.specs.Inner.Tags.{read_off}
use Rattle.span.proofs.Labels.Walk.{low_more, low_all, read_more, read_end}
use Rattle.vectors.specs.Bounds.{max_inputs}
use Rattle.span.proofs.tags.read_off.Goals as goal

sums : (a b : ℕ) → (a + b) % 2 ≡ (a % 2 + b % 2) % 2
sums a b = omega arith

-- the tag of the node after the ground that is read
read : (tags : List ℕ) (n j : ℕ) → j < n → get_or (take (n + 1 - 1) (drop 1 tags)) j 0 ≡ get_or tags (j + 1) 0
read tags n j h = get_or-take (n + 1 - 1) (drop 1 tags) j 0 (omega arith) ∙ get_or_after_one tags j 0 ∙ ap (λ (i : ℕ). get_or tags i 0) (omega arith)

pub loop-j-preserved : goal.loop-j-preserved
loop-j-preserved c =
    let l = c.loop-j in
    let b : ℕ = (get_or c.args.tags (l.j + 1) 0 % 2 + get_or c.args.tags 0 0 % 2) % 2 in
    rw (read c.args.tags c.args.n l.j (omega arith))
    (low_more _ l.x l.j b _ _ _ (omega arith) (read_more c.args.n l.j 0 c.args.tags (omega arith) ∙ ap (λ (t : ℕ). t + 2 * read_off (c.args.n - (l.j + 1)) (l.j + 1) c.args.tags) (sums _ _))
    (put_digit max_inputs l.x l.j b l.invariant.low (omega arith) (omega arith)) l.invariant)

pub returns : goal.returns
returns c = low_all _ _ _ _ (read_end _ _ _ (omega arith)) c.loop-j.invariant
