use Rattle.std.proofs.Common.{◌≡◌, ℕ, ◌+◌, ◌*◌, ◌<◌, get_or, rules}
use Rattle.std.proofs.lemmas.List.FromFn.{fill_by_all}
use Rattle.vectors.specs.Bounds.{max_inputs}
use Rattle.span.specs.Inner.Tags.{nodes_from}
use Rattle.span.proofs.tags.start.Goals as goal
use Rattle.span.proofs.tags.start.Goals.{After-from_fn}

tag : (c : After-from_fn) (i : ℕ) → i < max_inputs + 1 → get_or c.from_fn.result i 0 ≡ 2 * i
tag c i h = let called = (c.from_fn.ensures.items.at i 0 h).2 in search (rules, called)

pub returns : goal.returns
unfolding nodes_from
returns c = fill_by_all (λ x. 2 * x) c.from_fn.result (max_inputs + 1) 0 c.from_fn.ensures.items.long (tag c)
