use borrow.Author.Rules.{rules}
use native.Mathlib.Omega.{arith}
use Rattle.profiles.specs.Key.{packed}
use Rattle.profiles.proofs.Packing.{widths}
use Rattle.profiles.proofs.keys.pack.Goals as goal

pub overflow_mul-above_press-2 : goal.overflow_mul-above_press-2
overflow_mul-above_press-2 c = let w = widths _ c.requires in omega arith

pub overflow_add-above_press-2 : goal.overflow_add-above_press-2
overflow_add-above_press-2 c = let w = widths _ c.requires in omega arith

pub overflow_mul-result : goal.overflow_mul-result
overflow_mul-result c = let w = widths _ c.requires in omega arith

pub overflow_add-result : goal.overflow_add-result
overflow_add-result c = let w = widths _ c.requires in omega arith

pub returns : goal.returns
unfolding packed
returns c = search rules
