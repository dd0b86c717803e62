-- The part mark of a slot.
use Rattle.std.specs.Prelude.{ℕ, cond, ltb}
use Rattle.vectors.specs.declared.Part.{Part}
use Rattle.vectors.specs.declared.Part.TheVariants.{Row, Column}

-- SCOPE 5.6: row in the first n1 slots, column after them
abbrev pub part_at : ℕ → ℕ → Part
part_at i n1 = cond (ltb i n1) Row Column
