-- What a sheet says that two inputs tell apart.
use Rattle.std.specs.Prelude.{ℕ, length}
use Rattle.choice.specs.declared.sheet.Sheet.{Sheet}
use Rattle.choice.specs.Inner.Judged.{gain_at}

abbrev pub gain_of : Sheet → ℕ → ℕ → ℕ
gain_of s = gain_at s.columns.now s.ends.now (length s.rests.now)
