-- The vectors of a row as the code has them.
use Rattle.std.specs.Prelude.{ℕ, List}
use Rattle.rows.specs.Care.{Care}
use Rattle.rows.specs.Fit.{Fit}
use Rattle.add.specs.declared.Mates.{Mates}
use Rattle.add.specs.Inner.Mates.{mates, group, Stands, Held, bare, refitted}

abbrev pub mates_of : Mates → List Care
mates_of r = mates r.seat r.aux.now r.firsts.now

abbrev pub group_of : Mates → List Care
group_of r = group r.seat r.aux.now r.firsts.now

abbrev pub StandsIn : Mates → ℕ → Type 0
StandsIn r cells = Stands r.seat r.aux.now r.firsts.now cells

abbrev pub HeldIn : Mates → List ℕ → Type 0
HeldIn r g = Held r.seat r.aux.now r.firsts.now g

abbrev pub bare_of : Mates → List ℕ → List ℕ
bare_of r g = bare r.seat r.aux.now r.firsts.now g

abbrev pub refitted_of : Mates → List ℕ → Fit → List ℕ
refitted_of r g f = refitted r.seat r.aux.now r.firsts.now g f
