-- What the code answers, as the definitions have it. No two answers are told alike (told_one, fit_told_one).
use Rattle.std.specs.Prelude.{ℕ, Result, Ok, Err}
use Rattle.rows.specs.Fit.{Fit, At, None}
use Rattle.rows.specs.End.{All, NoFit, Over, Unfit}
use Rattle.rows.specs.Answer.{Placed}
use Rattle.rows.specs.declared.NoFit as no_fit
use Rattle.rows.specs.declared.Stop.{Stop}
use Rattle.rows.specs.declared.Stop.TheVariants as stop

-- the first fit of a row
abbrev pub fit_told : Result ℕ no_fit.NoFit → Fit
fit_told (Ok d) = At d
fit_told (Err f) = None f.tried f.cells

-- why not all rows are placed
abbrev pub stop_told : Stop → Placed
stop_told (stop.NoFit row tried needed tries) = record { end = NoFit row tried needed; tries = tries }
stop_told (stop.Over row) = record { end = Over row; tries = 0 }
stop_told stop.Unfit = record { end = Unfit; tries = 0 }

-- the tries of a placing that places all, or why it does not
abbrev pub told : Result ℕ Stop → Placed
told (Ok tries) = record { end = All; tries = tries }
told (Err s) = stop_told s
