-- The refusals of vectors that are not all placed.
use Rattle.rows.specs.declared.Stop.{Stop}
use Rattle.rows.specs.declared.Stop.TheVariants.{NoFit, Over, Unfit}
use Rattle.record.specs.Record.{blank_record}
use Rattle.build.specs.Built.{Built}

abbrev pub stopped : Stop → Built
stopped (NoFit row tried needed tries) = record { refusal = 13; place = row; needed = needed; unit = blank_record }
stopped (Over row) = record { refusal = 41; place = row; needed = 0; unit = blank_record }
stopped Unfit = record { refusal = 13; place = 0; needed = 0; unit = blank_record }
