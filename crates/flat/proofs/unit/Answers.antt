use Rattle.std.proofs.Common.{◌∙◌, w64}
use mir.Facts.{to_z-of_z}
use Rattle.flat.proofs.Records.{unit_read}
use Rattle.flat.proofs.unit.Goals as goal

pub returns : goal.returns
returns c = unit_read _ _ _ _ (to_z-of_z {w = w64} (record { sfits = c.cast_signed.type_inv }) ∙ c.cast_signed.ensures) c.from.ensures
