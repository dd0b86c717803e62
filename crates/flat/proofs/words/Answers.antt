use Rattle.std.proofs.Common.{ap, of_z, w64, ◌∙◌}
use mir.Facts.{to_z-of_z}
use Rattle.flat.proofs.Records.{flat_written}
use Rattle.flat.proofs.words.Goals as goal

pub returns : goal.returns
returns c =
    let e = to_z-of_z {w = w64} {z = c.args.unit.excess} (record { sfits = c.struct_told-1.given.1.1.1.1.1.1.1.0.1 }) in
    flat_written _ _ _ _ (c.cast_unsigned.ensures ∙ ap (of_z w64) e) (c.from-2.ensures ∙ c.from.ensures) c.write_variables.ensures
