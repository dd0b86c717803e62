-- The kinds of blocks, by name.
use Rattle.std.specs.Prelude.{ℕ}
use Rattle.file.specs.declared.layout.BlockKind.{BlockKind}
use Rattle.file.specs.declared.layout.BlockKind.TheVariants.{Head, H, G, Aux}
use Rattle.file.specs.Layout.{head_kind, h_kind, g_kind, aux_kind}

-- SCOPE 20.4: byte 0 of a block
abbrev pub byte_of : BlockKind → ℕ
byte_of Head = head_kind
byte_of H = h_kind
byte_of G = g_kind
byte_of Aux = aux_kind
