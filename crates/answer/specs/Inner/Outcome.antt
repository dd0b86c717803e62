-- What the call that prints what a build left leaves.
use Rattle.std.specs.Prelude.{ℕ, true, false, List, eqb}
use Rattle.build.specs.Built.{Built}
use Rattle.record.specs.Tables.{Tables}
use Rattle.print.specs.Print.{Printed, fitted, print_of, refused_text}

unfoldable pub print_built : Built → Tables → List ℕ → Printed
unfolding print_of fitted
print_built b t out =
    elim (eqb b.refusal 0) [ true ↦ print_of b.unit t out | false ↦ fitted (refused_text b.refusal b.place) out ]
