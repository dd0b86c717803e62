-- The variables of a chart.
use Rattle.std.specs.Prelude.{List, take}
use Rattle.vectors.specs.declared.Kind.{Kind}
use Rattle.vectors.specs.Variable.{kinds_of}
use Rattle.build.specs.declared.Chart.{Chart}

-- p of them
abbrev pub kinds_by : Chart → List Kind
kinds_by c = kinds_of (take c.p c.variables)
