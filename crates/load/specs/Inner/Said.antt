-- What the head of a file says, whatever its bytes are.
use Rattle.std.specs.Prelude.{ℕ, List, map, take}
use Rattle.vectors.specs.declared.Kind.{Kind}
use Rattle.vectors.specs.Bounds.{max_variables}
use Rattle.span.specs.Within.{inputs_in, within}
use Rattle.span.specs.Span.{kept}
use Rattle.record.specs.declared.Record.{Record}
use Rattle.record.specs.Record.{mark_of, variables_of, excess_of}
use Rattle.block.specs.Bytes.{number_at}
use Rattle.file.specs.Layout.{n_at, p_at, n1_at, k_at, cells_at, tries_at, variables_at, mark_at}
use Rattle.file.specs.Decode.{kinds_from}

-- the variables: p of them, or the 24 that there are
abbrev pub kinds_said : List ℕ → List Kind
kinds_said file = take (number_at 1 p_at file) (kinds_from max_variables variables_at file)

-- the record: positions past n count as no input
unfoldable pub said_in : List ℕ → Record
unfolding number_at kinds_from kept excess_of
said_in file =
    let n = number_at 1 n_at file in
    record {
      n = n;
      p = number_at 1 p_at file;
      n1 = number_at 1 n1_at file;
      k = number_at 2 k_at file;
      cells = number_at 2 cells_at file;
      kept = kept (inputs_in n) (map (within (inputs_in n)) (kinds_said file));
      tries = number_at 4 tries_at file;
      excess = excess_of (number_at 1 p_at file) (number_at 2 k_at file);
      variables = variables_of (number_at 1 n1_at file) (kinds_said file);
      mark = mark_of (number_at 1 mark_at file);
    }
