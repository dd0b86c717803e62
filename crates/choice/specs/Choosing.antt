-- The variables chosen, in their places.
use Rattle.std.specs.Prelude.{ℕ, ◌-◌, Bool, true, false, Result, Ok, Err, cond, ◌||◌, List, [], ◌++◌, map, ltb, length, replicate}
use Rattle.vectors.specs.declared.Kind.{Kind}
use Rattle.vectors.specs.declared.Part.TheVariants.{Row}
use Rattle.vectors.specs.declared.Variable.{Variable}
use Rattle.vectors.specs.Bounds.{max_inputs, max_vectors, max_variables, outside}
use Rattle.vectors.specs.Variable.{blank_variable}
use Rattle.choice.specs.Choice.{choose, apart}
use Rattle.choice.specs.declared.Chosen.{Chosen as Taken}

-- the variables in their places, how many there are, and whether no two vectors agree on all of them
pub record Chosen : Type 0 where
  pub variables : List Variable
  pub p : ℕ
  pub apart : Bool

-- .. as an answer or an error
abbrev pub told : Result Taken Taken → Chosen
told (Ok t) = record { variables = t.variables; p = t.p; apart = true }
told (Err t) = record { variables = t.variables; p = t.p; apart = false }

-- a variable taken is marked row
abbrev pub row_variable : Kind → Variable
row_variable k = record { kind = k; part = Row }

-- SCOPE 12.3: the variables in their places, the unused places after them blank
abbrev pub placed : List Kind → List Variable
placed ks = map row_variable ks ++ replicate (max_variables - length ks) blank_variable

abbrev pub chosen_as : List ℕ → List Kind → Chosen
chosen_as vs ks = record { variables = placed ks; p = length ks; apart = apart vs ks }

-- SCOPE 4.5: the variables of the rule, and whether no pair is left by them
abbrev pub chosen_by : List ℕ → ℕ → ℕ → Chosen
chosen_by vs n degree = chosen_as vs (choose max_variables n degree vs)

abbrev pub none_chosen : Chosen
none_chosen = record { variables = placed []; p = 0; apart = false }

-- SCOPE 2.1: none where n or the list is outside its bounds
unfoldable pub chosen_in : List ℕ → ℕ → ℕ → Chosen
unfolding choose apart
chosen_in vs n degree = cond (outside 1 max_inputs n || ltb max_vectors (length vs)) none_chosen (chosen_by vs n degree)
