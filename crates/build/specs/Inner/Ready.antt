-- What is known of a list and of its variables past refusal 11.
use Rattle.std.specs.Prelude.{ℕ, ◌-◌, ◌^◌, ◌≤◌, ◌<◌, ◌≡◌, false, List, [], ◌∷◌, length}
use Rattle.std.specs.Coded.{×_prop, Unit-prop}
use denote.Struct.Props.{props}
use Rattle.lists.specs.Members.{All}
use Rattle.vectors.specs.declared.Kind.{Kind}
use Rattle.vectors.specs.Bounds.{max_inputs, max_vectors, max_variables, max_side}
use Rattle.vectors.specs.Variable.{faulty}
use Rattle.span.specs.Span.{first_dependent}

-- of the list
pub record Listed (n : ℕ) (vs : List ℕ) : Type 0 where
  pub inputs : n ≤ max_inputs
  pub some : 0 < length vs
  pub few : length vs ≤ max_vectors
  pub within : All (λ v. v < 2 ^ n) vs

-- of the variables
pub record Split (n n1 : ℕ) (ks : List Kind) : Type 0 where
  pub few : length ks ≤ max_variables
  pub rows_in : n1 ≤ length ks
  pub rows_few : n1 ≤ max_side
  pub columns_few : length ks - n1 ≤ max_side
  pub right : All (λ k. faulty n k ≡ false) ks
  pub independent : first_dependent ks ≡ 0

-- each of the two in one way only, so that a struct can hold it
all_prop : {A : Type 0} {P : A → Type 0} → ((x : A) → IsProp (P x)) → (xs : List A) → IsProp (All P xs)
all_prop h [] = Unit-prop
all_prop h (x ∷ xs) = ×_prop (h x) (all_prop h xs)

pub listed_prop : (n : ℕ) (vs : List ℕ) → IsProp (Listed n vs)
listed_prop n vs x y =
    let inputs_prop : IsProp (n ≤ max_inputs) = hlevel props in
    let some_prop : IsProp (0 < length vs) = hlevel props in
    let few_prop : IsProp (length vs ≤ max_vectors) = hlevel props in
    let within_prop = all_prop {P = λ v. v < 2 ^ n} (λ v. hlevel props) vs in
    λ i. record {
      inputs = inputs_prop x.inputs y.inputs i;
      some = some_prop x.some y.some i;
      few = few_prop x.few y.few i;
      within = within_prop x.within y.within i;
    }

pub split_prop : (n n1 : ℕ) (ks : List Kind) → IsProp (Split n n1 ks)
split_prop n n1 ks x y =
    let few_prop : IsProp (length ks ≤ max_variables) = hlevel props in
    let in_prop : IsProp (n1 ≤ length ks) = hlevel props in
    let rows_prop : IsProp (n1 ≤ max_side) = hlevel props in
    let columns_prop : IsProp (length ks - n1 ≤ max_side) = hlevel props in
    let right_prop = all_prop {P = λ k. faulty n k ≡ false} (λ k. hlevel props) ks in
    let independent_prop : IsProp (first_dependent ks ≡ 0) = hlevel props in
    λ i. record {
      few = few_prop x.few y.few i;
      rows_in = in_prop x.rows_in y.rows_in i;
      rows_few = rows_prop x.rows_few y.rows_few i;
      columns_few = columns_prop x.columns_few y.columns_few i;
      right = right_prop x.right y.right i;
      independent = independent_prop x.independent y.independent i;
    }
