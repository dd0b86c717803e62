-- What is listed of any unit fits 24 KiB. Assumes nothing.
use Prim.Native.Nat.{ℕ, ◌^◌, ◌≤◌, ◌<◌}
use native.Mathlib.Omega.{arith}
use mathlib.Core.Path.{◌≡◌, refl, ap}
use mathlib.Core.Bool.{Bool, true, false}
use mathlib.Core.List.{◌∷◌}
use lib.ListN.{length}
use lib.Pow.{pow_mono}
use Rattle.lists.specs.Members.{All}
use Rattle.lists.proofs.Entries.Alls.{at_all}
use Rattle.vectors.specs.Bounds.{max_inputs, max_vectors}
use Rattle.record.specs.declared.Record.{Record}
use Rattle.record.specs.Tables.{Tables}
use Rattle.recover.specs.Every.{listed, list_in}
use Rattle.recover.proofs.Every.{listed_formed, listed_few, listed_length, listed_entry}
use Rattle.print.specs.Line.{lines}
use Rattle.print.proofs.Pages.Sizes.{lines_low, refused_low}
use Rattle.listing.specs.Listing.{list_text}
use Rattle.listing.proofs.Lists.{list_listed, list_not}

-- bytes that every list fits into
abbrev pub list_size : ℕ
list_size = 24576

module _ (u : Record) (t : Tables) (L : listed u t ≡ true) where
  inputs : u.n ≤ max_inputs
  inputs = (listed_formed u t L).bounds.inputs

  few : u.k ≤ max_vectors
  few = (listed_few u t L).0

  vectors_low : All (λ x. x < 10 ^ 20) (list_in u t)
  vectors_low =
      at_all (λ x. x < 10 ^ 20) (list_in u t) 0
      (λ j h. omega (arith, (listed_entry u t L j (omega (arith, listed_length u t L))).below, pow_mono {i = u.n} {j = max_inputs} inputs))

  lines_few : length (lines (u.n ∷ list_in u t)) ≤ list_size
  lines_few = omega (arith, lines_low (u.n ∷ list_in u t) (omega (arith, inputs), vectors_low), listed_length u t L, few)

-- of every unit
pub list_fits : (u : Record) (t : Tables) → length (list_text u t) ≤ list_size
list_fits u t = go (listed u t) refl
  where
    go : (b : Bool) → listed u t ≡ b → length (list_text u t) ≤ list_size
    go true h = omega (arith, lines_few u t h, ap length (list_listed u t h))
    go false h = omega (arith, refused_low 14 0 (omega arith) (omega arith), ap length (list_not u t h))
