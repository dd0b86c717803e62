-- A unit that holds a list is listed as that list. Assumes nothing.
use Prim.Native.Nat.{ℕ}
use mathlib.Core.Path.{◌≡◌, sym, ap, ◌∙◌}
use mathlib.Core.List.{List, ◌∷◌}
use Rattle.record.specs.declared.Record.{Record}
use Rattle.record.specs.Tables.{Tables}
use Rattle.record.specs.Holds.{Holds}
use Rattle.recover.proofs.Every.{holds_listed, holds_list}
use Rattle.print.specs.Line.{lines}
use Rattle.listing.specs.Listing.{list_text}
use Rattle.listing.proofs.Lists.{list_listed}

pub list_exact : (u : Record) (t : Tables) (vs : List ℕ) → Holds u t vs → list_text u t ≡ lines (u.n ∷ vs)
list_exact u t vs H = sym (list_listed u t (holds_listed u t vs H)) ∙ ap (λ (l : List ℕ). lines (u.n ∷ l)) (holds_list u t vs H)
