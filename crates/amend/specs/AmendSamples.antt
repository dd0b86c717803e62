-- A vector added to the unit of SCOPE 15.3 with 8 cells; a key that is registered behind one that is added; and a word that is no key, computed.
use Rattle.std.specs.Prelude.{◌≡◌, refl, [], ◌∷◌}
use Rattle.record.specs.Tables.{lent}
use Rattle.build.specs.Build.{Outcome, build_chosen}
use Rattle.unit.specs.Samples.{S, nines}
use Rattle.print.specs.Ascii.{ascii}
use Rattle.amend.specs.Amend.{add_all, amend_text}

abbrev built : Outcome
built = build_chosen 6 2 8 15 S (nines 4 8 9)

pub record Table : Type 0 where
  pub one : (add_all built.built.unit built.tables (6 ∷ [])).tables
      ≡ lent (0 ∷ 2 ∷ 4 ∷ 6 ∷ []) (5 ∷ 1 ∷ 7 ∷ 2 ∷ 4 ∷ 3 ∷ 8 ∷ 6 ∷ []) (0 ∷ 0 ∷ 1 ∷ 2 ∷ 10 ∷ 16 ∷ 23 ∷ 25 ∷ 3 ∷ [])
  pub known : amend_text (ascii "6\n20\n") built.built.unit built.tables ≡ ascii "refused 40 3\n"
  pub no_key : amend_text (ascii "6\nred\n") built.built.unit built.tables ≡ ascii "input\n"

pub samples : Table
unfolding add_all amend_text build_chosen
samples = record { one = refl; known = refl; no_key = refl }
