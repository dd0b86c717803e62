use mathlib.Core.Path.{◌≡◌, sym, ◌∙◌}
use lib.ListN.{get_or}
use Rattle.record.specs.Leads.{word_in}
use Rattle.lookup.specs.Lookup as spec
use Rattle.lookup.proofs.Lookups.{compared_none, compared_above, compared_other, compared_same, word_row, word_rest, word_same}
use Rattle.lookup.proofs.compared.Goals as goal
use Rattle.lookup.proofs.compared.Goals.{Else-unit-i}

-- AUX[i] is not the word of x
other : (c : Else-unit-i) → let a = c.args in
    (get_or a.aux.now a.i 0 ≡ word_in a.unit a.x → ⊥) → spec.found 0 ≡ spec.compared a.unit a.aux.now a.x a.i
other c d =
    let a = c.args in
    compared_other a.unit a.aux.now a.x a.i c.if-i-eq0.false c.if-unit-i.false d

pub returns-then-i-eq0 : goal.returns-then-i-eq0
returns-then-i-eq0 c = compared_none _ _ _ _ c.if-i-eq0.true

pub returns-then-unit-i : goal.returns-then-unit-i
returns-then-unit-i c = compared_above _ _ _ _ c.if-unit-i.true

pub returns-then-held_row-row : goal.returns-then-held_row-row
returns-then-held_row-row c =
    let a = c.args in
    other (goal.at.returns-then-held_row-row c).Else-unit-i (λ q. c.if-held_row-row.true (c.low-held_row.ensures ∙ word_row a.unit a.x a.row c.requires.known.0 c.requires.known.1 c.requires.row.0 c.requires.row.1 _ q))

pub returns-then-held_rest-rest : goal.returns-then-held_rest-rest
returns-then-held_rest-rest c =
    let a = c.args in
    other (goal.at.returns-then-held_rest-rest c).Else-unit-i (λ q. c.if-held_rest-rest.true (word_rest a.unit a.x a.row c.requires.known.0 c.requires.known.1 c.requires.row.0 c.requires.row.1 _ q ∙ sym c.pack-rest.ensures))

pub returns : goal.returns
returns c =
    let a = c.args in
    compared_same a.unit a.aux.now a.x a.i c.if-i-eq0.false c.if-unit-i.false
    (word_same a.unit a.x a.row c.requires.known.0 c.requires.known.1 c.requires.row.0 c.requires.row.1 _
    (sym c.low-held_row.ensures ∙ c.if-held_row-row.false) (c.if-held_rest-rest.false ∙ c.pack-rest.ensures))
