use native.Mathlib.Omega.{arith}
use mathlib.Core.Path.{◌≡◌, refl}
use lib.ListN.{length, get_or}
use Rattle.record.specs.Tables.{lent}
use Rattle.profiles.specs.Key.{key_of}
use Rattle.profiles.specs.Place.{Asked, asked_of}
use Rattle.engine.proofs.Answers.{lookup_fits, call_unasked, call_refused, call_brand, call_house}
use Rattle.refusal.proofs.Numbers.{numbered}
use Rattle.engine.proofs.igu_profile.Goals as goal
use Rattle.engine.proofs.igu_profile.Goals.{Start, In-Ok}

-- what the units are asked for a key
abbrev asked : Start → Asked
asked c =
    let s = c.args in
    asked_of (record { keys = get_or s.brand.now 3 0; size = s.brand_size; length = length s.brand_slab.now }) (record { keys = get_or s.house.now 3 0; size = s.house_size; length = length s.house_slab.now }) (key_of s.key.now)

-- the word of the key
asks : (c : In-Ok) → ◌≡◌ {A = Asked} (record { refusal = 0; word = c.in-Ok.x }) (asked (goal.at.In-Ok c).Start)
asks c = rw c.from.ensures at c.in-Ok.ensures

pub returns-in-Err : goal.returns-in-Err
returns-in-Err c =
    let s = c.args in
    call_unasked s.brand.now (lent s.brand_h.now s.brand_g.now s.brand_aux.now) s.brand_slab.now s.brand_size s.house.now (lent s.house_h.now s.house_g.now s.house_aux.now)
    s.house_slab.now s.house_size (key_of s.key.now) _ (rw c.from.ensures at c.in-Err.ensures) _ (λ z. omega (arith, numbered c.in-Err.refusal)) (omega (arith, c.from-in-Err.ensures, c.number.ensures))

pub returns-then-first-eq0 : goal.returns-then-first-eq0
returns-then-first-eq0 c =
    let s = c.args in
    call_house s.brand.now (lent s.brand_h.now s.brand_g.now s.brand_aux.now) s.brand_slab.now s.brand_size s.house.now (lent s.house_h.now s.house_g.now s.house_aux.now)
    s.house_slab.now s.house_size (key_of s.key.now) _ (asks (goal.at.returns-then-first-eq0 c).In-Ok) refl _ c.igu_lookup-first.ensures c.if-first-eq0.true _ c.igu_lookup.ensures

pub returns-then-first-ne0 : goal.returns-then-first-ne0
returns-then-first-ne0 c =
    let s = c.args in
    call_refused s.brand.now (lent s.brand_h.now s.brand_g.now s.brand_aux.now) s.brand_slab.now s.brand_size s.house.now (lent s.house_h.now s.house_g.now s.house_aux.now)
    s.house_slab.now s.house_size (key_of s.key.now) _ (asks (goal.at.returns-then-first-ne0 c).In-Ok) refl _ c.igu_lookup-first.ensures c.if-first-ne0.true

pub overflow_add-result : goal.overflow_add-result
overflow_add-result c = omega (arith, lookup_fits _ _ _ _ c.igu_lookup-first.ensures)

pub returns : goal.returns
returns c =
    let s = c.args in
    call_brand s.brand.now (lent s.brand_h.now s.brand_g.now s.brand_aux.now) s.brand_slab.now s.brand_size s.house.now (lent s.house_h.now s.house_g.now s.house_aux.now)
    s.house_slab.now s.house_size (key_of s.key.now) _ (asks (goal.at.returns c).In-Ok) refl _ c.igu_lookup-first.ensures c.if-first-eq0.false c.if-first-ne0.false
