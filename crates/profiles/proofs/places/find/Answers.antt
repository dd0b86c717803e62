use native.Mathlib.Omega.{arith}
use mathlib.Core.Path.{◌≡◌, refl}
use Rattle.std.proofs.lemmas.Result.{err_from_is_err_and}
use Rattle.refusal.proofs.Numbers.{numbered}
use Rattle.profiles.proofs.Placing.{place_unasked, place_refused, place_brand, place_house_refused, place_house}
use Rattle.profiles.specs.Place.{Asked, asked_of, room_of}
use Rattle.profiles.proofs.places.find.Goals as goal
use Rattle.profiles.proofs.places.find.Goals.{In_ok-x}

-- the word that the units are asked for
asks : (c : In_ok-x) → ◌≡◌ {A = Asked} (record { refusal = 0; word = c.in_ok-x.x }) (asked_of (room_of c.args.brand) (room_of c.args.house) c.args.key)
asks c = rw (c.room.ensures, c.room-2.ensures) at c.in_ok-x.ensures

pub returns-in_err-x : goal.returns-in_err-x
returns-in_err-x c =
    let p = err_from_is_err_and c.from_residual.result c.from_residual.ensures.1 in
    rw (p.1, p.2)
    (place_unasked _ _ _ _ _ _ (rw (c.room.ensures, c.room-2.ensures) at c.in_err-x.ensures) (λ z. omega (arith, numbered c.in_err-x.field-0.0)))

pub returns-in_err-first : goal.returns-in_err-first
returns-in_err-first c =
    let p = err_from_is_err_and c.from_residual-in_err-first.result c.from_residual-in_err-first.ensures.1 in
    let a = asks (goal.at.returns-in_err-first c).In_ok-x in
    rw (p.1, p.2) (place_refused _ _ _ _ _ _ a refl _ c.in_err-first.ensures (λ z. omega (arith, numbered c.in_err-first.field-0.0)))

pub returns-then-first-ne0 : goal.returns-then-first-ne0
returns-then-first-ne0 c =
    let a = asks (goal.at.returns-then-first-ne0 c).In_ok-x in
    place_brand _ _ _ _ _ _ a refl _ c.in_ok-first.ensures refl c.if-first-ne0.true

pub returns-in_err-second : goal.returns-in_err-second
returns-in_err-second c =
    let p = err_from_is_err_and c.from_residual-in_err-second.result c.from_residual-in_err-second.ensures.1 in
    let a = asks (goal.at.returns-in_err-second c).In_ok-x in
    rw (p.1, p.2)
    (place_house_refused _ _ _ _ _ _ a refl _ c.in_ok-first.ensures refl c.if-first-ne0.false _ c.in_err-second.ensures
    (λ z. omega (arith, numbered c.in_err-second.field-0.0)))

pub returns : goal.returns
returns c =
    let a = asks (goal.at.returns c).In_ok-x in
    place_house _ _ _ _ _ _ a refl _ c.in_ok-first.ensures refl c.if-first-ne0.false _ c.in_ok-second.ensures refl
