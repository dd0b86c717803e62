use Prim.Native.Nat.{ℕ, ◌+◌, ◌^◌, ◌<◌}
use native.Mathlib.Numerals.{add-one}
use native.Mathlib.Omega.{arith}
use mathlib.Core.Path.{◌≡◌, sym, ap, subst, ◌∙◌}
use mathlib.Core.Bool.{true}
use mathlib.Core.List.{List}
use borrow.Author.Tests.{leb-true, leb-false}
use lib.ListN.{length, get_or}
use Rattle.std.proofs.Common.{Err}
use Rattle.std.proofs.lemmas.Result.{err_from_is_err_and}
use Rattle.vectors.specs.Bounds.{max_variables, max_words}
use Rattle.refusal.specs.declared.Refused.{Refused}
use Rattle.record.specs.Tables.{Tables, lent}
use Rattle.record.specs.Leads.{cell_in}
use Rattle.recover.specs.Every.{listed}
use Rattle.recover.proofs.Firsts.{firsts_length, sound_firsts}
use Rattle.recover.proofs.Every.{listed_sound, listed_formed, listed_firsts}
use Rattle.build.specs.Built.{Built, told}
use Rattle.build.specs.Build.{after, refused}
use Rattle.add.specs.declared.Seat.{Seat}
use Rattle.add.specs.Inner.Seats.{FirstsAre, NumberFound}
use Rattle.add.specs.Inner.Moves.{cells_in, placed_by}
use Rattle.add.proofs.Seating.{seat_column}
use Rattle.add.proofs.Moving.Outcomes.{placed_is}
use Rattle.add.proofs.Rungs.{added_unlisted, added_beyond, added_by, added_past, few, number_low, ready}
use Rattle.add.proofs.add.Goals as goal
use Rattle.add.proofs.add.Goals.{After-find_seat-seat, After-number_at-number, Else-beyond, Else-not-listed}

-- the unit is listed, and firsts has the first cells
is_listed : (c : Else-not-listed) → listed c.args.unit (lent c.args.h.now c.args.g.now c.args.aux.now) ≡ true
is_listed c = sym c.listed.ensures.value ∙ c.if-not-listed.false

firsts_are : (c : Else-not-listed) → FirstsAre c.args.unit (lent c.args.h.now c.args.g.now c.args.aux.now) c.listed.new.firsts
firsts_are c i p h = ap (λ (l : List ℕ). get_or l i 0) c.listed.ensures.firsts_after ∙ listed_firsts _ _ (is_listed c) _ i h

firsts_size : (c : Else-not-listed) → length c.listed.new.firsts ≡ max_words
firsts_size c =
    let u = c.args.unit in
    let t : Tables = lent c.args.h.now c.args.g.now c.args.aux.now in
    ap length (c.listed.ensures.firsts_after ∙ sym (sound_firsts u t _ (listed_sound u t (is_listed c)))) ∙ firsts_length (cells_in u t) 0 max_words

-- x has no bit beyond n
low : (c : Else-beyond) → c.args.x < 2 ^ c.args.unit.n
low c = leb-false _ _ (sym c.beyond.ensures ∙ c.if-beyond.false)

size : (c : Else-not-listed) → length c.args.unit.variables ≡ max_variables
size c = omega (arith, c.well_formed)

-- the number whose first cell is that of x
number_is : (c : After-number_at-number) → FirstsAre c.args.unit (lent c.args.h.now c.args.g.now c.args.aux.now) c.listed.new.firsts
    → NumberFound c.args.unit (lent c.args.h.now c.args.g.now c.args.aux.now) (cell_in c.args.unit (lent c.args.h.now c.args.g.now c.args.aux.now) c.args.x) c.number_at-number.result
number_is c f = subst (λ (p : Seat). NumberFound c.args.unit (lent c.args.h.now c.args.g.now c.args.aux.now) (p.displacement + p.column) c.number_at-number.result) c.find_seat-seat.ensures.seat (c.number_at-number.ensures c.args.h.now c.args.aux.now f)

pub returns-then-not-listed : goal.returns-then-not-listed
returns-then-not-listed c =
    ap (λ (e : Refused). after (told (Err e)) c.args.h.now c.args.g.now c.args.aux.now) c.at.ensures
    ∙ sym (added_unlisted c.args.unit (lent c.args.h.now c.args.g.now c.args.aux.now) c.args.x (sym c.listed.ensures.value ∙ c.if-not-listed.true))

pub overflow_add-unit : goal.overflow_add-unit
overflow_add-unit c = omega (arith, few _ _ c.args.x (is_listed (goal.at.overflow_add-unit c).Else-not-listed))

pub returns-then-beyond : goal.returns-then-beyond
returns-then-beyond c =
    ap (λ (e : Refused). after (told (Err e)) c.args.h.now c.args.g.now c.args.aux.now) c.at-then-beyond.ensures
    ∙ ap (λ (n : ℕ). refused (record { number = 6; place = n }) (lent c.args.h.now c.args.g.now c.args.aux.now)) (add-one c.args.unit.k)
    ∙ sym (added_beyond c.args.unit (lent c.args.h.now c.args.g.now c.args.aux.now) c.args.x (is_listed (goal.at.returns-then-beyond c).Else-not-listed) (leb-true _ _ (sym c.beyond.ensures ∙ c.if-beyond.true)))

pub find_seat-seat-requires : goal.find_seat-seat-requires
find_seat-seat-requires c = let w = listed_formed _ _ (is_listed (goal.at.find_seat-seat-requires c).Else-not-listed) in record { formed = (w.bounds, w.inputs, w.rows_held) }

pub overflow_add-seat : goal.overflow_add-seat
overflow_add-seat c =
    let q = (goal.at.overflow_add-seat c).Else-not-listed in
    omega (arith, c.find_seat-seat.ensures.low, ap (λ (p : Seat). p.column) c.find_seat-seat.ensures.seat, seat_column c.args.unit c.args.x (listed_formed _ _ (is_listed q)).bounds (size q))

pub slice_bounds-number_at-end : goal.slice_bounds-number_at-end
slice_bounds-number_at-end c = sym (firsts_size (goal.at.slice_bounds-number_at-end c).Else-not-listed)

pub number_at-number-requires : goal.number_at-number-requires
number_at-number-requires c =
    let q = (goal.at.number_at-number-requires c).Else-not-listed in
    record { sizes = ((listed_formed _ _ (is_listed q)).cells_held, omega (arith, firsts_size q, few _ _ c.args.x (is_listed q))) }

pub check-requires : goal.check-requires
check-requires c =
    let q = (goal.at.check-requires c).Else-not-listed in
    record {
      few = few _ _ c.args.x (is_listed q);
      number_in = number_low _ _ _ (is_listed q) _ (number_is (goal.at.check-requires c).After-number_at-number (firsts_are q));
    }

pub returns-in_err-check : goal.returns-in_err-check
returns-in_err-check c =
    let q = (goal.at.returns-in_err-check c).Else-not-listed in
    let n = number_is (goal.at.returns-in_err-check c).After-number_at-number (firsts_are q) in
    let p = err_from_is_err_and c.from_residual.result c.from_residual.ensures.1 in
    rw (p.1, p.2)
    (added_by c.args.unit (lent c.args.h.now c.args.g.now c.args.aux.now) c.args.x (is_listed q) (low (goal.at.returns-in_err-check c).Else-beyond) _ n _
    (rw c.find_seat-seat.ensures.seat at c.in_err-check.ensures))

pub slice_bounds-place_in-end : goal.slice_bounds-place_in-end
slice_bounds-place_in-end c = sym (firsts_size (goal.at.slice_bounds-place_in-end c).Else-not-listed)

pub place_in-requires : goal.place_in-requires
place_in-requires c =
    let q = (goal.at.place_in-requires c).Else-not-listed in
    rw c.find_seat-seat.ensures.seat
    (ready c.args.unit (lent c.args.h.now c.args.g.now c.args.aux.now) c.args.x (is_listed q) c.listed.new.firsts (firsts_are q) (firsts_size q) (size q) (rw c.find_seat-seat.ensures.seat at c.find_seat-seat.ensures.low) c.number_at-number.result
    (sym (ap (λ (b : Built). b.refusal) (rw c.find_seat-seat.ensures.seat at c.in_ok-check.ensures))))

pub returns : goal.returns
returns c =
    let q = (goal.at.returns c).Else-not-listed in
    let n = number_is (goal.at.returns c).After-number_at-number (firsts_are q) in
    c.place_in.ensures
    ∙ ap (placed_by c.args.unit (lent c.args.h.now c.args.g.now c.args.aux.now) c.listed.new.firsts) c.find_seat-seat.ensures.seat
    ∙ placed_is c.args.unit (lent c.args.h.now c.args.g.now c.args.aux.now) c.args.x (is_listed q) c.listed.new.firsts (firsts_are q)
    ∙ sym
    (added_past c.args.unit (lent c.args.h.now c.args.g.now c.args.aux.now) c.args.x (is_listed q) (low (goal.at.returns c).Else-beyond) _ n
    (sym (ap (λ (r : Built). r.refusal) (rw c.find_seat-seat.ensures.seat at c.in_ok-check.ensures))))
