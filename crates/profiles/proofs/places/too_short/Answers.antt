use borrow.Author.Tests.{eq-eqb, ne_eqb}
use Rattle.profiles.specs.Place.{too_short}
use Rattle.profiles.proofs.Placing.{short_times, times_fits}
use Rattle.profiles.proofs.places.too_short.Goals as goal

pub returns-then-size-eq0 : goal.returns-then-size-eq0
unfolding too_short
returns-then-size-eq0 c = rw (eq-eqb _ _ c.if-size-eq0.true)

pub overflow_mul-result : goal.overflow_mul-result
overflow_mul-result c = record { fits = times_fits _ _ c.if-keys-lt65536.true c.if-size-lt281474976710656.true }

pub returns-then-size-lt281474976710656 : goal.returns-then-size-lt281474976710656
unfolding too_short
returns-then-size-lt281474976710656 c =
    let a = c.args.room in
    let n = c.if-size-eq0.false in
    rw (ne_eqb a.size 0 n) (short_times a.keys a.size a.length n)

pub returns : goal.returns
unfolding too_short
returns c = rw (ne_eqb _ _ c.if-size-eq0.false)
