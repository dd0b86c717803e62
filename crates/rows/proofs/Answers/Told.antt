-- One answer alone is told as a definition says. Assumes nothing.
use Prim.Native.Nat.{ℕ}
use mathlib.Core.Path.{◌≡◌, refl, ap, ap₂}
use Rattle.rows.specs.Answer.{Placed}
use Rattle.std.specs.Prelude.{Result, Ok, Err}
use Rattle.rows.specs.Told.{fit_told, stop_told, told}
use Rattle.rows.specs.declared.NoFit.{NoFit}
use Rattle.rows.specs.declared.Stop.{Stop}
use Rattle.rows.specs.declared.Stop.TheVariants as stop

pub fit_told_one : (r s : Result ℕ NoFit) → fit_told r ≡ fit_told s → r ≡ s
fit_told_one (Ok a) (Ok b) e = cc
fit_told_one (Ok a) (Err b) e = cc
fit_told_one (Err a) (Ok b) e = cc
fit_told_one (Err a) (Err b) e =
    let p : a.tried ≡ b.tried = cc in
    let q : a.cells ≡ b.cells = cc in
    ap₂ (λ (t n : ℕ). Err (record { tried = t; cells = n })) p q

end_is : {r s : Placed} → r ≡ s → r.end ≡ s.end
end_is e = ap (λ (r : Placed). r.end) e

tries_are : {r s : Placed} → r ≡ s → r.tries ≡ s.tries
tries_are e = ap (λ (r : Placed). r.tries) e

stop_told_one : (r s : Stop) → stop_told r ≡ stop_told s → r ≡ s
stop_told_one (stop.NoFit a b c d) (stop.NoFit x y z w) e =
    let p = end_is e in
    let q = tries_are e in
    cc
stop_told_one (stop.NoFit a b c d) (stop.Over x) e = let p = end_is e in cc
stop_told_one (stop.NoFit a b c d) stop.Unfit e = let p = end_is e in cc
stop_told_one (stop.Over a) (stop.NoFit x y z w) e = let p = end_is e in cc
stop_told_one (stop.Over a) (stop.Over x) e = let p = end_is e in cc
stop_told_one (stop.Over a) stop.Unfit e = let p = end_is e in cc
stop_told_one stop.Unfit (stop.NoFit x y z w) e = let p = end_is e in cc
stop_told_one stop.Unfit (stop.Over x) e = let p = end_is e in cc
stop_told_one stop.Unfit stop.Unfit e = refl

pub told_one : (r s : Result ℕ Stop) → told r ≡ told s → r ≡ s
told_one (Ok a) (Ok b) e = let q = tries_are e in cc
told_one (Ok a) (Err (stop.NoFit x y z w)) e = let p = end_is e in cc
told_one (Ok a) (Err (stop.Over x)) e = let p = end_is e in cc
told_one (Ok a) (Err stop.Unfit) e = let p = end_is e in cc
told_one (Err (stop.NoFit x y z w)) (Ok a) e = let p = end_is e in cc
told_one (Err (stop.Over x)) (Ok a) e = let p = end_is e in cc
told_one (Err stop.Unfit) (Ok a) e = let p = end_is e in cc
told_one (Err a) (Err b) e = let h = stop_told_one a b e in cc
