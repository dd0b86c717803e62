use Prim.Native.Nat.{◌+◌, ◌-◌, ◌*◌, ◌≤◌}
use native.Mathlib.Omega.{arith}
use mathlib.Core.Path.{refl}
use lib.ListN.{length}
use Rattle.profiles.proofs.Parts.{bytes_some, start_size, part_of}
use Rattle.profiles.proofs.places.part.Goals as goal
use Rattle.profiles.proofs.places.part.Goals.{Else-number-eq0}

-- the profile lies within the slab
fits : (c : Else-number-eq0) → (c.args.number - 1) * c.args.size + c.args.size ≤ length c.args.slab.now
fits c = omega (arith, start_size c.args.number c.args.size c.if-number-eq0.false, c.requires)

pub returns-then-number-eq0 : goal.returns-then-number-eq0
returns-then-number-eq0 c = let z = c.if-number-eq0.true in rw z (record { bytes = refl; block = refl; offset = omega arith })

pub returns : goal.returns
returns c =
    let a = c.args in
    record {
      bytes = rw (bytes_some a.number a.size c.if-number-eq0.false) (part_of ((a.number - 1) * a.size) a.size a.slab.now);
      block = refl;
      offset = omega arith;
    }

pub overflow_mul-at : goal.overflow_mul-at
overflow_mul-at c = omega (arith, fits c)

pub overflow_add-result : goal.overflow_add-result
overflow_add-result c = omega (arith, fits c)

pub slice_bounds-result-end-2 : goal.slice_bounds-result-end-2
slice_bounds-result-end-2 c = omega (arith, fits c)
