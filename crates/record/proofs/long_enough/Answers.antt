use Rattle.std.proofs.Common.{◌≡◌, ◌*◌, ◌%◌, ◌^◌, Bool, ◌&&◌, leb, ltb, length, arith, sym, ap, ◌∙◌}
use native.Mathlib.Nat.{one-mul}
use borrow.Author.Tests.{le-ltb, lt-leb}
use lib.Pow.{shl_exact, pow_mono}
use Rattle.vectors.specs.Bounds.{max_inputs}
use Rattle.record.proofs.long_enough.Goals as goal
use Rattle.record.proofs.long_enough.Goals.{Joined-unit-lt-MAX_INPUTS, then-unit-lt-MAX_INPUTS, else-unit-lt-MAX_INPUTS, then-unit-h, else-unit-h}

-- the rows
rows : (c : Joined-unit-lt-MAX_INPUTS) → c.if-unit-lt-MAX_INPUTS.value ≡ leb (2 ^ c.args.unit.n1) (length c.args.h.now)
rows c =
    let n1 = c.args.unit.n1 in
    elim c.if-unit-lt-MAX_INPUTS.branch [
      | then-unit-lt-MAX_INPUTS w ↦
          let e : 1 * 2 ^ n1 % 2 ^ max_inputs ≡ 2 ^ n1 = shl_exact {a = 1} 1 n1 max_inputs (omega arith) (omega (arith, w.if-unit-lt-MAX_INPUTS.true)) ∙ one-mul (2 ^ n1) in
          w.value-is ∙ rw e
      | else-unit-lt-MAX_INPUTS w ↦
          let m = pow_mono {i = max_inputs} {j = n1} w.if-unit-lt-MAX_INPUTS.false in
          w.value-is ∙ le-ltb _ _ w.if-unit-lt-MAX_INPUTS.false ∙ sym (lt-leb (2 ^ n1) (length c.args.h.now) (omega (arith, m, c.well_formed.1.0)))
    ]

pub returns-else-unit-g : goal.returns-else-unit-g
returns-else-unit-g c =
    let a = c.args in
    let first = rows (goal.at.returns-else-unit-g c).Joined-unit-lt-MAX_INPUTS in
    let cells : Bool = leb a.unit.cells (length a.g.now) in
    let second : c.if-unit-h.value ≡ (leb (2 ^ a.unit.n1) (length a.h.now) && cells) = elim c.if-unit-h.branch [
      | then-unit-h w ↦ w.value-is ∙ ap (λ (b : Bool). b && cells) (sym w.if-unit-h.true ∙ first)
      | else-unit-h w ↦ w.value-is ∙ w.if-unit-h.false ∙ ap (λ (b : Bool). b && cells) (sym w.if-unit-h.false ∙ first)
    ] in
    c.if-unit-g.false ∙ ap (λ (b : Bool). b && ltb a.unit.k (length a.aux.now)) (sym c.if-unit-g.false ∙ second)
