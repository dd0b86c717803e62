use native.Mathlib.Omega.{arith}
use mathlib.Core.Path.{◌≡◌, refl, sym, ap, ◌∙◌}
use Rattle.std.proofs.Common.{Err}
use Rattle.refusal.specs.declared.Refused.{Refused}
use Rattle.many.specs.Lookups.{told}
use mathlib.Core.Bool.{true, false}
use Rattle.record.specs.Tables.{lent}
use Rattle.record.specs.Formed.{well_formed}
use Rattle.lookup.specs.Lookup.{lookup_of, not_found}
use Rattle.vectors.specs.Masks.{number_by}
use Rattle.record.specs.Inner.Formed.{WellFormed}
use Rattle.record.proofs.Formed.{well_formed_facts}
use Rattle.lookup.proofs.Lookups.{lookup_unformed}
use Rattle.std.proofs.Common.{ℕ, ◌+◌, ◌/◌, ◌%◌, min}
use Rattle.many.specs.Inner.Images.{byte_bits, key_bytes, image_masks}
use Rattle.many.proofs.Linear.{number_linear}
use Rattle.many.proofs.Masking.{image_masks_lem}
use Rattle.many.proofs.Answers.{frame_room}
use Rattle.many.proofs.Keys.{many_short, many_by, many_same}
use borrow.Author.Rules.{rules}
use Rattle.many.proofs.lookup_many.Goals as goal
use Rattle.many.proofs.lookup_many.Goals.{Else-not-well_formed}

formed : (c : Else-not-well_formed) → well_formed c.args.unit (lent c.args.h.now c.args.g.now c.args.aux.now) ≡ true
formed c = sym c.well_formed-2.ensures ∙ c.if-not-well_formed.false

facts : (c : Else-not-well_formed) → WellFormed c.args.unit (lent c.args.h.now c.args.g.now c.args.aux.now)
facts c = well_formed_facts c.args.unit _ (formed c)

pub returns-then-indices-keys : goal.returns-then-indices-keys
returns-then-indices-keys c = many_short _ _ _ _ (ap (λ (r : Refused). told (Err r)) c.at.ensures) c.if-indices-keys.true

pub returns-then-not-well_formed : goal.returns-then-not-well_formed
returns-then-not-well_formed c =
    let u = c.args.unit in
    let t = lent c.args.h.now c.args.g.now c.args.aux.now in
    let f : well_formed u t ≡ false = sym c.well_formed-2.ensures ∙ c.if-not-well_formed.true in
    c.none.ensures ∙ many_by (λ x. not_found 14) _ _ c.if-indices-keys.false
    ∙ many_same (λ x. not_found 14) (lookup_of u t) (λ x. lookup_unformed u t x f) _ _

pub framed-frame-requires : goal.framed-frame-requires
framed-frame-requires c = (facts c).bounds

pub images-images-requires : goal.images-images-requires
images-images-requires c = let f = facts (goal.at.images-images-requires c).Else-not-well_formed in (f.bounds, f.inputs)

-- the bytes of a key
bytes : (n r : ℕ) → r ≡ n / byte_bits + min 1 (n % byte_bits) → r ≡ key_bytes n
bytes n r e = omega arith

pub fill-requires : goal.fill-requires
fill-requires c =
    (search rules, omega (arith, c.div_ceil.ensures, (facts (goal.at.fill-requires c).Else-not-well_formed).bounds.inputs), refl)

pub invariant_of-open : goal.invariant_of-open
invariant_of-open c =
    record { room = frame_room c.args.unit (lent c.args.h.now c.args.g.now c.args.aux.now) _ _ (facts (goal.at.invariant_of-open c).Else-not-well_formed) c.framed-frame.ensures c.fill.auto.tables }

pub returns : goal.returns
returns c =
    let u = c.args.unit in
    let f = (goal.at.returns c).Else-not-well_formed in
    let o = c.framed-frame.ensures in
    c.all.ensures u
    (record {
      frame = o;
      formed = formed f;
      tabled = rw (bytes u.n _ c.div_ceil.ensures) at (c.fill.ensures (number_by (image_masks u)) (number_linear (image_masks u)) c.images-images.ensures);
      image = image_masks_lem u (facts f).bounds (facts f).inputs o.kinds;
    })
    ∙ many_by (lookup_of u (lent c.args.h.now c.args.g.now c.args.aux.now)) _ _ c.if-indices-keys.false
