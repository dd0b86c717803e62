use native.Mathlib.Omega.{arith}
use mathlib.Core.Path.{◌≡◌, sym, ap, ◌∙◌}
use mathlib.Core.List.{map}
use lib.ListN.{length, length-map, get_or-map}
use Rattle.std.proofs.lemmas.List.{take_all}
use Rattle.profiles.specs.Key.{in_widths, packed, key_of}
use Rattle.profiles.proofs.Listing.{every_at, copied_more}
use Rattle.profiles.proofs.keys.pack_all.Goals as goal

pub pack-requires : goal.pack-requires
pack-requires c =
    let l = c.loop-i in
    ap in_widths (c.from.ensures ∙ sym (get_or-map key_of c.args.keys.now l.i _))
    ∙ every_at in_widths (map key_of c.args.keys.now) l.i _ c.requires.widths (rw length-map (omega arith))

pub loop-i-preserved : goal.loop-i-preserved
loop-i-preserved c =
    let l = c.loop-i in
    let ks = c.args.keys.now in
    copied_more (map packed (map key_of ks)) l.words l.i _ _ (rw (length-map, length-map) (omega arith)) (omega arith)
    (c.pack.ensures ∙ ap packed c.from.ensures ∙ sym (get_or-map packed (map key_of ks) l.i _ ∙ ap packed (get_or-map key_of ks l.i _))) l.invariant

pub returns : goal.returns
returns c =
    let ks = c.args.keys.now in
    let e : c.loop-i.i ≡ length ks = omega (arith, c.loop-i.auto.i-end) in
    rw (sym e) (c.loop-i.invariant ∙ take_all c.loop-i.i (map packed (map key_of ks)) (rw (length-map, length-map) (omega arith)))
