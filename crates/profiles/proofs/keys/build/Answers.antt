use native.Mathlib.Omega.{arith}
use mathlib.Core.Path.{◌≡◌, sym, ap, ◌∙◌}
use mathlib.Core.Bool.{true}
use mathlib.Core.List.{map}
use lib.ListN.{length, take, length-map}
use lib.Seq.{length-take-le}
use Rattle.lists.specs.Members.{every}
use Rattle.std.proofs.Common.{Err}
use Rattle.refusal.specs.declared.Refused.{Refused}
use Rattle.build.specs.Built.{told}
use Rattle.record.specs.Tables.{Tables, lent}
use Rattle.build.specs.Build.{after}
use Rattle.profiles.specs.Key.{in_widths, packed, key_of}
use Prim.Native.Nat.{ℕ}
use Rattle.profiles.proofs.Listing.{every_mapped, every_front, map_front}
use Rattle.lists.proofs.Entries.Members.{map_take}
use Rattle.profiles.proofs.Building.{keys_wide, keys_front}
use borrow.Author.Rules.{rules}
use Rattle.profiles.proofs.keys.build.Goals as goal
use Rattle.profiles.proofs.keys.build.Goals.{After-min-m, Else-not-all_in_widths, Start}

abbrev table : Start → Tables
table s = lent s.args.h.now s.args.g.now s.args.aux.now

pub returns-then-not-all_in_widths : goal.returns-then-not-all_in_widths
returns-then-not-all_in_widths c =
    ap (λ (e : Refused). after (told (Err e)) c.args.h.now c.args.g.now c.args.aux.now) c.at.ensures
    ∙ keys_wide c.args.degree c.args.cells c.args.allowance (map key_of c.args.keys.now) (table (goal.at.returns-then-not-all_in_widths c).Start) (sym (every_mapped in_widths key_of c.args.keys.now) ∙ sym c.all_in_widths.ensures ∙ c.if-not-all_in_widths.true)

-- no key has a field over its width
widths : (c : Else-not-all_in_widths) → every in_widths (map key_of c.args.keys.now) ≡ true
widths c = sym (every_mapped in_widths key_of c.args.keys.now) ∙ sym c.all_in_widths.ensures ∙ c.if-not-all_in_widths.false

-- and the first have none either
every_few : (c : Else-not-all_in_widths) (m : ℕ) → every in_widths (map key_of (take m c.args.keys.now)) ≡ true
every_few c m = ap (every in_widths) (map_take key_of m c.args.keys.now) ∙ every_front in_widths m (map key_of c.args.keys.now) (widths c)

-- so many keys are packed
taken : (c : After-min-m) → length (take c.min-m.result c.args.keys.now) ≡ c.min-m.result
taken c = length-take-le c.min-m.result c.args.keys.now (omega (arith, c.min-m.ensures))

pub pack_all-requires : goal.pack_all-requires
pack_all-requires c = record {
  widths = every_few (goal.at.pack_all-requires c).Else-not-all_in_widths c.min-m.result;
  size = omega (arith, taken (goal.at.pack_all-requires c).After-min-m, c.min-m.ensures);
}

pub slice_bounds-build_chosen-end : goal.slice_bounds-build_chosen-end
slice_bounds-build_chosen-end c = sym (length-take-le _ _ (search rules))

pub returns : goal.returns
returns c =
    let ks = map key_of c.args.keys.now in
    let e : length ks ≡ length c.args.keys.now = length-map c.args.keys.now key_of in
    c.build_chosen.ensures
    ∙ keys_front c.args.degree c.args.cells c.args.allowance ks (table (goal.at.returns c).Start) c.min-m.result (take c.min-m.result c.pack_all.new.words) (widths (goal.at.returns c).Else-not-all_in_widths) (rw e c.min-m.ensures) (ap (λ (i : ℕ). take i c.pack_all.new.words) (sym (taken (goal.at.returns c).After-min-m)) ∙ c.pack_all.ensures ∙ map_front key_of packed c.min-m.result c.args.keys.now)
