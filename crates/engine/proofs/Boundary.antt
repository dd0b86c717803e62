-- What is promised of profiles holds of the functions for C, with units that they built and with units that they wrote and read. Assumes nothing.
use Prim.Native.Nat.{ℕ, ◌/◌}
use native.Mathlib.Omega.{arith}
use mathlib.Core.Path.{◌≡◌, refl, sym, ap, ap₂, ◌∙◌}
use mathlib.Core.Bool.{Bool, true, false}
use mathlib.Core.List.{List, map}
use lib.ListN.{take}
use Rattle.lists.specs.Members.{every}
use Rattle.record.specs.Tables.{Tables}
use Rattle.build.specs.Build.{Outcome, build_chosen}
use Rattle.build.proofs.Holding.Holds.{chosen_holds}
use Rattle.unit.specs.Demand2.{ChosenBuild}
use Rattle.file.specs.Read.{read_of}
use Rattle.file.specs.Facts.{carried, carried_chosen}
use Rattle.file.proofs.Decoding.Built.{chosen_record_carried}
use Rattle.file.proofs.Loading.Demands.{carried_chosen_demand_2}
use Rattle.flat.specs.Flat.{flat_of, unit_seen}
use Rattle.bridge.specs.Calls.{Left, left_by, write_call, read_call}
use Rattle.bridge.proofs.Boundary.{Carried, chosen_carried}
use Rattle.bridge.proofs.Files.{front, read_left, flat_read}
use Rattle.profiles.specs.declared.Key.{Key}
use Rattle.profiles.specs.Key.{key_bits, in_widths, packed}
use Rattle.profiles.specs.Keys.{keys_by}
use Rattle.profiles.specs.Facts.{BuiltOf}
use Rattle.profiles.proofs.Building.{keys_wide, keys_build}
use Rattle.profiles.proofs.Promise.{sure_promised, chosen_sure, carried_sure}
use Rattle.engine.specs.Calls.{keys_call, profile_call}
use Rattle.engine.specs.Boundary.{Called, CalledByFile, slabs_in, CallsPromised}
use Rattle.engine.proofs.Answers.{keys_left}

module _ (keys : List Key) (words : List ℕ) (t : Tables) (c : Called keys words t) where
  abbrev o : Outcome
  o = build_chosen key_bits c.degree c.cells c.allowance (map packed keys) c.lent

  -- the build of the words was accepted
  pub record Passed : Type 0 where
    pub widths : every in_widths keys ≡ true
    pub left : keys_call c.degree c.cells c.allowance keys c.lent ≡ left_by o
    pub none : o.built.refusal ≡ 0
    pub nowhere : o.built.place ≡ 0
    pub unneeded : o.built.needed ≡ 0

  pub passed : Passed
  passed = go (every in_widths keys) refl
    where
      go : (w : Bool) → every in_widths keys ≡ w → Passed
      go true w =
          let l : keys_call c.degree c.cells c.allowance keys c.lent ≡ left_by o = sym (keys_left c.degree c.cells c.allowance keys c.lent) ∙ ap left_by (sym (keys_build c.degree c.cells c.allowance keys c.lent w)) in
          let e = ap (λ (m : Left). m.answer) (sym l) ∙ c.accepted in
          record { widths = w; left = l; none = omega arith; nowhere = omega arith; unneeded = omega arith }
      go false w =
          let l = sym (keys_left c.degree c.cells c.allowance keys c.lent) ∙ ap left_by (sym (keys_wide c.degree c.cells c.allowance keys c.lent w)) in
          let e = ap (λ (m : Left). m.answer) (sym l) ∙ c.accepted in
          absurd (omega arith)

  pub record_was : words ≡ flat_of o.built.unit
  record_was = c.record_is ∙ ap (λ (m : Left). m.words) passed.left

  pub tables_were : t ≡ o.tables
  tables_were = c.tables_are ∙ ap (λ (m : Left). m.tables) passed.left

  pub called_built : BuiltOf build_chosen keys (unit_seen words) t
  called_built =
      let by : keys_by build_chosen c.degree c.cells c.allowance keys c.lent ≡ o = rw (passed.widths, keys_by) in
      record {
        degree = c.degree;
        cells = c.cells;
        allowance = c.allowance;
        lent = c.lent;
        accepted = ap (λ (q : Outcome). q.built.refusal) by ∙ passed.none;
        unit = ap unit_seen record_was ∙ chosen_carried key_bits c.degree c.cells c.allowance (map packed keys) c.lent passed.none ∙ sym (ap (λ (q : Outcome). q.built.unit) by);
        tables = tables_were ∙ sym (ap (λ (q : Outcome). q.tables) by);
      }

-- ---- written and read

module _ (keys : List Key) (words : List ℕ) (t : Tables) (c : CalledByFile keys words t) where
  abbrev d : Called keys c.before c.tables
  d = c.called

  abbrev made : Outcome
  made = o keys c.before c.tables d

  abbrev vs : List ℕ
  vs = map packed keys

  abbrev build : ChosenBuild
  build = carried_chosen read_of c.into build_chosen

  accepted_made : made.built.refusal ≡ 0
  accepted_made = (passed keys c.before c.tables d).none

  flat : Carried made
  flat = chosen_carried key_bits d.degree d.cells d.allowance vs d.lent

  -- what was read
  was_read : read_call (take ((write_call c.before c.tables c.target).answer / 256) (write_call c.before c.tables c.target).target) c.into ≡ left_by (carried read_of c.into made)
  was_read =
      ap₂ (λ (w : List ℕ) (s : Tables). read_call (take ((write_call w s c.target).answer / 256) (write_call w s c.target).target) c.into) (record_was keys c.before c.tables d) (tables_were keys c.before c.tables d)
      ∙ ap (λ (bytes : List ℕ). read_call bytes c.into)
      (front made.built.unit made.tables (flat accepted_made) (chosen_holds key_bits d.degree d.cells d.allowance vs d.lent accepted_made).is_sound c.target c.room)
      ∙ read_left key_bits vs made flat (chosen_holds key_bits d.degree d.cells d.allowance vs d.lent) (chosen_record_carried key_bits d.degree d.cells d.allowance vs d.lent)
      (λ into roomy. carried_chosen_demand_2 into roomy key_bits d.degree d.cells d.allowance vs d.lent) accepted_made (passed keys c.before c.tables d).nowhere (passed keys c.before c.tables d).unneeded c.into c.roomy

  flat_carried : Carried (carried read_of c.into made)
  flat_carried =
      flat_read key_bits vs made flat (chosen_holds key_bits d.degree d.cells d.allowance vs d.lent) (chosen_record_carried key_bits d.degree d.cells d.allowance vs d.lent)
      (λ into roomy. carried_chosen_demand_2 into roomy key_bits d.degree d.cells d.allowance vs d.lent) accepted_made c.into c.roomy

  pub file_built : BuiltOf build keys (unit_seen words) t
  file_built =
      let by : keys_by build d.degree d.cells d.allowance keys d.lent ≡ carried read_of c.into made = rw ((passed keys c.before c.tables d).widths, keys_by) in
      record {
        degree = d.degree;
        cells = d.cells;
        allowance = d.allowance;
        lent = d.lent;
        accepted = ap (λ (q : Outcome). q.built.refusal) by ∙ accepted_made;
        unit = ap unit_seen (c.record_is ∙ ap (λ (m : Left). m.words) was_read) ∙ flat_carried accepted_made ∙ sym (ap (λ (q : Outcome). q.built.unit) by);
        tables = c.tables_are ∙ ap (λ (m : Left). m.tables) was_read ∙ sym (ap (λ (q : Outcome). q.tables) by);
      }

-- ---- the promise

pub built_calls : CallsPromised Called
unfolding profile_call
built_calls c brand house m n = (
  sure_promised build_chosen build_chosen chosen_sure chosen_sure (slabs_in c)
      (record {
        brand = called_built c.brand_keys c.brand c.brand_tables brand;
        house = called_built c.house_keys c.house c.house_tables house;
        brand_long = m;
        house_long = n;
      }),
  λ key. refl,
)

pub file_calls : CallsPromised CalledByFile
unfolding profile_call
file_calls c brand house m n = (
  sure_promised (carried_chosen read_of brand.into build_chosen) (carried_chosen read_of house.into build_chosen) (carried_sure brand.into brand.roomy) (carried_sure house.into house.roomy) (slabs_in c)
      (record {
        brand = file_built c.brand_keys c.brand c.brand_tables brand;
        house = file_built c.house_keys c.house c.house_tables house;
        brand_long = m;
        house_long = n;
      }),
  λ key. refl,
)
