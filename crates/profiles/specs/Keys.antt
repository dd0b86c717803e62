-- The build of a list of keys (SCOPE 21.3).
use Rattle.std.specs.Prelude.{ℕ, true, false, List, map}
use Rattle.lists.specs.Members.{every}
use Rattle.record.specs.Tables.{Tables}
use Rattle.build.specs.Build.{Outcome, refused, build_chosen}
use Rattle.unit.specs.Demand2.{ChosenBuild}
use Rattle.profiles.specs.declared.Key.{Key}
use Rattle.profiles.specs.Key.{key_bits, in_widths, packed}

-- by any build: refusal 30 where a key has a field over its width; else the build of the packed keys
abbrev pub keys_by : ChosenBuild → ℕ → ℕ → ℕ → List Key → Tables → Outcome
keys_by build degree cells allowance keys t =
    elim (every in_widths keys) [
      | true ↦ build key_bits degree cells allowance (map packed keys) t
      | false ↦ refused (record { number = 30; place = 0 }) t
    ]

unfoldable pub build_keys : ℕ → ℕ → ℕ → List Key → Tables → Outcome
unfolding every in_widths packed
build_keys degree cells allowance keys t = keys_by build_chosen degree cells allowance keys t
