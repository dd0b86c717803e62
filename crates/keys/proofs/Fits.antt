-- Everything written fits 64 KiB. Assumes nothing.
use Prim.Native.Nat.{ℕ, ◌≤◌}
use native.Mathlib.Omega.{arith}
use mathlib.Core.Path.{◌≡◌, refl, ap}
use mathlib.Core.Bool.{Bool, true, false}
use mathlib.Core.List.{List, map}
use lib.Dec.{leb}
use lib.ListN.{length}
use Rattle.lists.specs.Members.{every}
use Rattle.print.proofs.Pages.Sizes.{refused_low}
use Rattle.input.specs.Input.{max_text}
use Rattle.answer.specs.Make.{roomy, program_allowance}
use Rattle.pack.specs.Pack.{page_size, packed}
use Rattle.pack.proofs.Fits.{built_low}
use Rattle.profiles.specs.declared.Key.{Key}
use Rattle.profiles.specs.Key as key
use Rattle.profiles.specs.Key.{key_bits, in_widths}
use Rattle.profiles.specs.Keys.{build_keys}
use Rattle.profiles.proofs.Building.{keys_wide, keys_build}
use Rattle.build.specs.Build.{Outcome}
use Rattle.dated.specs.Dated.{key_in}
use Rattle.keys.specs.Keys.{body, lines_in, good_lines, cells_by, lines_text, keys_text, asked_of, keys_of}

built_few : (degree cells : ℕ) (ks : List Key) → length (packed (build_keys degree cells program_allowance ks roomy)) ≤ page_size
unfolding packed
built_few degree cells ks = go (every in_widths ks) refl
  where
    go : (b : Bool) → every in_widths ks ≡ b → length (packed (build_keys degree cells program_allowance ks roomy)) ≤ page_size
    go true w = omega (arith, built_low key_bits degree cells (map key.packed ks) roomy, ap (λ (o : Outcome). length (packed o)) (keys_build degree cells program_allowance ks roomy w))
    go false w = omega (arith, refused_low 30 0 (omega arith) (omega arith), ap (λ (o : Outcome). length (packed o)) (keys_wide degree cells program_allowance ks roomy w))

lines_few : (degree cells : ℕ) (bytes : List ℕ) → length (lines_text degree cells bytes) ≤ page_size
unfolding lines_text
lines_few degree cells bytes = go (good_lines bytes) refl
  where
    go : (b : Bool) → good_lines bytes ≡ b → length (lines_text degree cells bytes) ≤ page_size
    go true g = rw (g, lines_text) (built_few degree (cells_by cells (length (lines_in bytes))) (map key_in (lines_in bytes)))
    go false g = rw (g, lines_text) (omega arith)

text_fits : (degree cells : ℕ) (text : List ℕ) → length (keys_text degree cells text) ≤ page_size
unfolding keys_text
text_fits degree cells text = go (leb (length text) max_text) refl
  where
    go : (b : Bool) → leb (length text) max_text ≡ b → length (keys_text degree cells text) ≤ page_size
    go true g = rw (g, keys_text) (lines_few degree cells (body text))
    go false g = rw (g, keys_text) (omega arith)

-- of all words and texts
pub keys_fits : (words text : List ℕ) → length (keys_of words text) ≤ page_size
unfolding keys_of
keys_fits words text = go (asked_of words).good refl
  where
    go : (b : Bool) → (asked_of words).good ≡ b → length (keys_of words text) ≤ page_size
    go true g = rw (g, keys_of) (text_fits (asked_of words).degree (asked_of words).cells text)
    go false g = rw (g, keys_of) (omega arith)
