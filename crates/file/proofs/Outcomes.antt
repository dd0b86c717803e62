-- What is known of a sound unit's file, and what `write` leaves in each case. Assumes nothing.
use Prim.Native.Nat.{ℕ, ◌^◌, ◌≤◌, ◌<◌}
use native.Mathlib.Omega.{arith}
use mathlib.Core.Path.{◌≡◌, refl, sym, ap, ap₂, ◌∙◌}
use mathlib.Core.Bool.{Bool, true, false}
use mathlib.Core.List.{List}
use lib.Dec.{ltb}
use lib.ListN.{length, take}
use lib.Pow.{pow_mono}
use lib.Seq.{sets, length-take-le}
use borrow.Author.Tests.{lt-ltb, le-ltb}
use Rattle.vectors.specs.Bounds.{max_variables, max_side, max_vectors, max_cells}
use Rattle.record.specs.declared.Record.{Record}
use Rattle.record.specs.Record.{kinds_in}
use Rattle.record.specs.Tables.{Tables, over}
use Rattle.record.specs.Formed.{sound}
use Rattle.record.proofs.Formed.{well_formed_facts, few_words}
use Rattle.record.proofs.Soundness.{sound_says}
use Rattle.block.proofs.Laying.Words.{front}
use Rattle.file.specs.File.{rows_in, words_in, size_of, longest_file, file_with, file_of}
use Rattle.file.specs.Write.{Outcome, after, refused, filled, write_of}
use Rattle.file.proofs.Laying.Files.{Whole, length_whole}

-- the ranges of the tables, which are held
pub record Ranges (u : Record) (t : Tables) : Type 0 where
  pub side : u.n1 ≤ max_side
  pub rows_few : rows_in u ≤ 2 ^ max_side
  pub cells_few : u.cells ≤ max_cells
  pub vectors_few : u.k ≤ max_vectors
  pub rows_held : rows_in u ≤ length t.h
  pub cells_held : u.cells ≤ length t.g
  pub words_held : u.k < length t.aux
  pub variables_few : length (kinds_in u) ≤ max_variables

module _ (u : Record) (t : Tables) (h : sound u t ≡ true) where
  pub ranges : Ranges u t
  ranges =
      let s = sound_says u t h in
      let w = well_formed_facts u t s.well_formed_lem in
      let f = few_words u t s.well_formed_lem in
      record {
        side = w.bounds.rows_few;
        rows_few = pow_mono {i = u.n1} {j = max_side} w.bounds.rows_few;
        cells_few = f.1;
        vectors_few = f.0;
        rows_held = w.rows_held;
        cells_held = w.cells_held;
        words_held = w.words_held;
        variables_few = omega (arith, s.variables, w.bounds.few);
      }

  pub whole : Whole u (take (rows_in u) t.h) (take u.cells t.g) (take (words_in u) t.aux)
  whole = record {
    variables_few = ranges.variables_few;
    rows = length-take-le (rows_in u) t.h ranges.rows_held;
    cells = length-take-le u.cells t.g ranges.cells_held;
    words = length-take-le (words_in u) t.aux (omega (arith, ranges.words_held));
  }

  -- SCOPE 20.8: a file has as many bytes as its head implies
  pub file_length : length (file_of u t) ≡ size_of u
  unfolding file_of
  file_length = length_whole u _ _ _ whole

  -- past 14
  pub sound_write : (target : List ℕ) → write_of u t target ≡ filled (file_of u t) target
  unfolding write_of
  sound_write target = ap (λ (b : Bool). elim b [ true ↦ filled (file_of u t) target | false ↦ refused 14 target ]) h

  pub write_short : (target : List ℕ) → length target < size_of u → write_of u t target ≡ refused 20 target
  write_short target l =
      let b : ltb (length target) (length (file_of u t)) ≡ true = lt-ltb (length target) (length (file_of u t)) (omega (arith, file_length)) in
      sound_write target ∙ rw (filled, b)

  pub write_fits : (target : List ℕ) → size_of u ≤ length target → write_of u t target ≡ after (record { refusal = 0; place = 0; length = length (file_of u t) }) (over (file_of u t) target)
  write_fits target room =
      let b : ltb (length target) (length (file_of u t)) ≡ false = le-ltb (length target) (length (file_of u t)) (omega (arith, file_length)) in
      sound_write target ∙ rw (filled, b)

  pub write_whole : (target l : List ℕ) (rows words size : ℕ) → rows ≡ rows_in u → words ≡ words_in u → size ≡ size_of u → size ≤ length target
      → l ≡ sets target 0 (file_with u (take rows t.h) (take u.cells t.g) (take words t.aux))
      → after (record { refusal = 0; place = 0; length = size }) l ≡ write_of u t target
  unfolding file_of
  write_whole target l rows words size er ew es room el =
      let f : List ℕ = file_of u t in
      let e : l ≡ sets target 0 f = el ∙ ap₂ (λ (i j : ℕ). sets target 0 (file_with u (take i t.h) (take u.cells t.g) (take j t.aux))) er ew in
      let k : l ≡ over f target = e ∙ front f target (omega (arith, file_length)) in
      ap₂ (λ (n : ℕ) (x : List ℕ). after (record { refusal = 0; place = 0; length = n }) x) (es ∙ sym file_length) k ∙ sym (write_fits target (omega arith))

pub write_unsound : (u : Record) (t : Tables) (target : List ℕ) → sound u t ≡ false → write_of u t target ≡ refused 14 target
unfolding write_of
write_unsound u t target h = ap (λ (b : Bool). elim b [ true ↦ filled (file_of u t) target | false ↦ refused 14 target ]) h

pub file_longest : (u : Record) (t : Tables) → sound u t ≡ true → size_of u ≤ longest_file
file_longest u t h = let r = ranges u t h in omega (arith, r.rows_few, r.cells_few, r.vectors_few)

-- no file has 64 KiB
pub file_few : (u : Record) (t : Tables) → sound u t ≡ true → length (file_of u t) < 65536
file_few u t h = let r = ranges u t h in omega (arith, file_length u t h, r.rows_few, r.cells_few, r.vectors_few)

filled_few : (f target : List ℕ) (b : Bool) → ltb (length target) (length f) ≡ b → (filled f target).written.length ≤ length f
filled_few f target true e = rw (filled, e) (omega arith)
filled_few f target false e = rw (filled, e) (omega arith)

pub written_few : (u : Record) (t : Tables) (target : List ℕ) → (write_of u t target).written.length < 65536
written_few u t target = go (sound u t) refl
  where
    go : (b : Bool) → sound u t ≡ b → (write_of u t target).written.length < 65536
    go true h =
        let e : (write_of u t target).written.length ≡ (filled (file_of u t) target).written.length = ap (λ (o : Outcome). o.written.length) (sound_write u t h target) in
        omega (arith, filled_few (file_of u t) target _ refl, file_few u t h)
    go false h = let e : (write_of u t target).written.length ≡ 0 = ap (λ (o : Outcome). o.written.length) (write_unsound u t target h) in omega arith
