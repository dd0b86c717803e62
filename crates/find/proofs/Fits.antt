-- What is printed for any keys fits 96 KiB. Assumes nothing.
use Prim.Native.Nat.{ℕ, zero, suc, ◌+◌, ◌^◌, ◌≤◌, ◌<◌}
use native.Mathlib.Omega.{arith}
use mathlib.Core.Path.{◌≡◌, refl, ap}
use mathlib.Core.Bool.{Bool, true, false, cond}
use mathlib.Core.List.{List, [], ◌∷◌, ◌++◌}
use borrow.Author.Tests.{leb-true, eqb-true, eqb-false}
use lib.Dec.{eqb, leb, ltb}
use lib.ListN.{length, length-map}
use Rattle.lists.specs.Members.{All, every}
use Rattle.lists.proofs.Tests.{and_true}
use Rattle.record.specs.declared.Record.{Record}
use Rattle.record.specs.Tables.{Tables}
use Rattle.lookup.specs.Lookup.{lookup_of}
use Rattle.lookup.proofs.Indices.{found_index, found_number}
use Rattle.many.specs.Lookups.{Many}
use Rattle.many.specs.Lookups.{or_else, first_refused}
use Rattle.print.specs.Line.{newline}
use Rattle.print.specs.Print.{max_bytes}
use Rattle.print.proofs.Pages.Sizes.{refused_low}
use Rattle.print.proofs.Pages.Lengths.{line_ends, beside_low}
use Rattle.find.specs.Keys.{Key, max_keys, key_of, keys_from, keys_in, good_keys, values_in}
use Rattle.find.specs.Find.{indices_of, find_text}
use Rattle.find.proofs.Lines.{good_few}
use Rattle.find.proofs.Looks.{find_no, find_refused, find_all}

-- bytes that everything printed fits into
abbrev pub find_size : ℕ
find_size = 98304

-- each line's end gives a key
ends_keys : (word text : List ℕ) → line_ends text ≤ length (keys_from word text)
unfolding line_ends keys_from
ends_keys word [] = omega arith
ends_keys word (b ∷ bs) = go (eqb b newline) (ends_keys [] bs) (ends_keys (word ++ (b ∷ [])) bs)
  where
    go : (q : Bool) → line_ends bs ≤ length (keys_from [] bs) → line_ends bs ≤ length (keys_from (word ++ (b ∷ [])) bs)
        → cond q 1 0 + line_ends bs ≤ length {A = Key} (elim q [ true ↦ key_of word ∷ keys_from [] bs | false ↦ keys_from (word ++ (b ∷ [])) bs ])
    go true h g = omega arith
    go false h g = omega arith

ends_few : (text : List ℕ) → line_ends text ≤ length (keys_in text)
unfolding keys_in
ends_few text = ends_keys [] text

good_many : (text : List ℕ) → good_keys text ≡ true → length (keys_in text) ≤ max_keys
unfolding good_keys
good_many text g =
    let a = and_true (leb (length text) max_bytes) _ g in
    let b = and_true (every (λ (k : Key). k.good) (keys_in text)) _ a.1 in
    leb-true (length (keys_in text)) max_keys (and_true (ltb 0 (length (keys_in text))) _ b.1).1

module _ (u : Record) (t : Tables) where
  indices_low : (xs : List ℕ) → All (λ x. x < 2 ^ 64) (indices_of u t xs)
  unfolding indices_of
  indices_low [] = tt
  indices_low (x ∷ xs) = (omega (arith, found_index u t x), indices_low xs)

  refused_few : (i : ℕ) (xs : List ℕ) → ((first_refused (lookup_of u t) i xs).refusal ≤ 14) × ((first_refused (lookup_of u t) i xs).place ≤ i + length xs)
  unfolding first_refused or_else
  refused_few i [] = (omega arith, omega arith)
  refused_few i (x ∷ xs) = go (lookup_of u t x).refusal (found_number u t x) (first_refused (lookup_of u t) (suc i) xs) (refused_few (suc i) xs)
    where
      go : (r : ℕ) → r ≤ 14 → (m : Many) → (m.refusal ≤ 14) × (m.place ≤ suc i + length xs) → ((or_else r i m).refusal ≤ 14) × ((or_else r i m).place ≤ i + suc (length xs))
      go zero l m h = (h.0, omega (arith, h.1))
      go (suc r) l m h = (l, omega arith)

  -- of every text
  pub find_fits : (text : List ℕ) → length (find_text text u t) ≤ find_size
  find_fits text = go (good_keys text) refl
    where
      e : Many
      e = first_refused (lookup_of u t) 1 (values_in text)

      few : good_keys text ≡ true → length (values_in text) ≤ max_keys
      few g = omega (arith, good_many text g, length-map (keys_in text) (λ (k : Key). k.value))

      all : good_keys text ≡ true → e.refusal ≡ 0 → length (find_text text u t) ≤ find_size
      all g z =
          omega (
            arith,
            beside_low text (indices_of u t (values_in text)) (indices_low (values_in text)),
            good_few text g,
            ends_few text,
            good_many text g,
            ap length (find_all u t text g e refl z),
          )

      some : good_keys text ≡ true → (e.refusal ≡ 0 → ⊥) → length (find_text text u t) ≤ find_size
      some g n =
          let b = refused_few 1 (values_in text) in
          omega (
            arith,
            refused_low e.refusal e.place (omega (arith, b.0)) (omega (arith, b.1, few g)),
            ap length (find_refused u t text g e refl n),
          )

      good : good_keys text ≡ true → (q : Bool) → eqb e.refusal 0 ≡ q → length (find_text text u t) ≤ find_size
      good g true q = all g (eqb-true e.refusal 0 q)
      good g false q = some g (eqb-false e.refusal 0 q)

      go : (q : Bool) → good_keys text ≡ q → length (find_text text u t) ≤ find_size
      go true q = good q (eqb e.refusal 0) refl
      go false q = omega (arith, ap length (find_no u t text q))
