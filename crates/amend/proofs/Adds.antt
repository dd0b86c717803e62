-- Vectors added one after another, and what is written then. Assumes nothing.
use Prim.Native.Nat.{ℕ, zero, suc, ◌+◌, ◌≤◌, ◌<◌}
use native.Mathlib.Numerals.{add-one}
use native.Mathlib.Omega.{arith}
use mathlib.Core.Path.{◌≡◌, refl, sym, ap, ◌∙◌}
use mathlib.Core.Bool.{true, false}
use mathlib.Core.List.{List, [], ◌∷◌}
use lib.ListN.{length, get_or, drop, drop_of_length-le}
use lib.Seq.{drop-cons}
use Rattle.record.specs.declared.Record.{Record}
use Rattle.record.specs.Tables.{Tables}
use Rattle.record.specs.Formed.{sound}
use Rattle.build.specs.Built.{Built}
use Rattle.build.specs.Build.{Outcome, accepted}
use Rattle.add.specs.Add.{add_of}
use Rattle.add.proofs.Adding.Sound.{added_sound}
use Rattle.print.specs.Print.{fitted}
use Rattle.pack.specs.Pack.{packed, pack_built}
use Rattle.pack.proofs.Packs.{built_packed}
use Rattle.find.specs.Keys.{good_keys, values_in}
use Rattle.find.specs.Find.{input_text}
use Rattle.find.proofs.Lines.{values_some}
use Rattle.amend.specs.Amend.{add_all, amend_text, amend_tables}

module _ (u : Record) (t : Tables) (x : ℕ) (xs : List ℕ) where
  pub next_added : (add_of u t x).built.refusal ≡ 0 → add_all u t (x ∷ xs) ≡ add_all (add_of u t x).built.unit (add_of u t x).tables xs
  unfolding add_all
  next_added z = rw (z, add_all)

  pub next_refused : ((add_of u t x).built.refusal ≡ 0 → ⊥) → add_all u t (x ∷ xs) ≡ add_of u t x
  unfolding add_all
  next_refused n = go (add_of u t x).built.refusal refl
    where
      go : (m : ℕ) → (add_of u t x).built.refusal ≡ m → add_all u t (x ∷ xs) ≡ add_of u t x
      go zero e = absurd (n e)
      go (suc m) e = rw (e, add_all)

-- ---- the loop: i of the vectors are added, and the rest is to be added to what is left so far

pub record Adding (u : Record) (t : Tables) (xs : List ℕ) (i : ℕ) (v : Record) (now : Tables) : Type 0 where
  pub rest : add_all u t xs ≡ add_all v now (drop i xs)

module _ (u : Record) (t : Tables) (xs : List ℕ) where
  pub adding_none : Adding u t xs 0 u t
  adding_none = record { rest = refl }

  module _ (i : ℕ) (v : Record) (now : Tables) (a : Adding u t xs i v now) where
    pub adding_end : length xs ≤ i → record { built = accepted v; tables = now } ≡ add_all u t xs
    unfolding add_all
    adding_end h = sym (a.rest ∙ ap (add_all v now) (drop_of_length-le xs {i = i} h))

    module _ (h : i < length xs) (b : Built) (then : Tables) (e : record { built = b; tables = then } ≡ add_of v now (get_or xs i 0)) where
      step : add_all u t xs ≡ add_all v now (get_or xs i 0 ∷ drop (suc i) xs)
      step = a.rest ∙ ap (add_all v now) (drop-cons xs i 0 h)

      pub adding_refused : (b.refusal ≡ 0 → ⊥) → record { built = b; tables = then } ≡ add_all u t xs
      adding_refused n = e ∙ sym (step ∙ next_refused v now (get_or xs i 0) (drop (suc i) xs) (λ z. n (ap (λ (o : Outcome). o.built.refusal) e ∙ z)))

      pub adding_more : b.refusal ≡ 0 → Adding u t xs (i + 1) b.unit then
      adding_more z =
          let y : (add_of v now (get_or xs i 0)).built.refusal ≡ 0 = ap (λ (o : Outcome). o.built.refusal) (sym e) ∙ z in
          record {
            rest =
                step
                ∙ next_added v now (get_or xs i 0) (drop (suc i) xs) y
                ∙ ap (λ (o : Outcome). add_all o.built.unit o.tables (drop (suc i) xs)) (sym e)
                ∙ ap (λ (j : ℕ). add_all b.unit then (drop j xs)) (sym (add-one i));
          }

-- ---- a unit to which one vector at least was added is sound

abbrev Sound : Outcome → Type 0
Sound o = o.built.refusal ≡ 0 → sound o.built.unit o.tables ≡ true

-- what comes behind the first vector is said apart
one_sound : (x : ℕ) (xs : List ℕ) (u : Record) (t : Tables) → ((v : Record) (s : Tables) → sound v s ≡ true → Sound (add_all v s xs)) → Sound (add_all u t (x ∷ xs))
one_sound x xs u t rest = go (add_of u t x).built.refusal refl
  where
    go : (m : ℕ) → (add_of u t x).built.refusal ≡ m → Sound (add_all u t (x ∷ xs))
    go zero e = rw (next_added u t x xs e) (rest (add_of u t x).built.unit (add_of u t x).tables (added_sound u t x e))
    go (suc m) e = λ z. absurd (omega (arith, ap (λ (o : Outcome). o.built.refusal) (next_refused u t x xs (λ (y : (add_of u t x).built.refusal ≡ 0). omega arith))))

pub all_sound : (xs : List ℕ) (u : Record) (t : Tables) → sound u t ≡ true → Sound (add_all u t xs)
unfolding add_all
all_sound [] u t s = λ z. s
all_sound (x ∷ xs) u t s = one_sound x xs u t (all_sound xs)

pub some_sound : (xs : List ℕ) (u : Record) (t : Tables) → 0 < length xs → Sound (add_all u t xs)
some_sound [] u t h = absurd (omega arith)
some_sound (x ∷ xs) u t h = one_sound x xs u t (all_sound xs)

-- ---- what is written

module _ (text : List ℕ) (u : Record) (t : Tables) where
  pub amend_bad : good_keys text ≡ false → input_text ≡ amend_text text u t
  unfolding amend_text
  amend_bad b = rw (b, amend_text)

  pub amend_all : good_keys text ≡ true → packed (add_all u t (values_in text)) ≡ amend_text text u t
  unfolding amend_text
  amend_all g = rw (g, amend_text)

  pub tables_bad : good_keys text ≡ false → t ≡ amend_tables text u t
  unfolding amend_tables
  tables_bad b = rw (b, amend_tables)

  module _ (g : good_keys text ≡ true) (o : Outcome) (e : o ≡ add_all u t (values_in text)) where
    pub tables_good : o.tables ≡ amend_tables text u t
    unfolding amend_tables
    tables_good = ap (λ (o : Outcome). o.tables) e ∙ rw (g, amend_tables)

    -- one key at least, so that the unit is sound
    pub amend_good : (out : List ℕ) → pack_built o.built o.tables out ≡ fitted (amend_text text u t) out
    amend_good out =
        ap (λ (o : Outcome). pack_built o.built o.tables out) e
        ∙ built_packed (add_all u t (values_in text)) out (some_sound (values_in text) u t (values_some text g))
        ∙ ap (λ (l : List ℕ). fitted l out) (amend_all g)
