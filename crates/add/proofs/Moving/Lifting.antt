-- The row lifted, number by number. Assumes nothing.
use Prim.Native.Nat.{ℕ, suc, ◌+◌, ◌-◌, ◌*◌, ◌≤◌, ◌<◌}
use native.Mathlib.Numerals.{add-one}
use native.Mathlib.Omega.{arith}
use mathlib.Core.Path.{◌≡◌, refl, sym, ap, ap₂, ◌∙◌}
use mathlib.Core.List.{List, [], ◌∷◌, ◌++◌, map, append-nil, append_assoc, map-append}
use lib.ListN.{length, get_or, set, take, length-append}
use lib.Seq.{take-suc-set, append_snoc}
use Rattle.vectors.specs.Bounds.{max_rows}
use Rattle.rows.specs.Care.{Care}
use Rattle.rows.specs.Fit.{cell_of}
use Rattle.rows.specs.Single.{column_word}
use Rattle.add.specs.declared.Seat.{Seat}
use Rattle.add.specs.Inner.Mates.{row_in, mate_at, mates_past, mates, cleared, bare}
use Rattle.add.proofs.Moving.Mates.{past_in, past_out, past_end}

-- the numbers below i are through: done are those of the row, m words are written, and the others' cells are still to be emptied
pub record Lifting (s : Seat) (aux firsts g₀ words₀ g words : List ℕ) (m i : ℕ) : Type 0 where
  pub done : List Care
  pub joined : done ++ mates_past s aux firsts i ≡ mates s aux firsts
  pub cells : cleared g s.displacement (mates_past s aux firsts i) ≡ bare s aux firsts g₀
  pub count : m ≡ suc (length done)
  pub few : m ≤ i
  pub written : take m words ≡ take 1 words₀ ++ map column_word done

pub lifting_none : (s : Seat) (aux firsts g words : List ℕ) → Lifting s aux firsts g words g words 1 1
lifting_none s aux firsts g words =
    record {
      done = [];
      joined = refl;
      cells = refl;
      count = refl;
      few = omega arith;
      written = sym (append-nil (take 1 words));
    }

module _ {s : Seat} {aux firsts g₀ words₀ g words : List ℕ} {m i : ℕ} (l : Lifting s aux firsts g₀ words₀ g words m i) where
  -- a number of another row
  pub lifting_skip : i < length aux → (row_in s aux i ≡ s.row → ⊥) → Lifting s aux firsts g₀ words₀ g words m (i + 1)
  lifting_skip h ne =
      let e = past_out s aux firsts i h ne in
      record {
        done = l.done;
        joined = ap (λ (cs : List Care). l.done ++ cs) (sym e) ∙ l.joined;
        cells = ap (cleared g s.displacement) (sym e) ∙ l.cells;
        count = l.count;
        few = omega (arith, l.few);
        written = l.written;
      }

  -- one of the row
  pub lifting_more : (cell v : ℕ) → i < length aux → row_in s aux i ≡ s.row → s.displacement < get_or firsts i 0 → m < length words → cell ≡ get_or firsts i 0 - 1
      → v ≡ max_rows * (cell - s.displacement) → Lifting s aux firsts g₀ words₀ (set g cell 0) (set words m v) (m + 1) (i + 1)
  unfolding cleared
  lifting_more cell v h r a b e f =
      let c = mate_at s firsts i in
      let q = past_in s aux firsts i h r in
      let z : cell_of c s.displacement ≡ cell = omega arith in
      let w : v ≡ column_word c = f ∙ ap (λ (n : ℕ). max_rows * (n - s.displacement)) e in
      record {
        done = l.done ++ (c ∷ []);
        joined = append_snoc l.done c (mates_past s aux firsts (i + 1)) ∙ ap (λ (cs : List Care). l.done ++ cs) (sym q) ∙ l.joined;
        cells =
            ap (λ (n : ℕ). cleared (set g n 0) s.displacement (mates_past s aux firsts (i + 1))) (sym z)
            ∙ ap (cleared g s.displacement) (sym q)
            ∙ l.cells;
        count = omega (arith, l.count, length-append l.done (c ∷ []));
        few = omega (arith, l.few);
        written =
            ap (λ (n : ℕ). take n (set words m v)) (add-one m)
            ∙ take-suc-set words m v b
            ∙ ap₂ (λ (ws : List ℕ) (n : ℕ). ws ++ (n ∷ [])) l.written w
            ∙ append_assoc (take 1 words₀) (map column_word l.done) (column_word c ∷ [])
            ∙ ap (λ (ws : List ℕ). take 1 words₀ ++ ws) (sym (map-append column_word l.done (c ∷ [])));
      }

  -- all of them
  pub lifting_all : length aux ≤ i → l.done ≡ mates s aux firsts
  lifting_all h = sym (append-nil l.done) ∙ ap (λ (cs : List Care). l.done ++ cs) (sym (past_end s aux firsts i h)) ∙ l.joined

  pub lifting_end : length aux ≤ i
      → (m ≡ suc (length (mates s aux firsts))) × (take m words ≡ take 1 words₀ ++ map column_word (mates s aux firsts)) × (g ≡ bare s aux firsts g₀)
  unfolding cleared
  lifting_end h =
      let e = lifting_all h in (
        l.count ∙ ap (λ (cs : List Care). suc (length cs)) e,
        l.written ∙ ap (λ (cs : List Care). take 1 words₀ ++ map column_word cs) e,
        ap (cleared g s.displacement) (sym (past_end s aux firsts i h)) ∙ l.cells,
      )
