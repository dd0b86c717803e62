-- Bytes summed by columns. Assumes nothing.
use mathlib.Core.Path.{◌≡◌, refl, sym, ap, ap₂, ◌∙◌}
use mathlib.Core.Bool.{Bool, true, false}
use mathlib.Core.List.{List, [], ◌∷◌, ◌++◌}
use Prim.Native.Nat.{ℕ, suc, ◌+◌, ◌-◌, ◌*◌, ◌≤◌, ◌<◌}
use native.Mathlib.Nat.{mul-add}
use native.Mathlib.Numerals.{add-one}
use native.Mathlib.Omega.{arith}
use lib.ListN.{length, take, drop, get_or, set, replicate, length-set, get_or-replicate}
use lib.Seq.{take_all, take-suc-set, length-take-le, take-add, get_or-set_same, get_or-set_other, get_or-take, get_or-drop}
use lib.Dec.{eqb}
use borrow.Author.Tests.{eqb-true, eqb-false}
use Rattle.lists.proofs.Entries.Members.{take_more}
use Rattle.lists.proofs.Entries.Alls.{all_at, at_all}
use Rattle.block.specs.Block.{sum_of, weigh}
use Rattle.block.specs.Inner.Columns.{lanes, half_size, Columns, Added}
use Rattle.block.proofs.Check.Sums.{sum_end, weigh_end, weigh_add, sum_append, weigh_append, sum_set, weigh_set, sum_low, weigh_low, Running, running_none, running_more, running_end}

-- ---- a row is added, column by column

-- at column j: a and r are left of the sums and the running sums
pub record Adding (bytes : List ℕ) (row : ℕ) (sums runs a r : List ℕ) (j : ℕ) : Type 0 where
  pub within : j ≤ lanes
  pub a_long : length a ≡ lanes
  pub r_long : length r ≡ lanes
  pub plain : sum_of a ≡ sum_of sums + sum_of (take j bytes)
  pub weighed : weigh lanes a ≡ weigh lanes sums + weigh lanes (take j bytes)
  pub running : sum_of r ≡ sum_of runs + sum_of (take j a)
  pub a_done : (i : ℕ) → i < j → get_or a i 0 ≤ 255 * suc row
  pub a_left : (i : ℕ) → j ≤ i → i < lanes → get_or a i 0 ≤ 255 * row
  pub r_done : (i : ℕ) → i < j → get_or r i 0 ≤ 4080 * suc row
  pub r_left : (i : ℕ) → j ≤ i → i < lanes → get_or r i 0 ≤ 4080 * row

pub adding_none : (bytes : List ℕ) (row : ℕ) (sums runs : List ℕ) → Columns row sums runs → Adding bytes row sums runs sums runs 0
unfolding sum_of weigh
adding_none bytes row sums runs c = record {
  within = omega arith;
  a_long = c.sums_long;
  r_long = c.runs_long;
  plain = omega arith;
  weighed = omega arith;
  running = omega arith;
  a_done = λ i h. absurd (omega arith);
  a_left = λ i h l. all_at (λ (x : ℕ). x ≤ 255 * row) sums i 0 c.sums_low (omega (arith, c.sums_long));
  r_done = λ i h. absurd (omega arith);
  r_left = λ i h l. all_at (λ (x : ℕ). x ≤ 4080 * row) runs i 0 c.runs_low (omega (arith, c.runs_long));
}

module _ (bytes : List ℕ) (row : ℕ) (sums runs a r : List ℕ) (j x : ℕ) (h : j < lanes) (n : length bytes ≡ lanes) (few : row < lanes) (e : x ≡ get_or bytes j 0) (low : x ≤ 255)
    (y : Adding bytes row sums runs a r j) where
  -- the words do not overflow
  pub sum_fits : get_or a j 0 + x ≤ 255 * suc row
  sum_fits = omega (arith, y.a_left j (omega arith) h)

  pub run_fits : get_or r j 0 + (get_or a j 0 + x) ≤ 4080 * suc row
  run_fits = omega (arith, y.r_left j (omega arith) h, sum_fits)

  pub adding_more : Adding bytes row sums runs (set a j (get_or a j 0 + x)) (set r j (get_or r j 0 + (get_or a j 0 + x))) (j + 1)
  adding_more =
      let one : take (j + 1) bytes ≡ take j bytes ++ (x ∷ []) = rw e (take_more bytes j 0 (omega arith)) in
      let long : length (take j bytes) ≡ j = length-take-le j bytes (omega arith) in
      let ja : j < length a = omega (arith, y.a_long) in
      let jr : j < length r = omega (arith, y.r_long) in
      let sa = sum_set a j (get_or a j 0 + x) ja in
      let sr = sum_set r j (get_or r j 0 + (get_or a j 0 + x)) jr in
      let wa = rw mul-add at (weigh_set lanes a j (get_or a j 0 + x) ja) in
      let p : sum_of (take (j + 1) bytes) ≡ sum_of (take j bytes) + x = rw one (sum_end (take j bytes) x) in
      let q : weigh lanes (take (j + 1) bytes) ≡ weigh lanes (take j bytes) + (lanes - j) * x = rw (one, weigh_end, long) in
      let t : sum_of (take (j + 1) (set a j (get_or a j 0 + x))) ≡ sum_of (take j a) + (get_or a j 0 + x) =
      rw (add-one, take-suc-set a j (get_or a j 0 + x) ja) (sum_end (take j a) (get_or a j 0 + x)) in
      record {
        within = omega arith;
        a_long = length-set a j (get_or a j 0 + x) ∙ y.a_long;
        r_long = length-set r j (get_or r j 0 + (get_or a j 0 + x)) ∙ y.r_long;
        plain = omega (arith, y.plain);
        weighed = omega (arith, y.weighed);
        running = omega (arith, y.running);
        a_done = λ i l. done a (255 * suc row) (get_or a j 0 + x) ja sum_fits y.a_done i l;
        a_left = λ i l k. rw (get_or-set_other a j i (get_or a j 0 + x) 0 (λ (q : i ≡ j). omega arith)) (y.a_left i (omega arith) k);
        r_done = λ i l. done r (4080 * suc row) (get_or r j 0 + (get_or a j 0 + x)) jr run_fits y.r_done i l;
        r_left = λ i l k. rw (get_or-set_other r j i (get_or r j 0 + (get_or a j 0 + x)) 0 (λ (q : i ≡ j). omega arith)) (y.r_left i (omega arith) k);
      }
    where
      done : (l : List ℕ) (m u : ℕ) → j < length l → u ≤ m → ((i : ℕ) → i < j → get_or l i 0 ≤ m) → (i : ℕ) → i < j + 1 → get_or (set l j u) i 0 ≤ m
      done l m u k f d i h = go (eqb i j) refl
        where
          go : (b : Bool) → eqb i j ≡ b → get_or (set l j u) i 0 ≤ m
          go true q = let z : i ≡ j = eqb-true i j q in rw (z, get_or-set_same l j u 0 k) f
          go false q = let z : i ≡ j → ⊥ = eqb-false i j q in rw (get_or-set_other l j i u 0 z) (d i (omega arith))

-- a byte of the row
pub row_byte : (block : List ℕ) (at j : ℕ) → j < lanes → get_or block (at + j) 0 ≡ get_or (take lanes (drop at block)) j 0
row_byte block at j h = sym (get_or-take lanes (drop at block) j 0 h ∙ get_or-drop at block j 0)

pub adding_end : (bytes : List ℕ) (row : ℕ) (sums runs a r : List ℕ) (j : ℕ) → length bytes ≡ lanes → lanes ≤ j → Adding bytes row sums runs a r j → Added bytes row sums runs a r
adding_end bytes row sums runs a r j n h y =
    let e : j ≡ lanes = omega (arith, y.within) in
    let b : take j bytes ≡ bytes = take_all j bytes (omega arith) in
    let c : take j a ≡ a = take_all j a (omega (arith, y.a_long)) in
    record {
      columns = record {
        sums_long = y.a_long;
        runs_long = y.r_long;
        sums_low = at_all (λ (x : ℕ). x ≤ 255 * suc row) a 0 (λ i l. y.a_done i (omega (arith, y.a_long)));
        runs_low = at_all (λ (x : ℕ). x ≤ 4080 * suc row) r 0 (λ i l. y.r_done i (omega (arith, y.r_long)));
      };
      plain = rw b at y.plain;
      weighed = rw b at y.weighed;
      running = rw c at y.running;
    }

-- ---- the columns are summed

-- at column j: the running sums of the sums, and the sum of the others
pub record Folding (sums runs : List ℕ) (s t r j : ℕ) : Type 0 where
  pub both : Running 4080 lanes sums s t j
  pub running : r ≡ sum_of (take j runs)
  pub running_low : r ≤ 65280 * j

pub folding_none : (sums runs : List ℕ) → Folding sums runs 0 0 0 0
unfolding sum_of
folding_none sums runs = record { both = running_none 4080 lanes sums; running = refl; running_low = omega arith }

-- what a column adds
pub column_low : (sums runs : List ℕ) (j : ℕ) → Columns lanes sums runs → j < lanes → get_or sums j 0 ≤ 255 * lanes
column_low sums runs j c h = all_at (λ (u : ℕ). u ≤ 255 * lanes) sums j 0 c.sums_low (omega (arith, c.sums_long))

pub run_low : (sums runs : List ℕ) (j : ℕ) → Columns lanes sums runs → j < lanes → get_or runs j 0 ≤ 4080 * lanes
run_low sums runs j c h = all_at (λ (u : ℕ). u ≤ 4080 * lanes) runs j 0 c.runs_low (omega (arith, c.runs_long))

pub folding_more : (sums runs : List ℕ) (s t r j : ℕ) → j < lanes → Columns lanes sums runs → Folding sums runs s t r j
    → Folding sums runs (s + get_or sums j 0) (t + (s + get_or sums j 0)) (r + get_or runs j 0) (j + 1)
folding_more sums runs s t r j h c y =
    let z : ℕ = get_or runs j 0 in
    let lx : get_or sums j 0 ≤ 255 * lanes = column_low sums runs j c h in
    let lz : z ≤ 4080 * lanes = run_low sums runs j c h in
    let two : take (j + 1) runs ≡ take j runs ++ (z ∷ []) = take_more runs j 0 (omega (arith, c.runs_long)) in
    let q : sum_of (take (j + 1) runs) ≡ sum_of (take j runs) + z = rw two (sum_end (take j runs) z) in
    record {
      both = running_more 4080 lanes sums s t j (get_or sums j 0) h (omega (arith, c.sums_long)) refl lx y.both;
      running = omega (arith, y.running);
      running_low = omega (arith, y.running_low);
    }

pub folding_end : (sums runs : List ℕ) (s t r j : ℕ) → lanes ≤ j → Columns lanes sums runs → Folding sums runs s t r j
    → ((s ≡ sum_of sums) × (t ≡ weigh lanes sums)) × (r ≡ sum_of runs)
folding_end sums runs s t r j h c y =
    let b : take j runs ≡ runs = take_all j runs (omega (arith, c.runs_long)) in
    (running_end 4080 lanes sums s t j c.sums_long h y.both, rw b at y.running)

-- ---- all rows

-- after so many rows of the bytes l
pub record Rows (l : List ℕ) (sums runs : List ℕ) (row : ℕ) : Type 0 where
  pub within : row ≤ lanes
  pub columns : Columns row sums runs
  pub plain : sum_of sums ≡ sum_of (take (lanes * row) l)
  pub weighed : weigh (lanes * row) (take (lanes * row) l) + lanes * sum_of sums ≡ lanes * sum_of runs + weigh lanes sums
  pub run_most : sum_of sums ≤ sum_of runs

pub rows_none : (l : List ℕ) → Rows l (replicate lanes 0) (replicate lanes 0) 0
unfolding sum_of weigh
rows_none l = record {
  within = omega arith;
  columns = record { sums_long = refl; runs_long = refl; sums_low = at_all (λ (x : ℕ). x ≤ 0) (replicate lanes 0) 0 (λ i h. rw (get_or-replicate {A = ℕ} lanes i 0 0 h) (omega arith)); runs_low = at_all (λ (x : ℕ). x ≤ 0) (replicate lanes 0) 0 (λ i h. rw (get_or-replicate {A = ℕ} lanes i 0 0 h) (omega arith)) };
  plain = refl;
  weighed = refl;
  run_most = omega arith;
}

pub rows_more : (l bytes sums runs sums' runs' : List ℕ) (row : ℕ) → row < lanes → half_size ≤ length l → bytes ≡ take lanes (drop (lanes * row) l) → Rows l sums runs row
    → Added bytes row sums runs sums' runs' → Rows l sums' runs' (row + 1)
rows_more l bytes sums runs sums' runs' row h n e y a =
    let x : List ℕ = take (lanes * row) l in
    let k : length x ≡ lanes * row = length-take-le (lanes * row) l (omega arith) in
    let c : lanes * (row + 1) ≡ lanes * row + lanes = omega arith in
    let t : take (lanes * (row + 1)) l ≡ x ++ bytes = ap (λ (i : ℕ). take i l) c ∙ take-add (lanes * row) lanes l ∙ ap (λ (z : List ℕ). x ++ z) (sym e) in
    let d : lanes * row + lanes - length x ≡ lanes = omega arith in
    let p : sum_of (take (lanes * (row + 1)) l) ≡ sum_of x + sum_of bytes = ap sum_of t ∙ sum_append x bytes in
    let w : weigh (lanes * (row + 1)) (take (lanes * (row + 1)) l) ≡ weigh (lanes * row) x + lanes * sum_of x + weigh lanes bytes =
    ap₂ weigh c t ∙ weigh_append (lanes * row + lanes) x bytes ∙ ap₂ (λ (i j : ℕ). i + weigh j bytes) (weigh_add lanes (lanes * row) x (omega arith)) d in
    let s : suc row ≡ row + 1 = sym (add-one row) in
    record {
      within = omega arith;
      columns = rw s at a.columns;
      plain = omega (arith, a.plain, y.plain);
      weighed = omega (arith, a.plain, a.weighed, a.running, y.plain, y.weighed);
      run_most = omega (arith, a.running);
    }

-- what the folded columns say of the bytes
pub record Halved (l : List ℕ) (plain weighed : ℕ) : Type 0 where
  pub plain_is : plain ≡ sum_of (take half_size l)
  pub weighed_is : weighed ≡ weigh half_size (take half_size l)
  pub plain_low : plain ≤ 65280
  pub weighed_low : weighed ≤ 65280 * 256

pub rows_end : (l sums runs : List ℕ) (row plain weighed : ℕ) → lanes ≤ row → Rows l sums runs row
    → (plain ≡ sum_of sums) × (weighed + lanes * sum_of sums ≡ lanes * sum_of runs + weigh lanes sums) → Halved l plain weighed
rows_end l sums runs row plain weighed h y f =
    let e : row ≡ lanes = omega (arith, y.within) in
    let p : sum_of sums ≡ sum_of (take half_size l) = rw e at y.plain in
    let w : weigh half_size (take half_size l) + lanes * sum_of sums ≡ lanes * sum_of runs + weigh lanes sums = rw e at y.weighed in
    let low = sum_low (255 * row) sums y.columns.sums_low in
    let few : sum_of sums ≤ 65280 = rw (e, y.columns.sums_long) at low in
    record {
      plain_is = omega (arith, f);
      weighed_is = omega (arith, f);
      plain_low = omega (arith, f);
      weighed_low = omega (arith, f, weigh_low half_size (take half_size l));
    }
