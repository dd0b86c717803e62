-- The loops that judge a candidate, block by block. Assumes nothing.
use Prim.Native.Nat.{ℕ, suc, ◌+◌, ◌-◌, ◌*◌, ◌≤◌, ◌<◌, zero, ◌/◌}
use native.Mathlib.Omega.{arith}
use native.Mathlib.Nat.{mul-le-mul, add-zero, eq-or-lt_of_le}
use native.Mathlib.Numerals.{add-one}
use mathlib.Core.Path.{◌≡◌, sym, ap, ap₂, ◌∙◌, refl}
use mathlib.Core.Bool.{Bool, cond, true, false}
use mathlib.Core.List.{List, [], ◌∷◌}
use mathlib.Core.Logic.{◌⊎◌, inl, inr}
use borrow.Author.Tests.{eq-eqb, ne_eqb, eqb-true, eqb-false}
use lib.Bits.{bit_xor}
use lib.Dec.{eqb}
use lib.ListN.{length, get_or, drop, drop_of_length-le}
use lib.Seq.{drop-cons}
use Rattle.vectors.specs.Bounds.{max_inputs}
use Rattle.choice.specs.Inner.Layout.{max_blocks}
use Rattle.choice.proofs.Counting.Splits.{splits_half}
use Rattle.choice.specs.Inner.Judged.{max_gain, columns_size, column_at, cross_at, tally_at, gain_at, Pairs, Judgeable, Judges}
use Rattle.choice.specs.Inner.Gain.{splits, whole_gain, most_of, pair_gain, Counts}

-- ---- two columns

column_at_lem : (columns : List ℕ) (i w : ℕ) → 0 < i → get_or columns (64 * w + i - 1) 0 ≡ column_at columns i w
column_at_lem columns zero w h = absurd (omega arith)
column_at_lem columns (suc i) w h = ap (λ (x : ℕ). get_or columns x 0) (omega arith)

module _ (columns : List ℕ) (i j w : ℕ) (h : 0 < j) where
  pub crossed_one : i ≡ 0 → get_or columns (64 * w + j - 1) 0 ≡ cross_at columns i j w
  crossed_one e = rw e (column_at_lem columns j w h)

  pub crossed_two : (i ≡ 0 → ⊥) → bit_xor (get_or columns (64 * w + i - 1) 0) (get_or columns (64 * w + j - 1) 0) ≡ cross_at columns i j w
  crossed_two n = ap₂ bit_xor (column_at_lem columns i w (omega arith)) (column_at_lem columns j w h)

-- ---- large groups

module _ (ends : List ℕ) (t : ℕ → ℕ) where
  -- gain is that of the groups that ended before block w, and counted what the group at hand has so far
  pub record Tallying (gain counted w : ℕ) : Type 0 where
    pub within : w ≤ length ends
    pub few : counted ≤ 64 * w
    pub counts : Counts (drop w ends) t w counted
    pub sum : gain + whole_gain (drop w ends) t w counted ≡ whole_gain ends t 0 0

  pub tallying_start : Counts ends t 0 0 → Tallying 0 0 0
  tallying_start c = record { within = omega arith; few = omega arith; counts = c; sum = omega arith }

  module _ (gain counted w v : ℕ) (h : w < length ends) (is : v ≡ t w) (s : Tallying gain counted w) where
    at_w : drop w ends ≡ get_or ends w 0 ∷ drop (w + 1) ends
    at_w = drop-cons ends w 0 h ∙ ap (λ (j : ℕ). get_or ends w 0 ∷ drop j ends) (sym (add-one w))

    counts_here : Counts (get_or ends w 0 ∷ drop (w + 1) ends) t w counted
    counts_here = rw at_w at s.counts

    on_gain : get_or ends w 0 ≡ 0 → whole_gain (get_or ends w 0 ∷ drop (w + 1) ends) t w counted ≡ whole_gain (drop (w + 1) ends) t (suc w) (counted + t w)
    unfolding whole_gain
    on_gain e = ap (λ (b : Bool). cond b (whole_gain (drop (w + 1) ends) t (suc w) (counted + t w)) (splits (counted + t w) (get_or ends w 0) + whole_gain (drop (w + 1) ends) t (suc w) 0)) (eq-eqb (get_or ends w 0) 0 e)

    end_gain : (get_or ends w 0 ≡ 0 → ⊥) → whole_gain (get_or ends w 0 ∷ drop (w + 1) ends) t w counted ≡ splits (counted + t w) (get_or ends w 0) + whole_gain (drop (w + 1) ends) t (suc w) 0
    unfolding whole_gain
    end_gain e = ap (λ (b : Bool). cond b (whole_gain (drop (w + 1) ends) t (suc w) (counted + t w)) (splits (counted + t w) (get_or ends w 0) + whole_gain (drop (w + 1) ends) t (suc w) 0)) (ne_eqb (get_or ends w 0) 0 e)

    -- the group goes on
    pub tallying_on : get_or ends w 0 ≡ 0 → v ≤ 64 → Tallying gain (counted + v) (w + 1)
    tallying_on e l =
        rw is
        record {
          within = omega arith;
          few = omega (arith, s.few, is);
          counts = rw (add-one w) (rw (add-one w) at (counts_here.0 e));
          sum = rw (add-one w) (rw (add-one w) at (ap (λ (m : ℕ). gain + m) (sym (on_gain e) ∙ ap (λ (l : List ℕ). whole_gain l t w counted) (sym at_w)) ∙ s.sum));
        }

    -- the group ends
    module _ (e : get_or ends w 0 ≡ 0 → ⊥) where
      pub ends_high : counted + v ≤ get_or ends w 0
      ends_high = rw is (counts_here.1 e).0

      ends_sum : gain + splits (counted + t w) (get_or ends w 0) + whole_gain (drop (w + 1) ends) t (suc w) 0 ≡ whole_gain ends t 0 0
      ends_sum = omega (arith, end_gain e, s.sum, ap (λ (l : List ℕ). whole_gain l t w counted) at_w)

      pub tallying_end : Tallying (gain + splits (counted + v) (get_or ends w 0)) 0 (w + 1)
      tallying_end =
          rw is
          record {
            within = omega arith;
            few = omega arith;
            counts = rw (add-one w) (rw (add-one w) at (counts_here.1 e).1);
            sum = rw (add-one w) (rw (add-one w) at ends_sum);
          }

      pub ends_low : gain + splits (counted + v) (get_or ends w 0) ≤ whole_gain ends t 0 0
      ends_low = rw is (omega (arith, ends_sum))

  pub tallying_all : (gain counted w : ℕ) → length ends ≤ w → Tallying gain counted w → gain ≡ whole_gain ends t 0 0
  unfolding whole_gain
  tallying_all gain counted w h s =
      let e : drop w ends ≡ [] = drop_of_length-le ends {i = w} h in
      let z : whole_gain (drop w ends) t w counted ≡ 0 = rw e in
      omega (arith, s.sum)

-- what is left of the groups is at most their halves
whole_most : (ends : List ℕ) (t : ℕ → ℕ) (w a : ℕ) → Counts ends t w a → whole_gain ends t w a ≤ most_of ends
unfolding whole_gain most_of
whole_most [] t w a c = omega arith
whole_most (e ∷ es) t w a c = go (eqb e 0) refl (λ z. whole_most es t (suc w) (a + t w) (c.0 z)) (λ z. whole_most es t (suc w) 0 (c.1 z).1)
  where
    go : (b : Bool) → eqb e 0 ≡ b → (e ≡ 0 → whole_gain es t (suc w) (a + t w) ≤ most_of es) → ((e ≡ 0 → ⊥) → whole_gain es t (suc w) 0 ≤ most_of es)
        → cond b (whole_gain es t (suc w) (a + t w)) (splits (a + t w) e + whole_gain es t (suc w) 0) ≤ e * e / 4 + most_of es
    go true q on end = omega (arith, on (eqb-true e 0 q))
    go false q on end = let n = eqb-false e 0 q in omega (arith, end n, splits_half (a + t w) e (c.1 n).0)

-- ---- .. with what is left of them

most_cons : (ends : List ℕ) (w : ℕ) → w < length ends → most_of (drop w ends) ≡ get_or ends w 0 * get_or ends w 0 / 4 + most_of (drop (w + 1) ends)
unfolding most_of
most_cons ends w h = ap most_of (drop-cons ends w 0 h ∙ ap (λ (j : ℕ). get_or ends w 0 ∷ drop j ends) (sym (add-one w)))

-- added up, one size more
pub most_more : (ends : List ℕ) (sum w : ℕ) → w < length ends → sum + most_of (drop w ends) ≡ most_of ends
    → sum + get_or ends w 0 * get_or ends w 0 / 4 + most_of (drop (w + 1) ends) ≡ most_of ends
most_more ends sum w h e = omega (arith, most_cons ends w h)

pub most_all : (ends : List ℕ) (sum w : ℕ) → length ends ≤ w → sum + most_of (drop w ends) ≡ most_of ends → sum ≡ most_of ends
unfolding most_of
most_all ends sum w h e =
    let z : most_of (drop w ends) ≡ 0 = ap most_of (drop_of_length-le ends {i = w} h) in
    omega arith

-- the square of a 16-bit number
pub square_low : (n : ℕ) → n < 65536 → n * n ≤ 4294836225
square_low n h = let l : n ≤ 65535 = omega arith in mul-le-mul l l

-- room is what the groups from block w on have at most, and pairs
pub record Hoping (ends : List ℕ) (t : ℕ → ℕ) (pairs gain counted room w : ℕ) : Type 0 where
  pub tallying : Tallying ends t gain counted w
  pub left : room ≡ most_of (drop w ends) + pairs
  pub low : room ≤ max_gain

pub hoping_start : (ends : List ℕ) (t : ℕ → ℕ) (most : ℕ) → most_of ends ≤ most → most ≤ max_gain → Counts ends t 0 0 → Hoping ends t (most - most_of ends) 0 0 most 0
hoping_start ends t most h l c = record { tallying = tallying_start ends t c; left = omega arith; low = l }

module _ (ends : List ℕ) (t : ℕ → ℕ) (pairs : ℕ) where
  module _ (gain counted room w v : ℕ) (h : w < length ends) (is : v ≡ t w) (s : Hoping ends t pairs gain counted room w) where
    pub room_here : get_or ends w 0 * get_or ends w 0 / 4 ≤ room
    room_here = omega (arith, most_cons ends w h, s.left)

    pub hoping_on : get_or ends w 0 ≡ 0 → v ≤ 64 → Hoping ends t pairs gain (counted + v) room (w + 1)
    hoping_on e l =
        let z : get_or ends w 0 * get_or ends w 0 / 4 ≡ 0 = ap (λ (m : ℕ). m * m / 4) e in
        record { tallying = tallying_on ends t gain counted w v h is s.tallying e l; left = omega (arith, z, most_cons ends w h, s.left); low = s.low }

    module _ (e : get_or ends w 0 ≡ 0 → ⊥) where
      pub hoping_end : Hoping ends t pairs (gain + splits (counted + v) (get_or ends w 0)) 0 (room - get_or ends w 0 * get_or ends w 0 / 4) (w + 1)
      hoping_end = record { tallying = tallying_end ends t gain counted w v h is s.tallying e; left = omega (arith, most_cons ends w h, s.left); low = omega (arith, s.low) }

      -- given up: the whole does not come above beat
      pub hopeless : (beat : ℕ) → gain + splits (counted + v) (get_or ends w 0) + (room - get_or ends w 0 * get_or ends w 0 / 4) ≤ beat → whole_gain ends t 0 0 + pairs ≤ beat
      hopeless beat l =
          let n = hoping_end in
          omega (arith, n.left, n.tallying.sum, whole_most (drop (w + 1) ends) t (w + 1) 0 n.tallying.counts)

-- ---- small groups

-- the first n blocks, and the others
pair_parts : (t : ℕ → ℕ) (n d w : ℕ) → pair_gain (n + d) t w ≡ pair_gain n t w + pair_gain d t (w + n)
unfolding pair_gain
pair_parts t zero d w = let e : zero + d ≡ d = omega arith in rw (e, add-zero w) (omega arith)
pair_parts t (suc n) d w =
    let e : suc n + d ≡ suc (n + d) = omega arith in
    let q : suc w + n ≡ w + suc n = omega arith in
    rw e (omega (arith, pair_parts t n d (suc w), ap (λ (v : ℕ). pair_gain d t v) q))

-- one block, and three
pub pair_one : (t : ℕ → ℕ) (w v : ℕ) → v ≡ t w → v ≡ pair_gain 1 t w
unfolding pair_gain
pair_one t w v e = omega (arith, e)

pub pair_three : (t : ℕ → ℕ) (w v : ℕ) → v ≡ t w + t (w + 1) + t (w + 2) → v ≡ pair_gain 3 t w
unfolding pair_gain
pair_three t w v e =
    let p : w + 1 ≡ suc w = omega arith in
    let q : w + 2 ≡ suc (suc w) = omega arith in
    omega (arith, e, ap t p, ap t q)

module _ (columns rests : List ℕ) (i j : ℕ) where
  -- what is counted, and what the blocks from w on have
  abbrev counted : ℕ → ℕ → ℕ
  counted gain w = gain + pair_gain (length rests - w) (tally_at columns i j) w

  pub record Pairing (from start gain w : ℕ) : Type 0 where
    pub pairs : Pairs columns rests i j w gain
    pub sum : counted gain w ≡ counted start from

  module _ (from start : ℕ) where
    pub pairing_start : Pairs columns rests i j from start → Pairing from start start from
    pairing_start p = record { pairs = p; sum = refl }

    module _ (gain w : ℕ) (s : Pairing from start gain w) where
      -- n blocks more
      module _ (n v : ℕ) (h : w + n ≤ length rests) (is : v ≡ pair_gain n (tally_at columns i j) w) where
        parts : gain + v + pair_gain (length rests - (w + n)) (tally_at columns i j) (w + n) ≡ counted gain w
        parts =
            let e : length rests - w ≡ n + (length rests - (w + n)) = omega arith in
            omega (arith, is, ap (λ (d : ℕ). pair_gain d (tally_at columns i j) w) e, pair_parts (tally_at columns i j) n (length rests - (w + n)) w)

        pub pairing_low : gain + v ≤ max_gain
        pairing_low = omega (arith, parts, s.pairs.sum_low)

        pub pairing_on : Pairing from start (gain + v) (w + n)
        pairing_on =
            let p = s.pairs in
            record {
              pairs =
                  record {
                    size = p.size;
                    first_in = p.first_in;
                    second_in = p.second_in;
                    second_some = p.second_some;
                    fit = p.fit;
                    within = h;
                    high = λ x a b. p.high x (omega arith) b;
                    low = λ x a b. p.low x (omega arith) b;
                    sum_low = omega (arith, parts, p.sum_low);
                  };
              sum = parts ∙ s.sum;
            }

      pub pairing_all : length rests ≤ w → gain ≡ counted start from
      unfolding pair_gain
      pairing_all h =
          let e : length rests - w ≡ 0 = omega arith in
          let z : pair_gain (length rests - w) (tally_at columns i j) w ≡ 0 = ap (λ (d : ℕ). pair_gain d (tally_at columns i j) w) e in
          omega (arith, s.sum)

      -- the columns have a word in block v
      pub pairing_cross : (v : ℕ) → v < length rests → (i ≤ max_inputs) × (j ≤ max_inputs) × (v < max_blocks) × (length columns ≡ columns_size) × (0 < j)
      pairing_cross v h = let p = s.pairs in (p.first_in, p.second_in, omega (arith, p.fit), p.size, p.second_some)

      module _ (h : w < length rests) where
        -- a bound and what is counted are low
        pub rest_low : gain + get_or rests w 0 ≤ 2 * max_gain
        rest_low = omega (arith, s.pairs.low w (omega arith) h, s.pairs.sum_low)

        -- given up: the rest does not come above beat
        pub pairing_given : (beat : ℕ) → gain + get_or rests w 0 ≤ beat → Judges (counted start from) beat gain
        pairing_given beat b = record { above = λ l. absurd (omega arith); below = λ l. omega (arith, s.sum, s.pairs.high w (omega arith) h) }

-- ---- both

module _ (columns ends : List ℕ) (blocks i j v w : ℕ) (p : v ≡ whole_gain ends (tally_at columns i j) 0 0)
    (q : w ≡ pair_gain (blocks - length ends) (tally_at columns i j) (length ends)) where
  pub gain_sum : v + w ≡ gain_at columns ends blocks i j
  unfolding gain_at
  gain_sum = ap₂ ◌+◌ p q

-- the pairs of the small groups, with what the large ones have
module _ (columns ends rests : List ℕ) (most i j : ℕ) (s : Judgeable columns ends rests most i j) where
  pub sheet_pairs : (v : ℕ) → v ≡ whole_gain ends (tally_at columns i j) 0 0 → Pairs columns rests i j (length ends) v
  sheet_pairs v e =
      record {
        size = s.size;
        first_in = s.first_in;
        second_in = s.second_in;
        second_some = s.second_some;
        fit = s.fit;
        within = s.whole;
        high = s.rests_high;
        low = λ w a b. omega (arith, s.rests_low w a b, s.most_low);
        sum_low = omega (arith, s.low, gain_sum columns ends (length rests) i j v _ e refl);
      }

  -- they are no more than the halves of the large groups leave
  pub sheet_low : pair_gain (length rests - length ends) (tally_at columns i j) (length ends) ≤ most - most_of ends
  unfolding pair_gain
  sheet_low = go (eq-or-lt_of_le s.whole)
    where
      go : (length ends ≡ length rests) ⊎ (length ends < length rests) → pair_gain (length rests - length ends) (tally_at columns i j) (length ends) ≤ most - most_of ends
      go (inl e) =
          let z : length rests - length ends ≡ 0 = omega arith in
          rw z (omega arith)
      go (inr h) = omega (arith, s.rests_high (length ends) (omega arith) h, s.rests_low (length ends) (omega arith) h)

  -- and all together no more than the halves
  pub gain_most : gain_at columns ends (length rests) i j ≤ most
  gain_most =
      let sum = gain_sum columns ends (length rests) i j _ _ refl refl in
      omega (arith, sum, sheet_low, whole_most ends (tally_at columns i j) 0 0 s.counts, s.most_high)

pub gain_whole : (columns ends : List ℕ) (blocks i j : ℕ) → whole_gain ends (tally_at columns i j) 0 0 ≤ gain_at columns ends blocks i j
unfolding gain_at
gain_whole columns ends blocks i j = omega arith

-- ---- a judgement

pub judges_exact : (exact beat r : ℕ) → r ≡ exact → Judges exact beat r
judges_exact exact beat r e = record { above = λ l. e; below = λ l. omega arith }

pub judges_none : (exact beat : ℕ) → exact ≤ beat → Judges exact beat 0
judges_none exact beat h = record { above = λ l. absurd (omega arith); below = λ l. h }
