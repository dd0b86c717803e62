-- The best candidate by the sheet is the best by the rule. Assumes nothing.
use Prim.Native.Nat.{ℕ, zero, suc, ◌+◌, ◌-◌, ◌*◌, ◌/◌, ◌≤◌, ◌<◌}
use native.Mathlib.Nat.{mul-le-mul, le_trans}
use native.Mathlib.Omega.{arith}
use mathlib.Core.Path.{◌≡◌, refl, sym, ap, ap₂, subst, ◌∙◌}
use mathlib.Core.Bool.{false}
use mathlib.Core.List.{List, [], ◌∷◌, ◌++◌}
use lib.Bits.{bit_xor}
use lib.Count.{ones}
use lib.ListN.{length, get_or, replicate, take}
use lib.Seq.{get_or-take, length-take-le}
use Rattle.lists.specs.Cut.{cut}
use Rattle.lists.proofs.Entries.Members.{all_map}
use Rattle.lists.proofs.Entries.Parts.{part_take}
use Rattle.vectors.specs.declared.Kind.{Kind}
use Rattle.vectors.specs.Variable.{earlier, later, value_of, faulty}
use Rattle.choice.specs.Choice.{candidates, best_of}
use Rattle.choice.specs.Inner.Split.{tally}
use Rattle.choice.proofs.Choice.Candidates.{candidates_sound}
use Rattle.choice.specs.Inner.Layout.{max_blocks, blocks_of, ends_of, items_of, block, input_column}
use Rattle.choice.specs.Inner.Gain.{whole_gain, pair_gain, gains, Counts, most_of, small_most}
use Rattle.vectors.specs.Bounds.{max_inputs}
use Rattle.choice.specs.Inner.Best.{score_of, Searched}
use Rattle.choice.specs.Inner.Judged.{max_gain, Drawn, tally_at, gain_at, Judgeable, AllJudgeable, left_by}
use Rattle.choice.specs.Inner.Search.{Beaten}
use Rattle.choice.specs.Inner.Ties.{Ties}
use Rattle.choice.specs.Inner.Laid.{Bounds, LaidOut}
use Rattle.choice.specs.declared.lay.Laid.{Laid}
use Rattle.choice.proofs.Counting.Columns.{value_linear, ones_columns}
use Rattle.choice.proofs.Counting.Halves.{halves, halves_low}
use Rattle.choice.proofs.Laying.Laid.{ends_few}
use Rattle.choice.proofs.Laying.Blocks.{blocks_gain, blocks_count, pairs_high}
use Rattle.choice.proofs.Counting.Agree.{best_gains, gains_words}
use Rattle.choice.proofs.Searching.Order.{inputs_in, kind_of, kind_sound}
use Rattle.choice.proofs.Searching.Tying.{gain_of, gain_pair, ties_beaten, beaten_same}

-- ---- tallies that are the same where they are looked at

module _ (t u : ℕ → ℕ) where
  abbrev Same : ℕ → ℕ → Type 0
  Same from to = (w : ℕ) → from ≤ w → w < to → t w ≡ u w

  pub whole_same : (ends : List ℕ) (w a : ℕ) → Same w (w + length ends) → whole_gain ends t w a ≡ whole_gain ends u w a
  unfolding whole_gain
  whole_same [] w a s = refl
  whole_same (e ∷ es) w a s =
      let here : t w ≡ u w = s w (omega arith) (omega arith) in
      let on : Same (suc w) (suc w + length es) = λ v l m. s v (omega arith) (omega arith) in
      rw (here, whole_same es (suc w) (a + u w) on, whole_same es (suc w) 0 on)

  pub pair_same : (d w : ℕ) → Same w (w + d) → pair_gain d t w ≡ pair_gain d u w
  unfolding pair_gain
  pair_same zero w s = refl
  pair_same (suc d) w s = ap₂ ◌+◌ (s w (omega arith) (omega arith)) (pair_same d (suc w) (λ v l m. s v (omega arith) (omega arith)))

  pub counts_same : (ends : List ℕ) (w a : ℕ) → Same w (w + length ends) → Counts ends u w a → Counts ends t w a
  counts_same [] w a s c = tt
  counts_same (e ∷ es) w a s c =
      let here : t w ≡ u w = s w (omega arith) (omega arith) in
      let on : Same (suc w) (suc w + length es) = λ v l m. s v (omega arith) (omega arith) in (
        λ z. counts_same es (suc w) (a + t w) on (rw here (c.0 z)),
        λ z. (rw here (c.1 z).0, counts_same es (suc w) 0 on (c.1 z).1),
      )

-- ---- the sheet of groups

-- how many blocks the groups take
abbrev pub blocks_in : List (List ℕ) → ℕ
blocks_in gs = blocks_of (length (items_of gs))

module _ (sizes words columns rests : List ℕ) (n zeros : ℕ) (s : Searched sizes words n) (fit : blocks_in (cut sizes words) ≤ max_blocks)
    (r : Bounds (cut sizes words) rests (blocks_in (cut sizes words))) (d : Drawn (items_of (cut sizes words) ++ replicate zeros 0) columns (blocks_in (cut sizes words))) where
  abbrev gs : List (List ℕ)
  gs = cut sizes words

  abbrev ends : List ℕ
  ends = ends_of (cut sizes words)

  abbrev blocks : ℕ
  blocks = blocks_in (cut sizes words)

  low : (k : Kind) → gains (λ x. value_of x k) gs ≤ max_gain
  low k = le_trans (gains_words k sizes words) (le_trans (mul-le-mul s.few s.few) (omega arith))

  -- the halves of the large groups and of the small ones
  halves_are : most_of ends + small_most gs ≡ most_of sizes
  halves_are = halves sizes words s.sum

  module _ (k : Kind) (right : faulty n k ≡ false) where
    abbrev t : ℕ → ℕ
    t = tally_at columns (earlier k) (later k)

    abbrev u : ℕ → ℕ
    u w = tally (λ x. value_of x k) (block w (items_of gs ++ replicate zeros 0))

    earlier_low : earlier k ≤ max_inputs
    earlier_low = omega (arith, inputs_in n k right, s.inputs)

    later_low : later k ≤ max_inputs
    later_low = omega (arith, inputs_in n k right, s.inputs)

    -- a block's tally is that of its items
    tally_is : (w : ℕ) → w < blocks → t w ≡ u w
    tally_is w l =
        ap₂ (λ (a b : ℕ). ones (bit_xor a b)) (d.are (earlier k) w earlier_low l) (d.are (later k) w later_low l) ∙ ones_columns k (block w (items_of gs ++ replicate zeros 0))

    whole_few : length ends ≤ blocks
    whole_few = ends_few gs

    gain_is : gain_at columns ends blocks (earlier k) (later k) ≡ gains (λ x. value_of x k) gs
    unfolding gain_at
    gain_is =
        ap₂ ◌+◌ (whole_same t u ends 0 0 (λ w l m. tally_is w (omega (arith, whole_few)))) (pair_same t u (blocks - length ends) (length ends) (λ w l m. tally_is w (omega (arith, whole_few))))
        ∙ blocks_gain (λ x. value_of x k) (value_linear k) gs zeros

    rests_is : length (take blocks rests) ≡ blocks
    rests_is = length-take-le blocks rests (omega (arith, r.size))

    -- the bound of a block is right
    rests_high : (w : ℕ) → length ends ≤ w → w < blocks → pair_gain (blocks - w) t w ≤ get_or (take blocks rests) w 0
    rests_high w a b =
        rw (pair_same t u (blocks - w) w (λ v l m. tally_is v (omega arith)), get_or-take blocks rests w 0 b)
        (le_trans (pairs_high (λ x. value_of x k) (value_linear k) gs zeros w b) (r.high (λ x. value_of x k) (value_linear k) w a b))

    serves : Judgeable columns ends (take blocks rests) (most_of sizes) (earlier k) (later k)
    serves =
        record {
          size = d.size;
          whole = rw rests_is whole_few;
          fit = rw rests_is fit;
          first_in = earlier_low;
          second_in = later_low;
          second_some = omega (arith, inputs_in n k right);
          counts = counts_same t u ends 0 0 (λ w l m. tally_is w (omega (arith, whole_few))) (blocks_count (λ x. value_of x k) (value_linear k) gs zeros);
          low = rw (rests_is, gain_is) (low k);
          most_high = omega (arith, halves_are);
          most_low = halves_low sizes (omega (arith, s.sum, s.few));
          rests_high = rw rests_is rests_high;
          rests_low = rw rests_is (λ w a b. rw (get_or-take blocks rests w 0 b) (omega (arith, r.low w a b, halves_are)));
        }

  pub sheets : AllJudgeable columns (ends_of (cut sizes words)) (take (blocks_in (cut sizes words)) rests) (most_of sizes) n
  sheets zero j h l = serves (kind_of zero j) (kind_sound n zero j h l)
  sheets (suc i) j h l = serves (kind_of (suc i) j) (kind_sound n (suc i) j h l)

  pub sheet_best : (degree : ℕ) → best_of (left_by columns (ends_of (cut sizes words)) (blocks_in (cut sizes words))) (candidates n degree) ≡ best_of (score_of sizes words) (candidates n degree)
  sheet_best degree =
      sym
      (best_gains sizes words max_gain (λ k. gain_at columns ends blocks (earlier k) (later k)) low (candidates n degree)
      (all_map (λ k. faulty n k ≡ false) (λ k. gain_at columns ends blocks (earlier k) (later k) ≡ gains (λ x. value_of x k) gs) gain_is (candidates n degree) (candidates_sound n degree)))

  -- what two inputs tell apart, by their XOR
  pairs_gain : (i j : ℕ) → i < j → j ≤ n → gain_of gs i j ≡ gain_at columns ends blocks i j
  pairs_gain zero j h l = sym (gain_pair gs zero j) ∙ sym (gain_is (kind_of zero j) (kind_sound n zero j h l))
  pairs_gain (suc i) j h l = sym (gain_pair gs (suc i) j) ∙ sym (gain_is (kind_of (suc i) j) (kind_sound n (suc i) j h l))

  -- a candidate with a tied input is beaten
  pub sheet_beaten : (tied : ℕ) → Ties tied (λ x. x) (cut sizes words) → Beaten (tied / 2 * 2) (gain_at columns (ends_of (cut sizes words)) (blocks_in (cut sizes words))) n
  sheet_beaten tied t = beaten_same (tied / 2 * 2) (gain_of gs) (gain_at columns ends blocks) n pairs_gain (ties_beaten gs n tied s.inputs t)

-- ---- as the code has laid and drawn it

-- a rest for each block
pub rests_size : {gs : List (List ℕ)} {items ends rests : List ℕ} {r : Laid} → LaidOut gs items ends rests r → (r.items + 63) / 64 ≡ length (take ((r.items + 63) / 64) rests)
rests_size {gs} {items} {ends} {rests} {r} o = sym (length-take-le ((r.items + 63) / 64) rests (omega (arith, o.few, o.count_is, o.bounds.size)))

module _ (sizes words items ends rests columns : List ℕ) (n : ℕ) (r : Laid) (s : Searched sizes words n) (o : LaidOut (cut sizes words) items ends rests r)
    (d : Drawn items columns ((r.items + 63) / 64)) where
  zeros : ℕ
  zeros = 64 * blocks_in (cut sizes words) - length (items_of (cut sizes words))

  -- no block looks beyond them
  block_is : (w : ℕ) → w < blocks_in (cut sizes words) → block w items ≡ block w (items_of (cut sizes words) ++ replicate zeros 0)
  unfolding zeros
  block_is w h = sym (part_take 64 (64 * w) (64 * blocks_in (cut sizes words)) items (omega arith)) ∙ ap (block w) o.items_are

  drawn : Drawn (items_of (cut sizes words) ++ replicate zeros 0) columns (blocks_in (cut sizes words))
  drawn =
      let c = subst (λ (m : ℕ). Drawn items columns ((m + 63) / 64)) o.count_is d in
      record { size = c.size; are = λ i w l h. c.are i w l h ∙ ap (input_column i) (block_is w h) }

  fits : blocks_in (cut sizes words) ≤ max_blocks
  fits = omega (arith, o.few)

  pub made_sheets : AllJudgeable columns (take r.whole ends) (take ((r.items + 63) / 64) rests) (most_of sizes) n
  made_sheets =
      subst (λ (l : List ℕ). AllJudgeable columns l (take ((r.items + 63) / 64) rests) (most_of sizes) n) (sym o.ends_are)
      (subst (λ (m : ℕ). AllJudgeable columns (ends_of (cut sizes words)) (take ((m + 63) / 64) rests) (most_of sizes) n) (sym o.count_is)
      (sheets sizes words columns rests n zeros s fits o.bounds drawn))

  blocks_are : length (take ((r.items + 63) / 64) rests) ≡ blocks_in (cut sizes words)
  blocks_are = sym (rests_size o) ∙ ap blocks_of o.count_is

  pub made_beaten : (tied : ℕ) → Ties tied (λ x. x) (cut sizes words) → Beaten (tied / 2 * 2) (gain_at columns (take r.whole ends) (length (take ((r.items + 63) / 64) rests))) n
  made_beaten tied t =
      subst (λ (l : List ℕ). Beaten (tied / 2 * 2) (gain_at columns l (length (take ((r.items + 63) / 64) rests))) n) (sym o.ends_are)
      (subst (λ (m : ℕ). Beaten (tied / 2 * 2) (gain_at columns (ends_of (cut sizes words)) m) n) (sym blocks_are)
      (sheet_beaten sizes words columns rests n zeros s fits o.bounds drawn tied t))

  pub made_best : (degree : ℕ) → best_of (left_by columns (take r.whole ends) (length (take ((r.items + 63) / 64) rests))) (candidates n degree) ≡ best_of (score_of sizes words) (candidates n degree)
  made_best degree =
      ap₂ (λ (l : List ℕ) (m : ℕ). best_of (left_by columns l m) (candidates n degree)) o.ends_are blocks_are
      ∙ sheet_best sizes words columns rests n zeros s fits o.bounds drawn degree
