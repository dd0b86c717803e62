-- The rows placed by their marks: the code's words beside the state of the placing. Assumes nothing.
use Prim.Native.Nat.{ℕ, suc, ◌+◌, ◌-◌, ◌*◌, max, ◌≤◌, ◌<◌}
use native.Mathlib.Nat.{eq-or-lt_of_le}
use native.Mathlib.Numerals.{add-one}
use native.Mathlib.Omega.{arith}
use mathlib.Core.Path.{◌≡◌, refl, sym, ap, ap₂, ◌∙◌}
use mathlib.Core.Bool.{true, false}
use mathlib.Core.List.{List, [], ◌∷◌}
use mathlib.Core.Logic.{⊎_elim}
use lib.ListN.{length, get_or, set, drop, replicate, length-set, length-map, length-drop, length-replicate, get_or-replicate}
use lib.Seq.{ext_get_or}
use Rattle.std.specs.Prelude.{Result, Ok, Err, MatchResult}
use Rattle.std.specs.Result.{is_err}
use Rattle.lists.specs.Members as Members
use Rattle.vectors.specs.Bounds.{max_cells}
use Rattle.rows.specs.Care.{Care, in_row, open_weight}
use Rattle.rows.specs.Fit.{first_fit, put, Fit, At, None}
use Rattle.rows.specs.Place.{State, Placing, place, place_row}
use Rattle.rows.specs.Demand.{filled}
use Rattle.rows.specs.Allowance.{end_within}
use Rattle.rows.specs.Answer.{row_in, column_in, cares_in, cares_of, owned, left, settled}
use Rattle.rows.specs.Inner.Chains as tried
use Rattle.rows.specs.Inner.Chains.{chain, chain_of, Rises, Weighs, weight_in, mark_bit, Marked, RowTried, WayBack}
use Rattle.rows.specs.Told.{stop_told, told}
use Rattle.rows.specs.Inner.Swept.{Ended, Swept}
use Rattle.rows.specs.End.{All, NoFit, Over}
use Rattle.rows.specs.declared.Stop.{Stop}
use Rattle.rows.proofs.Fits.First.{fit_low}
use Rattle.rows.proofs.Fits.Cells.{cares_length}
use Rattle.rows.proofs.Placing.Open.{count_of, count_all, open_less}
use Rattle.rows.proofs.Chains.Steps.{weight_none, weight_some}
use Rattle.rows.proofs.Chains.Walks.{chain_pos}
use Rattle.rows.proofs.Placing.Turns.{Next}
use Rattle.rows.proofs.Placing.Counts.{Counted, counted_start, counted_turn}
use Rattle.rows.proofs.Placing.Held.{Clearing, clearing_start, clearing_turn}
use Rattle.rows.proofs.Placing.Allowed.{within_same, exceeded_end, exceeded_stuck}
use Rattle.rows.proofs.Answers.Settled.{settle_all, settle_stuck, settle_over}
use Rattle.rows.proofs.Sweeps.Levels.{Sweep, sweep_start, sweep_end, sweep_pass, sweep_turn, sweep_stuck, sweep_more}
use Rattle.rows.proofs.Sweeps.Marks.{RowState, shut, marked, row_weight, row_none, row_open, row_set, row_start}
use Rattle.rows.proofs.Sweeps.Back.{way_back}

-- ---- the loop's state: a sweep for the level, at the row i

-- the placing of the words' vectors, as the owner writes them, into n rows over the cells g₀
abbrev pub plan : ℕ → List ℕ → ℕ → List ℕ → Placing
plan owner ws n g₀ = place (cares_of owner ws) (replicate n 0) g₀

pub record Going (owner : ℕ) (ws : List ℕ) (n : ℕ) (g₀ h g : List ℕ) (tries level below i : ℕ) : Type 0 where
  pub state : State
  pub sweep : Sweep (cares_of owner ws) (plan owner ws n g₀) state level below i
  pub states : (r : ℕ) → r < length h → RowState owner ws (cares_of owner ws) state.order r (get_or h r 0) (get_or state.h r 0)
  pub size : length state.h ≡ length h
  pub all_rows : length h ≡ n
  pub cells : state.g ≡ g
  pub tried : state.tries ≡ tries
  pub counts : Counted (cares_of owner ws) (filled g₀) state
  pub clearing : Clearing (cares_of owner ws) g₀ state
  pub room : tries + max_cells * count_of (open_weight (cares_of owner ws) state.order) (length state.h) ≤ max_cells * length h

pub going_start : (owner : ℕ) (ws h g : List ℕ) → Marked ws h → Going owner ws (length h) g h g 0 (length ws - 1) 0 0
unfolding cares_in
going_start owner ws h g m =
    let cs = cares_of owner ws in
    let n : length {A = ℕ} (replicate (length h) 0) ≡ length h = length-replicate (length h) 0 in
    record {
      state = record { h = replicate (length h) 0; g = g; tries = 0; order = [] };
      sweep =
          sweep_start cs (replicate (length h) 0) g (length ws - 1)
          (omega (arith, length-map (cares_in ws) (owned owner), cares_length row_in column_in 1 (drop 1 ws), length-drop 1 ws));
      states = λ r l. row_start owner ws (cares_in ws) r (get_or h r 0) _ (get_or-replicate (length h) r 0 0 l) (m r l);
      size = n;
      all_rows = refl;
      cells = refl;
      tried = refl;
      counts = counted_start cs (replicate (length h) 0) g;
      clearing = clearing_start cs (replicate (length h) 0) g;
      room = omega (arith, count_all (open_weight cs []) (length {A = ℕ} (replicate (length h) 0)), n);
    }

-- the way back
going_back : (owner : ℕ) (ws : List ℕ) (n : ℕ) (g₀ h g : List ℕ) (tries level below i : ℕ) → Going owner ws n g₀ h g tries level below i
    → Members.All (λ c. c.row < n) (cares_in ws) → WayBack ws g₀ h g
going_back owner ws n g₀ h g tries level below i go rows =
    way_back owner ws n g₀ rows h g go.state go.clearing go.all_rows go.states go.cells

-- what is known of a row i of the level, marked at first, where the tries before it keep within the allowance: its tries fit, and once it is tried the loop goes on or the placing ends
pub record AtLevel (a owner : ℕ) (ws : List ℕ) (n : ℕ) (g₀ h g : List ℕ) (tries level below i first : ℕ) : Type 0 where
  pub fits : tries + max_cells ≤ max_cells * length h
  pub next : {r : Result ℕ Stop} {h' g' : List ℕ} → length g ≤ max_cells → RowTried (chain_of owner ws first) i tries a h g r h' g'
      → MatchResult r (λ more. Going owner ws n g₀ h' g' more level below (i + 1) × (more ≤ a)) (λ stop. Ended a owner ws n g₀ h' g' (stop_told stop))

module _ (owner : ℕ) (ws : List ℕ) (rises : Rises 0 ws) (weighs : Weighs 0 ws) (n : ℕ) (g₀ h g : List ℕ) (tries level below i : ℕ)
    (go : Going owner ws n g₀ h g tries level below i) where
  -- only the sweep goes on
  swept : (level' below' i' : ℕ) → Sweep (cares_of owner ws) (plan owner ws n g₀) go.state level' below' i' → Going owner ws n g₀ h g tries level' below' i'
  swept level' below' i' s =
      record {
        state = go.state;
        sweep = s;
        states = go.states;
        size = go.size;
        all_rows = go.all_rows;
        cells = go.cells;
        tried = go.tried;
        counts = go.counts;
        clearing = go.clearing;
        room = go.room;
      }

  -- no level is left
  pub going_end : (a : ℕ) → tries ≤ a → level ≤ 0 → left (record { end = All; tries = tries }) h g ≡ settled a (cares_of owner ws) n g₀
  unfolding settled
  going_end a m l =
      let e = sweep_end (cares_of owner ws) (plan owner ws n g₀) go.state level below i l go.sweep in
      let z : (r : ℕ) → r < length h → open_weight (cares_of owner ws) go.state.order r ≡ 0 = λ r m. omega (arith, go.sweep.most r (omega (arith, go.size))) in
      let q : h ≡ go.state.h = ext_get_or 0 h go.state.h (sym go.size) (λ r m. row_none owner ws (cares_of owner ws) go.state.order rises (go.states r m) (z r m)) in
      let P : Placing = record { end = All; state = go.state } in
      rw (e, settle_all a P (replicate n 0) g₀ (within_same a P (omega (arith, go.tried))), go.cells, go.tried, ← q)

  -- at a row i that is placed or empty
  pub going_skip : i < length h → get_or h i 0 ≤ mark_bit → Going owner ws n g₀ h g tries level below (i + 1)
  going_skip l m =
      let z = row_weight owner ws (cares_of owner ws) go.state.order weighs (go.states i l) in
      let w = weight_none ws (get_or h i 0) m in
      swept level below (i + 1)
      (sweep_pass (cares_of owner ws) (plan owner ws n g₀) go.state level below i go.sweep below (omega arith) (omega (arith, z, w)) go.sweep.under)

  -- at a marked row i
  module _ (l : i < length h) (m : mark_bit < get_or h i 0) where
    pub going_first : get_or h i 0 - mark_bit < length ws
    going_first = by (go.states i l)
      where
        by : RowState owner ws (cares_of owner ws) go.state.order i (get_or h i 0) (get_or go.state.h i 0) → get_or h i 0 - mark_bit < length ws
        by (shut b c o) = absurd (omega arith)
        by (marked b c o d) = omega arith

    pub going_low : 0 < get_or h i 0 - mark_bit
    going_low = omega arith

    -- of the weight w
    module _ (w : ℕ) (ew : w ≡ weight_in (get_or ws (get_or h i 0 - mark_bit) 0)) where
      weight_is : w ≡ open_weight (cares_of owner ws) go.state.order i
      weight_is = ew ∙ sym (weight_some ws (get_or h i 0) m going_first) ∙ row_weight owner ws (cares_of owner ws) go.state.order weighs (go.states i l)

      -- it is of another weight
      pub going_pass : (w ≡ level → ⊥) → Going owner ws n g₀ h g tries level (max below w) (i + 1)
      going_pass d =
          let u : w < level = ⊎_elim (λ e. absurd (d e)) (λ k. k) (eq-or-lt_of_le (rw (← weight_is) at (go.sweep.most i (omega (arith, go.size))))) in
          swept level (max below w) (i + 1)
          (sweep_pass (cares_of owner ws) (plan owner ws n g₀) go.state level below i go.sweep (max below w) (omega arith) (omega (arith, weight_is)) (λ k. omega (arith, u, go.sweep.under k)))

      -- it is of the level
      module _ (p : 0 < level) (e : w ≡ level) (rows : Members.All (λ c. c.row < n) (cares_in ws)) where
        first : ℕ
        first = get_or h i 0 - mark_bit

        at_level : open_weight (cares_of owner ws) go.state.order i ≡ level
        at_level = sym weight_is ∙ e

        inside : i < length go.state.h
        inside = omega (arith, go.size)

        is : chain_of owner ws first ≡ in_row i (cares_of owner ws)
        unfolding first
        is = row_open owner ws (cares_of owner ws) go.state.order (go.states i l) m

        some : 0 < length (chain_of owner ws first)
        unfolding first
        some = omega (arith, length-map (chain ws (get_or h i 0 - mark_bit)) (owned owner), chain_pos ws rises (get_or h i 0 - mark_bit) going_low going_first)

        fewer : count_of (open_weight (cares_of owner ws) (i ∷ go.state.order)) (length go.state.h) < count_of (open_weight (cares_of owner ws) go.state.order) (length go.state.h)
        fewer = open_less (cares_of owner ws) go.state.order i (length go.state.h) (omega (arith, at_level)) inside

        turn : Next (cares_of owner ws) go.state i
        turn = sweep_turn (cares_of owner ws) (plan owner ws n g₀) go.state level below i go.sweep inside p at_level

        -- its first fit beside the rows placed
        answer : {f : Fit} → first_fit g (chain_of owner ws first) ≡ f → first_fit go.state.g (in_row i (cares_of owner ws)) ≡ f
        answer q = rw (go.cells, ← is) q

        -- there is no displacement
        module _ (t needs : ℕ) (q : first_fit g (chain_of owner ws first) ≡ None t needs) (a : ℕ) where
          abbrev S : Placing
          S = record { end = NoFit i t needs; state = go.state }

          is_stuck : plan owner ws n g₀ ≡ S
          is_stuck = sweep_stuck (cares_of owner ws) (plan owner ws n g₀) go.state level below i go.sweep inside p at_level t needs (answer q)

          way : WayBack ws g₀ h g
          way = going_back owner ws n g₀ h g tries level below i go rows

          stuck_ends : tries + t ≤ a → Ended a owner ws n g₀ h g (record { end = NoFit i t needs; tries = tries })
          unfolding settled
          stuck_ends u =
              record {
                way = way;
                ends = rw (is_stuck, settle_stuck a S (replicate n 0) g₀ i t needs (within_same a S (omega (arith, go.tried))), go.tried);
              }

          stuck_over : tries ≤ a → a < tries + t → Ended a owner ws n g₀ h g (record { end = Over i; tries = 0 })
          unfolding settled
          stuck_over k u =
              record {
                way = way;
                ends = rw (is_stuck, settle_over a S (replicate n 0) g₀ i (exceeded_stuck (cares_of owner ws) a go.state i t needs go.counts.tries (omega (arith, go.tried)) (omega (arith, go.tried))));
              }

        -- the row is placed
        module _ (d : ℕ) (q : first_fit g (chain_of owner ws first) ≡ At d) (few : length g ≤ max_cells) where
          more : Going owner ws n g₀ (set h i d) (put g d (chain_of owner ws first)) (tries + (d + 1)) level below (i + 1)
          more =
              let low = fit_low g (chain_of owner ws first) d some q in
              record {
                state = place_row (cares_of owner ws) go.state i d;
                sweep = sweep_more (cares_of owner ws) (plan owner ws n g₀) go.state level below i go.sweep inside p at_level d (answer q);
                states = λ r j. row_set owner ws (cares_of owner ws) go.state.order h go.state.h i d (omega arith) l inside r (go.states r (rw length-set at j));
                size = simp length-set go.size;
                all_rows = simp length-set go.all_rows;
                cells = ap₂ (λ (x : List ℕ) (m : List Care). put x d m) go.cells (sym is);
                tried = rw add-one (ap (λ (t : ℕ). t + suc d) go.tried);
                counts = counted_turn (cares_of owner ws) (filled g₀) go.state i d turn (answer q) go.counts;
                clearing = clearing_turn (cares_of owner ws) go.state i d turn (answer q) g₀ go.clearing;
                room = simp length-set (omega (arith, fewer, go.room));
              }

          -- and its tries exceed the allowance
          past : (a : ℕ) → tries ≤ a → a < tries + (d + 1) → Ended a owner ws n g₀ (set h i d) (put g d (chain_of owner ws first)) (record { end = Over i; tries = 0 })
          unfolding settled
          past a k u =
              let s = sweep_more (cares_of owner ws) (plan owner ws n g₀) go.state level below i go.sweep inside p at_level d (answer q) in
              let x = ap (end_within a) (sym s.same) ∙ exceeded_end (cares_of owner ws) a s.left go.state i d turn go.counts.tries (omega (arith, go.tried)) (omega (arith, go.tried)) in
              record {
                way = going_back owner ws n g₀ (set h i d) (put g d (chain_of owner ws first)) (tries + (d + 1)) level below (i + 1) more rows;
                ends = rw (settle_over a (plan owner ws n g₀) (replicate n 0) g₀ i x);
              }

        next : (a : ℕ) → tries ≤ a → {r : Result ℕ Stop} {h' g' : List ℕ} → length g ≤ max_cells → RowTried (chain_of owner ws first) i tries a h g r h' g'
            → MatchResult r (λ more. Going owner ws n g₀ h' g' more level below (i + 1) × (more ≤ a)) (λ stop. Ended a owner ws n g₀ h' g' (stop_told stop))
        next a k few (tried.placed d q x y u e) = rw (e, x, y) (more d q few, u)
        next a k few (tried.over d q x y u e) = rw (e, x, y) (past d q few a k u)
        next a k few (tried.stuck t needs q x y u e) = rw (e, x, y) (stuck_ends t needs q a u)
        next a k few (tried.stuck_over t needs q x y u e) = rw (e, x, y) (stuck_over t needs q a k u)

        pub going_level : (a : ℕ) → tries ≤ a → AtLevel a owner ws n g₀ h g tries level below i (get_or h i 0 - mark_bit)
        unfolding first
        going_level a k = record { fits = omega (arith, fewer, go.room); next = λ {r} {h'} {g'} few t. next a k few t }

-- ---- the end of the sweeps

module _ (a owner : ℕ) (ws : List ℕ) (n : ℕ) (g₀ h g : List ℕ) where
  -- the rows are taken back
  pub swept_back : (r : Result ℕ Stop) → true ≡ is_err r → Swept a owner ws n g₀ h g r → Ended a owner ws n g₀ h g (told r)
  swept_back (Ok t) e s = cc
  swept_back (Err p) e s = s

  -- all are placed
  pub swept_all : (r : Result ℕ Stop) → false ≡ is_err r → Swept a owner ws n g₀ h g r → left (told r) h g ≡ settled a (cares_of owner ws) n g₀
  swept_all (Ok t) e s = s
  swept_all (Err p) e s = cc
