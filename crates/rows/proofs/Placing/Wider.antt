-- Placing over more cells goes the same way, up to a row that has no displacement over the fewer. Assumes nothing.
use Prim.Native.Nat.{ℕ, zero, suc, ◌+◌, ◌≤◌, ◌<◌}
use native.Mathlib.Nat.{eq-zero-or-pos}
use native.Mathlib.Omega.{arith}
use mathlib.Core.Path.{◌≡◌, refl, sym, ap, ap₂, ◌∙◌}
use mathlib.Core.Bool.{Bool, true, false, ◌&&◌, true≢false}
use mathlib.Core.List.{List, [], ◌∷◌}
use mathlib.Core.Logic.{◌⊎◌, inl, inr, ⊎_elim}
use lib.Dec.{eqb, ltb}
use lib.ListN.{length, get_or, set, length-set}
use lib.Seq.{get_or-set_same, get_or-set_other}
use borrow.Author.Tests.{eqb-true, eqb-false, ltb-true}
use Rattle.lists.specs.First.{has}
use Rattle.lists.specs.Members.{In}
use Rattle.lists.proofs.Entries.Members.{all_of}
use Rattle.lists.proofs.Finding.Has.{has_self, has_other}
use Rattle.lists.proofs.Tests.{and_true, le_or_lt}
use Rattle.rows.specs.Care.{Care, in_row, weight_of, open_weight, Heavy, heaviest}
use Rattle.rows.specs.Fit.{cell_of, inside, clear, reach, first_fit, put, Fit, At, None}
use Rattle.rows.specs.Place.{State, Placing, place_row, place_in, place}
use Rattle.rows.specs.Demand.{Columns}
use Rattle.rows.specs.Needed.{More, places, Keeps, Least, Beside}
use Rattle.rows.specs.End.{End, All, NoFit, Over, Unfit}
use Rattle.rows.proofs.Fits.First.{fit_none, fit_inside}
use Rattle.rows.proofs.Fits.Needed.{FirstFree, first_free, needed_is, fit_enough, fit_same, fit_short, none_short, inside_reach, needed_low}
use Rattle.rows.proofs.Fits.Cells.{in_row_lem, put_length}
use Rattle.rows.proofs.Fits.Columns.{inside_all, row_inside}
use Rattle.rows.proofs.Placing.Open.{open_not, open_weight_lem}
use Rattle.rows.proofs.Placing.Turns.{next, Next, place_none, place_stuck, place_more, is_next, at_end_in, ended, cells_length, all_no_fit}

-- ---- cells with free ones besides

more_self : (g : List ℕ) → More g g
more_self g = record { longer = omega arith; same = λ c. refl }

more_set : (g g' : List ℕ) (i v : ℕ) → i < length g → More g g' → More (set g i v) (set g' i v)
more_set g g' i v l m =
    let k = m.longer in
    record { longer = simp length-set k; same = λ c. go c (eqb c i) refl }
  where
    go : (c : ℕ) (b : Bool) → eqb c i ≡ b → get_or (set g' i v) c 0 ≡ get_or (set g i v) c 0
    go c true q =
        let k = m.longer in
        rw (eqb-true c i q) (get_or-set_same g' i v 0 (omega arith) ∙ sym (get_or-set_same g i v 0 l))
    go c false q = let n = eqb-false c i q in get_or-set_other g' i c v 0 n ∙ m.same c ∙ sym (get_or-set_other g i c v 0 n)

more_put : (g g' : List ℕ) (d : ℕ) (m : List Care) → inside (length g) d m ≡ true → More g g' → More (put g d m) (put g' d m)
unfolding put inside
more_put g g' d [] h k = k
more_put g g' d (c ∷ m) h k =
    let p = and_true (ltb (cell_of c d) (length g)) (inside (length g) d m) h in
    more_put (set g (cell_of c d) c.index) (set g' (cell_of c d) c.index) d m (rw length-set p.1)
    (more_set g g' (cell_of c d) c.index (ltb-true (cell_of c d) (length g) p.0) k)

more_clear : (g g' : List ℕ) (d : ℕ) (m : List Care) → More g g' → clear g' d m ≡ clear g d m
unfolding clear
more_clear g g' d [] k = refl
more_clear g g' d (c ∷ m) k = ap₂ (λ (w : ℕ) (b : Bool). eqb w 0 && b) (k.same (cell_of c d)) (more_clear g g' d m k)

module _ (g g' : List ℕ) (m : List Care) (k : More g g') where
  more_free : (d : ℕ) → FirstFree g m d → FirstFree g' m d
  more_free d f = record { free = more_clear g g' d m k ∙ f.free; before = λ e l. more_clear g g' e m k ∙ f.before e l }

  -- what fits fits at the same displacement
  more_fits : 0 < length m → (d : ℕ) → first_fit g m ≡ At d → first_fit g' m ≡ At d
  more_fits p d q =
      let f = first_free g m in
      let s = fit_same g m _ f d q in
      let l = k.longer in
      fit_enough g' m _ (more_free _ f) p (omega (arith, s.1)) ∙ ap At (sym s.0)

  -- what does not fit fits where there are as many cells as it needs, and not where there are fewer
  more_enough : 0 < length m → (t n : ℕ) → first_fit g m ≡ None t n → n ≤ length g' → (d : ℕ) × (first_fit g' m ≡ At d) × (reach d m ≡ n)
  more_enough p t n q l =
      let f = first_free g m in
      let e = sym (needed_is g m _ f) ∙ sym (fit_none g m t n q).1 in
      (_, fit_enough g' m _ (more_free _ f) p (omega arith), e)

  more_short : (t n : ℕ) → first_fit g m ≡ None t n → length g' < n → (u : ℕ) × (first_fit g' m ≡ None u n)
  more_short t n q l =
      let f = first_free g m in
      let e = sym (needed_is g m _ f) ∙ sym (fit_none g m t n q).1 in
      let s = fit_short g' m _ (more_free _ f) (omega arith) in
      (s.0, s.1 ∙ ap (None s.0) e)

-- ---- the two placings, turn by turn

-- the row r, which stops the placing at s, in its turn over so many cells
record AtRow (cs : List Care) (s : State) (P' : Placing) (cells r : ℕ) : Type 0 where
  left : ℕ
  at_row : State
  same : P' ≡ place_in (suc left) cs at_row
  beside : Beside s at_row
  turn : (next cs at_row).row ≡ r
  weighs : 0 < (next cs at_row).weight
  size : length at_row.g ≡ cells

-- P' goes as P goes: to the same end, or through the row that stops P
record Follows (cs : List Care) (P P' : Placing) (cells : ℕ) : Type 0 where
  all : P.end ≡ All → (P'.end ≡ All) × Beside P.state P'.state
  stuck : (r t n : ℕ) → P.end ≡ NoFit r t n → AtRow cs P.state P' cells r

-- the next row has a vector
occupied : (cs : List Care) (s : State) (r : ℕ) → Next cs s r → 0 < length (in_row r cs)
unfolding weight_of
occupied cs s r n = omega (arith, n.weighs, open_weight_lem cs s.order r n.weighs)

follow : (f : ℕ) (cs : List Care) (s s' : State) → Beside s s' → Follows cs (place_in f cs s) (place_in f cs s') (length s'.g)
unfolding place_in
follow zero cs s s' b = record { all = λ e. (refl, b); stuck = λ r t n e. absurd (all_no_fit e) }
follow (suc f) cs s s' b = go (eq-zero-or-pos (next cs s).weight) (first_fit s.g (in_row r cs)) refl (λ d. follow f cs (place_row cs s r d) (place_row cs s' r d))
  where
    r : ℕ
    r = (next cs s).row

    both : next cs s' ≡ next cs s
    both = ap₂ (λ (o h : List ℕ). heaviest (open_weight cs o) (length h)) b.order b.rows

    go : ((next cs s).weight ≡ 0) ⊎ (0 < (next cs s).weight) → (a : Fit) → first_fit s.g (in_row r cs) ≡ a
        → ((d : ℕ) → Beside (place_row cs s r d) (place_row cs s' r d)
        → Follows cs (place_in f cs (place_row cs s r d)) (place_in f cs (place_row cs s' r d)) (length (place_row cs s' r d).g))
        → Follows cs (place_in (suc f) cs s) (place_in (suc f) cs s') (length s'.g)
    go (inl z) a k i =
        rw (place_none f cs s z, place_none f cs s' (ap (λ (x : Heavy). x.weight) both ∙ z))
        (record { all = λ e. (refl, b); stuck = λ r t n e. absurd (all_no_fit e) })
    go (inr l) (None t n) k i =
        rw (place_stuck f cs s r refl l t n k)
        (record {
          all = λ e. absurd (all_no_fit (sym e));
          stuck = λ q u v e.
              let p : r ≡ q = cc in
              record {
                left = f;
                at_row = s';
                same = refl;
                beside = b;
                turn = ap (λ (x : Heavy). x.row) both ∙ p;
                weighs = rw both l;
                size = refl;
              };
        })
    go (inr l) (At d) k i =
        let m = in_row r cs in
        let j : Beside (place_row cs s r d) (place_row cs s' r d) =
        record {
          rows = ap (λ (h : List ℕ). set h r d) b.rows;
          tries = ap (λ (t : ℕ). t + suc d) b.tries;
          order = ap (λ (o : List ℕ). r ∷ o) b.order;
          cells = more_put s.g s'.g d m (fit_inside s.g m d k) b.cells;
        } in
        rw (place_more f cs s r refl l d k, place_more f cs s' r (ap (λ (x : Heavy). x.row) both) (rw both l) d (more_fits s.g s'.g m b.cells (occupied cs s r (is_next cs s r refl l)) d k))
        (rw put_length at (i d j))

-- ---- the rows placed stay where they are

stays : (f : ℕ) (cs : List Care) (s : State) (q : ℕ) → has q s.order ≡ true
    → (has q (place_in f cs s).state.order ≡ true) × (get_or (place_in f cs s).state.h q 0 ≡ get_or s.h q 0)
stays f cs s q e = at_end_in cs (λ t. (has q t.order ≡ true) × (get_or t.h q 0 ≡ get_or s.h q 0)) turn f s (e, refl)
  where
    turn : (t : State) (r d : ℕ) → Next cs t r → first_fit t.g (in_row r cs) ≡ At d → (has q t.order ≡ true) × (get_or t.h q 0 ≡ get_or s.h q 0)
        → (has q (place_row cs t r d).order ≡ true) × (get_or (place_row cs t r d).h q 0 ≡ get_or s.h q 0)
    turn t r d n f k =
        let a : q ≡ r → ⊥ = λ z. true≢false (sym k.0 ∙ ap (λ (x : ℕ). has x t.order) z ∙ open_not cs t.order r n.weighs) in
        (has_other q r t.order a ∙ k.0, get_or-set_other t.h r q d 0 a ∙ k.1)

-- ---- the theorems

module _ (cs : List Care) (h g g' : List ℕ) (k : More g g') where
  follows : Follows cs (place cs h g) (place cs h g') (length g')
  unfolding place
  follows = follow (length h) cs (record { h = h; g = g; tries = 0; order = [] }) (record { h = h; g = g'; tries = 0; order = [] }) (record { rows = refl; tries = refl; order = refl; cells = k })

  -- where every row fits, every row fits among more cells, at the same displacement
  pub wider_all : (place cs h g).end ≡ All → ((place cs h g').end ≡ All) × Beside (place cs h g).state (place cs h g').state
  wider_all e = follows.all e

  -- what is placed lies where it lay
  pub wider_keeps : Keeps (place cs h g) (place cs h g')
  wider_keeps q e = go (place cs h g).end refl
    where
      go : (x : End) → (place cs h g).end ≡ x → (places (place cs h g') q ≡ true) × (get_or (place cs h g').state.h q 0 ≡ get_or (place cs h g).state.h q 0)
      go All z = let b = (follows.all z).1 in (ap (has q) b.order ∙ e, ap (λ (l : List ℕ). get_or l q 0) b.rows)
      go (NoFit r t n) z =
          let a = follows.stuck r t n z in
          let s = stays (suc a.left) cs a.at_row q (ap (has q) a.beside.order ∙ e) in
          rw a.same (s.0, s.1 ∙ ap (λ (l : List ℕ). get_or l q 0) a.beside.rows)
      go (Over r) z = absurd ((ended cs h g).not_over r z)
      go Unfit z = absurd ((ended cs h g).not_unfit z)

  -- the row r has no displacement over g, and needs n cells
  module _ (r t n : ℕ) (z : (place cs h g).end ≡ NoFit r t n) where
    abbrev here : AtRow cs (place cs h g).state (place cs h g') (length g') r
    here = follows.stuck r t n z

    pub wider_enough : n ≤ length g' → places (place cs h g') r ≡ true
    wider_enough l =
        let a = here in
        let e = (ended cs h g).no_fit r t n z in
        let f = more_enough (place cs h g).state.g a.at_row.g (in_row r cs) a.beside.cells (occupied cs (place cs h g).state r e.0) t n e.1 (rw a.size l) in
        rw (a.same, place_more a.left cs a.at_row r a.turn a.weighs f.0 f.1)
        (stays a.left cs (place_row cs a.at_row r f.0) r (has_self r a.at_row.order)).0

    pub wider_still : length g' < n → (u : ℕ) × ((place cs h g').end ≡ NoFit r u n)
    wider_still l =
        let a = here in
        let e = (ended cs h g).no_fit r t n z in
        let f = more_short (place cs h g).state.g a.at_row.g (in_row r cs) a.beside.cells t n e.1 (rw a.size l) in
        (f.0, ap (λ (P : Placing). P.end) (a.same ∙ place_stuck a.left cs a.at_row r a.turn a.weighs f.0 n f.1))

    -- with so many cells it is placed, and reaches so far
    pub wider_reach : n ≤ length g' → reach (get_or (place cs h g').state.h r 0) (in_row r cs) ≡ n
    wider_reach l =
        let a = here in
        let e = (ended cs h g).no_fit r t n z in
        let f = more_enough (place cs h g).state.g a.at_row.g (in_row r cs) a.beside.cells (occupied cs (place cs h g).state r e.0) t n e.1 (rw a.size l) in
        let s = (stays a.left cs (place_row cs a.at_row r f.0) r (has_self r a.at_row.order)).1 in
        let i = get_or-set_same a.at_row.h r f.0 0 (is_next cs a.at_row r a.turn a.weighs).row_in in
        rw (a.same, place_more a.left cs a.at_row r a.turn a.weighs f.0 f.1, s, i) f.2

-- the row r has no displacement over g: it is not placed, and not over fewer cells
not_placed : (cs : List Care) (h g : List ℕ) (r t n : ℕ) → (place cs h g).end ≡ NoFit r t n → places (place cs h g) r ≡ false
not_placed cs h g r t n z = open_not cs (place cs h g).state.order r ((ended cs h g).no_fit r t n z).0.weighs

module _ (cs : List Care) (h g : List ℕ) (r t n : ℕ) (z : (place cs h g).end ≡ NoFit r t n) where
  narrower : (g' : List ℕ) → More g' g → places (place cs h g') r ≡ false
  narrower g' k = go (places (place cs h g') r) refl
    where
      go : (b : Bool) → places (place cs h g') r ≡ b → places (place cs h g') r ≡ false
      go true e = absurd (true≢false (sym (wider_keeps cs h g' g k r e).0 ∙ not_placed cs h g r t n z))
      go false e = e

  -- the row needs no more cells than there are and the columns
  pub stuck_low : (columns : ℕ) → Columns columns cs → n ≤ length g + columns
  stuck_low columns c =
      let G = (place cs h g).state.g in
      let i = row_inside columns (length G + columns) (length G) (omega arith) r cs c in
      omega (arith, cells_length cs h g, (fit_none G (in_row r cs) t n ((ended cs h g).no_fit r t n z).1).1, needed_low G (in_row r cs) columns i)

  pub least : Least cs h g r n
  least =
      let e = (ended cs h g).no_fit r t n z in
      record {
        above = omega (arith, cells_length cs h g, none_short (place cs h g).state.g (in_row r cs) t n (occupied cs (place cs h g).state r e.0) e.1);
        enough = λ g' k. wider_enough cs h g g' k r t n z;
        fewer = λ g' k l. let s = wider_still cs h g g' k r t n z l in not_placed cs h g' r s.0 n s.1;
        still = λ g' k. wider_still cs h g g' k r t n z;
        shorter = narrower;
        earlier = λ g' k. wider_keeps cs h g g' k;
      }

-- ---- where every row fits, and lies within fewer cells, every row fits into these

pub within_all : (cs : List Care) (h g g' : List ℕ) → More g' g → (place cs h g).end ≡ All
    → ((c : Care) → In c cs → c.column + get_or (place cs h g).state.h c.row 0 < length g') → (place cs h g').end ≡ All
within_all cs h g g' k e a = go (place cs h g').end refl
  where
    H : List ℕ
    H = (place cs h g).state.h

    go : (x : End) → (place cs h g').end ≡ x → (place cs h g').end ≡ All
    go All z = z
    go (Over r) z = absurd ((ended cs h g').not_over r z)
    go Unfit z = absurd ((ended cs h g').not_unfit z)
    go (NoFit r t n) z =
        let i = inside_all (length g') (get_or H r 0) (in_row r cs) (all_of _ (in_row r cs) (λ c j. let p = in_row_lem r c cs j in rw (← p.1) (a c p.0))) in
        ⊎_elim
        (λ l. absurd (omega (arith, (least cs h g' r t n z).above, inside_reach (length g') (get_or H r 0) (in_row r cs) i, wider_reach cs h g' g k r t n z l)))
        (λ l. absurd (all_no_fit (sym e ∙ (wider_still cs h g' g k r t n z l).1)))
        (le_or_lt n (length g))
