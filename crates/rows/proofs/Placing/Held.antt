-- The cells after a placing: every vector lies in its cell, and every cell that was filled holds a vector that leads there. Assumes nothing.
use Prim.Native.Nat.{ℕ, ◌+◌, ◌<◌}
use native.Mathlib.Nat.{eq-zero-or-pos}
use native.Mathlib.Omega.{arith}
use mathlib.Core.Path.{◌≡◌, refl, sym, ap, ◌∙◌}
use mathlib.Core.Bool.{true, false, true≢false, false≢true}
use mathlib.Core.List.{List, []}
use mathlib.Core.Logic.{◌⊎◌, inl, inr, ⊎_elim}
use lib.ListN.{length, get_or, set}
use lib.Seq.{get_or-set_same, get_or-set_other}
use Rattle.lists.specs.First.{has}
use Rattle.lists.specs.Members.{In}
use Rattle.lists.proofs.Entries.Members.{in_pos}
use Rattle.lists.proofs.Finding.Has.{has_self, has_other, has_cons}
use Rattle.rows.specs.Care.{Care, in_row, weight_of}
use Rattle.rows.specs.Fit.{first_fit, put, At}
use Rattle.rows.specs.Place.{State, place_row}
use Rattle.rows.specs.Demand.{filled}
use Rattle.rows.specs.End.{All}
use Rattle.rows.proofs.Fits.First.{fit_at}
use Rattle.rows.proofs.Fits.Filled.{filled_none}
use Rattle.rows.proofs.Fits.Cells.{Distinct, in_row_lem, row_in, row_apart, fits_free, put_length, put_other, put_own, put_either}
use Rattle.rows.proofs.Placing.Open.{open_not}
use Rattle.rows.proofs.Placing.Turns.{Next, at_end, cells_length}
use Rattle.rows.proofs.Placing.Order.{ordered}
use Rattle.rows.proofs.Demand3.{P, all_placed}

-- the cell i holds the index of a vector that leads there
pub record Lies (cs : List Care) (s : State) (i : ℕ) : Type 0 where
  pub care : Care
  pub listed : In care cs
  pub placed : has care.row s.order ≡ true
  pub there : care.column + get_or s.h care.row 0 ≡ i
  pub holds : get_or s.g i 0 ≡ care.index

-- over the cells g₀ at the start
pub record Lying (cs : List Care) (g₀ : List ℕ) (s : State) : Type 0 where
  pub back : (i : ℕ) → i < length s.g → (get_or s.g i 0 ≡ get_or g₀ i 0) ⊎ Lies cs s i
  pub kept : (i : ℕ) → (get_or g₀ i 0 ≡ 0 → ⊥) → get_or s.g i 0 ≡ get_or g₀ i 0

-- ---- a turn

module _ (cs : List Care) (s : State) (r d : ℕ) (n : Next cs s r) (f : first_fit s.g (in_row r cs) ≡ At d) where
  shut : has r s.order ≡ false
  shut = open_not cs s.order r n.weighs

  is : get_or (set s.h r d) r 0 ≡ d
  is = get_or-set_same s.h r d 0 n.row_in

  free : (x : Care) → In x (in_row r cs) → (x.column + d < length s.g) × (get_or s.g (x.column + d) 0 ≡ 0)
  free = fits_free s.g d (in_row r cs) (fit_at s.g (in_row r cs) d f).fits

  other : (q : ℕ) → has q s.order ≡ true → q ≡ r → ⊥
  other q m e = true≢false (sym m ∙ ap (λ (x : ℕ). has x s.order) e ∙ shut)

  lies_on : (i : ℕ) → get_or (place_row cs s r d).g i 0 ≡ get_or s.g i 0 → Lies cs s i → Lies cs (place_row cs s r d) i
  lies_on i e l =
      let o = other l.care.row l.placed in
      record {
        care = l.care;
        listed = l.listed;
        placed = has_other l.care.row r s.order o ∙ l.placed;
        there = rw (get_or-set_other s.h r l.care.row d 0 o) l.there;
        holds = e ∙ l.holds;
      }

  lies_new : (i : ℕ) (x : Care) → In x (in_row r cs) → x.column + d ≡ i → get_or (place_row cs s r d).g i 0 ≡ x.index → Lies cs (place_row cs s r d) i
  lies_new i x m e k =
      let v = in_row_lem r x cs m in
      record { care = x; listed = v.0; placed = rw v.1 (has_self r s.order); there = rw (v.1, is) e; holds = k }

  lying_turn : (g₀ : List ℕ) → Lying cs g₀ s → Lying cs g₀ (place_row cs s r d)
  lying_turn g₀ y =
      record {
        back = λ i l. by i (rw put_length at l);
        kept = λ i z. put_other s.g d i (in_row r cs) (λ x m e. z (sym (y.kept i z) ∙ ap (λ (j : ℕ). get_or s.g j 0) (sym e) ∙ (free x m).1)) ∙ y.kept i z;
      }
    where
      by : (i : ℕ) → i < length s.g → (get_or (place_row cs s r d).g i 0 ≡ get_or g₀ i 0) ⊎ Lies cs (place_row cs s r d) i
      by i l =
          ⊎_elim
          (λ e. ⊎_elim (λ p. inl (e ∙ p)) (λ p. inr (lies_on i e p)) (y.back i l))
          (λ p. inr (lies_new i p.0 p.1 p.2 p.3))
          (put_either s.g d i (in_row r cs) l)

-- the cell of a vector whose row is placed was free at the start
pub record Clearing (cs : List Care) (g₀ : List ℕ) (s : State) : Type 0 where
  pub lying : Lying cs g₀ s
  pub size : length s.g ≡ length g₀
  pub cells : (c : Care) → In c cs → has c.row s.order ≡ true
      → (c.column + get_or s.h c.row 0 < length g₀) × (get_or g₀ (c.column + get_or s.h c.row 0) 0 ≡ 0)

pub clearing_start : (cs : List Care) (h g : List ℕ) → Clearing cs g (record { h = h; g = g; tries = 0; order = [] })
unfolding has
clearing_start cs h g = record { lying = record { back = λ i l. inl refl; kept = λ i z. refl }; size = refl; cells = λ c i m. absurd (false≢true m) }

pub clearing_turn : (cs : List Care) (s : State) (r d : ℕ) → Next cs s r → first_fit s.g (in_row r cs) ≡ At d → (g₀ : List ℕ) → Clearing cs g₀ s
    → Clearing cs g₀ (place_row cs s r d)
clearing_turn cs s r d n f g₀ y =
    record {
      lying = lying_turn cs s r d n f g₀ y.lying;
      size = put_length s.g d (in_row r cs) ∙ y.size;
      cells = λ c i p. by c i (has_cons c.row r s.order p);
    }
  where
    by : (c : Care) → In c cs → (c.row ≡ r) ⊎ (has c.row s.order ≡ true)
        → (c.column + get_or (set s.h r d) c.row 0 < length g₀) × (get_or g₀ (c.column + get_or (set s.h r d) c.row 0) 0 ≡ 0)
    by c i (inl q) =
        let u = free cs s r d n f c (row_in r c cs i q) in
        rw (q, is cs s r d n f) (
          omega (arith, u.0, y.size),
          ⊎_elim (λ z. z) (λ z. absurd (omega (arith, u.1, y.lying.kept (c.column + d) (λ k. omega arith)))) (eq-zero-or-pos (get_or g₀ (c.column + d) 0)),
        )
    by c i (inr p) = rw (get_or-set_other s.h r c.row d 0 (other cs s r d n f c.row p)) (y.cells c i p)

-- a vector whose row is placed lies in its cell
abbrev Holding : List Care → State → Type 0
Holding cs s =
    (c : Care) → In c cs → has c.row s.order ≡ true
    → (c.column + get_or s.h c.row 0 < length s.g) × (get_or s.g (c.column + get_or s.h c.row 0) 0 ≡ c.index)

module _ (cs : List Care) (distinct : Distinct cs) (pos : (c : Care) → In c cs → 0 < c.index) where
  holding_turn : (s : State) (r d : ℕ) → Next cs s r → first_fit s.g (in_row r cs) ≡ At d → Holding cs s → Holding cs (place_row cs s r d)
  holding_turn s r d n f y c₀ i₀ p₀ = by c₀ i₀ (has_cons c₀.row r s.order p₀)
    where
      by : (c : Care) → In c cs → (c.row ≡ r) ⊎ (has c.row s.order ≡ true)
          → (c.column + get_or (set s.h r d) c.row 0 < length (put s.g d (in_row r cs)))
          × (get_or (put s.g d (in_row r cs)) (c.column + get_or (set s.h r d) c.row 0) 0 ≡ c.index)
      by c i (inl q) =
          let j : In c (in_row r cs) = row_in r c cs i q in
          rw (q, is cs s r d n f, put_length s.g d (in_row r cs))
          ((free cs s r d n f c j).0, put_own s.g d c (in_row r cs) j (row_apart r cs distinct) (λ x k. (free cs s r d n f x k).0))
      by c i (inr p) =
          let u = y c i p in
          rw (get_or-set_other s.h r c.row d 0 (other cs s r d n f c.row p), put_length s.g d (in_row r cs))
          (u.0, put_other s.g d _ (in_row r cs) (λ x j q. omega (arith, (free cs s r d n f x j).1, u.1, pos c i, ap (λ (m : ℕ). get_or s.g m 0) q)) ∙ u.1)

-- ---- the end

module _ (cs : List Care) (h g : List ℕ) where
  clearing : Clearing cs g (P cs h g).state
  clearing = at_end cs (Clearing cs g) (λ s r d n f. clearing_turn cs s r d n f g) h g (clearing_start cs h g)

  pub lengths : (length (P cs h g).state.h ≡ length h) × (length (P cs h g).state.g ≡ length g)
  lengths = ((ordered cs h g).size, cells_length cs h g)

  -- a cell that was taken at the start keeps its word
  pub taken_kept : (i : ℕ) → (get_or g i 0 ≡ 0 → ⊥) → get_or (P cs h g).state.g i 0 ≡ get_or g i 0
  taken_kept = clearing.lying.kept

  -- each cell has the word of the start, or holds the index of a vector that leads there
  pub held_back : (i : ℕ) → i < length g → (get_or (P cs h g).state.g i 0 ≡ get_or g i 0) ⊎ Lies cs (P cs h g).state i
  held_back i l = clearing.lying.back i (rw (cells_length cs h g) l)

  -- over empty cells, each that is not empty holds the index of a vector that leads there
  pub held_only : filled g ≡ 0 → (i : ℕ) → i < length g → (get_or (P cs h g).state.g i 0 ≡ 0 → ⊥) → Lies cs (P cs h g).state i
  held_only e i l n = ⊎_elim (λ q. absurd (n (q ∙ filled_none g i e))) (λ p. p) (held_back i l)

  -- where all rows are placed, every vector lies in its cell
  pub all_held : Distinct cs → ((c : Care) → In c cs → 0 < c.index) → ((c : Care) → In c cs → c.row < length h) → (P cs h g).end ≡ All → (c : Care) → In c cs
      → (c.column + get_or (P cs h g).state.h c.row 0 < length g) × (get_or (P cs h g).state.g (c.column + get_or (P cs h g).state.h c.row 0) 0 ≡ c.index)
  unfolding weight_of has
  all_held distinct pos rows e c i =
      let w : 0 < weight_of cs c.row = in_pos c (in_row c.row cs) (row_in c.row c cs i refl) in
      let t = at_end cs (Holding cs) (holding_turn cs distinct pos) h g (λ c i m. absurd (false≢true m)) c i (all_placed cs h g e c.row (rows c i) w) in
      (omega (arith, t.0, cells_length cs h g), t.1)
